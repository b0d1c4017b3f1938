-- `guard::leaf` meets its contract: by the command byte, where the command is there whole.
use mathlib.Core.Path.{sym, ◌∙◌}
use Rattle.guard_code.proofs.ReadingOnBytes.{leaf-short, leaf-constant, leaf-other, leaf-value}
use Rattle.guard_code.proofs.guard.leaf.Goals as goal

pub returns-then-part-at-lt2-clause-value : goal.returns-then-part-at-lt2-clause-value
returns-then-part-at-lt2-clause-value c = leaf-short _ _ _ c.if-part-at-lt2.true

pub returns-then-command-eq-CONST-clause-value : goal.returns-then-command-eq-CONST-clause-value
returns-then-command-eq-CONST-clause-value c =
    c.constant.ensures.value ∙ leaf-constant _ _ _ c.from-command.ensures c.if-command-eq-CONST.true c.requires

pub returns-in_err-first-clause-value : goal.returns-in_err-first-clause-value
returns-in_err-first-clause-value c =
    c.from_residual.ensures ∙ leaf-other _ _ _ c.from-command.ensures c.if-command-eq-CONST.false (sym (c.in_err-first.ensures))

pub returns-clause-value : goal.returns-clause-value
returns-clause-value c =
    leaf-value _ _ _ c.from-command.ensures c.if-command-eq-CONST.false (sym (c.in_ok-first.ensures)) c.if-part-at-lt2.false c.from.ensures c.get_or.ensures
