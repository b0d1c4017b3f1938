-- `guard::evaluate` and `guard::operand` meet their contracts: a command, then its operands, each behind the one before.
use mathlib.Core.Path.{sym, ◌∙◌}
use Rattle.guard_code.proofs.ReadingOnBytes.{by-leaf, by-operands, read_none, read-other, read_one, read-two, read-three}
use Rattle.guard_code.proofs.guard.+evaluate.Goals as goal

pub evaluate-returns-then-depth-eq0-clause-value : goal.evaluate-returns-then-depth-eq0-clause-value
evaluate-returns-then-depth-eq0-clause-value t c = read_none _ _ _ c.if-depth-eq0.true

pub evaluate-returns-then-operand_count-eq0-clause-value : goal.evaluate-returns-then-operand_count-eq0-clause-value
evaluate-returns-then-operand_count-eq0-clause-value t c =
    read-other _ _ _ _ c.if-depth-eq0.false c.byte_at-command.ensures.0 (sym c.operand_count.ensures ∙ c.if-operand_count-eq0.true)

pub evaluate-returns-then-command-eq-NOT-clause-value : goal.evaluate-returns-then-command-eq-NOT-clause-value
evaluate-returns-then-command-eq-NOT-clause-value t c =
    read_one _ _ _ _ c.if-depth-eq0.false c.byte_at-command.ensures.0 (λ e. c.if-operand_count-eq0.false (c.operand_count.ensures ∙ e))
    c.operand-a.ensures.value c.if-command-eq-NOT.true c.apply.ensures

pub evaluate-returns-then-command-eq-IF-clause-value : goal.evaluate-returns-then-command-eq-IF-clause-value
evaluate-returns-then-command-eq-IF-clause-value t c =
    read-three _ _ _ _ c.if-depth-eq0.false c.byte_at-command.ensures.0 (λ e. c.if-operand_count-eq0.false (c.operand_count.ensures ∙ e))
    c.operand-a.ensures.value c.operand-b.ensures.value c.if-command-eq-IF.true c.operand-d.ensures.value c.apply-then-command-eq-IF.ensures

pub evaluate-returns-clause-value : goal.evaluate-returns-clause-value
evaluate-returns-clause-value t c =
    read-two _ _ _ _ c.if-depth-eq0.false c.byte_at-command.ensures.0 (λ e. c.if-operand_count-eq0.false (c.operand_count.ensures ∙ e))
    c.operand-a.ensures.value c.operand-b.ensures.value c.if-command-eq-NOT.false c.if-command-eq-IF.false c.apply-2.ensures

pub operand-returns-in-Some-clause-value : goal.operand-returns-in-Some-clause-value
operand-returns-in-Some-clause-value t c = by-leaf _ _ _ _ c.in-Some.ensures.value

pub operand-returns-in-None-clause-value : goal.operand-returns-in-None-clause-value
operand-returns-in-None-clause-value t c = by-operands _ _ _ _ c.in-None.ensures.value c.evaluate.ensures.value
