-- `guard::holds_at` meets its contract: AND, OR and IF by their first operand, any other command by its value.
use native.Mathlib.Omega.{arith}
use Rattle.guard_code.proofs.Deciding.{and-fails, or-holds, if-third, as-second}
use Rattle.guard_code.proofs.guard.+holds_at.Goals as goal

pub returns-in-41-false : goal.returns-in-41-false
returns-in-41-false t c =
    and-fails _ _ _ _ c.if-depth-eq0.false c.byte_at-command.ensures.0 c.if-command-lt-AND.false c.if-command-gt-IF.false c.operand-a.ensures.value
    c.in-41-false.is-0 c.in-41-false.is-1

pub returns-in-42-true : goal.returns-in-42-true
returns-in-42-true t c =
    or-holds _ _ _ _ c.if-depth-eq0.false c.byte_at-command.ensures.0 c.if-command-lt-AND.false c.if-command-gt-IF.false c.operand-a.ensures.value
    c.in-42-true.is-0 c.in-42-true.is-1

pub returns-in-43-false : goal.returns-in-43-false
returns-in-43-false t c =
    if-third _ _ _ _ c.if-depth-eq0.false c.byte_at-command.ensures.0 c.if-command-lt-AND.false c.if-command-gt-IF.false c.operand-a.ensures.value
    c.in-43-false.is-0 c.in-43-false.is-1 c.operand-b.ensures.value c.holds_at.ensures

pub returns-in_default : goal.returns-in_default
returns-in_default t c =
    as-second _ _ _ _ c.if-depth-eq0.false c.byte_at-command.ensures.0 c.if-command-lt-AND.false c.if-command-gt-IF.false c.operand-a.ensures.value
    (λ e. grind arith) (λ n. grind arith)
    c.holds_at-in_default.ensures
