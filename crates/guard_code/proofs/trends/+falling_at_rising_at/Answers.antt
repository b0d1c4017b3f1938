-- `trends::rising_at` and `trends::falling_at` meet their contracts: a command, then its operands, each lent as the part behind the one
-- before. Each is the other with the ways exchanged.
use mathlib.Core.Path.{sym, ◌∙◌}
use Rattle.guard_code.proofs.TrendOnBytes.{judge-none, judge-leaf, judge-one, judge-turned, judge-sub, judge-keep, judge-equal, judge-if}
use Rattle.guard_code.proofs.trends.+falling_at_rising_at.Goals as goal

pub falling_at-returns-then-depth-eq0-clause-judged : goal.falling_at-returns-then-depth-eq0-clause-judged
falling_at-returns-then-depth-eq0-clause-judged t c =
    c.new.ensures ∙ judge-none _ _ _ _ c.if-depth-eq0.true

pub falling_at-returns-then-operands-eq0-clause-judged : goal.falling_at-returns-then-operands-eq0-clause-judged
falling_at-returns-then-operands-eq0-clause-judged t c =
    c.new-then-operands-eq0.ensures
    ∙ judge-leaf _ _ _ _ c.if-depth-eq0.false c.byte_at-command.ensures.0 c.operand_count-operands.ensures c.if-operands-eq0.true
    c.marked.ensures c.leaf_used.ensures

pub falling_at-returns-then-operands-eq1-clause-judged : goal.falling_at-returns-then-operands-eq1-clause-judged
falling_at-returns-then-operands-eq1-clause-judged t c =
    c.new-then-operands-eq1.ensures
    ∙ judge-one _ _ _ _ c.if-depth-eq0.false c.byte_at-command.ensures.0 c.operand_count-operands.ensures c.if-operands-eq0.false (sym c.turns.ensures ∙ c.if-turns.true)
    c.rising_at-a.ensures.judged c.if-operands-eq1.true

pub falling_at-returns-then-turns-clause-judged : goal.falling_at-returns-then-turns-clause-judged
falling_at-returns-then-turns-clause-judged t c =
    c.pair.ensures
    ∙ judge-turned _ _ _ _ c.if-depth-eq0.false c.byte_at-command.ensures.0 c.operand_count-operands.ensures c.if-operands-eq0.false (sym c.turns.ensures ∙ c.if-turns.true)
    c.rising_at-a.ensures.judged c.if-operands-eq1.false c.falling_at.ensures.judged

pub falling_at-returns-then-command-eq-SUB-clause-judged : goal.falling_at-returns-then-command-eq-SUB-clause-judged
falling_at-returns-then-command-eq-SUB-clause-judged t c =
    c.pair-then-command-eq-SUB.ensures
    ∙ judge-sub _ _ _ _ c.if-depth-eq0.false c.byte_at-command.ensures.0 c.operand_count-operands.ensures c.if-operands-eq0.false (sym c.turns.ensures ∙ c.if-turns.false)
    c.falling_at-a.ensures.judged c.if-command-eq-SUB.true c.rising_at.ensures.judged

pub falling_at-returns-then-keeps-clause-judged : goal.falling_at-returns-then-keeps-clause-judged
falling_at-returns-then-keeps-clause-judged t c =
    c.pair-then-keeps.ensures
    ∙ judge-keep _ _ _ _ c.if-depth-eq0.false c.byte_at-command.ensures.0 c.operand_count-operands.ensures c.if-operands-eq0.false (sym c.turns.ensures ∙ c.if-turns.false)
    c.falling_at-a.ensures.judged c.if-command-eq-SUB.false c.falling_at-b.ensures.judged (sym c.keeps.ensures ∙ c.if-keeps.true)

pub falling_at-returns-then-command-eq-EQUAL-clause-judged : goal.falling_at-returns-then-command-eq-EQUAL-clause-judged
falling_at-returns-then-command-eq-EQUAL-clause-judged t c =
    c.pair-then-command-eq-EQUAL.ensures
    ∙ rw (c.agree-c.ensures, c.agree.ensures)
    (judge-equal _ _ _ _ c.if-depth-eq0.false c.byte_at-command.ensures.0 c.operand_count-operands.ensures c.if-operands-eq0.false (sym c.turns.ensures ∙ c.if-turns.false)
    c.falling_at-a.ensures.judged c.if-command-eq-SUB.false c.falling_at-b.ensures.judged
    (sym c.keeps.ensures ∙ c.if-keeps.false) c.rising_at-2.ensures.judged c.if-command-eq-EQUAL.true c.rising_at-then-command-eq-EQUAL.ensures.judged)

pub falling_at-returns-clause-judged : goal.falling_at-returns-clause-judged
falling_at-returns-clause-judged t c =
    c.triple.ensures
    ∙ rw c.agree-c.ensures
    (judge-if _ _ _ _ c.if-depth-eq0.false c.byte_at-command.ensures.0 c.operand_count-operands.ensures c.if-operands-eq0.false (sym c.turns.ensures ∙ c.if-turns.false)
    c.falling_at-a.ensures.judged c.if-command-eq-SUB.false c.falling_at-b.ensures.judged
    (sym c.keeps.ensures ∙ c.if-keeps.false) c.rising_at-2.ensures.judged c.if-command-eq-EQUAL.false c.falling_at-2.ensures.judged)

pub rising_at-returns-then-depth-eq0-clause-judged : goal.rising_at-returns-then-depth-eq0-clause-judged
rising_at-returns-then-depth-eq0-clause-judged t c =
    c.new.ensures ∙ judge-none _ _ _ _ c.if-depth-eq0.true

pub rising_at-returns-then-operands-eq0-clause-judged : goal.rising_at-returns-then-operands-eq0-clause-judged
rising_at-returns-then-operands-eq0-clause-judged t c =
    c.new-then-operands-eq0.ensures
    ∙ judge-leaf _ _ _ _ c.if-depth-eq0.false c.byte_at-command.ensures.0 c.operand_count-operands.ensures c.if-operands-eq0.true
    c.marked.ensures c.leaf_used.ensures

pub rising_at-returns-then-operands-eq1-clause-judged : goal.rising_at-returns-then-operands-eq1-clause-judged
rising_at-returns-then-operands-eq1-clause-judged t c =
    c.new-then-operands-eq1.ensures
    ∙ judge-one _ _ _ _ c.if-depth-eq0.false c.byte_at-command.ensures.0 c.operand_count-operands.ensures c.if-operands-eq0.false (sym c.turns.ensures ∙ c.if-turns.true)
    c.falling_at-a.ensures.judged c.if-operands-eq1.true

pub rising_at-returns-then-turns-clause-judged : goal.rising_at-returns-then-turns-clause-judged
rising_at-returns-then-turns-clause-judged t c =
    c.pair.ensures
    ∙ judge-turned _ _ _ _ c.if-depth-eq0.false c.byte_at-command.ensures.0 c.operand_count-operands.ensures c.if-operands-eq0.false (sym c.turns.ensures ∙ c.if-turns.true)
    c.falling_at-a.ensures.judged c.if-operands-eq1.false c.rising_at.ensures.judged

pub rising_at-returns-then-command-eq-SUB-clause-judged : goal.rising_at-returns-then-command-eq-SUB-clause-judged
rising_at-returns-then-command-eq-SUB-clause-judged t c =
    c.pair-then-command-eq-SUB.ensures
    ∙ judge-sub _ _ _ _ c.if-depth-eq0.false c.byte_at-command.ensures.0 c.operand_count-operands.ensures c.if-operands-eq0.false (sym c.turns.ensures ∙ c.if-turns.false)
    c.rising_at-a.ensures.judged c.if-command-eq-SUB.true c.falling_at.ensures.judged

pub rising_at-returns-then-keeps-clause-judged : goal.rising_at-returns-then-keeps-clause-judged
rising_at-returns-then-keeps-clause-judged t c =
    c.pair-then-keeps.ensures
    ∙ judge-keep _ _ _ _ c.if-depth-eq0.false c.byte_at-command.ensures.0 c.operand_count-operands.ensures c.if-operands-eq0.false (sym c.turns.ensures ∙ c.if-turns.false)
    c.rising_at-a.ensures.judged c.if-command-eq-SUB.false c.rising_at-b.ensures.judged (sym c.keeps.ensures ∙ c.if-keeps.true)

pub rising_at-returns-then-command-eq-EQUAL-clause-judged : goal.rising_at-returns-then-command-eq-EQUAL-clause-judged
rising_at-returns-then-command-eq-EQUAL-clause-judged t c =
    c.pair-then-command-eq-EQUAL.ensures
    ∙ rw (c.agree-c.ensures, c.agree.ensures)
    (judge-equal _ _ _ _ c.if-depth-eq0.false c.byte_at-command.ensures.0 c.operand_count-operands.ensures c.if-operands-eq0.false (sym c.turns.ensures ∙ c.if-turns.false)
    c.rising_at-a.ensures.judged c.if-command-eq-SUB.false c.rising_at-b.ensures.judged
    (sym c.keeps.ensures ∙ c.if-keeps.false) c.falling_at-2.ensures.judged c.if-command-eq-EQUAL.true c.falling_at-then-command-eq-EQUAL.ensures.judged)

pub rising_at-returns-clause-judged : goal.rising_at-returns-clause-judged
rising_at-returns-clause-judged t c =
    c.triple.ensures
    ∙ rw c.agree-c.ensures
    (judge-if _ _ _ _ c.if-depth-eq0.false c.byte_at-command.ensures.0 c.operand_count-operands.ensures c.if-operands-eq0.false (sym c.turns.ensures ∙ c.if-turns.false)
    c.rising_at-a.ensures.judged c.if-command-eq-SUB.false c.rising_at-b.ensures.judged
    (sym c.keeps.ensures ∙ c.if-keeps.false) c.falling_at-2.ensures.judged c.if-command-eq-EQUAL.false c.rising_at-2.ensures.judged)
