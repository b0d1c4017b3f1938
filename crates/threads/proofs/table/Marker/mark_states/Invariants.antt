-- `mark_states` meets its contract: each turn leaves it the event's table.
use Rattle.threads.specs.inner.Setting.{MarkedIs}
use Rattle.threads.proofs.table.Marker.mark_states.Given as goal

abbrev pub invariant-loop-j : goal.invariant-loop-j
invariant-loop-j l = MarkedIs l.self.formula.now l.self.steps.now l.self.rises.now l.self.moment.now l.initial.table l.table
