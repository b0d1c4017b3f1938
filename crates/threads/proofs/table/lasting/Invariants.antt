-- `lasting` meets its contract: after i turns every marked state has a step that never expires.
use Rattle.threads.specs.inner.Setting.{LastingIs}
use Rattle.threads.proofs.table.lasting.Given as goal

abbrev pub invariant-loop-i : goal.invariant-loop-i
invariant-loop-i l = LastingIs l.f l.steps l.rises l.states
