-- `lists::gather_step` meets its contract: what is left of the clauses gives the whole.
use Prim.Native.Nat.{◌-◌}
use lib.ListN.{length}
use Rattle.lists.specs.inner.Words.{gather_step}
use Rattle.lists.proofs.Steps.{Left}
use Rattle.lists.proofs.gather_step.Given as goal

abbrev pub invariant-loop-place : goal.invariant-loop-place
invariant-loop-place l = Left l.f l.values (gather_step l.f l.values l.at l.initial.lists) l.place l.lists

abbrev pub decreases-loop-place : goal.decreases-loop-place
decreases-loop-place l = length l.f - l.place
