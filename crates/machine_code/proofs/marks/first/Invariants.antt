-- `marks::first` meets its contract: every clause before the place is one that the test lets pass.
use Prim.Native.Nat.{◌+◌, ◌-◌, ◌≤◌}
use lib.ListN.{length}
use Rattle.machine_code.specs.inner.Marks.{Passed}
use Rattle.machine_code.proofs.marks.first.Given as goal

abbrev pub invariant-loop-place : goal.invariant-loop-place
invariant-loop-place g l = (l.place ≤ length l.f + 7) × Passed (λ c p r. goal.F-post g l.picks c p r) l.f l.from l.place

abbrev pub decreases-loop-place : goal.decreases-loop-place
decreases-loop-place g l = length l.f - l.place
