-- `closure::reach` meets its contract: what is left of the rounds, from the marks so far.
use Rattle.std.proofs.Common.{◌≡◌, ◌-◌}
use Rattle.closure.specs.inner.Reach.{rounds, reach_of}
use Rattle.closure.proofs.reach.Given as goal

abbrev pub invariant-loop-n : goal.invariant-loop-n
invariant-loop-n l = reach_of l.edges l.v ≡ rounds (16 - l._n) l.v l.edges l.marks
