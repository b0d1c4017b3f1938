-- `closure::round_of` meets its contract: the marks after the steps so far.
use Rattle.std.proofs.Common.{◌≡◌, take, fold}
use Rattle.closure.specs.inner.Reach.{mark}
use Rattle.closure.proofs.round_of.Given as goal

abbrev pub invariant-loop-edge : goal.invariant-loop-edge
invariant-loop-edge l = l.marks ≡ fold (mark l.v) l.initial.marks (take l.edge-index l.edges)
