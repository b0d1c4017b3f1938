-- `closure::free_of` meets its contract: the marks of the variables so far.
use Rattle.std.proofs.Common.{◌≡◌, ℕ, ◌+◌, ◌*◌, ◌<◌, false, get_or}
use Rattle.closure.specs.inner.Reach.{reach_of}
use Rattle.closure.proofs.free_of.Given as goal

abbrev pub invariant-loop-v : goal.invariant-loop-v
invariant-loop-v l = (v s : ℕ) → v < l.v → s < 16 → get_or l.free (v * 16 + s) false ≡ get_or (reach_of l.edges v) s false
