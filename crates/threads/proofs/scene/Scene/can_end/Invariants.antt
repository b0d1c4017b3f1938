-- `can_end` meets its contract, step by step.
use Prim.Native.Nat.{ℕ, ◌<◌}
use mathlib.Core.Bool.{false}
use Rattle.threads.specs.inner.Calls.{LeadsIs}
use Rattle.threads.proofs.scene.Scene.can_end.Given as goal

abbrev pub invariant-loop-k : goal.invariant-loop-k
invariant-loop-k l = (j : ℕ) → j < l.k → LeadsIs l.self l.state l.held l.prior j false
