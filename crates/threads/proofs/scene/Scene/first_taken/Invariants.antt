-- `first_taken` meets its contract: every step before step k is passed over.
use Prim.Native.Nat.{ℕ, ◌<◌}
use Rattle.threads.proofs.Taking.{PassedOver}
use Rattle.threads.proofs.scene.Scene.first_taken.Given as goal

abbrev pub invariant-loop-k : goal.invariant-loop-k
invariant-loop-k l = (j : ℕ) → j < l.k → PassedOver l.self l.t l.fresh l.ends j
