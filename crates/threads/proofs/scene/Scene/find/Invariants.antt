-- `find` meets its contract: no thread before `from` stands for b's configuration.
use Prim.Native.Nat.{ℕ, ◌-◌, ◌≤◌, ◌<◌}
use mathlib.Core.Bool.{false}
use mathlib.Core.Path.{◌≡◌}
use Rattle.event_log.specs.Log.{Log}
use Rattle.formula.specs.Formula.{Formula}
use Rattle.slots.specs.inner.Words.{thread_at, place}
use Rattle.threads.specs.inner.Setting.{Stands, Fit}
use Rattle.threads.specs.inner.Event.{Kept}
use Rattle.threads.specs.inner.Calls.{same_as}
use Rattle.threads.proofs.scene.Scene.find.Given as goal

abbrev pub invariant-loop-j : goal.invariant-loop-j
invariant-loop-j l =
    (l.from ≤ l.seats.count)
    × ((g : Log) (fm : Formula) → Stands g fm l.self → Kept g fm l.seats.half l.seats.count l.work → Fit g fm l.b
    → (i : ℕ) → 0 ≤ i → i < l.from → same_as g fm l.b (thread_at l.work (place l.seats.half i)) ≡ false)

abbrev pub decreases-loop-j : goal.decreases-loop-j
decreases-loop-j l = l.seats.count - l.from
