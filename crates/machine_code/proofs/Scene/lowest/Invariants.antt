-- `Scene::lowest` meets its contract: no step before step k fires, and of this one every test so far passes.
use Prim.Native.Nat.{ℕ, ◌-◌, ◌<◌}
use mathlib.Core.Path.{◌≡◌}
use mathlib.Core.Bool.{true, false}
use lib.ListN.{length}
use Rattle.machine_code.specs.inner.Bytes.{begun, fires_at}
use Rattle.machine_code.specs.inner.Walking.{Walking}
use Rattle.machine_code.proofs.Scene.lowest.Given as goal

abbrev pub invariant-loop-w : goal.invariant-loop-w
invariant-loop-w l =
    let s = l.self in Walking s.f.now s.c.now.values s.rises.now s.fields (begun l.at s.c.now) l.w × (l.w.passes ≡ true)

abbrev pub decreases-loop-w : goal.decreases-loop-w
decreases-loop-w l = length l.self.f.now - l.w.at

abbrev pub invariant-step : goal.invariant-step
invariant-step l = let s = l.self in (j : ℕ) → j < l.k → fires_at s.f.now l.table s.c.now s.fresh.now s.fields j ≡ false
