-- `Scene::walk` meets its contract: what is left to walk stays what was left at the start.
use Prim.Native.Nat.{◌-◌}
use lib.ListN.{length}
use Rattle.machine_code.specs.inner.Walking.{Walking}
use Rattle.machine_code.proofs.Scene.walk.Given as goal

abbrev pub invariant-loop-w : goal.invariant-loop-w
invariant-loop-w g l = Walking l.self.f.now l.self.c.now.values l.self.rises.now l.self.fields l.initial.w l.w

abbrev pub decreases-loop-w : goal.decreases-loop-w
decreases-loop-w g l = length l.self.f.now - l.w.at
