-- `Scene::gain_all` meets its contract: what is left of the clauses gives the whole.
use Prim.Native.Nat.{suc, ◌-◌}
use lib.ListN.{length}
use Rattle.machine_code.specs.inner.Bytes.{gain_from}
use Rattle.machine_code.proofs.GainingOnBytes.{Left}
use Rattle.machine_code.proofs.Scene.gain_all.Given as goal

abbrev pub invariant-loop-g : goal.invariant-loop-g
invariant-loop-g l =
    let s = l.self in
    Left s.f.now s.fresh.now s.rises.now s.fields (gain_from (suc (length s.f.now)) s.f.now s.fresh.now s.rises.now s.fields l.initial.place l.initial.g)
    l.place l.g

abbrev pub decreases-loop-g : goal.decreases-loop-g
decreases-loop-g l = length l.self.f.now - l.place
