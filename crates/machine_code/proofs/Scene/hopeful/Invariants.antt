-- `Scene::hopeful` meets its contract: every step before k is expired.
use mathlib.Core.Path.{◌≡◌}
use mathlib.Core.Bool.{false}
use Rattle.machine_code.specs.inner.Bytes.{expires_at, alive_below}
use Rattle.machine_code.proofs.Scene.hopeful.Given as goal

abbrev pub invariant-loop-k : goal.invariant-loop-k
invariant-loop-k l =
    let s = l.self in alive_below (expires_at s.f.now l.table s.c.now s.fresh.now s.rises.now s.fields) l.k ≡ false
