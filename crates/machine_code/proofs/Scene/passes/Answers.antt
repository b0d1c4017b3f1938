-- `Scene::passes` meets its contract: by the laws of `fire`, of which it is one part.
use borrow.Author.Rules.{rules}
use mathlib.Core.Path.{◌≡◌, refl, ap}
use mathlib.Core.Bool.{true}
use Rattle.machine_code.specs.inner.Bytes.{Firing}
use Rattle.machine_code.proofs.EventAlone.{stopped-fails}
use Rattle.machine_code.proofs.FiringOnBytes.{fired-out, fired-guard, fired-failed}
use Rattle.machine_code.proofs.Scene.passes.Goals as goal

pub returns-then-self-at : goal.returns-then-self-at
returns-then-self-at c =
    let s = c.args.self.now in ap (λ (x : Firing). x.fires) (fired-out s.f.now c.args.at s.c.now s.fresh.now s.fields c.if-self-at.true)

pub returns-in_default : goal.returns-in_default
returns-in_default c =
    let s = c.args.self.now in
    let z = stopped-fails s.f.now c.args.at s.c.now s.rises.now s.fields _ c.in_default.ensures (λ w k. search rules) in
    ap (λ (x : Firing). x.fires) (fired-failed s.f.now c.args.at s.c.now s.fresh.now s.fields c.if-self-at.false (rw c.requires at z))

pub returns : goal.returns
returns c =
    let s = c.args.self.now in
    let p : c.in-Some.w.passes ≡ true = search rules in
    ap (λ (x : Firing). x.fires)
    (fired-guard s.f.now c.args.at s.c.now s.fresh.now s.fields c.if-self-at.false c.in-Some.w c.raise-counters.result _ _ c.holds.result
    (rw c.requires at c.in-Some.ensures.0) p c.raise-counters.ensures refl refl (rw c.requires at c.holds.ensures))
