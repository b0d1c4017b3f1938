-- `Scene::fire` meets its contract: the walk, the counters raised, the guard.
use borrow.Author.Rules.{rules}
use mathlib.Core.Path.{◌≡◌, sym, ap, ◌∙◌}
use mathlib.Core.Bool.{true, false}
use Rattle.machine_code.specs.inner.Bytes.{firing_of}
use Rattle.machine_code.proofs.EventAlone.{stopped-fails}
use Rattle.machine_code.proofs.FiringOnBytes.{fired-out, fired-guard, fired-failed}
use Rattle.machine_code.proofs.Scene.fire.Goals as goal

pub returns-then-self-at : goal.returns-then-self-at
returns-then-self-at c =
    let s = c.args.self.now in ap firing_of (fired-out s.f.now c.args.at s.c.now s.fresh.now s.fields c.if-self-at.true)

pub returns-in_default : goal.returns-in_default
returns-in_default c =
    let s = c.args.self.now in
    let z = stopped-fails s.f.now c.args.at s.c.now s.rises.now s.fields _ c.in_default.ensures (λ w k. search rules) in
    ap firing_of (fired-failed s.f.now c.args.at s.c.now s.fresh.now s.fields c.if-self-at.false (rw c.requires at z))

pub returns-then-guard_holds : goal.returns-then-guard_holds
returns-then-guard_holds c =
    let s = c.args.self.now in
    let p : c.in-Some.w.passes ≡ true = search rules in
    ap firing_of
    (fired-guard s.f.now c.args.at s.c.now s.fresh.now s.fields c.if-self-at.false c.in-Some.w c.raise-counters.result _ c.gains.result true
    (rw c.requires at c.in-Some.ensures.0) p c.raise-counters.ensures c.byte_at.ensures.0 (rw c.requires at c.gains.ensures)
    (sym c.if-guard_holds.true ∙ c.guard_holds.ensures))

pub returns-else-guard_holds : goal.returns-else-guard_holds
returns-else-guard_holds c =
    let s = c.args.self.now in
    let p : c.in-Some.w.passes ≡ true = search rules in
    ap firing_of
    (fired-guard s.f.now c.args.at s.c.now s.fresh.now s.fields c.if-self-at.false c.in-Some.w c.raise-counters.result _ c.gains.result false
    (rw c.requires at c.in-Some.ensures.0) p c.raise-counters.ensures c.byte_at.ensures.0 (rw c.requires at c.gains.ensures)
    (sym c.if-guard_holds.false ∙ c.guard_holds.ensures))
