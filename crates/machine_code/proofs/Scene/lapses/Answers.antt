-- `Scene::lapses` meets its contract: a clause past due, or a guard that is 0 and falling.
use borrow.Author.Rules.{rules}
use mathlib.Core.Path.{◌≡◌, ◌∙◌, ap}
use mathlib.Core.Bool.{false, not}
use Rattle.machine_code.proofs.EventAlone.{stopped-due}
use Rattle.machine_code.proofs.ExpiryOnBytes.{lapsed-out, lapsed-due, lapsed-held, lapsed-guard}
use Rattle.machine_code.proofs.Scene.lapses.Goals as goal

pub returns-then-self-at : goal.returns-then-self-at
returns-then-self-at c =
    let s = c.args.self.now in lapsed-out s.f.now c.args.at s.c.now s.fresh.now s.rises.now s.fields c.if-self-at.true

pub returns-in_default : goal.returns-in_default
returns-in_default c =
    let s = c.args.self.now in
    let z = stopped-due s.f.now c.args.at s.c.now s.rises.now s.fields _ c.in_default.ensures (λ w k. search rules) in
    lapsed-due s.f.now c.args.at s.c.now s.fresh.now s.rises.now s.fields c.if-self-at.false z

pub returns-then-not-guard_holds : goal.returns-then-not-guard_holds
returns-then-not-guard_holds c =
    let s = c.args.self.now in
    let d : c.in-Some.w.due ≡ false = search rules in
    lapsed-guard s.f.now c.args.at s.c.now s.fresh.now s.rises.now s.fields c.if-self-at.false c.in-Some.w c.in-Some.ensures.0 c.gains-gained.result
    c.gains-gained.ensures c.raise-counters.result c.guard_holds.result d c.raise-counters.ensures c.guard_holds.ensures _ c.if-not-guard_holds.true
    c.falls_behind.ensures

pub returns-else-not-guard_holds : goal.returns-else-not-guard_holds
returns-else-not-guard_holds c =
    let s = c.args.self.now in
    let d : c.in-Some.w.due ≡ false = search rules in
    ap not c.if-not-guard_holds.false
    ∙ lapsed-held s.f.now c.args.at s.c.now s.fresh.now s.rises.now s.fields c.if-self-at.false c.in-Some.w c.in-Some.ensures.0 c.gains-gained.result
    c.gains-gained.ensures c.raise-counters.result c.guard_holds.result d c.raise-counters.ensures c.guard_holds.ensures c.if-not-guard_holds.false
