-- `Scene::lowest` meets its contract: no step before step k fires, and of this one every test so far passes.
use borrow.Author.Count.{below_more}
use mathlib.Core.Path.{◌≡◌, sym, ap, ◌∙◌}
use mathlib.Core.Bool.{true, false}
use native.Mathlib.Omega.{arith}
use Rattle.machine_code.specs.declared.Walked.{Walked}
use Rattle.machine_code.specs.inner.Bytes.{begun, fires_at}
use Rattle.machine_code.proofs.ClausesOnBytes.{clause-inside, walking_start, walking-more, walking-less}
use Rattle.machine_code.proofs.SameMachine.{lowest-none, lowest-some}
use Rattle.machine_code.proofs.StepsByNumber.{step-inside, fires-absent, fires-failed, fires-guard}
use Rattle.machine_code.proofs.Scene.lowest.Goals as goal

pub step-preserved-then-not-is_step : goal.step-preserved-then-not-is_step
step-preserved-then-not-is_step c =
    let s = c.args.self.now in
    let y = c.step_offset-at in
    below_more (λ j. fires_at s.f.now c.args.table.now s.c.now s.fresh.now s.fields j ≡ false) c.step.k c.step.invariant
    (fires-absent s.f.now c.args.table.now s.c.now s.fresh.now s.fields c.step.k y.result y.ensures (sym c.is_step.ensures ∙ c.if-not-is_step.true))

pub begin-w-requires : goal.begin-w-requires
begin-w-requires c =
    omega (arith, step-inside c.args.self.now.f.now c.step_offset-at.result (sym c.is_step.ensures ∙ c.if-not-is_step.false), c.well_formed)

pub loop-w-init : goal.loop-w-init
unfolding begun
loop-w-init c =
    let s = c.args.self.now in
    rw (← c.begin-w.ensures) (walking_start s.f.now s.c.now.values s.rises.now s.fields c.begin-w.result, ap (λ (w : Walked). w.passes) c.begin-w.ensures)

pub clause-requires : goal.clause-requires
clause-requires c = clause-inside c.args.self.now.f.now c.loop-w.w.at (sym c.is_clause.ensures ∙ c.loop-w-test.true)

pub step-preserved-then-not-w : goal.step-preserved-then-not-w
step-preserved-then-not-w c =
    let s = c.args.self.now in
    let y = c.step_offset-at in
    let i = sym c.is_clause.ensures ∙ c.loop-w-test.true in
    let m = walking-more s.f.now s.c.now.values s.rises.now s.fields _ c.loop-w.w _ c.loop-w.invariant.0 i c.clause.ensures in
    below_more (λ j. fires_at s.f.now c.args.table.now s.c.now s.fresh.now s.fields j ≡ false) c.step.k c.step.invariant
    (fires-failed s.f.now c.args.table.now s.c.now s.fresh.now s.fields c.step.k y.result y.ensures (sym c.is_step.ensures ∙ c.if-not-is_step.false)
    c.clause.new.w (rw c.requires at m) c.if-not-w.true)

pub loop-w-smaller : goal.loop-w-smaller
loop-w-smaller c =
    let s = c.args.self.now in
    let i = sym c.is_clause.ensures ∙ c.loop-w-test.true in
    walking-less s.f.now s.c.now.values s.rises.now s.fields c.begin-w.result c.loop-w.w _ i c.clause.ensures

pub loop-w-preserved : goal.loop-w-preserved
loop-w-preserved c =
    let s = c.args.self.now in
    let i = sym c.is_clause.ensures ∙ c.loop-w-test.true in (
      walking-more s.f.now s.c.now.values s.rises.now s.fields _ c.loop-w.w _ c.loop-w.invariant.0 i c.clause.ensures,
      c.if-not-w.false,
    )

pub holds-requires : goal.holds-requires
holds-requires c = step-inside c.args.self.now.f.now c.step_offset-at.result (sym c.is_step.ensures ∙ c.if-not-is_step.false)

pub step-preserved : goal.step-preserved
step-preserved c =
    let s = c.args.self.now in
    let y = c.step_offset-at in
    below_more (λ j. fires_at s.f.now c.args.table.now s.c.now s.fresh.now s.fields j ≡ false) c.step.k c.step.invariant
    (fires-guard s.f.now c.args.table.now s.c.now s.fresh.now s.fields c.step.k y.result y.ensures (sym c.is_step.ensures ∙ c.if-not-is_step.false)
    c.loop-w.w (rw c.requires at c.loop-w.invariant.0) c.raise-counters.result false c.loop-w.invariant.1
    (sym c.is_clause.ensures ∙ c.loop-w-test.false) c.raise-counters.ensures (sym c.if-holds.false ∙ rw c.requires at c.holds.ensures))

pub returns-then-holds : goal.returns-then-holds
returns-then-holds c =
    let s = c.args.self.now in
    let y = c.step_offset-at in
    lowest-some (fires_at s.f.now c.args.table.now s.c.now s.fresh.now s.fields) c.step.k c.step-test.true
    (fires-guard s.f.now c.args.table.now s.c.now s.fresh.now s.fields c.step.k y.result y.ensures (sym c.is_step.ensures ∙ c.if-not-is_step.false)
    c.loop-w.w (rw c.requires at c.loop-w.invariant.0) c.raise-counters.result true c.loop-w.invariant.1
    (sym c.is_clause.ensures ∙ c.loop-w-test.false) c.raise-counters.ensures (sym c.if-holds.true ∙ rw c.requires at c.holds.ensures))
    c.step.invariant

pub returns-after-step : goal.returns-after-step
returns-after-step c =
    let s = c.args.self.now in
    lowest-none (fires_at s.f.now c.args.table.now s.c.now s.fresh.now s.fields) (λ j h. c.step.invariant j (omega arith))
