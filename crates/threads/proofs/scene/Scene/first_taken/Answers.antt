-- `first_taken` meets its contract: every step before step k is passed over.
use mathlib.Core.Path.{◌≡◌, sym, subst, ◌∙◌}
use mathlib.Core.Bool.{true}
use native.Mathlib.Omega.{arith}
use borrow.Author.Count.{below_more}
use Rattle.event_log.specs.Arrays.{in_event}
use Rattle.formula.specs.Lookup.{step_table}
use Rattle.machine_code.specs.inner.Bytes.{is_step}
use Rattle.threads.proofs.Charts.{event-values}
use Rattle.threads.proofs.Choices.{firing}
use Rattle.threads.proofs.Tables.{fires-so}
use Rattle.threads.proofs.Taking.{PassedOver, passed-leads, passed-quiet, passed-all}
use Rattle.threads.proofs.scene.Scene.first_taken.Goals as goal

pub loop-k-preserved-then-not-may : goal.loop-k-preserved-then-not-may
loop-k-preserved-then-not-may c =
    let a = c.args in
    let k = c.loop-k.k in
    below_more (PassedOver a.self.now a.t.now c.fresh_at-fresh.result a.ends) k c.loop-k.invariant
    (passed-leads a.self.now a.t.now c.fresh_at-fresh.result a.ends k (c.may.ensures.0 c.if-not-may.true c.loop-k-test.true))

pub loop-k-preserved : goal.loop-k-preserved
loop-k-preserved c =
    let a = c.args in
    let k = c.loop-k.k in
    let y = c.step_offset-at in
    below_more (PassedOver a.self.now a.t.now c.fresh_at-fresh.result a.ends) k c.loop-k.invariant
    (passed-quiet a.self.now a.t.now c.fresh_at-fresh.result a.ends k c.loop-k-test.true y.result y.ensures (sym c.passes.ensures ∙ c.if-passes.false))

pub returns-then-passes : goal.returns-then-passes
returns-then-passes c =
    let a = c.args in
    let s = a.self.now in
    let f = s.formula.now in
    let t = a.t.now in
    let n = c.fresh_at-fresh in
    let k = c.loop-k.k in
    let y = c.step_offset-at in (
      c.loop-k-test.true,
      passed-all s t n.result a.ends k c.loop-k.invariant n.ensures,
      λ g fm stands w.
          let new = n.ensures g fm stands w (in_event s.moment.event)
          (event-values g fm f (step_table fm) s.rules stands.setting s.moment stands.loads) in
          firing g fm t s.moment.number k
          (fires-so g fm f s.table.now s.rules s.moment stands t w k c.loop-k-test.true n.result new y.result y.ensures
          (subst (λ z. is_step f z ≡ true) (sym y.ensures) (c.may.ensures.1 c.if-not-may.false))
          (sym c.passes.ensures ∙ c.if-passes.true)),
    )

pub returns-after-loop-k : goal.returns-after-loop-k
returns-after-loop-k c =
    let a = c.args in
    let n = c.fresh_at-fresh in
    passed-all a.self.now a.t.now n.result a.ends 8 (λ k h. c.loop-k.invariant k (omega arith)) n.ensures
