-- `fires_at` meets its contract: where the scene stands, the step at the table's offset is the machine's.
use Rattle.std.specs.Prelude.{None, Some, Ok, Err}
use Rattle.std.specs.Result.{result_ok}
use mathlib.Core.Bool.{Bool, true, false, cond}
use mathlib.Core.Option.{Option}
use mathlib.Core.Path.{◌≡◌, refl, ap, sym, subst, ◌∙◌}
use Rattle.base.specs.Lists.{some_if}
use Rattle.event_log.specs.Arrays.{in_event}
use Rattle.formula.specs.Lookup.{step_table}
use Rattle.machine.specs.Configuration.{Config}
use Rattle.machine_code.specs.declared.Configuration.{Configuration}
use Rattle.machine_code.specs.inner.Bytes.{fired}
use Rattle.threads.specs.inner.Calls.{FiredBy}
use Rattle.threads.proofs.Charts.{event-values}
use Rattle.threads.proofs.Tables.{fires-none, fires-some}
use Rattle.threads.proofs.scene.Scene.fires_at.Goals as goal

-- of an answer, the configuration that a step that fires leaves
ok-fired : (b : Bool) (d : Configuration) → result_ok (cond b (Ok d) (Err d)) ≡ some_if b d
ok-fired true d = refl
ok-fired false d = refl

pub returns-then-at-eq0 : goal.returns-then-at-eq0
returns-then-at-eq0 c =
    let s = c.args.self.now in
    let t = c.args.t.now in
    λ g fm stands h b.
    let e = fires-none g fm s.formula.now s.table.now s.rules s.moment stands t h c.args.k b (sym c.step_offset-at.ensures ∙ c.if-at-eq0.true) in
    subst (λ (o : Option Config). FiredBy o t None) (sym e) refl

pub returns-in_err-config : goal.returns-in_err-config
returns-in_err-config c =
    let s = c.args.self.now in
    let t = c.args.t.now in
    let n = c.fresh_at-fresh in
    let event = in_event s.moment.event in
    rw c.from_residual.ensures (
    λ g fm stands h b.
    fires-some g fm s.formula.now s.table.now s.rules s.moment stands t h c.args.k b n.result
    (n.ensures g fm stands h event (event-values g fm s.formula.now (step_table fm) s.rules stands.setting s.moment stands.loads))
    (λ z. c.if-at-eq0.false (c.step_offset-at.ensures ∙ z)) None
    (λ at q. c.in_err-config.ensures.value
    ∙ ap result_ok c.fire.ensures
    ∙ ok-fired _ _
    ∙ ap (λ i. some_if (fired s.formula.now i t.config n.result event).fires (fired s.formula.now i t.config n.result event).config)
    (c.step_offset-at.ensures ∙ sym q))
    )

pub returns : goal.returns
returns c =
    let s = c.args.self.now in
    let t = c.args.t.now in
    let n = c.fresh_at-fresh in
    let event = in_event s.moment.event in
    λ g fm stands h b.
    fires-some g fm s.formula.now s.table.now s.rules s.moment stands t h c.args.k b n.result
    (n.ensures g fm stands h event (event-values g fm s.formula.now (step_table fm) s.rules stands.setting s.moment stands.loads))
    (λ z. c.if-at-eq0.false (c.step_offset-at.ensures ∙ z)) (Some c.in_ok-config.config)
    (λ at q. c.in_ok-config.ensures.value
    ∙ ap result_ok c.fire.ensures
    ∙ ok-fired _ _
    ∙ ap (λ i. some_if (fired s.formula.now i t.config n.result event).fires (fired s.formula.now i t.config n.result event).config)
    (c.step_offset-at.ensures ∙ sym q))
