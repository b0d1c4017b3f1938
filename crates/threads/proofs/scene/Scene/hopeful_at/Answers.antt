-- `hopeful_at` meets its contract: where the scene stands, the code's answer is the machine's.
use Rattle.event_log.specs.Arrays.{in_latest}
use Rattle.machine_code.specs.inner.Bytes.{expires_at, alive_below}
use Rattle.base.proofs.Lists.{rest-drop}
use mathlib.Core.Path.{ap, sym, ◌∙◌}
use Rattle.formula.specs.Lookup.{step_table}
use Rattle.threads.proofs.Charts.{latest-values}
use Rattle.threads.proofs.Tables.{hopeful-here, hopeful-lasting}
use Rattle.threads.proofs.scene.Scene.hopeful_at.Goals as goal

pub returns-then-is_lasting : goal.returns-then-is_lasting
returns-then-is_lasting c =
    let s = c.args.self.now in
    λ g fm stands h.
    hopeful-lasting g fm s.formula.now s.table.now s.rules s.moment stands c.args.t.now h (sym c.is_lasting.ensures ∙ c.if-is_lasting.true)

pub returns : goal.returns
returns c =
    let s = c.args.self.now in
    let t = c.args.t.now in
    let f = s.formula.now in
    let n = c.fresh_at-fresh in
    λ g fm stands h.
    c.hopeful.ensures
    ∙ ap (λ x. alive_below (expires_at f x t.config n.result s.rules.rises (in_latest s.moment.latest)) 8) (rest-drop s.table.now 128)
    ∙ hopeful-here g fm f s.table.now s.rules s.moment stands t h n.result
    (n.ensures g fm stands h (in_latest s.moment.latest)
    (latest-values g fm f (step_table fm) s.rules stands.setting s.moment stands.loads))
