-- `lowest_at` meets its contract: where the scene stands, the code's lowest step that fires is the machine's.
use mathlib.Core.Path.{sym, subst}
use native.Mathlib.Omega.{arith}
use Rattle.event_log.specs.Arrays.{in_event}
use Rattle.formula.specs.Lookup.{step_table}
use Rattle.machine.specs.Machine.{fire_at}
use Rattle.machine_code.specs.inner.Bytes.{fires_at, lowest_of}
use Rattle.machine_code.proofs.SameMachine.{Lowest, is_fired}
use Rattle.threads.specs.inner.Setting.{conf}
use Rattle.threads.proofs.Below.{found-below, found-none}
use Rattle.threads.proofs.Charts.{event-values}
use Rattle.threads.proofs.Choices.{lowest-found, lowest-none}
use Rattle.threads.proofs.Tables.{lowest-here}
use Rattle.threads.proofs.scene.Scene.lowest_at.Goals as goal

pub returns-in_err-k : goal.returns-in_err-k
returns-in_err-k c =
    let s = c.args.self.now in
    let t = c.args.t.now in
    let n = c.fresh_at-fresh in
    let event = in_event s.moment.event in
    let low = lowest_of (fires_at s.formula.now s.table.now t.config n.result event) in
    rw c.from_residual.ensures (
      tt,
      λ g fm stands h.
          lowest-none g fm t s.moment.number low
          (lowest-here g fm s.formula.now s.table.now s.rules s.moment stands t h n.result
          (n.ensures g fm stands h event (event-values g fm s.formula.now (step_table fm) s.rules stands.setting s.moment stands.loads)))
          (found-none 8 low c.in_err-k.ensures),
    )

pub overflow_cast-result : goal.overflow_cast-result
overflow_cast-result c =
    let s = c.args.self.now in
    let low = lowest_of (fires_at s.formula.now s.table.now c.args.t.now.config c.fresh_at-fresh.result (in_event s.moment.event)) in
    omega (arith, (found-below 8 c.in_ok-k.k low c.in_ok-k.ensures).1)

pub returns : goal.returns
returns c =
    let s = c.args.self.now in
    let t = c.args.t.now in
    let n = c.fresh_at-fresh in
    let event = in_event s.moment.event in
    let low = lowest_of (fires_at s.formula.now s.table.now t.config n.result event) in
    let e = found-below 8 c.in_ok-k.k low c.in_ok-k.ensures in (
      e.1,
      λ g fm stands h.
          lowest-found g fm t s.moment.number c.in_ok-k.k
          (subst (Lowest (λ k. is_fired (fire_at g fm (conf g fm t) s.moment.number k))) (sym e.0)
          (lowest-here g fm s.formula.now s.table.now s.rules s.moment stands t h n.result
          (n.ensures g fm stands h event (event-values g fm s.formula.now (step_table fm) s.rules stands.setting s.moment stands.loads)))) e.1,
    )
