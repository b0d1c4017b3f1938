-- `may_end` meets its contract: by the event's table, then by what the thread holds.
use mathlib.Core.Path.{ap, sym, ◌∙◌}
use Rattle.runs.proofs.Least.{some≢none}
use Rattle.machine_code.specs.inner.Bytes.{offset_of}
use Rattle.slots.specs.inner.Words.{thread_at, place}
use Rattle.slots.proofs.Slots.{state-word}
use Rattle.threads.proofs.Tables.{fires-none}
use Rattle.threads.proofs.scene.Scene.may_end.Goals as goal

pub returns-then-is_quiet : goal.returns-then-is_quiet
returns-then-is_quiet c =
    let a = c.args in
    let s = a.self.now in
    let w = a.work.now in
    let at = place a.half a.slot in
    let q = c.is_quiet.ensures c.if-is_quiet.true in
    λ e g fm stands fit k h d x.
    absurd (some≢none (sym x ∙ fires-none g fm s.formula.now s.table.now s.rules s.moment stands (thread_at w at) fit k h
    (ap (λ i. offset_of s.table.now i k) (sym (state-word w at) ∙ sym c.state_at-s.ensures) ∙ q k h)))

pub returns : goal.returns
returns c =
    let a = c.args in
    let w = a.work.now in
    let at = place a.half a.slot in
    let b = c.bound_at-bound.ensures in
    λ e g fm stands fit k h d x.
    c.can_end.ensures e k h g fm stands (thread_at w at) (sym (state-word w at) ∙ sym c.state_at-s.ensures) (sym b.0) (sym b.1) fit d x
