-- A thread that has begun, in a state that lasts and that the event lets no step of fire, idles.
use mathlib.Core.Path.{◌≡◌, ap, sym, ◌∙◌}
use mathlib.Core.Bool.{false}
use native.Mathlib.Omega.{arith}
use lib.ListN.{get_or}
use Rattle.machine_code.specs.inner.Bytes.{offset_of}
use Rattle.slots.specs.inner.Words.{thread_at, place}
use Rattle.slots.proofs.Slots.{state-word, steps-word}
use Rattle.threads.proofs.idles.Goals as goal

pub returns-then-is_lasting : goal.returns-then-is_lasting
returns-then-is_lasting c =
    let a = c.args in
    let w = a.work.now in
    let at = place a.half a.slot in
    let state : c.state_at-s.result ≡ (thread_at w at).config.state = c.state_at-s.ensures ∙ state-word w at in
    λ e. record {
      begun = omega (arith, c.steps_at.ensures, steps-word w at, c.if-steps_at-eq0.false);
      lasting = ap (λ i. get_or a.rules.now.lasting i false) (sym state) ∙ sym c.is_lasting.ensures ∙ c.if-is_lasting.true;
      quiet = λ k h. ap (λ i. offset_of a.table.now i k) (sym state) ∙ c.is_quiet.ensures e k h;
    }
