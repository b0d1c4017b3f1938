-- `slots::find_from` meets its contract: before the slot no thread's words hold the configuration's.
use Rattle.std.proofs.Common.{◌≡◌, ◌∙◌, ℕ, ◌+◌, ap, sym, subst, false, arith}
use Rattle.slots.specs.declared.Thread.{Thread}
use Rattle.slots.specs.inner.Threads.{same_words}
use Rattle.slots.specs.inner.Words.{thread_at, place}
use Rattle.slots.proofs.ByPlace.{ranges}
use Rattle.slots.proofs.Slots.{half-thread}
use Rattle.slots.proofs.find_from.Goals as goal

pub returns-then-same_at : goal.returns-then-same_at
returns-then-same_at c =
    let e = ap (λ (t : Thread). same_words t.config c.args.c) (half-thread c.args.work.now _ _ c.half_of.ensures.words) in
    record {
      least = c.loop-slot.auto.slot;
      inside = c.loop-slot-test.true;
      missed = c.loop-slot.invariant;
      here = sym (c.same_at.ensures ∙ e) ∙ c.if-same_at.true;
    }

pub loop-slot-preserved : goal.loop-slot-preserved
loop-slot-preserved c =
    let e = ap (λ (t : Thread). same_words t.config c.args.c) (half-thread c.args.work.now _ _ c.half_of.ensures.words) in
    let missed : ℕ → Type 0 = λ (i : ℕ). same_words (thread_at c.args.work.now (place c.args.half i)).config c.args.c ≡ false in
    ranges missed c.args.from c.loop-slot.slot (c.loop-slot.slot + 1) c.loop-slot.invariant
    (λ i h m. subst missed (omega (arith, h, m)) (sym (c.same_at.ensures ∙ e) ∙ c.if-same_at.false))
