-- A refusal's number tells a call that was refused before it ran: not 0, and not 11.
use Rattle.std.proofs.Common.{ℕ, ◌≡◌, refl, ap, List, Result, Ok, Err}
use Rattle.refusal.specs.declared.Refusal.{Refusal}
use Rattle.refusal.specs.Refusals.{report_of, NotCrowded}
use Rattle.exports.specs.Exports.{refusal_in, Untouched}

not-crowded : (why : Refusal) → ((report_of why).number ≡ 11 → ⊥) → NotCrowded why
not-crowded why h n e = h (ap (λ r. (report_of r).number) e)

pub by-answer : {A : Type 0} (work after : List ℕ) (r : Result A Refusal) → ((why : Refusal) → r ≡ Err why → NotCrowded why → after ≡ work)
    → Untouched (refusal_in r) work after
by-answer work after (Ok a) h some other = absurd (some refl)
by-answer work after (Err why) h some other = h why refl (not-crowded why other)
