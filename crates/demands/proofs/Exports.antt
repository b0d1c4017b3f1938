-- The static library's functions hand on answers that meet the entries' contracts: their numbers tell a call that was refused before it ran.
use Prim.Native.Nat.{ℕ}
use Rattle.std.specs.Prelude.{◌≤◌, Result, Ok, Err, IfOk}
use mathlib.Core.Path.{◌≡◌, refl, sym, ap, ◌∙◌, subst}
use mathlib.Core.List.{List}
use native.Mathlib.Omega.{arith}
use lib.ListN.{length}
use Rattle.refusal.specs.declared.Refusal.{Refusal}
use Rattle.refusal.specs.declared.Refusal.TheVariants.{CutShort, Foreign, Value, Surplus, Leftover, StepBack, DeadStart, Unbound, Outside, Short, Crowded, Twice, AbsentState}
use Rattle.refusal.specs.Refusals.{report_of, NotCrowded}
use Rattle.search.specs.declared.SearchAnswer.{SearchAnswer}
use Rattle.search.specs.Search.{slots_of, search_answer}
use Rattle.analysis.specs.Analysis.{analysis}
use Rattle.exports.specs.declared.Refused.{Refused}
use Rattle.exports.specs.declared.Found.{Found}
use Rattle.exports.specs.Exports.{refusal_in, exported_search, Untouched, ExportsSearch, ExportsAnalysis}
use Rattle.demands.specs.Demands.{HandsOnSearch, HandsOnAnalysis}

-- every refusal has a number, and 11 is crowded alone
numbered : (why : Refusal) → NotCrowded why → ((report_of why).number ≡ 0 → ⊥) × ((report_of why).number ≡ 11 → ⊥)
numbered (CutShort f p) h = (λ e. omega (arith, e), λ e. omega (arith, e))
numbered (Foreign f p) h = (λ e. omega (arith, e), λ e. omega (arith, e))
numbered (Value f p) h = (λ e. omega (arith, e), λ e. omega (arith, e))
numbered (Surplus f p) h = (λ e. omega (arith, e), λ e. omega (arith, e))
numbered (Leftover f p) h = (λ e. omega (arith, e), λ e. omega (arith, e))
numbered (StepBack p) h = (λ e. omega (arith, e), λ e. omega (arith, e))
numbered DeadStart h = (λ e. omega (arith, e), λ e. omega (arith, e))
numbered (Unbound p) h = (λ e. omega (arith, e), λ e. omega (arith, e))
numbered (Outside s) h = (λ e. omega (arith, e), λ e. omega (arith, e))
numbered (Short n) h = (λ e. omega (arith, e), λ e. omega (arith, e))
numbered (Crowded p) h = absurd (h p refl)
numbered (Twice p) h = (λ e. omega (arith, e), λ e. omega (arith, e))
numbered (AbsentState p) h = (λ e. omega (arith, e), λ e. omega (arith, e))

by-answer : {A : Type 0} (work after : List ℕ) (r : Result A Refusal) → Untouched (refusal_in r) work after → (why : Refusal) → r ≡ Err why → NotCrowded why
    → after ≡ work
by-answer work after r u why e h = let n = numbered why h in (rw e at u) n.0 n.1

refused_is : (s : Result SearchAnswer Refusal) → (exported_search s).refused ≡ refusal_in s
refused_is (Ok a) = refl
refused_is (Err why) = refl

within : (s : Result SearchAnswer Refusal) (n : ℕ) → (exported_search s).width ≤ n → IfOk s (λ a. a.width ≤ n)
within (Ok a) n h = h
within (Err why) n h = tt

module _ (l f : List ℕ) where
  pub search-handed : (start : ℕ) (work after : List ℕ) (r : Found) → ExportsSearch l f start work after r → HandsOnSearch l f start work after r
  search-handed start work after r c =
      let s = search_answer l f start (length work) in
      record {
        found = s;
        contract = record {
          answer = refl;
          untouched = by-answer work after s (rw (ap (λ (x : Found). x.refused) c.answer ∙ refused_is s) at c.untouched);
          number = c.number;
          within = within s (slots_of (length work)) (rw (ap (λ (x : Found). x.width) c.answer) at c.within);
        };
        numbers_are = c.answer;
      }

  pub analysis-handed : (work work-after rows rows-after : List ℕ) (r : Refused) → ExportsAnalysis l f work work-after rows rows-after r
      → HandsOnAnalysis l f work work-after rows rows-after r
  analysis-handed work work-after rows rows-after r c =
      let a = analysis l f (length work) rows in
      record {
        outcome = a.outcome;
        contract = record {
          outcome = refl;
          rows = c.rows_are;
          untouched = by-answer work work-after a.outcome (subst (λ (x : Refused). Untouched x work work-after) c.answer c.untouched);
          number = c.number;
        };
        numbers_are = c.answer;
      }
