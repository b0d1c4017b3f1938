-- The contract of the entry `search`: what a call answers, and what it leaves in the lent work words.
use Rattle.std.specs.Prelude.{ℕ, ◌≤◌, ◌≡◌, List, length, Result, Err, IfOk}
use Rattle.refusal.specs.declared.Refusal.{Refusal}
use Rattle.refusal.specs.Refusals.{NotCrowded}
use Rattle.search.specs.declared.SearchAnswer.{SearchAnswer}
use Rattle.search.specs.Search.{slots_of, search_answer}

-- refused with anything but crowded, every work word is as it was: "Left open here are the work words after a call that passed
-- its checks"
abbrev pub Untouched : Result SearchAnswer Refusal → List ℕ → List ℕ → Type 0
Untouched r work after = (why : Refusal) → r ≡ Err why → NotCrowded why → after ≡ work

-- a call with the files l and f, a start, and these work words before and after it answers r
pub record Searched (l f : List ℕ) (start : ℕ) (work after : List ℕ) (r : Result SearchAnswer Refusal) : Type 0 where
  pub answer : r ≡ search_answer l f start (length work)
  pub untouched : Untouched r work after
  pub number : length after ≡ length work
  -- "a count in the result, .. at most the seats"
  pub within : IfOk r (λ a. a.width ≤ slots_of (length work))
