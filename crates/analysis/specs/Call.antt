-- The contract of the entry `analyse`: what a call answers, and what it leaves in the lent work words and row words.
use Rattle.std.specs.Prelude.{ℕ, ◌*◌, ◌≡◌, List, length, take, drop, Result, Err}
use Rattle.refusal.specs.declared.Refusal.{Refusal}
use Rattle.refusal.specs.Refusals.{NotCrowded}
use Rattle.analysis.specs.Analysis.{Analysed, analysis}

-- refused with anything but crowded, every work word is as it was: "Left open here are the work words after a call that passed
-- its checks"
abbrev pub Untouched : Result Unit Refusal → List ℕ → List ℕ → Type 0
Untouched r work after = (why : Refusal) → r ≡ Err why → NotCrowded why → after ≡ work

-- a call leaves these row words and, of these work words, those, and answers r, where the definition gives a
pub record Leaves (a : Analysed) (work work-after rows-after : List ℕ) (r : Result Unit Refusal) : Type 0 where
  pub outcome : r ≡ a.outcome
  pub rows : rows-after ≡ a.rows
  pub untouched : Untouched r work work-after
  pub number : length work-after ≡ length work

-- a call with the files l and f, and these work words and row words before and after it, answers r
abbrev pub Analyses : List ℕ → List ℕ → List ℕ → List ℕ → List ℕ → List ℕ → Result Unit Refusal → Type 0
Analyses l f work work-after rows rows-after r = Leaves (analysis l f (length work) rows) work work-after rows-after r

-- the row of start i: "writes 12 words of 32 bits a row"
unfoldable pub row_at : List ℕ → ℕ → List ℕ
row_at rows i = take 12 (drop (12 * i) rows)
