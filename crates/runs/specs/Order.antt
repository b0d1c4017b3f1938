-- 'Runs are ordered by last event, then by the list of events, then by the list of step numbers, each compared at the
-- first difference.'
use Rattle.std.specs.Prelude.{◌≡◌, List, ◌∷◌, ◌++◌, map, ℕ, ◌<◌}
use Rattle.runs.specs.Run.{Entry, Trail, last}

-- the list of events, the list of step numbers
abbrev pub events : Trail → List ℕ
events t = map (λ (x : Entry). x.event) t

abbrev pub numbers : Trail → List ℕ
numbers t = map (λ (x : Entry). x.step) t

-- at the first difference of the two lists ys has the higher number
pub record Higher (xs ys : List ℕ) : Type 0 where
  pub shared : List ℕ
  pub low : ℕ
  pub high : ℕ
  pub xs_rest : List ℕ
  pub ys_rest : List ℕ
  pub xs_is : xs ≡ shared ++ (low ∷ xs_rest)
  pub ys_is : ys ≡ shared ++ (high ∷ ys_rest)
  pub rises : low < high

-- u comes after t in the order of runs
pub data Later (t u : Trail) : Type 0 where
  ends_later : last t < last u → Later t u
  later_event : last t ≡ last u → Higher (events t) (events u) → Later t u
  higher_number : events t ≡ events u → Higher (numbers t) (numbers u) → Later t u
