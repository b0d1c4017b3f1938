-- "A configuration is a state, the held variables with values, and a counter per state", and the lists gathered so far.
use Rattle.std.specs.Prelude.{ℕ, zero, suc, Bool, false, ◌&&◌, List, [], ◌∷◌, ◌++◌, get_or, set, replicate, eqb}
use Rattle.std.specs.Bool.{beq}
use Rattle.base.specs.Lists.{same_list}

-- held and values have a place for each of the 8 variables, counters one for each of the 16 states that there can be, lists one for each of the 4 lists;
-- a value is 0 where its variable is not held, so that equal configurations are equal word by word
pub record Config : Type 0 where
  pub state : ℕ
  pub held : List Bool
  pub values : List ℕ
  pub counters : List ℕ
  pub lists : List (List ℕ)

-- "The start configuration holds nothing, with counters 0"; "State 0 starts"; "a list never gathered is empty"
unfoldable pub start : Config
start = record { state = 0; held = replicate 8 false; values = replicate 8 0; counters = replicate 16 0; lists = replicate 4 [] }

-- the distinct configurations are told apart by state, held variables, values and counters; "Two configurations are equal only if their lists are"
unfoldable pub same : Config → Config → Bool
same c d =
    eqb c.state d.state
    && same_list beq c.held d.held
    && same_list eqb c.values d.values
    && same_list eqb c.counters d.counters
    && same_list (same_list eqb) c.lists d.lists

-- the counters with one added to that of state s
abbrev pub add_one : List ℕ → ℕ → List ℕ
add_one [] zero = 1 ∷ []
add_one [] (suc s) = 0 ∷ add_one [] s
add_one (x ∷ xs) zero = suc x ∷ xs
add_one (x ∷ xs) (suc s) = x ∷ add_one xs s

-- list v, and the lists with one value more in list v
abbrev pub list_of : List (List ℕ) → ℕ → List ℕ
list_of ls v = get_or ls v []

abbrev pub add_to : List (List ℕ) → ℕ → ℕ → List (List ℕ)
add_to ls v x = set ls v (list_of ls v ++ (x ∷ []))
