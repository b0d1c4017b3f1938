-- What follows from a trail alone: the state that it leads to, and the lists gathered along it; and what code carries of them instead.
use Rattle.std.specs.Prelude.{ℕ, ◌+◌, ◌*◌, ◌<◌, min, ◌≡◌, Bool, false, not, List, [], ◌∷◌, ◌++◌, map, length, get_or, set, replicate}
use Rattle.std.proofs.Math.Option.{Option, none, some}
use Rattle.base.specs.Mask.{bit}
use Rattle.event_log.specs.Log.{Values, field, Log, event_at}
use Rattle.formula.specs.Formula.{Formula, Step, Clause, TEST, TESTV, BIND, GATHER}
use Rattle.formula.specs.Lookup.{step_at}
use Rattle.runs.specs.Run.{Entry, Trail}
use Rattle.machine.specs.Configuration.{Config, list_of}
use Rattle.machine.specs.Guard.{sum, among, different}
use Rattle.machine.specs.Firing.{gather_all}

-- a state with the lists gathered on the way to it
pub record Standing : Type 0 where
  pub state : ℕ
  pub lists : List (List ℕ)

abbrev pub standing : Config → Standing
standing c = record { state = c.state; lists = c.lists }

abbrev pub step_to : Option Step → Values → Standing → Standing
step_to none e p = p
step_to (some t) e p = record { state = t.target; lists = gather_all p.lists e t.clauses }

-- after one entry of a trail
unfoldable pub step : Log → Formula → Standing → Entry → Standing
step log formula p x = step_to (step_at formula p.state x.step) (event_at log x.event).values p

-- after a trail
unfoldable pub along : Log → Formula → Standing → Trail → Standing
along log formula p [] = p
along log formula p (x ∷ t) = along log formula (step log formula p x) t

abbrev pub first : Standing
first = record { state = 0; lists = replicate 4 [] }

-- the state that a trail leads to from the start, and the lists gathered along it
abbrev pub leads_to : Log → Formula → Trail → ℕ
leads_to log formula t = (along log formula first t).state

abbrev pub gathered : Log → Formula → Trail → List (List ℕ)
gathered log formula t = (along log formula first t).lists

-- what guards read of the lists: their sums, their lengths, their numbers of different values
abbrev pub tallies : List (List ℕ) → List ℕ
tallies ls = map sum ls ++ (map length ls ++ map different ls)

-- the tallies with x added to list v; `new` says that no value of the list equals x
unfoldable pub tally_add : List ℕ → ℕ → ℕ → Bool → List ℕ
tally_add ts v x new =
    set
    (set (set ts v (min (get_or ts v 0 + x) 4294967295)) (4 + v) (min (get_or ts (4 + v) 0 + 1) 4294967295)) (8 + v)
    (min (get_or ts (8 + v) 0 + bit new) 4294967295)

-- for each list and each of 8 fields, at v * 8 + f: no value of list v equals the field's value
abbrev pub IsFresh : List (List ℕ) → Values → List Bool → Type 0
IsFresh ls e fresh = (v f : ℕ) → v < 4 → f < 8 → get_or fresh (v * 8 + f) false ≡ not (among (field e f) (list_of ls v))

-- what code does to the tallies at a clause, and at every clause of a step
abbrev pub carry : List Bool → Values → List ℕ → Clause → List ℕ
carry fresh e ts (TEST f o x) = ts
carry fresh e ts (TESTV f o v) = ts
carry fresh e ts (BIND f v) = ts
carry fresh e ts (GATHER f v) = tally_add ts v (field e f) (get_or fresh (v * 8 + f) false)

abbrev pub carry_all : List Bool → Values → List ℕ → List Clause → List ℕ
carry_all fresh e ts [] = ts
carry_all fresh e ts (k ∷ ks) = carry_all fresh e (carry fresh e ts k) ks
