-- Worked examples of one step in the words of the paper, computed by the definitions.
use Prim.Native.Nat.{ℕ}
use mathlib.Core.Path.{◌≡◌, refl}
use mathlib.Core.Bool.{true, false}
use mathlib.Core.List.{List, [], ◌∷◌}
use mathlib.Core.Option.{none, some}
use lib.ListN.{replicate}
use Rattle.event_log.specs.Log.{plain, rising as rising_field, Log, event_at}
use Rattle.formula.specs.Formula.{equal, less, atmost, Clause, TEST, TESTV, BIND, GATHER, Step, ordinary, accept, Formula}
use Rattle.formula.specs.Formula.{CONST, VAR, COUNT, SUM, LENGTH, DIFFERENT, Expr, LEAF}
use Rattle.formula.specs.Formula.{LESS, ATMOST, EQUAL, OR, IF}
use Rattle.formula.specs.Unbound.{steps_of}
use Rattle.formula.specs.Lookup.{step_at}
use Rattle.machine.specs.Configuration.{Config, start}
use Rattle.machine.specs.Guard.{value}
use Rattle.machine.specs.Firing.{hold, leave, fires, fire}
use Rattle.machine.specs.Expiry.{rising, falling, known, expired}
use Rattle.machine.specs.Machine.{fire_at, expired_at, accepting}

-- "LESS to OR give 0 or 1"
pub or-gives-one : (c : Config) → value c (OR (LEAF (CONST 5)) (LEAF (CONST 7))) ≡ 1
unfolding value
or-gives-one c = refl

-- a step to state t with these clauses and no guard
abbrev pub bare : ℕ → List Clause → Step
bare t ks = record { target = t; clauses = ks; guard = none }

abbrev pub guarded : ℕ → List Clause → Expr → Step
guarded t ks g = record { target = t; clauses = ks; guard = some g }

-- "a step with time less than 600 is hopeless after 600, not after 599"
pub late-600 : (c : Config) (t : ℕ) → expired (rising_field ∷ []) c (bare t (TEST 0 less 600 ∷ [])) (some 600 ∷ []) ≡ true
unfolding expired
late-600 c t = refl

pub not-late-599 : (c : Config) (t : ℕ) → expired (rising_field ∷ []) c (bare t (TEST 0 less 600 ∷ [])) (some 599 ∷ []) ≡ false
unfolding expired
not-late-599 c t = refl

-- on a plain field a false TEST with less is not hopeless
pub plain-600 : (c : Config) (t : ℕ) → expired (plain ∷ []) c (bare t (TEST 0 less 600 ∷ [])) (some 600 ∷ []) ≡ false
unfolding expired
plain-600 c t = refl

-- at most 600: not hopeless after 600, hopeless after 601
pub atmost-600 : (c : Config) (t : ℕ) → expired (rising_field ∷ []) c (bare t (TEST 0 atmost 600 ∷ [])) (some 600 ∷ []) ≡ false
unfolding expired
atmost-600 c t = refl

pub atmost-601 : (c : Config) (t : ℕ) → expired (rising_field ∷ []) c (bare t (TEST 0 atmost 600 ∷ [])) (some 601 ∷ []) ≡ true
unfolding expired
atmost-601 c t = refl

-- an equal test that a rising field has passed is not hopeless
pub equal-601 : (c : Config) (t : ℕ) → expired (rising_field ∷ []) c (bare t (TEST 0 equal 600 ∷ [])) (some 601 ∷ []) ≡ false
unfolding expired
equal-601 c t = refl

-- TESTV is against the value held before (here none: 0), also where the step binds the variable
pub testv-before : fire start (bare 1 (BIND 0 0 ∷ TESTV 0 equal 0 ∷ [])) (some 7 ∷ []) ≡ none
unfolding fire fires leave hold start
testv-before = refl

-- a variable that holds x, and nothing else, in state s with these counters
abbrev pub holding : ℕ → ℕ → List ℕ → Config
holding s x counters = record { state = s; held = true ∷ replicate 7 false; values = x ∷ replicate 7 0; counters = counters; lists = replicate 4 [] }

-- two BINDs of one variable fire with one value, and only then; one is added to the state being left
pub binds-equal : fire start (bare 1 (BIND 0 0 ∷ BIND 1 0 ∷ [])) (some 7 ∷ some 7 ∷ []) ≡ some (holding 1 7 (1 ∷ replicate 15 0))
unfolding fire fires leave hold start
binds-equal = refl

pub binds-differ : fire start (bare 1 (BIND 0 0 ∷ BIND 1 0 ∷ [])) (some 7 ∷ some 8 ∷ []) ≡ none
unfolding fire fires leave hold start
binds-differ = refl

-- a BIND of a held variable is compared with the value held
pub held-differs : (s : ℕ) (counters : List ℕ) → fire (holding s 7 counters) (bare 1 (BIND 0 0 ∷ [])) (some 8 ∷ []) ≡ none
unfolding fire fires leave hold
held-differs s counters = refl

-- the guard reads the values after binding, and the counters after adding one to the state being left
pub guard-after-binding : fires start (guarded 1 (BIND 0 0 ∷ []) (EQUAL (LEAF (VAR 0)) (LEAF (CONST 7)))) (some 7 ∷ []) ≡ true
unfolding fires leave hold start value
guard-after-binding = refl

pub left-counted : fires start (guarded 1 [] (EQUAL (LEAF (COUNT 0)) (LEAF (CONST 1)))) (some 7 ∷ []) ≡ true
unfolding fires leave hold start value
left-counted = refl

pub entered-not-counted : fires start (guarded 1 [] (LEAF (COUNT 1))) (some 7 ∷ []) ≡ false
unfolding fires leave hold start value
entered-not-counted = refl

-- falling includes both: a guard of counters and constants that is 0 with the step's own counter makes the step hopeless at once
pub own-counter : expired (rising_field ∷ []) start (guarded 1 [] (LESS (LEAF (COUNT 0)) (LEAF (CONST 1)))) (some 7 ∷ []) ≡ true
unfolding expired leave hold start value falling rising known
own-counter = refl

-- time less than 10 by a guard, on a variable bound to the rising time: hopeless after 10, not after 9
pub guard-late : expired (rising_field ∷ []) start (guarded 1 (BIND 0 0 ∷ []) (LESS (LEAF (VAR 0)) (LEAF (CONST 10)))) (some 10 ∷ []) ≡ true
unfolding expired leave hold start value falling rising known
guard-late = refl

pub guard-not-late : expired (rising_field ∷ []) start (guarded 1 (BIND 0 0 ∷ []) (LESS (LEAF (VAR 0)) (LEAF (CONST 10)))) (some 9 ∷ []) ≡ false
unfolding expired leave hold start value falling rising known
guard-not-late = refl

-- a variable not held rises by the step's first BIND of it only
pub first-bind-plain : rising (rising_field ∷ plain ∷ []) start (BIND 1 0 ∷ BIND 0 0 ∷ []) (LEAF (VAR 0)) ≡ false
unfolding rising start
first-bind-plain = refl

-- IF with a condition that is not both is not falling: its step is not hopeless at 9 though its guard is 0, and fires at 10
abbrev late-enough : Step
late-enough = guarded 1 (BIND 0 0 ∷ []) (IF (LESS (LEAF (VAR 0)) (LEAF (CONST 10))) (LEAF (CONST 0)) (LEAF (CONST 1)))

pub if-not-expired : expired (rising_field ∷ []) start late-enough (some 9 ∷ []) ≡ false
unfolding expired leave hold start value falling rising known
if-not-expired = refl

pub if-fires-later : fires start late-enough (some 10 ∷ []) ≡ true
unfolding fires leave hold start value
if-fires-later = refl

-- a configuration in state 0 whose first list is l
abbrev pub gathering : List ℕ → Config
gathering l = record { state = 0; held = replicate 8 false; values = replicate 8 0; counters = replicate 16 0; lists = l ∷ [] ∷ [] ∷ [] ∷ [] }

-- "a list never gathered is empty": 0, 0, 0
pub never-gathered : (value start (LEAF (SUM 3)) ≡ 0) × (value start (LEAF (LENGTH 3)) ≡ 0) × (value start (LEAF (DIFFERENT 3)) ≡ 0)
unfolding value start
never-gathered = (refl, refl, refl)

-- "its sum, stopping at 4294967295"
pub sum-stops : value (gathering (4294967295 ∷ 1 ∷ [])) (LEAF (SUM 0)) ≡ 4294967295
unfolding value
sum-stops = refl

-- "its length", "the number of different values"
pub lists-read : (value (gathering (5 ∷ 7 ∷ 5 ∷ [])) (LEAF (LENGTH 0)) ≡ 3) × (value (gathering (5 ∷ 7 ∷ 5 ∷ [])) (LEAF (DIFFERENT 0)) ≡ 2)
unfolding value
lists-read = (refl, refl)

-- the guard reads the list after the step
pub guard-after-gathering : fires (gathering (3 ∷ [])) (guarded 1 (GATHER 0 0 ∷ []) (EQUAL (LEAF (SUM 0)) (LEAF (CONST 7)))) (some 4 ∷ []) ≡ true
unfolding fires leave value
guard-after-gathering = refl

-- a falling guard over a sum: at most 6, with 3 gathered before
abbrev pub few : Step
few = guarded 1 (GATHER 0 0 ∷ []) (ATMOST (LEAF (SUM 0)) (LEAF (CONST 6)))

-- of a rising field: hopeless where the sum would pass the bound, not before
pub sum-not-late : expired (rising_field ∷ []) (gathering (3 ∷ [])) few (some 3 ∷ []) ≡ false
unfolding expired leave value falling rising known
sum-not-late = refl

pub sum-late : expired (rising_field ∷ []) (gathering (3 ∷ [])) few (some 4 ∷ []) ≡ true
unfolding expired leave value falling rising known
sum-late = refl

-- of a plain field: never
pub sum-plain : (x : ℕ) → expired (plain ∷ []) (gathering (3 ∷ [])) few (some x ∷ []) ≡ false
unfolding expired leave value falling rising known
sum-plain x = refl

-- a length is both; the number of different values is neither where the step gathers
pub length-late : expired (plain ∷ []) (gathering (3 ∷ [])) (guarded 1 (GATHER 0 0 ∷ []) (LESS (LEAF (LENGTH 0)) (LEAF (CONST 2)))) (some 4 ∷ []) ≡ true
unfolding expired leave value falling rising known
length-late = refl

pub different-open : expired (rising_field ∷ []) (gathering (3 ∷ []))
    (guarded 1 (GATHER 0 0 ∷ []) (LESS (LEAF (DIFFERENT 0)) (LEAF (CONST 2)))) (some 4 ∷ []) ≡ false
unfolding expired leave value falling rising known
different-open = refl

-- the bench's log L and formula F: time and code, trip and open
abbrev pub L : Log
L = record {
  fields = rising_field ∷ plain ∷ [];
  events = record { stretch = 0; values = some 500 ∷ some 1 ∷ [] } ∷ record { stretch = 0; values = some 500 ∷ some 2 ∷ [] } ∷ [];
}

abbrev pub F : Formula
F = record {
  tied = [];
  states = record { kind = ordinary; steps = bare 1 (TEST 1 equal 1 ∷ BIND 0 0 ∷ []) ∷ [] }
      ∷ record { kind = ordinary; steps = bare 2 (TEST 1 equal 2 ∷ []) ∷ [] }
      ∷ record { kind = accept; steps = [] }
      ∷ [];
}

pub bench-trip : fire_at L F start 0 0 ≡ some (holding 1 500 (1 ∷ replicate 15 0))
unfolding fire_at step_at steps_of event_at fire fires leave hold start
bench-trip = refl

pub bench-open : fire_at L F (holding 1 500 (1 ∷ replicate 15 0)) 1 0 ≡ some (holding 2 500 (1 ∷ 1 ∷ replicate 14 0))
unfolding fire_at step_at steps_of event_at fire fires leave hold
bench-open = refl

pub bench-accepts : accepting F (holding 2 500 (1 ∷ 1 ∷ replicate 14 0)) ≡ true
unfolding accepting
bench-accepts = refl

-- a step that the state lacks never fires and is expired
pub no-second-step : fire_at L F start 0 1 ≡ none
unfolding fire_at step_at steps_of start
no-second-step = refl

pub no-second-step-expired : expired_at L F start 1 0 ≡ true
unfolding expired_at step_at steps_of start
no-second-step-expired = refl
