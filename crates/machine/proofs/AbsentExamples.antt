-- Worked examples of readings that never arrived, computed by the definitions.
use Prim.Native.Nat.{ℕ}
use mathlib.Core.Path.{◌≡◌, refl}
use mathlib.Core.Bool.{true, false}
use mathlib.Core.List.{List, [], ◌∷◌}
use mathlib.Core.Option.{none, some}
use Rattle.event_log.specs.Log.{plain, rising as rising_field, Log, event_at}
use Rattle.event_log.specs.Latest.{over, latest}
use Rattle.formula.specs.Formula.{equal, unequal, less, TEST, TESTV, BIND, GATHER, ordinary, Formula}
use Rattle.formula.specs.Formula.{CONST, VAR, SUM, LENGTH, Expr, LEAF, LESS, ATMOST, IF}
use Rattle.formula.specs.Unbound.{steps_of}
use Rattle.formula.specs.Lookup.{step_at}
use Rattle.machine.specs.Configuration.{Config, start}
use Rattle.machine.specs.Guard.{value}
use Rattle.machine.specs.Firing.{hold, leave, fires}
use Rattle.machine.specs.Expiry.{rising, falling, known, expired}
use Rattle.machine.specs.Machine.{expired_at}
use Rattle.machine.proofs.Examples.{bare, guarded, holding, gathering, few}

-- "A TEST, TESTV, BIND or GATHER of an absent field keeps the step from firing", also with unequal
pub absent-test : fires start (bare 1 (TEST 0 equal 0 ∷ [])) (none ∷ []) ≡ false
unfolding fires leave hold start
absent-test = refl

pub absent-unequal : fires start (bare 1 (TEST 0 unequal 5 ∷ [])) (none ∷ []) ≡ false
unfolding fires leave hold start
absent-unequal = refl

pub absent-testv : fires start (bare 1 (TESTV 0 equal 0 ∷ [])) (none ∷ []) ≡ false
unfolding fires leave hold start
absent-testv = refl

pub absent-bind : fires start (bare 1 (BIND 0 0 ∷ [])) (none ∷ []) ≡ false
unfolding fires leave hold start
absent-bind = refl

pub absent-gather : fires start (bare 1 (GATHER 0 0 ∷ [])) (none ∷ []) ≡ false
unfolding fires leave hold start
absent-gather = refl

-- "where a field has none, a test of it .. doesn't make the step hopeless": below 0 is never, yet hopeless only once a time has arrived
pub below_none : (c : Config) (t : ℕ) → expired (rising_field ∷ []) c (bare t (TEST 0 less 0 ∷ [])) (none ∷ []) ≡ false
unfolding expired
below_none c t = refl

pub below-some : (c : Config) (t : ℕ) → expired (rising_field ∷ []) c (bare t (TEST 0 less 0 ∷ [])) (some 0 ∷ []) ≡ true
unfolding expired
below-some c t = refl

-- "or a guard naming a variable or sum that would take its value": bound by the step; held before; in the branch of an IF that is not taken
abbrev below-zero : Expr
below-zero = LESS (LEAF (VAR 0)) (LEAF (CONST 0))

pub bound-none : expired (rising_field ∷ []) start (guarded 1 (BIND 0 0 ∷ []) below-zero) (none ∷ []) ≡ false
unfolding expired leave hold start value falling rising known
bound-none = refl

pub held_none : (s : ℕ) (counters : List ℕ) → expired (rising_field ∷ []) (holding s 7 counters) (guarded 1 (BIND 0 0 ∷ []) below-zero) (none ∷ []) ≡ true
unfolding expired leave hold value falling rising known
held_none s counters = refl

pub branch-none : expired (rising_field ∷ []) start (guarded 1 (BIND 0 0 ∷ []) (IF (LEAF (CONST 1)) (LEAF (CONST 0)) below-zero)) (none ∷ []) ≡ false
unfolding expired leave hold start value falling rising known
branch-none = refl

pub branch-some : expired (rising_field ∷ []) start (guarded 1 (BIND 0 0 ∷ []) (IF (LEAF (CONST 1)) (LEAF (CONST 0)) below-zero)) (some 3 ∷ []) ≡ true
unfolding expired leave hold start value falling rising known
branch-some = refl

-- a sum that the step gathers into, and one that it does not; "a length counts the value all the same"
pub sum-none : expired (rising_field ∷ []) (gathering (7 ∷ [])) few (none ∷ []) ≡ false
unfolding expired leave value falling rising known
sum-none = refl

pub other-sum : expired (rising_field ∷ []) (gathering (7 ∷ [])) (guarded 1 (GATHER 0 1 ∷ []) (ATMOST (LEAF (SUM 0)) (LEAF (CONST 6)))) (none ∷ []) ≡ true
unfolding expired leave value falling rising known
other-sum = refl

pub length_none : expired (plain ∷ []) (gathering (3 ∷ [])) (guarded 1 (GATHER 0 0 ∷ []) (LESS (LEAF (LENGTH 0)) (LEAF (CONST 2)))) (none ∷ []) ≡ true
unfolding expired leave value falling rising known
length_none = refl

-- "judged by the last present value up to n": a time of 600, then an event without one
abbrev gap : Log
gap = record { fields = rising_field ∷ []; events = record { stretch = 0; values = some 600 ∷ [] } ∷ record { stretch = 0; values = none ∷ [] } ∷ [] }

abbrev before-600 : Formula
before-600 = record { tied = []; states = record { kind = ordinary; steps = bare 0 (TEST 0 less 600 ∷ []) ∷ [] } ∷ [] }

pub late-in-gap : expired_at gap before-600 start 0 1 ≡ true
unfolding expired_at expired step_at steps_of start latest over event_at
late-in-gap = refl

-- behind a clock mark that time is not the last present one: nothing is known, and the step is not hopeless
abbrev set-between : Log
set-between = record { fields = rising_field ∷ []; events = record { stretch = 0; values = some 600 ∷ [] } ∷ record { stretch = 1; values = none ∷ [] } ∷ [] }

pub open-behind-mark : expired_at set-between before-600 start 0 1 ≡ false
unfolding expired_at expired step_at steps_of start latest over event_at
open-behind-mark = refl
