-- "Firing": when a step fires on an event, and the configuration that it leaves.
use Rattle.std.specs.Prelude.{ℕ, Bool, true, false, not, ◌&&◌, cond, List, [], ◌∷◌, get_or, set, ltb, leb, eqb}
use Rattle.std.proofs.Math.Option.{Option, none, some}
use Rattle.event_log.specs.Log.{Values, present, field}
use Rattle.formula.specs.Formula.{Operator, equal, unequal, less, greater, atmost, atleast, Clause, TEST, TESTV, BIND, GATHER, Step}
use Rattle.machine.specs.Configuration.{Config, add_one, add_to}
use Rattle.machine.specs.Guard.{guard_holds}

-- "0 equal, 1 unequal, 2 less, 3 greater, 4 at most, 5 at least; the field is on the left"
abbrev pub holds : Operator → ℕ → ℕ → Bool
holds equal x y = eqb x y
holds unequal x y = not (eqb x y)
holds less x y = ltb x y
holds greater x y = ltb y x
holds atmost x y = leb x y
holds atleast x y = leb y x

-- a variable's value, and whether it is held
abbrev pub value_of : Config → ℕ → ℕ
value_of c v = get_or c.values v 0

abbrev pub is_held : Config → ℕ → Bool
is_held c v = get_or c.held v false

-- variable v holds x, unless it is held already
unfoldable pub hold : Config → ℕ → ℕ → Config
hold c v x =
    cond (is_held c v) c (record { state = c.state; held = set c.held v true; values = set c.values v x; counters = c.counters; lists = c.lists })

-- a BIND binds its variable to its field
abbrev pub bind : Config → Values → Clause → Config
bind c e (TEST f o x) = c
bind c e (TESTV f o v) = c
bind c e (BIND f v) = hold c v (field e f)
bind c e (GATHER f v) = c

-- the values after binding: held ones stay, any other variable takes the field of the step's first BIND of it
abbrev pub bind_all : Config → Values → List Clause → Config
bind_all c e [] = c
bind_all c e (k ∷ ks) = bind_all (bind c e k) e ks

-- a GATHER "adds the field's value to a list"
abbrev pub gather : List (List ℕ) → Values → Clause → List (List ℕ)
gather ls e (TEST f o x) = ls
gather ls e (TESTV f o v) = ls
gather ls e (BIND f v) = ls
gather ls e (GATHER f v) = add_to ls v (field e f)

-- the lists after the step
abbrev pub gather_all : List (List ℕ) → Values → List Clause → List (List ℕ)
gather_all ls e [] = ls
gather_all ls e (k ∷ ks) = gather_all (gather ls e k) e ks

-- the configuration that the step leaves: its target, the values after binding, one added to the state being left, what it gathers
unfoldable pub leave : Config → Step → Values → Config
leave c s e = record {
  state = s.target;
  held = (bind_all c e s.clauses).held;
  values = (bind_all c e s.clauses).values;
  counters = add_one c.counters c.state;
  lists = gather_all c.lists e s.clauses;
}

-- "every TEST holds, every TESTV holds against values held before, every BIND agrees with a value held before or bound by
-- another BIND of the step"; "A TEST, TESTV, BIND or GATHER of an absent field keeps the step from firing": c is the configuration before, d the one
-- that the step leaves
abbrev pub passes : Config → Config → Values → Clause → Bool
passes c d e (TEST f o x) = present e f && holds o (field e f) x
passes c d e (TESTV f o v) = present e f && holds o (field e f) (value_of c v)
passes c d e (BIND f v) = present e f && eqb (field e f) (value_of d v)
passes c d e (GATHER f v) = present e f

abbrev pub all_pass : Config → Config → Values → List Clause → Bool
all_pass c d e [] = true
all_pass c d e (k ∷ ks) = passes c d e k && all_pass c d e ks

-- "The guard reads the values after binding and the counters after adding one to the state being left"; its commands "read the list after the step"
unfoldable pub fires : Config → Step → Values → Bool
fires c s e = all_pass c (leave c s e) e s.clauses && guard_holds (leave c s e) s.guard

-- what the step leaves, if it fires on the event
unfoldable pub fire : Config → Step → Values → Option Config
fire c s e = cond (fires c s e) (some (leave c s e)) none
