-- What the code computes on any bytes, well formed or not: a twin of each definition on byte lists.
use Rattle.std.specs.Prelude.{ℕ, zero, suc, ◌+◌, ◌-◌, ◌*◌, min, Bool, true, false, not, ◌&&◌, ◌||◌, cond, List, length, get_or, set, replicate, ltb, leb, eqb, Result, Ok, Err}
use Rattle.base.specs.Value.{value_at}
use Rattle.event_log.specs.Log.{Values, present, field}
use Rattle.machine_code.specs.declared.Configuration.{Configuration}
use Rattle.machine_code.specs.declared.Gained.{Gained}
use Rattle.machine_code.specs.declared.Walked.{Walked}
use Rattle.machine.specs.Configuration.{Config}
use Rattle.machine.specs.inner.Along.{tally_add}
use Rattle.guard_code.specs.declared.Marks.{Marks}
use Rattle.guard_code.specs.inner.Bytes.{leaf_value, guard_at, leaf_marked, falls_at}

-- an operator's byte against two values; a byte above 5 counts as 5
unfoldable pub holds_by : ℕ → ℕ → ℕ → Bool
holds_by o x y =
    cond (eqb o 0) (eqb x y) (cond (eqb o 1) (not (eqb x y)) (cond (eqb o 2) (ltb x y) (cond (eqb o 3) (ltb y x) (cond (eqb o 4) (leb x y) (leb y x)))))

unfoldable pub missed_by : ℕ → ℕ → ℕ → Bool
missed_by o x y = cond (eqb o 2) (not (ltb x y)) (cond (eqb o 4) (not (leb x y)) false)

-- "12 TEST, 13 TESTV, 14 BIND", "17 GATHER"
unfoldable pub is_clause : ℕ → Bool
is_clause c = cond (eqb c 0x17) true (cond (ltb c 0x12) false (ltb c 0x15))

-- the bytes of a clause, by its command; 0 for what is no clause
unfoldable pub width_of : ℕ → ℕ
width_of c = cond (eqb c 0x12) 7 (cond (eqb c 0x13) 4 (cond (eqb c 0x17) 3 (cond (eqb c 0x14) 3 0)))

-- a TEST or TESTV of a field's value x against y; `rises` says whether the field does
unfoldable pub tested : Walked → ℕ → ℕ → ℕ → ℕ → Bool → Walked
tested w next o x y rises = record {
  at = next;
  passes = w.passes && holds_by o x y;
  due = w.due || (rises && missed_by o x y);
  gathers = w.gathers;
  held = w.held;
  values = w.values;
  grows = w.grows;
}

-- variable v holds x, unless it is held already
unfoldable pub holding : Walked → ℕ → ℕ → Bool → Walked
holding w v x rises =
    cond (get_or w.held v false) w
    (record {
      at = w.at;
      passes = w.passes;
      due = w.due;
      gathers = w.gathers;
      held = set w.held v true;
      values = set w.values v x;
      grows = set w.grows v rises;
    })

-- a BIND of variable v to a field's value x
abbrev pub bound_in : Walked → Walked → ℕ → ℕ → ℕ → Walked
bound_in w d next v x = record {
  at = next;
  passes = w.passes && eqb x (get_or d.values v 0);
  due = d.due;
  gathers = d.gathers;
  held = d.held;
  values = d.values;
  grows = d.grows;
}

unfoldable pub bound : Walked → ℕ → ℕ → ℕ → Bool → Walked
bound w next v x rises = bound_in w (holding w v x rises) next v x

-- a walk behind a GATHER
unfoldable pub noted : Walked → ℕ → Walked
noted w next = record {
  at = next;
  passes = w.passes;
  due = w.due;
  gathers = true;
  held = w.held;
  values = w.values;
  grows = w.grows;
}

-- a walk at a clause whose field is present or absent: an absent one keeps the step from firing
unfoldable pub met : Walked → Bool → Walked
met w there = record {
  at = w.at;
  passes = w.passes && there;
  due = w.due;
  gathers = w.gathers;
  held = w.held;
  values = w.values;
  grows = w.grows;
}

-- the clause where the walk stands, of a field with value x, which is there and rises or not; `prior` are the values held before the step
unfoldable pub clause_on : List ℕ → List ℕ → Walked → ℕ → Bool → Walked
clause_on f prior w x rises =
    cond (eqb (get_or f w.at 0) 0x12)
    (tested w (w.at + 7) (get_or f (w.at + 2) 0) x (value_at f (w.at + 3)) rises)
    (cond (eqb (get_or f w.at 0) 0x13)
    (tested w (w.at + 4) (get_or f (w.at + 2) 0) x (get_or prior (get_or f (w.at + 3) 0) 0) rises)
    (cond (eqb (get_or f w.at 0) 0x17)
    (noted w (w.at + 3))
    (bound w (w.at + 3) (get_or f (w.at + 2) 0) x rises)))

-- the same, the field read from the event; one that never arrived does not rise
unfoldable pub clause_at : List ℕ → List ℕ → List Bool → Values → Walked → Walked
clause_at f prior rises event w =
    clause_on f prior (met w (present event (get_or f (w.at + 1) 0))) (field event (get_or f (w.at + 1) 0))
    (get_or rises (get_or f (w.at + 1) 0) false && present event (get_or f (w.at + 1) 0))

-- the clauses from where the walk stands on, up to the first byte that is no clause's command
unfoldable pub walk_from : ℕ → List ℕ → List ℕ → List Bool → Values → Walked → Walked
walk_from zero f prior rises event w = w
walk_from (suc n) f prior rises event w =
    cond (is_clause (get_or f w.at 0)) (walk_from n f prior rises event (clause_at f prior rises event w)) w

-- a walk begins behind the STEP and its target, with what the configuration holds
unfoldable pub begun : ℕ → Configuration → Walked
begun at c = record {
  at = at + 2;
  passes = true;
  due = false;
  gathers = false;
  held = c.held;
  values = c.values;
  grows = c.held;
}

-- the clauses of the STEP at an offset
unfoldable pub walked : List ℕ → ℕ → Configuration → List Bool → Values → Walked
walked f at c rises event = walk_from (suc (length f)) f c.values rises event (begun at c)

-- nothing gathered
unfoldable pub kept : List ℕ → Gained
kept ts = record { tallies = ts; rising = replicate 4 true; unchanged = replicate 4 true }

-- list i gains a field's value x; `new` says that no value of the list equals it
unfoldable pub gaining : Gained → ℕ → ℕ → Bool → Bool → Gained
gaining g i x rises new = record {
  tallies = tally_add g.tallies i x new;
  rising = set g.rising i (get_or g.rising i false && rises);
  unchanged = set g.unchanged i false;
}

-- a GATHER of field k's value x into the list written o; `fresh` says at i * 8 + k that no value of list i equals it
unfoldable pub gathered : Gained → ℕ → ℕ → ℕ → Bool → List Bool → Gained
gathered g k o x rises fresh = cond (ltb (o - 8) 4) (gaining g (o - 8) x rises (get_or fresh ((o - 8) * 8 + k) false)) g

-- the clause at a place
unfoldable pub gain_at : List ℕ → List Bool → List Bool → Values → ℕ → Gained → Gained
gain_at f fresh rises event p g =
    cond (eqb (get_or f p 0) 0x17)
    (gathered g (get_or f (p + 1) 0) (get_or f (p + 2) 0) (field event (get_or f (p + 1) 0))
    (get_or rises (get_or f (p + 1) 0) false && present event (get_or f (p + 1) 0)) fresh)
    g

-- the clauses from a place on, up to the first byte that is no clause's command
unfoldable pub gain_from : ℕ → List ℕ → List Bool → List Bool → Values → ℕ → Gained → Gained
gain_from zero f fresh rises event p g = g
gain_from (suc n) f fresh rises event p g =
    cond (is_clause (get_or f p 0)) (gain_from n f fresh rises event (p + width_of (get_or f p 0)) (gain_at f fresh rises event p g)) g

-- what the clauses of the STEP at an offset gather, from these tallies on
unfoldable pub gained : List ℕ → ℕ → List ℕ → List Bool → List Bool → Values → Gained
gained f at ts fresh rises event = gain_from (suc (length f)) f fresh rises event (at + 2) (kept ts)

-- one added to a state's counter; a counter stops at 4294967295
unfoldable pub raised : List ℕ → ℕ → List ℕ
raised counters s = set counters s (min (get_or counters s 0 + 1) 4294967295)

-- what a step leaves: its target, what the walk has bound, the counters raised, what it has gathered
abbrev pub leaving : ℕ → Walked → List ℕ → List ℕ → Configuration
leaving target w counters ts = record { state = target; held = w.held; values = w.values; counters = counters; tallies = ts }

-- the guard behind the walk, with the counters raised
abbrev pub guard_behind : List ℕ → Walked → List ℕ → List ℕ → Bool
guard_behind f w counters ts = guard_at (leaf_value w.values counters ts) f w.at

-- whether a step fires, and the configuration that it leaves
pub record Firing : Type 0 where
  pub fires : Bool
  pub config : Configuration

-- the same as an answer: the configuration that it leaves, Ok where it fires, else Err
abbrev pub firing_of : Firing → Result Configuration Configuration
firing_of x = cond x.fires (Ok x.config) (Err x.config)

-- a step that a clause keeps from firing leaves the configuration
abbrev pub fired_by : List ℕ → ℕ → Configuration → Walked → List ℕ → List ℕ → Firing
fired_by f at c w counters ts = record {
  fires = w.passes && guard_behind f w counters ts;
  config = cond w.passes (leaving (get_or f (at + 1) 0) w counters ts) c;
}

-- whether the STEP at an offset fires, and the configuration that it leaves; past the end there is no step
unfoldable pub fired : List ℕ → ℕ → Configuration → List Bool → Values → Firing
fired f at c fresh event =
    cond (leb (length f) at) (record { fires = false; config = c })
    (fired_by f at c (walked f at c (replicate 8 false) event) (raised c.counters c.state)
    (gained f at c.tallies fresh (replicate 8 false) event).tallies)

-- the configuration that the code holds, with its lists, which it does not hold
abbrev pub config_of : List (List ℕ) → Configuration → Config
config_of ls c = record { state = c.state; held = c.held; values = c.values; counters = c.counters; lists = ls }

-- the leaves that are falling behind a step, by the variables held before it, and those that are rising, by the variables that grow
abbrev pub falling : List Bool → Gained → Marks
falling held g = record { variables = held; sums = g.unchanged; differents = g.unchanged }

abbrev pub growing : List Bool → Gained → Marks
growing grows g = record { variables = grows; sums = g.rising; differents = g.unchanged }

abbrev pub falls_behind : List ℕ → ℕ → List Bool → List Bool → Gained → Bool
falls_behind f p held grows g = falls_at (leaf_marked (falling held g)) (leaf_marked (growing grows g)) f p

-- the STEP at an offset is expired by an event's values; past the end there is no step
abbrev pub lapsed_by : List ℕ → List Bool → Walked → List ℕ → Gained → Bool
lapsed_by f held w counters g = w.due || (falls_behind f w.at held w.grows g && not (guard_behind f w counters g.tallies))

unfoldable pub lapsed : List ℕ → ℕ → Configuration → List Bool → List Bool → Values → Bool
lapsed f at c fresh rises event =
    cond (leb (length f) at) true
    (lapsed_by f c.held (walked f at c rises event) (raised c.counters c.state) (gained f at c.tallies fresh rises event))

-- where step k of state s stands, by the table of offsets; 0 where there is none
unfoldable pub offset_of : List ℕ → ℕ → ℕ → ℕ
offset_of table s k = cond (leb 8 k) 0 (get_or table (s * 8 + k) 0)

unfoldable pub is_step : List ℕ → ℕ → Bool
is_step f at = cond (eqb at 0) false (ltb at (length f))

-- step k of the configuration's state fires on the event; it is expired by its values, as is one that is not there
unfoldable pub fires_at : List ℕ → List ℕ → Configuration → List Bool → Values → ℕ → Bool
fires_at f table c fresh event k = is_step f (offset_of table c.state k) && (fired f (offset_of table c.state k) c fresh event).fires

unfoldable pub expires_at : List ℕ → List ℕ → Configuration → List Bool → List Bool → Values → ℕ → Bool
expires_at f table c fresh rises event k = not (is_step f (offset_of table c.state k)) || lapsed f (offset_of table c.state k) c fresh rises event

-- "the lowest numbered step that fires": the first of n numbers from k on that passes the test, else the number behind them
unfoldable pub lowest_from : (ℕ → Bool) → ℕ → ℕ → ℕ
lowest_from p k zero = k
lowest_from p k (suc n) = cond (p k) k (lowest_from p (suc k) n)

-- among the 8 steps of a state; 8 where none fires
unfoldable pub lowest_of : (ℕ → Bool) → ℕ
lowest_of p = lowest_from p 0 8

-- some of the first n steps is not expired
unfoldable pub alive_below : (ℕ → Bool) → ℕ → Bool
alive_below p zero = false
alive_below p (suc n) = not (p n) || alive_below p n
