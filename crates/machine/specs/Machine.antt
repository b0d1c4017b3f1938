-- The machine that a log and a formula make: its steps by number, on events by number.
use Rattle.std.specs.Prelude.{ℕ, Bool, true, false, List, length}
use Rattle.std.proofs.Math.Option.{Option, none, some}
use Rattle.std.proofs.Math.ListN.{get_elem?}
use Rattle.event_log.specs.Log.{Kind, Values, Log, event_at, stretch_at}
use Rattle.event_log.specs.Latest.{latest_at}
use Rattle.formula.specs.Formula.{Formula, State, StateKind, ordinary, committed as committed_kind, accept, reject, Step}
use Rattle.formula.specs.Correct.{is_final}
use Rattle.formula.specs.Lookup.{step_at}
use Rattle.runs.specs.Machine.{Machine}
use Rattle.machine.specs.Configuration.{Config, same, start}
use Rattle.machine.specs.Firing.{fire}
use Rattle.machine.specs.Expiry.{expired}

abbrev pub fire_by : Option Step → Config → Values → Option Config
fire_by none c e = none
fire_by (some s) c e = fire c s e

-- what step k leaves on event n, if it fires
unfoldable pub fire_at : Log → Formula → Config → ℕ → ℕ → Option Config
fire_at log formula c n k = fire_by (step_at formula c.state k) c (event_at log n).values

abbrev pub expired_by : List Kind → Option Step → Config → Values → Bool
expired_by fields none c x = true
expired_by fields (some s) c x = expired fields c s x

-- step k is expired (the paper's hopeless) after event n, "judged by the last present value up to n"; so is a step that the state lacks
unfoldable pub expired_at : Log → Formula → Config → ℕ → ℕ → Bool
expired_at log formula c k n = expired_by log.fields (step_at formula c.state k) c (latest_at log n)

abbrev pub is_committed : StateKind → Bool
is_committed ordinary = false
is_committed committed_kind = true
is_committed accept = false
is_committed reject = false

abbrev pub is_accept : StateKind → Bool
is_accept ordinary = false
is_accept committed_kind = false
is_accept accept = true
is_accept reject = false

-- the kind of state s has the property; a state that is not declared has none
abbrev pub kind_is : (StateKind → Bool) → Option State → Bool
kind_is p none = false
kind_is p (some s) = p s.kind

-- the configuration stands in a committed state; in accept or reject; in accept
unfoldable pub committed : Formula → Config → Bool
committed formula c = kind_is is_committed (get_elem? formula.states c.state)

unfoldable pub final : Formula → Config → Bool
final formula c = kind_is is_final (get_elem? formula.states c.state)

unfoldable pub accepting : Formula → Config → Bool
accepting formula c = kind_is is_accept (get_elem? formula.states c.state)

-- the machine whose runs a search looks for: at most 8 steps a state, the events of the log
abbrev pub machine : Log → Formula → Machine
machine log formula = record {
  Config = Config;
  same = same;
  start = start;
  committed = committed formula;
  final = final formula;
  fire = fire_at log formula;
  expired = expired_at log formula;
  steps = 8;
  stretch = stretch_at log;
  events = length log.events;
}
