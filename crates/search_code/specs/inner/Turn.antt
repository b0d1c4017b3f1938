-- What the functions of a search are asked: what one event does, and the search from a start.
use Rattle.std.specs.Prelude.{ℕ, zero, suc, ◌-◌, ◌≤◌, ◌<◌, ◌≡◌, Bool, cond, List, [], length, get_or, eqb, Result}
use Rattle.std.proofs.Math.Option.{none, some}
use Rattle.base.specs.Lists.{pad}
use Rattle.refusal.specs.declared.Refusal.{Refusal}
use Rattle.event_log.specs.Log.{Log}
use Rattle.event_log.specs.declared.Event.{Event}
use Rattle.event_log.specs.declared.LogReading.{LogReading}
use Rattle.event_log.specs.declared.Latest.{Latest}
use Rattle.event_log.specs.Arrays.{latest_of}
use Rattle.event_log.specs.inner.Loading.{loaded_at, marked_at, Leads}
use Rattle.event_log.specs.inner.Carrying.{later_of}
use Rattle.formula.specs.Formula.{Formula}
use Rattle.formula_code.specs.declared.FormulaReading.{FormulaReading}
use Rattle.runs.specs.Order.{events, numbers}
use Rattle.runs.specs.inner.Search as Runs
use Rattle.runs.specs.inner.Settle.{settle}
use Rattle.machine.specs.Machine.{machine}
use Rattle.slots.specs.declared.Thread.{Thread}
use Rattle.slots.specs.inner.Threads.{trail_of}
use Rattle.threads.specs.declared.Rules.{Rules}
use Rattle.threads.specs.declared.Moment.{Moment}
use Rattle.threads.specs.declared.Seats.{Seats}
use Rattle.threads.specs.declared.scene.Scene as Code
use Rattle.threads.specs.inner.Setting.{Setting, Loads, Stands, Fit, thread}
use Rattle.threads.specs.inner.Event.{Kept, waiting_in}
use Rattle.search.specs.declared.Verdict.{Verdict}
use Rattle.search.specs.declared.Verdict.TheVariants.{Accept, Reject}
use Rattle.search.specs.declared.SearchAnswer.{SearchAnswer}
use Rattle.search_code.specs.declared.Turn.{Turn}
use Rattle.search_code.specs.declared.Turn.TheVariants.{Found, Crowded, Waiting}
use Rattle.search_code.specs.declared.Scope.{Scope}
use Rattle.search.specs.Search.{answer_of}

-- the last present values behind the event at a place, from those before it: none behind a clock mark
abbrev pub seen_next : List ℕ → ℕ → ℕ → Latest → Latest
seen_next l fields at seen = cond (marked_at l (loaded_at l fields at).next) (latest_of []) (later_of seen (loaded_at l fields at).event)

-- the last present values before event n, of the events that a table of places leads to
unfoldable pub seen_to : List ℕ → List ℕ → ℕ → ℕ → Latest
seen_to l places fields zero = latest_of []
seen_to l places fields (suc n) = seen_next l fields (get_or places n 0) (seen_to l places fields n)

-- where the stretch of event n ends, if so many events are left: behind the first of them that a clock mark follows
unfoldable pub end_to : List ℕ → List ℕ → ℕ → ℕ → ℕ → ℕ
end_to l places fields zero n = n
end_to l places fields (suc f) n = cond (marked_at l (loaded_at l fields (get_or places n 0)).next) (suc n) (end_to l places fields f (suc n))

-- event n, judged by the last present values up to it: `seen` has those before it
abbrev pub moment_of : ℕ → Latest → Event → Moment
moment_of n seen e = record { number = n; event = e; latest = later_of seen e }

-- "kind .. 2 accept, 3 reject": what a run that ends in a state says, by the kinds of the states
abbrev pub verdict_at : List ℕ → ℕ → Verdict
verdict_at kinds state = cond (eqb (get_or kinds state 0) 2) Accept Reject

-- the answer that names a thread's trail as the run
abbrev pub named_answer : List ℕ → Thread → ℕ → SearchAnswer
named_answer kinds t width =
    record {
      verdict = verdict_at kinds t.config.state;
      steps = length (trail_of t);
      events = pad 32 0 (events (trail_of t));
      numbers = pad 32 0 (numbers (trail_of t));
      held = t.config.held;
      values = t.config.values;
      width = width;
    }

-- what one event does to a search: the least run that ends on it; crowded; or the next waiting list
abbrev pub TurnTo : (g : Log) (fm : Formula) (half count slots n : ℕ) (before after : List ℕ) → Turn → Type 0
TurnTo g fm half count slots n before after (Found t) =
    (Runs.least (machine g fm) (Runs.endings (machine g fm) n (waiting_in g fm half count before)) ≡ some (thread g fm t)) × Fit g fm t
TurnTo g fm half count slots n before after Crowded =
    (Runs.least (machine g fm) (Runs.endings (machine g fm) n (waiting_in g fm half count before)) ≡ none)
    × (settle (machine g fm) slots n (waiting_in g fm half count before) ≡ none)
TurnTo g fm half count slots n before after (Waiting more) =
    (Runs.least (machine g fm) (Runs.endings (machine g fm) n (waiting_in g fm half count before)) ≡ none)
    × (settle (machine g fm) slots n (waiting_in g fm half count before) ≡ some (waiting_in g fm half more after))
    × Kept g fm half more after

abbrev pub TurnIs : Code.Scene → Seats → List ℕ → List ℕ → Turn → Type 0
TurnIs s z before after r =
    (g : Log) (fm : Formula) → Stands g fm s → Kept g fm z.half z.count before → TurnTo g fm z.half z.count z.slots s.moment.number before after r

-- the same, from the table of the formula's steps
abbrev pub TurnOf : List ℕ → List ℕ → List ℕ → List ℕ → Rules → Moment → Seats → List ℕ → List ℕ → Turn → Type 0
TurnOf l places f steps rules m s before after r =
    (g : Log) (fm : Formula) → Setting g fm f steps rules → Leads l places g → Loads g m → Kept g fm s.half s.count before
    → TurnTo g fm s.half s.count s.slots m.number before after r

-- a next waiting list has at most as many threads as there are slots
abbrev pub Fits : ℕ → Turn → Type 0
Fits slots (Found t) = Unit {0}
Fits slots Crowded = Unit {0}
Fits slots (Waiting more) = more ≤ slots

-- what the readers of two accepted files say of a search with so many slots
abbrev pub scope_of : LogReading → FormulaReading → List Bool → ℕ → Scope
scope_of log formula lasting slots =
    record {
      events = log.events;
      rules = record { kinds = formula.kinds; rises = log.rises; fields = log.fields; lasting = lasting };
      slots = slots;
    }

-- a log and a formula, as the readers of two accepted files hand them on: the table of places leads to the log's events, and the bytes
-- are those of the formula
pub record Given (g : Log) (fm : Formula) (l places f table : List ℕ) (scope : Scope) : Type 0 where
  pub setting : Setting g fm f table scope.rules
  pub leads : Leads l places g
  pub events_are : scope.events ≡ length g.events

-- where the stretch of a start ends
abbrev pub stretch_end : List ℕ → List ℕ → Scope → ℕ → ℕ
stretch_end l places scope start = end_to l places scope.rules.fields (scope.events - start) start

-- what a search from a start is told: it is an event of the log, where its stretch ends, and the last present values before it
pub record Told (l places : List ℕ) (scope : Scope) (start end : ℕ) (seen : Latest) : Type 0 where
  pub there : start < scope.events
  pub end_is : end ≡ stretch_end l places scope start
  pub seen_is : seen ≡ seen_to l places scope.rules.fields start

-- the search's answer
abbrev pub SearchedFrom : List ℕ → List ℕ → List ℕ → List ℕ → Scope → ℕ → ℕ → Latest → Result SearchAnswer Refusal → Type 0
SearchedFrom l places f table scope start end seen r =
    (g : Log) (fm : Formula) → Given g fm l places f table scope → Told l places scope start end seen
    → r ≡ answer_of g fm (Runs.search (machine g fm) scope.slots start)
