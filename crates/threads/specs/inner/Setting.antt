-- What the functions of one event are given of the two files: the formula's bytes and what its reader and the log's reader found.
use Rattle.std.specs.Prelude.{ℕ, ◌+◌, ◌<◌, ◌≤◌, ◌≡◌, Bool, true, false, List, map, length, get_or}
use Rattle.base.specs.Lists.{All, pad}
use Rattle.event_log.specs.Log.{Log, Values, event_at}
use Rattle.event_log.specs.Arrays.{event_of, latest_of, in_event, in_latest}
use Rattle.event_log.specs.Latest.{latest_at}
use Rattle.event_log.specs.Correct as LogCorrect
use Rattle.event_log.specs.Read.{rises}
use Rattle.event_log.specs.inner.Loading.{Leads}
use Rattle.formula.specs.Formula.{Formula, State}
use Rattle.formula.specs.Encode.{encode, kind_byte}
use Rattle.formula.specs.Correct as FormulaCorrect
use Rattle.formula.specs.Lookup.{step_table}
use Rattle.machine_code.specs.declared.Configuration.{Configuration}
use Rattle.machine_code.specs.inner.Bytes.{config_of, fired, lapsed, offset_of, is_step}
use Rattle.runs.specs.Run.{Entry}
use Rattle.runs.specs.inner.Search as Runs
use Rattle.machine.specs.Configuration.{Config}
use Rattle.machine.specs.Guard.{total}
use Rattle.machine.specs.inner.Valid.{Valid}
use Rattle.machine.specs.inner.Along.{leads_to, gathered, tallies}
use Rattle.machine.specs.Machine.{machine}
use Rattle.slots.specs.declared.Thread.{Thread}
use Rattle.slots.specs.inner.Threads.{trail_of}
use Rattle.threads.specs.declared.Rules.{Rules}
use Rattle.threads.specs.declared.Moment.{Moment}
use Rattle.threads.specs.declared.scene.Scene as Code

-- the step at an offset is there and never expires, whatever the configuration and the values
pub record LastingStep (f : List ℕ) (at : ℕ) (rises : List Bool) : Type 0 where
  pub there : is_step f at ≡ true
  pub alive : (fresh : List Bool) (c : Configuration) (latest : Values) → lapsed f at c fresh rises latest ≡ false

abbrev pub LastsAt : List ℕ → ℕ → List Bool → Bool → Type 0
LastsAt f at rises r = r ≡ true → LastingStep f at rises

-- state s has such a step
pub record LastingState (f table : List ℕ) (rises : List Bool) (s : ℕ) : Type 0 where
  pub step : ℕ
  pub known : step < 8
  pub lasts : LastingStep f (offset_of table s step) rises

-- so has every state that is marked
abbrev pub LastingIs : List ℕ → List ℕ → List Bool → List Bool → Type 0
LastingIs f table rises marked = (s : ℕ) → get_or marked s false ≡ true → LastingState f table rises s

-- the table has no step of state s
abbrev pub QuietIs : List ℕ → ℕ → Bool → Type 0
QuietIs table s r = r ≡ true → (k : ℕ) → k < 8 → offset_of table s k ≡ 0

-- a correct log g and a correct formula fm against it: the formula's bytes, where its steps stand, the kinds of its states, which
-- fields rise, how many there are, and marks on states that last
pub record Setting (g : Log) (fm : Formula) (f table : List ℕ) (rules : Rules) : Type 0 where
  pub log : LogCorrect.Recorded g
  pub formula : FormulaCorrect.Correct (length g.fields) fm
  pub bytes : f ≡ encode fm
  pub table_is : table ≡ step_table fm
  pub kinds_are : rules.kinds ≡ pad 16 0 (map (λ (s : State). kind_byte s.kind) fm.states)
  pub rising_are : rules.rises ≡ pad 8 false (map rises g.fields)
  pub fields_are : rules.fields ≡ length g.fields
  pub lasting_are : LastingIs f table rules.rises rules.lasting

-- what an event's table has for a step that stands at `at`: that offset, or 0 where the step does not fire on the event, whatever
-- the configuration
pub data Firing (f : List ℕ) (event : Values) (at entry : ℕ) : Type 0 where
  stands : entry ≡ at → Firing f event at entry
  barred : entry ≡ 0 → ((fresh : List Bool) (c : Configuration) → (fired f at c fresh event).fires ≡ false) → Firing f event at entry

-- and in its second half: that offset, or 0 where the step is expired after the event, whatever the configuration
pub data Lasting (f : List ℕ) (rises : List Bool) (latest : Values) (at entry : ℕ) : Type 0 where
  lasts : entry ≡ at → Lasting f rises latest at entry
  due : entry ≡ 0 → ((fresh : List Bool) (c : Configuration) → lapsed f at c fresh rises latest ≡ true) → Lasting f rises latest at entry

-- the table of an event, from the table of the formula's steps, which its third part has as they are
pub record EventTable (f steps : List ℕ) (rises : List Bool) (m : Moment) (table : List ℕ) : Type 0 where
  pub sized : length table ≡ 384
  pub fires : (i : ℕ) → i < 128 → Firing f (in_event m.event) (get_or steps i 0) (get_or table i 0)
  pub lapses : (i : ℕ) → i < 128 → Lasting f rises (in_latest m.latest) (get_or steps i 0) (get_or table (128 + i) 0)
  pub plain : (i : ℕ) → i < 128 → get_or table (256 + i) 0 ≡ get_or steps i 0

-- the three parts before the event says anything: the table of the formula's steps, three times
pub record Wide (steps table : List ℕ) : Type 0 where
  pub sized : length table ≡ 384
  pub first : (i : ℕ) → i < 128 → get_or table i 0 ≡ get_or steps i 0
  pub second : (i : ℕ) → i < 128 → get_or table (128 + i) 0 ≡ get_or steps i 0
  pub third : (i : ℕ) → i < 128 → get_or table (256 + i) 0 ≡ get_or steps i 0

-- what is told of some steps leaves it the event's table
abbrev pub MarkedIs : List ℕ → List ℕ → List Bool → Moment → List ℕ → List ℕ → Type 0
MarkedIs f steps rises m before after = (length after ≡ length before) × (EventTable f steps rises m before → EventTable f steps rises m after)

-- the structs hold the values of the event with that number, and those by which steps are judged expired after it
pub record Loads (g : Log) (m : Moment) : Type 0 where
  pub there : m.number < length g.events
  pub event_is : m.event ≡ event_of (event_at g m.number).values
  pub latest_is : m.latest ≡ latest_of (latest_at g m.number)

-- what the functions of one event are given: the setting, the log's bytes and where its events stand, the event, and the event's table
pub record Scene (g : Log) (fm : Formula) (l places f table : List ℕ) (rules : Rules) (m : Moment) : Type 0 where
  pub setting : Setting g fm f (step_table fm) rules
  pub leads : Leads l places g
  pub loads : Loads g m
  pub offsets : EventTable f (step_table fm) rules.rises m table

-- the struct's parts are that
abbrev pub Stands : Log → Formula → Code.Scene → Type 0
Stands g fm s = Scene g fm s.log.now s.places.now s.formula.now s.table.now s.rules s.moment

-- the configuration that the struct stands for: its lists are those gathered along its trail
abbrev pub conf : Log → Formula → Thread → Config
conf g fm t = config_of (gathered g fm (trail_of t)) t.config

-- the thread that the struct stands for
abbrev pub thread : (g : Log) (fm : Formula) → Thread → Runs.Thread (machine g fm)
thread g fm t = record { config = conf g fm t; trail = trail_of t }

-- what holds of every thread that a search keeps: its configuration is one that a run reaches, its counters add up to its steps, and
-- its trail is over the log's events, leads to its state and has gathered lists with its tallies
pub record Fit (g : Log) (fm : Formula) (t : Thread) : Type 0 where
  pub trail_32 : length t.trail ≡ 32
  pub valid : Valid (length fm.states) (conf g fm t)
  pub weight : total t.config.counters ≡ t.steps
  pub most : t.steps ≤ 32
  pub inside : All (λ (x : Entry). x.event < length g.events) (trail_of t)
  pub leads : t.config.state ≡ leads_to g fm (trail_of t)
  pub tallies_are : t.config.tallies ≡ tallies (gathered g fm (trail_of t))
