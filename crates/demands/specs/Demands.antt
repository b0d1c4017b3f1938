-- The three demands, over what the public entries answer and leave, in the words of the paper. proofs/Demands.antt has a theorem for each:
-- whatever meets the contract of `read_log`, `read_formula`, `search` or `analyse` meets the demand, for all bytes, starts and lent words.
use Rattle.std.specs.Prelude.{ℕ, suc, ◌+◌, ◌-◌, ◌*◌, ◌/◌, ◌%◌, ◌^◌, ◌≤◌, ◌<◌, ◌≡◌, ◌↔◌, ◌⊎◌, true, false, cond, length, get_or, drop, replicate, Result, Ok, Err, IsOk, IsOkAnd, IfOk}
use mathlib.Core.List.{List, [], ◌∷◌, ◌++◌, flat_map, map}
use Rattle.base.specs.Lists.{All, pad}
use Rattle.refusal.specs.declared.Refusal.{Refusal}
use Rattle.refusal.specs.declared.Refusal.TheVariants.{Outside, Short, Crowded, AbsentState}
use Rattle.refusal.specs.Refusals.{report_of, NotCrowded}
use Rattle.event_log.specs.declared.LogReading.{LogReading}
use Rattle.event_log.specs.Log.{Event, Log, event_at, stretch_at}
use Rattle.event_log.specs.File.{Payload, values_of, Entry, event, LogFile, events_of, marks_of, log_of}
use Rattle.event_log.specs.Correct as LogCorrect
use Rattle.event_log.specs.Encode as LogEncode
use Rattle.event_log.specs.Event.{event_place}
use Rattle.event_log.specs.Read.{rises, ReadsLog}
use Rattle.formula.specs.Formula.{Formula}
use Rattle.formula.specs.Correct as FormulaCorrect
use Rattle.formula.specs.Absent.{AbsentAt}
use Rattle.formula.specs.Encode as FormulaEncode
use Rattle.formula.specs.Located.{StepBegins, Located}
use Rattle.formula.specs.Lookup.{tied_mask}
use Rattle.formula_code.specs.declared.FormulaReading.{FormulaReading}
use Rattle.formula_code.specs.Answer.{kinds_of, ReadsFormula}
use Rattle.runs.specs.Lists.{In}
use Rattle.runs.specs.Run.{Trail, last, Run}
use Rattle.runs.specs.Order.{events, numbers, Later}
use Rattle.runs.specs.Waiting.{Count}
use Rattle.runs.specs.Demand as Runs
use Rattle.machine.specs.Configuration.{Config}
use Rattle.machine.specs.Machine.{machine, accepting}
use Rattle.search.specs.declared.Verdict.{Verdict}
use Rattle.search.specs.declared.Verdict.TheVariants as SearchIs
use Rattle.search.specs.declared.SearchAnswer.{SearchAnswer}
use Rattle.search.specs.Search.{without, refusal, search_answer}
use Rattle.search.specs.Call.{Searched}
use Rattle.analysis.specs.Call.{Analyses, row_at}
use Rattle.exports.specs.declared.Refused.{Refused}
use Rattle.exports.specs.declared.LogRead.{LogRead}
use Rattle.exports.specs.declared.Found.{Found}
use Rattle.exports.specs.Exports.{exported_log, exported_search, refusal_in}

-- THE FILES

-- the file l is the encoding of the correct log file t
pub record IsLog (l : List ℕ) (t : LogFile) : Type 0 where
  pub correct : LogCorrect.Correct t
  pub encoded : l ≡ LogEncode.encode t

-- the file f is the encoding of the formula fm, correct for a log with so many fields
pub record IsFormula (fields : ℕ) (f : List ℕ) (fm : Formula) : Type 0 where
  pub correct : FormulaCorrect.Correct fields fm
  pub encoded : f ≡ FormulaEncode.encode fm

-- FIRST DEMAND: every file is accepted or refused with file, number and place; a refusal leaves every lent word alone.

-- "An answer names the file (1 log, 2 formula, 3 the call), the number and the place": of a file with so many bytes
pub record Told (file : ℕ) (allowed : List ℕ) (size : ℕ) (why : Refusal) : Type 0 where
  pub names_file : (report_of why).file ≡ file
  pub names_number : In (report_of why).number allowed
  pub names_place : (report_of why).place ≤ size

-- a file with so many bytes is accepted, or refused with file, one of the numbers allowed, and place
pub data FirstOfFile (A : Type 0) (file : ℕ) (allowed : List ℕ) (size : ℕ) (r : Result A Refusal) : Type 0 where
  accepted : (a : A) → r ≡ Ok a → FirstOfFile A file allowed size r
  refused : (why : Refusal) → r ≡ Err why → Told file allowed size why → FirstOfFile A file allowed size r

-- a log: file 1, a number from 1 to 6
abbrev pub FirstOfLog : List ℕ → Result LogReading Refusal → Type 0
FirstOfLog l r = FirstOfFile LogReading 1 (1 ∷ 2 ∷ 3 ∷ 4 ∷ 5 ∷ 6 ∷ []) (length l) r

-- a formula: file 2, a number from 1 to 5, 7, 8, 12 or 13
abbrev pub FirstOfFormula : List ℕ → Result FormulaReading Refusal → Type 0
FirstOfFormula f r = FirstOfFile FormulaReading 2 (1 ∷ 2 ∷ 3 ∷ 4 ∷ 5 ∷ 7 ∷ 8 ∷ 12 ∷ 13 ∷ []) (length f) r

-- 13 'absent state', "A STEP or COUNT naming a state that the file doesn't declare gets its own number"
pub record SaysAbsentState (r : Result FormulaReading Refusal) : Type 0 where
  pub place : ℕ
  pub says : r ≡ Err (AbsentState place)

-- the file is well formed up to END, nothing is left over, and some STEP or COUNT names a state that it does not declare
pub record HasAbsentState (fields : ℕ) (f : List ℕ) : Type 0 where
  pub place : ℕ
  pub is : AbsentAt fields f place

pub record AbsentOfFormula (f : List ℕ) (fields : ℕ) (r : Result FormulaReading Refusal) : Type 0 where
  pub exactly : SaysAbsentState r ↔ HasAbsentState fields f
  -- "its place is still that command", the first of them
  pub there : (p : ℕ) → r ≡ Err (AbsentState p) → AbsentAt fields f p
  pub first : (p q : ℕ) → r ≡ Err (AbsentState p) → AbsentAt fields f q → p ≤ q

-- both readers accept; a and b are their answers
pub record Accepted (l f : List ℕ) (a : LogReading) (b : FormulaReading) : Type 0 where
  pub log : ReadsLog l (Ok a)
  pub formula : ReadsFormula f a.fields (Ok b)

-- what a call's two readers refuse it with: "A call checks the log, the formula, .."
pub data FileRefused (l f : List ℕ) (why : Refusal) : Type 0 where
  by_log : ReadsLog l (Err why) → FileRefused l f why
  by_formula : (a : LogReading) → ReadsLog l (Ok a) → ReadsFormula f a.fields (Err why) → FileRefused l f why

-- a search: "A call checks the log, the formula, 9 (search only), 10 for work words, .., then runs"
pub record FirstOfSearch (l f : List ℕ) (start : ℕ) (work after : List ℕ) (r : Result SearchAnswer Refusal) : Type 0 where
  pub file : (why : Refusal) → FileRefused l f why → r ≡ refusal why
  pub outside : (a : LogReading) (b : FormulaReading) → Accepted l f a b → a.events ≤ start → r ≡ refusal (Outside start)
  pub short : (a : LogReading) (b : FormulaReading) → Accepted l f a b → start < a.events → length work < 192 → r ≡ refusal (Short 192)
  pub runs : (a : LogReading) (b : FormulaReading) → Accepted l f a b → start < a.events → 192 ≤ length work → (why : Refusal)
      → r ≡ Err why → NotCrowded why → ⊥
  -- refused, but not with crowded, leaves every lent word alone; no call makes them more or fewer
  pub untouched : (why : Refusal) → r ≡ Err why → NotCrowded why → after ≡ work
  pub number : length after ≡ length work

-- an analysis: "A call checks the log, the formula, .. 10 for work words, 10 for rows (analysis only), then runs"
pub record FirstOfAnalysis (l f work work-after rows rows-after : List ℕ) (r : Result Unit Refusal) : Type 0 where
  pub file : (why : Refusal) → FileRefused l f why → r ≡ Err why
  pub short_work : (a : LogReading) (b : FormulaReading) → Accepted l f a b → length work < 192 → r ≡ Err (Short 192)
  pub short_rows : (a : LogReading) (b : FormulaReading) → Accepted l f a b → 192 ≤ length work → length rows < 12 * a.events
      → r ≡ Err (Short (12 * a.events))
  pub runs : (a : LogReading) (b : FormulaReading) → Accepted l f a b → 192 ≤ length work → 12 * a.events ≤ length rows → (why : Refusal)
      → r ≡ Err why → NotCrowded why → ⊥
  -- refused, but not with crowded, leaves every lent word alone; no call makes them more or fewer
  pub untouched : (why : Refusal) → r ≡ Err why → NotCrowded why → (work-after ≡ work) × (rows-after ≡ rows)
  pub number : (length work-after ≡ length work) × (length rows-after ≡ length rows)
  -- crowded touches no word of the rows from that start on (the rows before it are the third demand's)
  pub rest : (i : ℕ) → r ≡ Err (Crowded i) → drop (12 * i) rows-after ≡ drop (12 * i) rows

-- SECOND DEMAND: a reader accepts exactly when the file is the encoding of a correct log (formula), and reads it as that one; events count in
-- recorded order.

pub record SomeLog (l : List ℕ) : Type 0 where
  pub file : LogFile
  pub is : IsLog l file

pub record SomeFormula (fields : ℕ) (f : List ℕ) : Type 0 where
  pub formula : Formula
  pub is : IsFormula fields f formula

-- event n of the log is the n-th EVENT command of the file, 02 or 03, from 0: behind all FIELDs, n EVENTs and some clock marks, whatever its values; what it
-- sends are the event's values, none for an absent field, and the marks before it tell its stretch; event numbers run through the whole log
pub record Recorded (l : List ℕ) (t : LogFile) (n : ℕ) : Type 0 where
  pub before : List Entry
  pub sent : Payload
  pub behind : List ℕ
  pub values : values_of sent ≡ (event_at (log_of t) n).values
  pub marks : marks_of before ≡ stretch_at (log_of t) n
  pub count : length (events_of before) ≡ n
  pub whole : All (λ (e : Event). length e.values ≡ length t.fields) (events_of before)
  pub stands : l ≡ flat_map LogEncode.encode_field t.fields
      ++ (flat_map LogEncode.encode_entry before ++ (LogEncode.encode_entry (event sent) ++ behind))

pub record SecondOfLog (l : List ℕ) (r : Result LogReading Refusal) : Type 0 where
  pub accepts : IsOk r ↔ SomeLog l
  pub one : (t u : LogFile) → IsLog l t → IsLog l u → t ≡ u
  pub fields : (t : LogFile) → IsLog l t → IsOkAnd r (λ a. a.fields ≡ length t.fields)
  pub rising : (t : LogFile) → IsLog l t → IsOkAnd r (λ a. a.rises ≡ pad 8 false (map rises t.fields))
  pub events : (t : LogFile) → IsLog l t → IsOkAnd r (λ a. a.events ≡ length (log_of t).events)
  -- where each event begins
  pub places : (t : LogFile) → IsLog l t → (n : ℕ) → n < length (log_of t).events → IsOkAnd r (λ a. get_or a.places n 0 ≡ event_place t n)
  -- "Nothing is ever sorted"
  pub recorded : (t : LogFile) → IsLog l t → (n : ℕ) → n < length (log_of t).events → Recorded l t n

pub record SecondOfFormula (f : List ℕ) (fields : ℕ) (r : Result FormulaReading Refusal) : Type 0 where
  pub accepts : IsOk r ↔ SomeFormula fields f
  pub one : (g h : Formula) → IsFormula fields f g → IsFormula fields f h → g ≡ h
  pub states : (fm : Formula) → IsFormula fields f fm → IsOkAnd r (λ a. a.states ≡ length fm.states)
  pub state_kinds : (fm : Formula) → IsFormula fields f fm → IsOkAnd r (λ a. a.kinds ≡ kinds_of fm.states)
  pub tied : (fm : Formula) → IsFormula fields f fm → IsOkAnd r (λ a. a.tied ≡ tied_mask fm)

-- where its steps begin (a refused file has no table): "a table proved to give, for every state and step number, the offset of that STEP or that there is none"
pub record StepsOfFormula (f : List ℕ) (fields : ℕ) (r : Result FormulaReading Refusal) : Type 0 where
  -- step k of state s has entry s * 8 + k: the offset of that STEP, or 0, which is no STEP's offset, where there is none
  pub entries : IfOk r (λ a. length a.table ≡ 128)
  pub located : (fm : Formula) → IsFormula fields f fm → (s k : ℕ) → s < 16 → k < 8 → IsOkAnd r (λ a. Located fm s k (get_or a.table (s * 8 + k) 0))
  -- every STEP of the file has its entry, and at the offset stands its byte
  pub entered : (fm : Formula) → IsFormula fields f fm → (s k p : ℕ) → StepBegins fm s k p
      → IsOkAnd r (λ a. (s < 16) × (k < 8) × (get_or a.table (s * 8 + k) 0 ≡ p) × (get_or f p 0 ≡ 0x11))

-- the events that a search names begin with the start and rise by their number, whatever their values are
pub record SecondOfSearch (start : ℕ) (r : SearchAnswer) : Type 0 where
  pub begins : 0 < r.steps → get_or r.events 0 0 ≡ start
  pub rise : (k : ℕ) → suc k < r.steps → get_or r.events k 0 < get_or r.events (suc k) 0

-- the search's answer is not refused, and none, accept or reject
abbrev pub Says : Result SearchAnswer Refusal → Verdict → Type 0
Says s v = IsOkAnd s (λ a. a.verdict ≡ v)

-- what it tells beside that; a refusal tells nothing
abbrev pub tells : Result SearchAnswer Refusal → SearchAnswer
tells (Ok a) = a
tells (Err why) = without 0

-- the search's answer is 'crowded'
pub record SaysCrowded (s : Result SearchAnswer Refusal) : Type 0 where
  pub place : ℕ
  pub says : s ≡ Err (Crowded place)

-- THIRD DEMAND, SEARCH: "at any event of an accepted log, with one seat or more". A log, a formula, so many seats, a start below the event
-- count. Runs (`Run`) and what waits (`Count`) are of all events of the log: "No run has events on both sides of a mark, and no configuration waits
-- across one" is a line of each.
module _ (g : Log) (fm : Formula) (seats start : ℕ) where
  -- "after some event from there on more configurations wait than there are seats and no run has ended by then"
  pub record SomeCrowded : Type 0 where
    pub event : ℕ
    pub crowded : Runs.Crowded (machine g fm) seats start event

  -- "there is no run of at most 32 steps"
  abbrev pub NoRun : Type 0
  NoRun = (t : Trail) (c : Config) → Run (machine g fm) start t c → ⊥

  -- "it names a run, and every other run ends later, or ends with it and has the later event at the first difference, or the same events and
  -- the higher step number at the first difference"; "the width is the largest count waiting, before the run's last event"
  pub record Names (s : SearchAnswer) : Type 0 where
    pub trail : Trail
    pub config : Config
    pub run : Run (machine g fm) start trail config
    pub least : (u : Trail) (d : Config) → Run (machine g fm) start u d → (u ≡ trail) ⊎ Later trail u
    pub verdict : s.verdict ≡ cond (accepting fm config) SearchIs.Accept SearchIs.Reject
    -- "(step count, events, step numbers, held variables; unused entries 0)"
    pub steps : s.steps ≡ length trail
    pub event_list : s.events ≡ pad 32 0 (events trail)
    pub number_list : s.numbers ≡ pad 32 0 (numbers trail)
    pub held : s.held ≡ config.held
    pub values : s.values ≡ config.values
    pub unused : (v : ℕ) → get_or s.held v false ≡ false → get_or s.values v 0 ≡ 0
    pub width : Runs.Peak (machine g fm) start (last trail) s.width

  -- after event n exactly k configurations wait, and no other number does
  pub record Counted (n : ℕ) : Type 0 where
    pub count : ℕ
    pub is : Count (machine g fm) start n count
    pub only : (k : ℕ) → Count (machine g fm) start n k → k ≡ count

  pub record ThirdOfSearch (s : Result SearchAnswer Refusal) : Type 0 where
    -- every event from the start on has exactly one count, so that no clause below is empty
    pub counted : (n : ℕ) → start ≤ n → n < length g.events → Counted n
    -- "a search answers 'crowded' exactly when .."; its place is the first such event, and a refusal is all that is told
    pub crowded : SaysCrowded s ↔ SomeCrowded
    pub first : (n : ℕ) → s ≡ Err (Crowded n) → Runs.FirstCrowded (machine g fm) seats start n
    -- "otherwise 'none' exactly when there is no run of at most 32 steps"
    pub none : (SomeCrowded → ⊥) → Says s SearchIs.Absent ↔ NoRun
    -- then nothing is named, and the width is the largest count waiting after any event from the start
    pub nothing : Says s SearchIs.Absent → IsOkAnd s (λ a. (a ≡ without a.width) × Runs.Peak (machine g fm) start (length g.events) a.width)
    -- "otherwise it names a run"
    pub named : (SomeCrowded → ⊥) → (NoRun → ⊥) → IsOkAnd s Names
    -- the width is "at most the seats"
    pub within : IfOk s (λ a. a.width ≤ seats)

-- THIRD DEMAND, ROWS: "rows are alert, subsumed, rejected, none exactly as defined", by the search's answer from each start with the same seats.
-- The files and the number of work words.
module _ (l f : List ℕ) (words : ℕ) where
  -- the search's answer from start i, and what it tells
  abbrev pub answer : ℕ → Result SearchAnswer Refusal
  answer i = search_answer l f i words

  abbrev pub told : ℕ → SearchAnswer
  told i = tells (answer i)

  -- it names a run, accepting or rejecting; the run's last event
  abbrev pub NamesRun : ℕ → Type 0
  NamesRun i = Says (answer i) SearchIs.Accept ⊎ Says (answer i) SearchIs.Reject

  abbrev pub last_event : ℕ → ℕ
  last_event i = get_or (told i).events ((told i).steps - 1) 0

  -- "every tied variable is held by both with one value" (the same tied values), of one variable v: the runs from i, the earlier start, and j
  pub record SameValue (i j v : ℕ) : Type 0 where
    pub earlier_holds : get_or (told i).held v false ≡ true
    pub this_holds : get_or (told j).held v false ≡ true
    pub one_value : get_or (told i).values v 0 ≡ get_or (told j).values v 0

  -- .. and the formula that f holds
  module _ (fm : Formula) where
    -- "an earlier start's named run, accepting or rejecting, ends at or after this start (overlaps it)", and "every tied variable is held by
    -- both with one value"; without TIED overlap alone
    pub record Overlapped (i : ℕ) : Type 0 where
      pub start : ℕ
      pub earlier : start < i
      pub run : NamesRun start
      pub overlaps : i ≤ last_event start
      pub tied : (v : ℕ) → In v fm.tied → SameValue start i v

    -- "verdict (0 none, 1 alert, 2 subsumed, 3 rejected)": what the row r of start i says
    pub record RowSays (i : ℕ) (r : List ℕ) : Type 0 where
      pub twelve : length r ≡ 12
      pub none : (get_or r 0 0 ≡ 0) ↔ Says (answer i) SearchIs.Absent
      -- "An accepting run is subsumed if ..; otherwise it is an alert"
      pub alert : (get_or r 0 0 ≡ 1) ↔ (Says (answer i) SearchIs.Accept × (Overlapped i → ⊥))
      pub subsumed : (get_or r 0 0 ≡ 2) ↔ (Says (answer i) SearchIs.Accept × Overlapped i)
      -- "A rejecting one is rejected"
      pub rejected : (get_or r 0 0 ≡ 3) ↔ Says (answer i) SearchIs.Reject
      -- "A none row is all 0"
      pub blank : Says (answer i) SearchIs.Absent → r ≡ replicate 12 0
      -- "Any other row holds its start's named run, the least": "last event, steps, a mask with bit v set if variable v is held, eight values (0
      -- if not held)"
      pub names_last_event : NamesRun i → get_or r 1 0 ≡ last_event i
      pub steps : NamesRun i → get_or r 2 0 ≡ (told i).steps
      pub mask : NamesRun i → (v : ℕ) → v < 8 → get_or r 3 0 / 2 ^ v % 2 ≡ cond (get_or (told i).held v false) 1 0
      pub eight_bits : get_or r 3 0 < 256
      pub values : NamesRun i → (v : ℕ) → v < 8 → get_or r (4 + v) 0 ≡ get_or (told i).values v 0

    -- an analysis of so many events, with these row words before and after it
    pub record ThirdOfRows (count : ℕ) (rows after : List ℕ) (r : Result Unit Refusal) : Type 0 where
      -- every start is searched in order: refused with 11 exactly at the first that is crowded, done exactly where none is
      pub crowded : (i : ℕ) → (r ≡ Err (Crowded i)) ↔ ((i < count) × SaysCrowded (answer i) × ((j : ℕ) → j < i → SaysCrowded (answer j) → ⊥))
      pub done : (r ≡ Ok tt) ↔ ((i : ℕ) → i < count → SaysCrowded (answer i) → ⊥)
      -- a row for every start, "On 11 the rows before that start are written"
      pub written : (i : ℕ) → i < count → ((j : ℕ) → j ≤ i → SaysCrowded (answer j) → ⊥) → RowSays i (row_at after i)
      -- "and the rest is untouched"
      pub rest : (i : ℕ) → r ≡ Err (Crowded i) → drop (12 * i) after ≡ drop (12 * i) rows
      -- "Rows need 12 words an event; further words stay untouched"
      pub further : drop (12 * count) after ≡ drop (12 * count) rows
      pub number : length after ≡ length rows

-- THE STATIC LIBRARY: each function hands on, as numbers, an answer that meets the entry's contract, and so the demands.
pub record HandsOnLog (l : List ℕ) (r : LogRead) : Type 0 where
  pub reading : Result LogReading Refusal
  pub contract : ReadsLog l reading
  pub numbers_are : r ≡ exported_log reading

pub record HandsOnFormula (f : List ℕ) (fields : ℕ) (r : Refused) : Type 0 where
  pub reading : Result FormulaReading Refusal
  pub contract : ReadsFormula f fields reading
  pub numbers_are : r ≡ refusal_in reading

pub record HandsOnSearch (l f : List ℕ) (start : ℕ) (work after : List ℕ) (r : Found) : Type 0 where
  pub found : Result SearchAnswer Refusal
  pub contract : Searched l f start work after found
  pub numbers_are : r ≡ exported_search found

pub record HandsOnAnalysis (l f work work-after rows rows-after : List ℕ) (r : Refused) : Type 0 where
  pub outcome : Result Unit Refusal
  pub contract : Analyses l f work work-after rows rows-after outcome
  pub numbers_are : r ≡ refusal_in outcome
