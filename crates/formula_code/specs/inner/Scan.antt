-- What a reader keeps while it walks the commands of a file: the summary, the outline, the steps, and where variables and states are first named.
use Rattle.std.specs.Prelude.{ℕ, zero, suc, ◌+◌, ◌-◌, ◌*◌, ◌<◌, ◌≤◌, ◌≡◌, Bool, true, false, List, ltb, length, get_or, drop, set, replicate, Result, Ok, Err, IfOk}
use Rattle.refusal.specs.declared.File.TheVariants.{Formula as InFormula}
use Rattle.refusal.specs.declared.Refusal.{Refusal}
use Rattle.refusal.specs.declared.Refusal.TheVariants.{CutShort}
use Rattle.formula.specs.declared.Summary.{Summary}
use Rattle.closure.specs.declared.Edge.{Edge}
use Rattle.command_reader.specs.declared.Command.{Command as Kept}
use Rattle.command_reader.specs.declared.Command.TheVariants.{Tied, State, Step, Test, Testv, Bind, Gather, Guard}
use Rattle.formula_code.specs.declared.draft.Draft.{Draft}
use Rattle.formula.specs.Read.{next}
use Rattle.expression_reader.specs.inner.Places.{nowhere, noted, state_key}
use Rattle.command_reader.specs.inner.Take.{NextEnd, goes_on, ends, breaks, next_shape}

-- the stated counts are kept
pub record Counted (s : Summary) : Type 0 where
  pub tied : s.tied ≤ 8
  pub states : s.states ≤ 16
  pub steps : s.steps ≤ 8
  pub clauses : s.clauses ≤ 8

-- there is room for the command
abbrev pub Ready : Summary → Kept → Type 0
Ready s (Tied v) = (s.tied < 8) × (v < 8)
Ready s (State k) = s.states < 16
Ready s (Step t) = (0 < s.states) × (s.steps < 8)
Ready s Test = (0 < s.steps) × (s.clauses < 8)
Ready s (Testv v) = (0 < s.steps) × (s.clauses < 8) × (v < 8)
Ready s (Bind v) = (0 < s.steps) × (s.clauses < 8) × (v < 8)
Ready s (Gather v) = (0 < s.steps) × (s.clauses < 8) × (v < 4)
Ready s Guard = 0 < s.steps

-- the steps counted are those of the states before and of this one
pub record Within (s : Summary) (count : ℕ) : Type 0 where
  pub most : count ≤ (s.states - 1) * 8 + s.steps
  pub least : s.steps ≤ count
  pub some : 0 < s.steps → 0 < s.states

-- the summary where a state or a step begins: no clause, guard or list yet
abbrev pub no_clauses : Summary → Summary
no_clauses s = record s { clauses = 0; guarded = false; gathered = replicate 4 false }

-- the summary after one more test or bind, and after one more GATHER, into list v
abbrev pub clause_more : Summary → Summary
clause_more s = record s { clauses = s.clauses + 1 }

abbrev pub gather_more : Summary → ℕ → Summary
gather_more s v = record s { clauses = s.clauses + 1; gathered = set s.gathered v true }

-- the summary after one more command
abbrev pub advance_by : Summary → Kept → Summary
advance_by s (Tied v) = record s { tied = s.tied + 1 }
advance_by s (State k) = record (no_clauses s) { states = s.states + 1; closed = ltb 1 k; steps = 0 }
advance_by s (Step t) = record (no_clauses s) { steps = s.steps + 1 }
advance_by s Test = clause_more s
advance_by s (Testv v) = clause_more s
advance_by s (Bind v) = clause_more s
advance_by s (Gather v) = gather_more s v
advance_by s Guard = record s { guarded = true }

-- after one more command: the kinds of the states
abbrev pub kinds_with : List ℕ → ℕ → Kept → List ℕ
kinds_with kinds states (State k) = set kinds states k
kinds_with kinds states _ = kinds

-- where the steps begin
abbrev pub table_with : List ℕ → Summary → ℕ → Kept → List ℕ
table_with table s at (Step t) = set table ((s.states - 1) * 8 + s.steps) at
table_with table s at _ = table

-- the tied variables
abbrev pub ties_with : List Bool → Kept → List Bool
ties_with ties (Tied v) = set ties v true
ties_with ties _ = ties

-- the number of steps
abbrev pub count_with : ℕ → Kept → ℕ
count_with count (Step t) = count + 1
count_with count _ = count

-- a step of this state to that one, which binds nothing yet
abbrev pub new_edge : ℕ → ℕ → Edge
new_edge from to = record { from = from; to = to; binds = replicate 8 false }

-- the step with one more variable bound
abbrev pub bind_in : Edge → ℕ → Edge
bind_in e v = record e { binds = set e.binds v true }

-- the steps
abbrev pub edges_with : List Edge → ℕ → ℕ → Kept → List Edge
edges_with edges count states (Step t) = set edges count (new_edge (states - 1) t)
edges_with edges count states (Bind v) = set edges (count - 1) (bind_in (get_or edges (count - 1) (new_edge 0 0)) v)
edges_with edges count states _ = edges

-- the variables that the last step binds
abbrev pub own_with : List Bool → Kept → List Bool
own_with own (State k) = replicate 8 false
own_with own (Step t) = replicate 8 false
own_with own (Bind v) = set own v true
own_with own _ = own

-- the places, with a STEP and a TESTV at `at`
abbrev pub places_with : List ℕ → ℕ → ℕ → Kept → List ℕ
places_with places states at (Step t) = noted places (state_key t) at
places_with places states at (Testv v) = noted places (v * 16 + (states - 1)) at
places_with places states at _ = places

-- what was kept, and one more command of `used` bytes, with the places after it was read
abbrev pub added : Draft → Kept → ℕ → List ℕ → Draft
added d c used places =
    record {
      at = d.at + used;
      summary = advance_by d.summary c;
      kinds = kinds_with d.kinds d.summary.states c;
      table = table_with d.table d.summary d.at c;
      ties = ties_with d.ties c;
      edges = edges_with d.edges d.count d.summary.states c;
      count = count_with d.count c;
      own = own_with d.own c;
      places = places_with places d.summary.states d.at c;
    }

-- nothing kept yet
unfoldable pub empty_draft : Draft
empty_draft =
    record {
      at = 0;
      summary = record { tied = 0; states = 0; closed = false; steps = 0; clauses = 0; guarded = false; gathered = replicate 4 false };
      kinds = replicate 16 0;
      table = replicate 128 0;
      ties = replicate 8 false;
      edges = replicate 128 (new_edge 0 0);
      count = 0;
      own = replicate 8 false;
      places = replicate 145 nowhere;
    }

-- the walk goes on behind a command; END was reached; a command was refused, and nothing is handed on
abbrev pub onward : (Draft → Result Draft Refusal) → Draft → NextEnd → Result Draft Refusal
onward go d (goes_on c used places) = go (added d c used places)
onward go d (ends places) = Ok d
onward go d (breaks r) = Err r

-- the next command behind what was kept
unfoldable pub next_from : ℕ → List ℕ → Draft → NextEnd
next_from fields l d = next_shape (d.summary.states - 1) d.own d.at d.places (next fields d.summary d.at (drop d.at l))

-- the walk from what was kept on, for at most `fuel` commands
unfoldable pub scan_from : ℕ → ℕ → List ℕ → Draft → Result Draft Refusal
scan_from zero fields l d = Err (CutShort InFormula d.at)
scan_from (suc fuel) fields l d = onward (scan_from fuel fields l) d (next_from fields l d)

-- the walk of a file
unfoldable pub scan_file : ℕ → List ℕ → Result Draft Refusal
scan_file fields l = scan_from (suc (length l)) fields l empty_draft

-- a draft inside the file, with no more states and steps than there can be
pub record Sized (l : List ℕ) (d : Draft) : Type 0 where
  pub inside : d.at ≤ length l
  pub states : d.summary.states ≤ 16
  pub steps : d.count ≤ 128

-- what a walk answers: its definition's answer, which is of such a size
pub record Scanned (fields : ℕ) (l : List ℕ) (r : Result Draft Refusal) : Type 0 where
  pub is : r ≡ scan_file fields l
  pub sized : IfOk r (Sized l)
