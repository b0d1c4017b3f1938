-- Rows read back as the runs that they hold, and one start over rows already written.
use Rattle.std.specs.Prelude.{ℕ, zero, suc, ◌-◌, ◌*◌, ◌≤◌, min, ◌≡◌, Bool, true, false, cond, not, List, [], ◌∷◌, ◌++◌, length, get_or, take, drop, eqb, Option, Some, None, Result, Ok, Err}
use Rattle.base.specs.Mask.{bits_of}
use Rattle.refusal.specs.declared.Refusal.{Refusal}
use Rattle.refusal.specs.declared.Refusal.TheVariants.{Crowded}
use Rattle.event_log.specs.Log.{Log}
use Rattle.formula.specs.Formula.{Formula}
use Rattle.runs.specs.inner.Search.{search}
use Rattle.runs.specs.Answer.{Answer, found, absent, crowded}
use Rattle.machine.specs.Machine.{machine}
use Rattle.slots.specs.inner.Words.{put}
use Rattle.search.specs.declared.Verdict.{Verdict}
use Rattle.search.specs.declared.Verdict.TheVariants.{Absent, Accept, Reject}
use Rattle.search.specs.declared.SearchAnswer.{SearchAnswer}
use Rattle.search_code.specs.declared.Scope.{Scope}
use Rattle.search_code.specs.inner.Turn.{Given}
use Rattle.analysis_code.specs.declared.RowRun.{RowRun}
use Rattle.analysis_code.specs.declared.RowVerdict.{RowVerdict}
use Rattle.analysis_code.specs.declared.RowVerdict.TheVariants.{Alert, Subsumed, Rejected}
use Rattle.analysis.specs.Rows.{NamedRun, named, alike, tied_alike, verdict, none_row, row, Written, all, upto, rows_from}
use Rattle.analysis.specs.Analysis.{Analysed, written_into}

-- the struct of a named run, as the definition has it
abbrev pub named_of : RowRun → NamedRun
named_of r = record { accepts = r.accepts; last = r.last; steps = r.steps; held = r.held; values = r.values }

-- a run, if there is one, as a list of such
abbrev pub maybe : Option RowRun → List NamedRun
maybe None = []
maybe (Some r) = named_of r ∷ []

-- the word of a verdict
abbrev pub said : RowVerdict → ℕ
said Alert = 1
said Subsumed = 2
said Rejected = 3

-- the variables of an array of flags that are set, the first one being v
unfoldable pub variables_from : ℕ → List Bool → List ℕ
variables_from v [] = []
variables_from v (b ∷ bs) = cond b (v ∷ variables_from (suc v) bs) (variables_from (suc v) bs)

abbrev pub variables : List Bool → List ℕ
variables tied = variables_from 0 tied

-- what the tie rule asks of one variable
abbrev pub share : NamedRun → NamedRun → ℕ → Bool
share a b v = alike (get_or a.held v false) (get_or b.held v false) (get_or a.values v 0) (get_or b.values v 0)

-- the run that the 12 words of a row hold
unfoldable pub run_in : List ℕ → NamedRun
run_in ws = record { accepts = not (eqb (get_or ws 0 0) 3); last = get_or ws 1 0; steps = get_or ws 2 0; held = bits_of 8 (get_or ws 3 0); values = take 8 (drop 4 ws) }

-- a none row holds no run
unfoldable pub run_if : List ℕ → List NamedRun
run_if ws = cond (eqb (get_or ws 0 0) 0) [] (run_in ws ∷ [])

-- the runs that rows hold, in order
unfoldable pub runs_of : List (List ℕ) → List NamedRun
runs_of [] = []
runs_of (ws ∷ rest) = run_if ws ++ runs_of rest

-- the runs that the first k rows hold, in order
unfoldable pub runs_in : ℕ → List ℕ → List NamedRun
runs_in zero rows = []
runs_in (suc k) rows = runs_in k rows ++ run_if (take 12 (drop (k * 12) rows))

-- a search says that its run accepts
abbrev pub accepts : Verdict → Bool
accepts Absent = false
accepts Accept = true
accepts Reject = false

-- the run that a search answers, for a row: a run has at most 32 steps
abbrev pub run_of : SearchAnswer → NamedRun
run_of a = record { accepts = accepts a.verdict; last = get_or a.events (min a.steps 32 - 1) 0; steps = min a.steps 32; held = a.held; values = a.values }

-- the row of a search's answer
abbrev pub row_by : List ℕ → ℕ → List NamedRun → SearchAnswer → Verdict → List ℕ
row_by tied start earlier a Absent = none_row
row_by tied start earlier a Accept = row (verdict tied start (run_of a) earlier) (run_of a)
row_by tied start earlier a Reject = row (verdict tied start (run_of a) earlier) (run_of a)

-- one start: whether its row is written, and every row word after it
pub record Turn : Type 0 where
  pub written : Bool
  pub rows : List ℕ

abbrev pub turn_of : (g : Log) (fm : Formula) → ℕ → List ℕ → Answer (machine g fm) → Turn
turn_of g fm start rows (found c t width) =
    record { written = true; rows = put rows (start * 12) (row (verdict fm.tied start (named fm c t) (runs_in start rows)) (named fm c t)) }
turn_of g fm start rows (absent width) = record { written = true; rows = put rows (start * 12) none_row }
turn_of g fm start rows (crowded n) = record { written = false; rows = rows }

-- the words of the starts from `start` on, over rows already written
abbrev pub resumed : ℕ → Written → List ℕ → Analysed
resumed start (all ws) rows = record { outcome = Ok tt; rows = put rows (start * 12) ws }
resumed start (upto i ws) rows = record { outcome = Err (Crowded i); rows = put rows (start * 12) ws }

-- what a row needs of a run that is named: at most 32 steps, and a place for each of the 8 variables
pub record Bounded (steps held values : ℕ) : Type 0 where
  pub short : steps ≤ 32
  pub held_8 : held ≡ 8
  pub values_8 : values ≡ 8

abbrev pub Fitting : (g : Log) (fm : Formula) → Answer (machine g fm) → Type 0
Fitting g fm (found c t width) = Bounded (length t) (length c.held) (length c.values)
Fitting g fm (absent width) = Unit {0}
Fitting g fm (crowded n) = Unit {0}

-- the marks of the tied variables tie as the formula does
abbrev pub Ties : Formula → List Bool → Type 0
Ties fm tied = (a b : NamedRun) → tied_alike (variables tied) a b ≡ tied_alike fm.tied a b

-- what all starts leave
abbrev pub AllStarts : List ℕ → List ℕ → List ℕ → List ℕ → Scope → List Bool → List ℕ → List ℕ → Result Unit Refusal → Type 0
AllStarts l places f table scope tied before after r =
    (g : Log) (fm : Formula) → Given g fm l places f table scope → Ties fm tied
    → ◌≡◌ {A = Analysed} (record { outcome = r; rows = after })
    (written_into (rows_from g fm (search (machine g fm) scope.slots) (length g.events) 0 []) before)
