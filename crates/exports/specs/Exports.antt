-- What the static library hands on: the answers of the readers, the search and the analysis as numbers.
use Rattle.std.specs.Prelude.{ℕ, ◌≤◌, ◌≡◌, List, length, Result, Ok, Err}
use Rattle.refusal.specs.Refusals.{report_of}
use Rattle.refusal.specs.declared.Refusal.{Refusal}
use Rattle.refusal.specs.declared.Report.{Report}
use Rattle.event_log.specs.declared.LogReading.{LogReading}
use Rattle.event_log.specs.Read.{read_log, answer_of as log_answer}
use Rattle.formula.specs.Read.{read_formula}
use Rattle.formula_code.specs.Answer.{answer_of as formula_answer}
use Rattle.search.specs.declared.Verdict as SearchVerdict
use Rattle.search.specs.declared.Verdict.TheVariants as SearchIs
use Rattle.search.specs.declared.SearchAnswer.{SearchAnswer}
use Rattle.search.specs.Search.{slots_of, without, search_answer}
use Rattle.analysis.specs.Analysis.{analysis}
use Rattle.exports.specs.declared.Refused.{Refused}
use Rattle.exports.specs.declared.LogRead.{LogRead}
use Rattle.exports.specs.declared.Found.{Found}

-- "An answer names the file (1 log, 2 formula, 3 the call), the number and the place"
abbrev pub three : Report → Refused
three t = record { file = t.file; number = t.number; place = t.place }

abbrev pub named : Refusal → Refused
named r = three (report_of r)

-- number 0: nothing is refused
abbrev pub nothing : Refused
nothing = record { file = 0; number = 0; place = 0 }

-- the refusal in an answer
abbrev pub refusal_in : {A : Type 0} → Result A Refusal → Refused
refusal_in (Ok a) = nothing
refusal_in (Err r) = named r

-- 0 none, 1 accept, 2 reject
abbrev pub verdict_number : SearchVerdict.Verdict → ℕ
verdict_number SearchIs.Absent = 0
verdict_number SearchIs.Accept = 1
verdict_number SearchIs.Reject = 2

-- a log's reading: the refusal, or the numbers of fields and events
abbrev pub exported_log : Result LogReading Refusal → LogRead
exported_log (Ok r) = record { refused = nothing; fields = r.fields; events = r.events }
exported_log (Err r) = record { refused = named r; fields = 0; events = 0 }

-- a search's answer: the refusal and the verdict as numbers, all else as it is
abbrev pub found_by : Refused → SearchAnswer → Found
found_by refused a =
    record {
      refused = refused;
      verdict = verdict_number a.verdict;
      steps = a.steps;
      events = a.events;
      numbers = a.numbers;
      held = a.held;
      values = a.values;
      width = a.width;
    }

-- beside a refusal all is 0
abbrev pub exported_search : Result SearchAnswer Refusal → Found
exported_search (Ok a) = found_by nothing a
exported_search (Err r) = found_by (named r) (without 0)

-- The contracts of the exported functions.
abbrev pub ExportsLog : List ℕ → LogRead → Type 0
ExportsLog l r = r ≡ exported_log (log_answer (read_log l))

abbrev pub ExportsFormula : List ℕ → ℕ → Refused → Type 0
ExportsFormula f fields r = r ≡ refusal_in (formula_answer (read_formula fields f))

-- refused, and not with 11, every work word is as it was
abbrev pub Untouched : Refused → List ℕ → List ℕ → Type 0
Untouched r work after = (r.number ≡ 0 → ⊥) → (r.number ≡ 11 → ⊥) → after ≡ work

pub record ExportsSearch (l f : List ℕ) (start : ℕ) (work after : List ℕ) (r : Found) : Type 0 where
  pub answer : r ≡ exported_search (search_answer l f start (length work))
  pub untouched : Untouched r.refused work after
  pub number : length after ≡ length work
  -- the width is at most the seats
  pub within : r.width ≤ slots_of (length work)

pub record ExportsAnalysis (l f work work-after rows rows-after : List ℕ) (r : Refused) : Type 0 where
  pub answer : r ≡ refusal_in (analysis l f (length work) rows).outcome
  pub rows_are : rows-after ≡ (analysis l f (length work) rows).rows
  pub untouched : Untouched r work work-after
  pub number : length work-after ≡ length work
