-- "A call checks the log, the formula, 9 (search only), 10 for work words, .. then runs": what is left of a call behind its readers.
use Rattle.std.specs.Prelude.{ℕ, ◌≡◌, List, length, Result}
use Rattle.refusal.specs.declared.Refusal.{Refusal}
use Rattle.event_log.specs.File.{LogFile, log_of}
use Rattle.formula.specs.Formula.{Formula}
use Rattle.files_code.specs.declared.FilesReading.{FilesReading}
use Rattle.files_code.specs.inner.Reading.{Accepted}
use Rattle.search.specs.declared.SearchAnswer.{SearchAnswer}
use Rattle.search.specs.Search.{checked}
use Rattle.search.specs.Call.{Untouched}

-- a call whose files are accepted: its answer, and the work words where it is refused
abbrev pub CheckedIs : List ℕ → List ℕ → FilesReading → ℕ → List ℕ → List ℕ → Result SearchAnswer Refusal → Type 0
CheckedIs l f files start work after r =
    (t : LogFile) (fm : Formula) → Accepted t fm l files.log f files.formula
    → (r ≡ checked (log_of t) fm start (length work)) × Untouched r work after
