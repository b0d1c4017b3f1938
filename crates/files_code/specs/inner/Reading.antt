-- What reading two files yields: the first refusal, or what the two accepted files hold.
use Rattle.std.specs.Prelude.{ℕ, ◌≡◌, List, length, Result, Err, IsOkAnd}
use Rattle.refusal.specs.declared.Refusal.{Refusal}
use Rattle.event_log.specs.File.{LogFile}
use Rattle.event_log.specs.Correct as LogCorrect
use Rattle.event_log.specs.Encode as LogEncode
use Rattle.event_log.specs.Read as LogRead
use Rattle.event_log.specs.declared.LogReading.{LogReading}
use Rattle.formula.specs.Formula.{Formula}
use Rattle.formula.specs.Correct as FormulaCorrect
use Rattle.formula.specs.Encode as FormulaEncode
use Rattle.formula_code.specs.Answer.{reading_of}
use Rattle.formula_code.specs.declared.FormulaReading.{FormulaReading}
use Rattle.files.specs.Files.{Files, accepted, refused, read_files}
use Rattle.files_code.specs.declared.FilesReading.{FilesReading}

-- two accepted files, and what their readers found
pub record Accepted (t : LogFile) (fm : Formula) (l : List ℕ) (log : LogReading) (f : List ℕ) (formula : FormulaReading) : Type 0 where
  pub log_correct : LogCorrect.Correct t
  pub log_bytes : l ≡ LogEncode.encode t
  pub log_read : log ≡ LogRead.reading_of t
  pub formula_correct : FormulaCorrect.Correct (length t.fields) fm
  pub formula_bytes : f ≡ FormulaEncode.encode fm
  pub formula_read : formula ≡ reading_of fm

abbrev pub Told : List ℕ → List ℕ → Result FilesReading Refusal → Files → Type 0
Told l f r (accepted t fm) = IsOkAnd r (λ x. Accepted t fm l x.log f x.formula)
Told l f r (refused why) = r ≡ Err why

abbrev pub ReadsFiles : List ℕ → List ℕ → Result FilesReading Refusal → Type 0
ReadsFiles l f r = Told l f r (read_files l f)
