-- What the readers' answers say of two files, and what the answer for both says of their reading.
use Rattle.std.proofs.Common.{ℕ, ◌≤◌, ◌≡◌, refl, sym, ap, ◌∙◌, List, length, arith, Result, Ok, Err}
use Rattle.base.specs.Lists.{Bytes}
use Rattle.refusal.specs.declared.Refusal.{Refusal}
use Rattle.event_log.specs.File.{LogFile}
use Rattle.event_log.specs.Read as LogRead
use Rattle.event_log.specs.declared.LogReading.{LogReading}
use Rattle.event_log.proofs.Accepted.{accepted-is-encoding}
use Rattle.event_log.proofs.Answers.{log-refused, log-taken}
use Rattle.formula.specs.Formula.{Formula}
use Rattle.formula.specs.Read as FormulaRead
use Rattle.formula.proofs.Reading.{accepted-correct}
use Rattle.formula_code.specs.declared.FormulaReading.{FormulaReading}
use Rattle.formula_code.specs.Answer.{answer_of as formula_answer}
use Rattle.formula_code.proofs.Answers.{formula-refused, formula-taken}
use Rattle.files.specs.Files.{Files, accepted, refused, read_files}
use Rattle.files.proofs.Reading.{bad-log, bad-formula, both_read}
use Rattle.files_code.specs.declared.FilesReading.{FilesReading}
use Rattle.files_code.specs.inner.Reading.{Accepted, Told, ReadsFiles}

-- the log is refused, whatever the formula is
pub log-first : (l f : List ℕ) (why : Refusal) → LogRead.ReadsLog l (Err why) → ReadsFiles l f (Err why)
log-first l f why log = rw (bad-log l f why (log-refused (LogRead.read_log l) why (sym log)))

-- the log is accepted; then the formula is refused, or both are accepted
module _ (l f : List ℕ) (a : LogReading) (log : LogRead.ReadsLog l (Ok a)) where
  behind : (r : Result FormulaReading Refusal) (t : LogFile) → a ≡ LogRead.reading_of t → r ≡ formula_answer (FormulaRead.read_formula a.fields f)
      → formula_answer (FormulaRead.read_formula (length t.fields) f) ≡ r
  behind r t says formula = sym (formula ∙ ap (λ (x : LogReading). formula_answer (FormulaRead.read_formula x.fields f)) says)

  pub formula-then : (why : Refusal) → Err why ≡ formula_answer (FormulaRead.read_formula a.fields f) → ReadsFiles l f (Err why)
  formula-then why formula =
      let t = log-taken (LogRead.read_log l) a (sym log) in
      let u = formula-refused (FormulaRead.read_formula (length t.file.fields) f) why (behind (Err why) t.file t.says formula) in
      rw (bad-formula l f t.file t.is why u)

  pub both-read : (b : FormulaReading) → Bytes l → Bytes f → Ok b ≡ formula_answer (FormulaRead.read_formula a.fields f)
      → ReadsFiles l f (Ok (record { log = a; formula = b }))
  both-read b bytes more formula =
      let t = log-taken (LogRead.read_log l) a (sym log) in
      let u = formula-taken (FormulaRead.read_formula (length t.file.fields) f) b (behind (Ok b) t.file t.says formula) in
      let c = accepted-is-encoding l t.file bytes t.is in
      let d = accepted-correct (length t.file.fields) f u.formula more u.is in
      rw (both_read l f t.file t.is u.formula u.is) (record {
        log_correct = c.1;
        log_bytes = c.0;
        log_read = t.says;
        formula_correct = d.1;
        formula_bytes = d.0;
        formula_read = u.reading;
      })

-- one of the files is refused
pub files-refused : (l f : List ℕ) (x : Files) (why : Refusal) → Told l f (Err why) x → x ≡ refused why
files-refused l f (accepted t fm) why h = absurd h
files-refused l f (refused q) why h = cc

-- both files are accepted
pub record Taken (l f : List ℕ) (r : FilesReading) (x : Files) : Type 0 where
  pub file : LogFile
  pub formula : Formula
  pub is : x ≡ accepted file formula
  pub both : Accepted file formula l r.log f r.formula

pub files-taken : (l f : List ℕ) (r : FilesReading) (x : Files) → Told l f (Ok r) x → Taken l f r x
files-taken l f r (accepted t fm) h = record { file = t; formula = fm; is = refl; both = h }
files-taken l f r (refused q) h = cc

-- an accepted log has at most 1,024 events
pub few-events : (l f : List ℕ) (r : FilesReading) → ReadsFiles l f (Ok r) → r.log.events ≤ 1024
few-events l f r h =
    let a = (files-taken l f r (read_files l f) h).both in
    omega (arith, ap (λ (y : LogReading). y.events) a.log_read, a.log_correct.recorded.most_events)
