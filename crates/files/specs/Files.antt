-- "A call checks the log, the formula, ..": the two files of a call, read in this order.
use Rattle.std.specs.Prelude.{List, ℕ, length}
use Rattle.refusal.specs.declared.Refusal.{Refusal}
use Rattle.event_log.specs.File.{LogFile}
use Rattle.event_log.specs.Read as LogRead
use Rattle.formula.specs.Formula.{Formula}
use Rattle.formula.specs.Read as FormulaRead

-- Two lists of bytes are accepted as a log file and a formula, or one of them is refused.
pub data Files : Type 0 where
  accepted : LogFile → Formula → Files
  refused : Refusal → Files

abbrev pub with_formula : LogFile → FormulaRead.Reading → Files
with_formula t (FormulaRead.accepted f) = accepted t f
with_formula t (FormulaRead.refused r) = refused r

-- "A formula is read against an accepted log, which gives its fields"
abbrev pub with_log : LogRead.Reading → List ℕ → Files
with_log (LogRead.accepted t) f = with_formula t (FormulaRead.read_formula (length t.fields) f)
with_log (LogRead.refused r) f = refused r

-- Reading the two files of a call.
abbrev pub read_files : List ℕ → List ℕ → Files
read_files l f = with_log (LogRead.read_log l) f
