-- The three demands as theorems about the public entries: whatever meets an entry's contract meets them. l and f are the bytes of the two files
-- (a slice of bytes is a list of numbers below 256).
use Prim.Native.Nat.{ℕ, ◌+◌, ◌*◌, ◌≤◌, ◌<◌}
use Rattle.std.specs.Prelude.{Result, IsOkAnd, IfOk}
use mathlib.Core.Path.{◌≡◌, refl, sym, ◌∙◌, subst}
use mathlib.Core.List.{List}
use lib.ListN.{length, get_or}
use Rattle.base.specs.Lists.{Bytes}
use Rattle.refusal.specs.declared.Refusal.{Refusal}
use Rattle.event_log.specs.declared.LogReading.{LogReading}
use Rattle.event_log.specs.File.{LogFile, log_of}
use Rattle.event_log.specs.Read.{read_log, answer_of as log_answer, ReadsLog}
use Rattle.event_log.proofs.Accepted.{encoding-is-accepted}
use Rattle.formula.specs.Formula.{Formula}
use Rattle.formula.specs.Located.{Located}
use Rattle.formula.specs.Read.{read_formula}
use Rattle.formula.proofs.Reading.{correct-accepted}
use Rattle.formula_code.specs.declared.FormulaReading.{FormulaReading}
use Rattle.formula_code.specs.Answer.{answer_of as formula_answer, ReadsFormula}
use Rattle.search.specs.declared.SearchAnswer.{SearchAnswer}
use Rattle.search.specs.Search.{slots_of}
use Rattle.search.specs.Call.{Searched}
use Rattle.files.proofs.Reading.{both_read}
use Rattle.search.proofs.Premises.{Accepted}
use Rattle.analysis.specs.Call.{Analyses}
use Rattle.exports.specs.declared.Refused.{Refused}
use Rattle.exports.specs.declared.LogRead.{LogRead}
use Rattle.exports.specs.declared.Found.{Found}
use Rattle.exports.specs.Exports.{ExportsLog, ExportsFormula, ExportsSearch, ExportsAnalysis}
use Rattle.demands.specs.Demands.{IsLog, IsFormula, FirstOfLog, FirstOfFormula, AbsentOfFormula, FirstOfSearch, FirstOfAnalysis}
use Rattle.demands.specs.Demands.{SecondOfLog, SecondOfFormula, StepsOfFormula, SecondOfSearch, ThirdOfSearch, ThirdOfRows}
use Rattle.demands.specs.Demands.{HandsOnLog, HandsOnFormula, HandsOnSearch, HandsOnAnalysis}
use Rattle.demands.proofs.Files as Files
use Rattle.demands.proofs.Calls as Calls
use Rattle.demands.proofs.Search.{search-meet, search-only}
use Rattle.demands.proofs.Rows.{rows-meet, rows-only}
use Rattle.demands.proofs.Exports as Exports

-- FIRST: every byte string is accepted or refused with file, number and place
pub first-log : (l : List ℕ) (r : Result LogReading Refusal) → ReadsLog l r → FirstOfLog l r
first-log l r c = Files.log-first l r c

pub first-formula : (f : List ℕ) (fields : ℕ) (r : Result FormulaReading Refusal) → ReadsFormula f fields r → FirstOfFormula f r
first-formula f fields r c = Files.formula-first f fields r c

-- 13 is answered exactly when a STEP or COUNT of a file that is well formed otherwise names an absent state
pub absent-formula : (f : List ℕ) (fields : ℕ) (r : Result FormulaReading Refusal) → Bytes f → ReadsFormula f fields r → AbsentOfFormula f fields r
absent-formula f fields r b c = Files.formula-absent f fields r b c

module _ (l f : List ℕ) where
  -- a call's checks, in order; a refusal leaves every lent word alone
  pub first-search : (start : ℕ) (work after : List ℕ) (r : Result SearchAnswer Refusal) → Searched l f start work after r → FirstOfSearch l f start work after r
  first-search start work after r c = Calls.search-first l f start (length work) r work after refl c

  pub first-analysis : Bytes l → Bytes f → (work work-after rows rows-after : List ℕ) (r : Result Unit Refusal) → Analyses l f work work-after rows rows-after r
      → FirstOfAnalysis l f work work-after rows rows-after r
  first-analysis b d work work-after rows rows-after r c = Calls.analysis-first l f (length work) rows work work-after rows-after r refl b d c

-- SECOND: a reader accepts exactly when the file is the encoding of a correct log (formula), and reads it as that one
pub second-log : (l : List ℕ) (r : Result LogReading Refusal) → Bytes l → ReadsLog l r → SecondOfLog l r
second-log l r b c = Files.log-second l r b c

pub second-formula : (f : List ℕ) (fields : ℕ) (r : Result FormulaReading Refusal) → Bytes f → ReadsFormula f fields r → SecondOfFormula f fields r
second-formula f fields r b c = Files.formula-second f fields r b c

-- the table that firing finds its steps by: for every state and step number, the offset of that STEP or that there is none
pub steps-formula : (f : List ℕ) (fields : ℕ) (r : Result FormulaReading Refusal) → ReadsFormula f fields r → StepsOfFormula f fields r
steps-formula f fields r c = Files.formula-steps f fields r c

-- no other table says so
pub steps-formula-only : (f : List ℕ) (fields : ℕ) (r : Result FormulaReading Refusal) → ReadsFormula f fields r → (fm : Formula) → IsFormula fields f fm → (table : List ℕ)
    → length table ≡ 128 → ((s k : ℕ) → s < 16 → k < 8 → Located fm s k (get_or table (s * 8 + k) 0)) → IsOkAnd r (λ a. table ≡ a.table)
steps-formula-only f fields r c fm is table n says = Files.formula-steps-only f fields r c fm is table n says

module _ (l f : List ℕ) (bytes : Bytes l) (more : Bytes f) where
  -- the events of a named run rise by their number in the file
  pub second-search : (start : ℕ) (work after : List ℕ) (r : Result SearchAnswer Refusal) → Searched l f start work after r → IfOk r (SecondOfSearch start)
  second-search start work after r c = rw c.answer (Calls.search-second l f start (length work) bytes more)

  -- THIRD: an accepted log and formula, one seat or more
  module _ (t : LogFile) (fm : Formula) (log : IsLog l t) (formula : IsFormula (length t.fields) f fm) (work : List ℕ) (seat : 192 ≤ length work) where
    both : Accepted l f (log_of t) fm
    both =
        record {
          log_bytes = bytes;
          formula_bytes = more;
          file = t;
          records = refl;
          read =
              both_read l f t (rw log.encoded (encoding-is-accepted t log.correct)) fm
              (rw formula.encoded (correct-accepted (length t.fields) fm formula.correct));
        }

    -- a search at any event of the log
    module _ (start : ℕ) (inside : start < length (log_of t).events) (after : List ℕ) (r : Result SearchAnswer Refusal) (contract : Searched l f start work after r) where
      pub third-search : ThirdOfSearch (log_of t) fm (slots_of (length work)) start r
      third-search =
          subst (ThirdOfSearch (log_of t) fm (slots_of (length work)) start) (sym contract.answer)
          (search-meet l f (log_of t) fm start (length work) both inside seat)

      -- no other answer meets the demand
      pub third-search-only : (s : Result SearchAnswer Refusal) → ThirdOfSearch (log_of t) fm (slots_of (length work)) start s → s ≡ r
      third-search-only s d = search-only l f (log_of t) fm start (length work) both inside seat s d ∙ sym contract.answer

    -- the rows of an analysis
    module _ (work-after rows rows-after : List ℕ) (room : 12 * length (log_of t).events ≤ length rows) (r : Result Unit Refusal)
        (contract : Analyses l f work work-after rows rows-after r) where
      pub third-rows : ThirdOfRows l f (length work) fm (length (log_of t).events) rows rows-after r
      third-rows = rw (contract.rows, contract.outcome) (rows-meet l f (log_of t) fm work rows both seat room)

      -- no other rows and answer meet the demand
      pub third-rows-only : (after : List ℕ) (o : Result Unit Refusal) → ThirdOfRows l f (length work) fm (length (log_of t).events) rows after o
          → (o ≡ r) × (after ≡ rows-after)
      third-rows-only after o d =
          let q = rows-only l f (log_of t) fm work rows both seat room after o d in
          (q.0 ∙ sym contract.outcome, q.1 ∙ sym contract.rows)

-- THE STATIC LIBRARY hands on answers that meet the entries' contracts
pub exports-log : (l : List ℕ) (r : LogRead) → ExportsLog l r → HandsOnLog l r
exports-log l r c = record { reading = log_answer (read_log l); contract = refl; numbers_are = c }

pub exports-formula : (f : List ℕ) (fields : ℕ) (r : Refused) → ExportsFormula f fields r → HandsOnFormula f fields r
exports-formula f fields r c = record { reading = formula_answer (read_formula fields f); contract = refl; numbers_are = c }

pub exports-search : (l f : List ℕ) (start : ℕ) (work after : List ℕ) (r : Found) → ExportsSearch l f start work after r → HandsOnSearch l f start work after r
exports-search l f start work after r c = Exports.search-handed l f start work after r c

pub exports-analysis : (l f work work-after rows rows-after : List ℕ) (r : Refused) → ExportsAnalysis l f work work-after rows rows-after r
    → HandsOnAnalysis l f work work-after rows rows-after r
exports-analysis l f work work-after rows rows-after r c = Exports.analysis-handed l f work work-after rows rows-after r c
