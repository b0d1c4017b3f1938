-- The checks of a call, one after the other: what each refusal leaves, and what the readers hand on.
use Prim.Native.Nat.{ℕ, zero, suc, ◌*◌, ◌/◌, ◌%◌, ◌^◌, ◌<◌, ◌≤◌}
use native.Mathlib.Nat.{pow-succ', div-div-eq-div-mul}
use native.Mathlib.Omega.{arith}
use Rattle.std.specs.Prelude.{Result, Ok, Err}
use mathlib.Core.Path.{◌≡◌, refl, ap, sym, ◌∙◌}
use mathlib.Core.Bool.{Bool, true, false, cond}
use mathlib.Core.List.{List, []}
use borrow.Author.Tests.{lt-ltb, le-ltb}
use lib.ListN.{length, get_or}
use lib.Dec.{eqb}
use Rattle.base.proofs.Masks.{length-bits}
use Rattle.base.specs.Mask.{bits_of}
use Rattle.refusal.specs.declared.Refusal.{Refusal}
use Rattle.refusal.specs.declared.Refusal.TheVariants.{Short}
use Rattle.event_log.specs.Log.{Log}
use Rattle.event_log.specs.File.{LogFile, log_of}
use Rattle.event_log.specs.declared.LogReading.{LogReading}
use Rattle.formula.specs.Formula.{Formula}
use Rattle.formula.specs.Lookup.{is_tied, tied_mask}
use Rattle.formula.proofs.Ties.{mask-bit}
use Rattle.runs.specs.inner.Search.{search}
use Rattle.machine.specs.Machine.{machine}
use Rattle.search.specs.Search.{slots_of}
use Rattle.formula_code.specs.declared.FormulaReading.{FormulaReading}
use Rattle.formula_code.specs.Answer.{reading_of}
use Rattle.analysis.specs.Rows.{rows_from}
use Rattle.analysis.specs.Analysis.{Analysed, refusal, written_into, checked, analysis}
use Rattle.analysis.specs.Call.{Leaves, Analyses}
use Rattle.analysis.proofs.Demand.{only-crowded}
use Rattle.files.specs.Files.{read_files}
use Rattle.files_code.specs.declared.FilesReading.{FilesReading}
use Rattle.files_code.specs.inner.Reading.{Accepted, ReadsFiles}
use Rattle.files_code.proofs.Answers.{files-refused, files-taken}
use Rattle.analysis_code.specs.inner.Starts.{Ties}
use Rattle.analysis_code.proofs.Ties.{tied-same}
use Rattle.analysis_code.proofs.Fitting.{tied-exist}

-- a call that is refused before it runs leaves every lent word as it was
left_alone : {work rows : List ℕ} {why : Refusal} → Leaves (refusal why rows) work work rows (Err why)
left_alone = record { outcome = refl; rows = refl; untouched = λ why v u. refl; number = refl }

-- refusal 10 for work words, 10 for rows, and no refusal
module _ (g : Log) (fm : Formula) (work rows : List ℕ) where
  pub short_work : length work < 192 → Leaves (checked g fm (length work) rows) work work rows (Err (Short 192))
  unfolding checked
  short_work h = rw (lt-ltb (length work) 192 h) left_alone

  pub short_rows : (events : ℕ) → events ≡ length g.events → 192 ≤ length work → length rows < 12 * events
      → Leaves (checked g fm (length work) rows) work work rows (Err (Short (12 * events)))
  unfolding checked
  short_rows events e h k = rw (e, le-ltb (length work) 192 h, lt-ltb (length rows) (12 * length g.events) (rw e at k)) left_alone

  pub enough : (events slots : ℕ) (work-after after : List ℕ) (r : Result Unit Refusal) → events ≡ length g.events → 192 ≤ length work → 12 * events ≤ length rows
      → slots ≡ slots_of (length work)
      → length work-after ≡ length work → ◌≡◌ {A =
      Analysed} (record { outcome = r; rows = after }) (written_into (rows_from g fm (search (machine g fm) slots) (length g.events) 0 []) rows)
      → Leaves (checked g fm (length work) rows) work work-after after r
  unfolding checked
  enough events slots work-after after r e h k s same a =
      rw (le-ltb (length work) 192 h, le-ltb (length rows) (12 * length g.events) (rw e at k), ← s)
      (record {
        outcome = ap (λ (x : Analysed). x.outcome) a;
        rows = ap (λ (x : Analysed). x.rows) a;
        untouched = λ why v u. absurd (only-crowded (rows_from g fm (search (machine g fm) slots) (length g.events) 0 []) rows why
            (ap (λ (x : Analysed). x.outcome) (sym a) ∙ v) u);
        number = same;
      })

-- a mask's bits by number
bits_at : (n v m : ℕ) → v < n → get_or (bits_of n m) v false ≡ eqb (m / 2 ^ v % 2) 1
unfolding bits_of
bits_at zero v m h = absurd (omega arith)
bits_at (suc n) zero m h = let e : m / 1 ≡ m = omega arith in ap (λ i. eqb (i % 2) 1) (sym e)
bits_at (suc n) (suc v) m h = bits_at n v (m / 2) (omega arith) ∙ rw (pow-succ' 2 v, ← div-div-eq-div-mul m 2 (2 ^ v))

-- the bit of a variable says whether it is tied
bit-back : (b : Bool) → eqb (cond b 1 0) 1 ≡ b
bit-back true = refl
bit-back false = refl

tie-at : (fm : Formula) (v : ℕ) → v < 8 → get_or (bits_of 8 (tied_mask fm)) v false ≡ is_tied v fm.tied
tie-at fm v h = bits_at 8 v (tied_mask fm) h ∙ rw (mask-bit fm v h) (bit-back (is_tied v fm.tied))

-- the reader's mask of tied variables, read back, ties as the formula does
pub mask-ties : (t : LogFile) (fm : Formula) (l f : List ℕ) (log : LogReading) (r : FormulaReading) (tied : List Bool) → Accepted t fm l log f r
    → tied ≡ bits_of 8 r.tied → Ties fm tied
unfolding reading_of
mask-ties t fm l f log r tied a marks =
    tied-same fm.tied tied (tied-exist (log_of t) fm a.formula_correct) (ap length marks ∙ length-bits 8 r.tied)
    (λ v k. ap (λ bs. get_or bs v false) marks ∙ ap (λ (x : FormulaReading). get_or (bits_of 8 x.tied) v false) a.formula_read ∙ tie-at fm v k)

module _ (l f work rows : List ℕ) where
  -- a file is refused
  pub by-files : (why : Refusal) → ReadsFiles l f (Err why) → Analyses l f work work rows rows (Err why)
  unfolding analysis
  by-files why read = rw (files-refused l f (read_files l f) why read) left_alone

  -- both files are accepted: what the checks leave that follow
  pub by-checks : (files : FilesReading) → ReadsFiles l f (Ok files) → (work-after rows-after : List ℕ) (r : Result Unit Refusal)
      → ((t : LogFile) (fm : Formula) → Accepted t fm l files.log f files.formula → Leaves (checked (log_of t) fm (length work) rows) work work-after rows-after r)
      → Analyses l f work work-after rows rows-after r
  unfolding analysis
  by-checks files read work-after rows-after r go =
      let taken = files-taken l f files (read_files l f) read in
      rw taken.is (go taken.file taken.formula taken.both)
