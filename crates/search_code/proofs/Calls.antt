-- The checks of a call, and what the readers' answers say of the two files.
use Prim.Native.Nat.{ℕ, ◌*◌, ◌≤◌, ◌<◌}
use Rattle.std.specs.Prelude.{Result, Ok, Err}
use mathlib.Core.Path.{◌≡◌, refl, sym, ap, subst, ◌∙◌}
use mathlib.Core.List.{List}
use native.Mathlib.Omega.{arith}
use borrow.Author.Tests.{lt-ltb, le-ltb, le-leb, lt-leb}
use lib.ListN.{length}
use Rattle.refusal.specs.declared.Refusal.{Refusal}
use Rattle.refusal.specs.declared.Refusal.TheVariants.{Outside, Short}
use Rattle.event_log.specs.File.{LogFile, log_of}
use Rattle.event_log.specs.inner.Loading.{Leads}
use Rattle.event_log.specs.declared.Latest.{Latest}
use Rattle.event_log.specs.declared.LogReading.{LogReading}
use Rattle.event_log.proofs.Places.{table-leads}
use Rattle.formula.specs.Formula.{Formula}
use Rattle.formula_code.specs.Answer.{kinds_of, reading_of}
use Rattle.formula_code.specs.declared.FormulaReading.{FormulaReading}
use Rattle.files.specs.Files.{read_files}
use Rattle.files_code.specs.declared.FilesReading.{FilesReading}
use Rattle.files_code.specs.inner.Reading.{Accepted, ReadsFiles}
use Rattle.files_code.proofs.Answers.{files-refused, files-taken}
use Rattle.runs.specs.inner.Search.{search}
use Rattle.machine.specs.Machine.{machine}
use Rattle.search.specs.declared.SearchAnswer.{SearchAnswer}
use Rattle.search.specs.Search.{slots_of, refusal, checked, answered, search_answer}
use Rattle.search.specs.Call.{Untouched}
use Rattle.search.proofs.Demand.{only-crowded}
use mathlib.Core.Bool.{Bool}
use Rattle.threads.specs.inner.Setting.{LastingIs}
use Rattle.search_code.specs.inner.Turn.{scope_of, Given, Told, SearchedFrom}
use Rattle.search_code.specs.inner.Checks.{CheckedIs}

-- the slots fit the words, and there is one at least
pub slots-fit : (words : ℕ) → 192 ≤ words → (slots_of words * 192 ≤ words) × (1 ≤ slots_of words)
unfolding slots_of
slots-fit words h = omega arith

-- what the readers of two accepted files hand on
pub handed : (t : LogFile) (fm : Formula) (l f : List ℕ) (log : LogReading) (formula : FormulaReading) (lasting : List Bool) (slots : ℕ)
    → LastingIs f formula.table log.rises lasting → Accepted t fm l log f formula
    → Given (log_of t) fm l log.places f formula.table (scope_of log formula lasting slots)
unfolding kinds_of reading_of
handed t fm l f log formula lasting slots o a =
    record {
      setting =
          record {
            log = a.log_correct.recorded;
            formula = a.formula_correct;
            bytes = a.formula_bytes;
            table_is = ap (λ (x : FormulaReading). x.table) a.formula_read;
            kinds_are = ap (λ (x : FormulaReading). x.kinds) a.formula_read;
            rising_are = ap (λ (x : LogReading). x.rises) a.log_read;
            fields_are = ap (λ (x : LogReading). x.fields) a.log_read;
            lasting_are = o;
          };
      leads = subst (λ (ps : List ℕ). Leads l ps (log_of t)) (sym (ap (λ (x : LogReading). x.places) a.log_read))
          (table-leads t l a.log_correct a.log_bytes);
      events_are = ap (λ (x : LogReading). x.events) a.log_read;
    }

module _ (l f : List ℕ) (files : FilesReading) (start : ℕ) (work : List ℕ) where
  pub outside : files.log.events ≤ start → CheckedIs l f files start work work (Err (Outside start))
  unfolding checked
  outside h t fm a =
      let k : length (log_of t).events ≤ start = omega (arith, ap (λ (x : LogReading). x.events) a.log_read) in
      (rw (le-leb (length (log_of t).events) start k), λ why v u. refl)

  pub too_short : start < files.log.events → length work < 192 → CheckedIs l f files start work work (Err (Short 192))
  unfolding checked
  too_short h w t fm a =
      let k : start < length (log_of t).events = omega (arith, ap (λ (x : LogReading). x.events) a.log_read) in
      (rw (lt-leb (length (log_of t).events) start k, lt-ltb (length work) 192 w), λ why v u. refl)

  pub searched : (lasting : List Bool) (slots end : ℕ) (after : List ℕ) (seen : Latest) (r : Result SearchAnswer Refusal) → 192 ≤ length work → slots ≡ slots_of (length work)
      → LastingIs f files.formula.table files.log.rises lasting
      → Told l files.log.places (scope_of files.log files.formula lasting slots) start end seen
      → SearchedFrom l files.log.places f files.formula.table (scope_of files.log files.formula lasting slots) start end seen r
      → CheckedIs l f files start work after r
  unfolding checked
  searched lasting slots end after seen r w n o d s t fm a =
      let g = log_of t in
      let k : start < length g.events = omega (arith, d.there, ap (λ (x : LogReading). x.events) a.log_read) in
      let answer = s g fm (handed t fm l f files.log files.formula lasting slots o a) d in (
        rw (lt-leb (length g.events) start k, le-ltb (length work) 192 w, ← n) answer,
        λ why v u. absurd (only-crowded g fm (search (machine g fm) slots start) why (sym answer ∙ v) u),
      )

module _ (l f : List ℕ) (start : ℕ) (work : List ℕ) where
  -- a file is refused
  pub by-files : (why : Refusal) → ReadsFiles l f (Err why) → Err why ≡ search_answer l f start (length work)
  unfolding search_answer
  by-files why read = sym (ap (λ y. answered y start (length work)) (files-refused l f (read_files l f) why read))

  -- both files are accepted
  pub by-search : (files : FilesReading) → ReadsFiles l f (Ok files) → (after : List ℕ) (x : Result SearchAnswer Refusal)
      → CheckedIs l f files start work after x → (x ≡ search_answer l f start (length work)) × Untouched x work after
  unfolding search_answer
  by-search files read after x h =
      let taken = files-taken l f files (read_files l f) read in
      let r = h taken.file taken.formula taken.both in
      (r.0 ∙ sym (ap (λ y. answered y start (length work)) taken.is), r.1)
