-- "A call checks the log, the formula, .. 10 for work words, 10 for rows (analysis only), then runs": each check of an analysis, in this order.
use Prim.Native.Nat.{ℕ, ◌*◌, ◌≤◌, ◌<◌}
use mathlib.Core.Path.{◌≡◌, ◌∙◌}
use mathlib.Core.List.{List, []}
use borrow.Author.Tests.{lt-ltb, le-ltb}
use lib.ListN.{length}
use Rattle.refusal.specs.declared.Refusal.{Refusal}
use Rattle.refusal.specs.declared.Refusal.TheVariants.{Short}
use Rattle.event_log.specs.File.{LogFile, log_of}
use Rattle.formula.specs.Formula.{Formula}
use Rattle.files.specs.Files.{accepted, refused, read_files}
use Rattle.runs.specs.inner.Search.{search}
use Rattle.machine.specs.Machine.{machine}
use Rattle.search.specs.Search.{slots_of}
use Rattle.analysis.specs.Rows.{rows_from}
use Rattle.analysis.specs.Analysis.{refusal, written_into, checked, analysis}

module _ (l f : List ℕ) (words : ℕ) (rows : List ℕ) where
  pub bad-file : (why : Refusal) → read_files l f ≡ refused why → analysis l f words rows ≡ refusal why rows
  unfolding analysis
  bad-file why e = rw e

  module _ (t : LogFile) (fm : Formula) (read : read_files l f ≡ accepted t fm) where
    both_read : analysis l f words rows ≡ checked (log_of t) fm words rows
    unfolding analysis
    both_read = rw read

    -- 10 for work words, however few row words are lent
    pub short_work : words < 192 → analysis l f words rows ≡ refusal (Short 192) rows
    unfolding checked
    short_work h = both_read ∙ rw (lt-ltb words 192 h)

    -- 10 for rows, where the work words are enough
    pub short_rows : 192 ≤ words → length rows < 12 * length (log_of t).events
        → analysis l f words rows ≡ refusal (Short (12 * length (log_of t).events)) rows
    unfolding checked
    short_rows h k = both_read ∙ rw (le-ltb words 192 h, lt-ltb (length rows) (12 * length (log_of t).events) k)

    -- then the starts are searched
    pub analysed : 192 ≤ words → 12 * length (log_of t).events ≤ length rows
        → analysis l f words rows ≡ written_into (rows_from (log_of t) fm (search (machine (log_of t) fm) (slots_of words)) (length (log_of t).events) 0 []) rows
    unfolding checked
    analysed h k = both_read ∙ rw (le-ltb words 192 h, le-ltb (length rows) (12 * length (log_of t).events) k)
