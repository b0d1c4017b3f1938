-- An analysis of a log without 04 is answered, and its rows are written, as before there were clock marks, by the tie rule of now: `Untied` says what that
-- rule moved.
use Prim.Native.Nat.{ℕ, ◌*◌}
use mathlib.Core.Path.{◌≡◌, fun_ext}
use mathlib.Core.Bool.{cond}
use mathlib.Core.List.{List, []}
use lib.ListN.{length}
use lib.Dec.{ltb}
use Rattle.refusal.specs.declared.Refusal.TheVariants.{Short}
use Rattle.event_log.specs.Log.{Kind}
use Rattle.event_log.specs.File.{Payload, log_of}
use Rattle.event_log.proofs.Unmarked.{unmarked_file, length-sent}
use Rattle.formula.specs.Formula.{Formula}
use Rattle.files.specs.Files.{accepted, read_files}
use Rattle.runs.specs.inner.Search.{search}
use Rattle.machine.specs.Machine.{machine}
use Rattle.machine.proofs.Unmarked.{search_unmarked, search-unmarked}
use Rattle.search.specs.Search.{slots_of}
use Rattle.analysis.specs.Rows.{rows_from}
use Rattle.analysis.specs.Analysis.{Analysed, refusal, written_into, checked, analysis}

-- a log of 02 and 03 alone, by its fields' kinds and what its events send, and a formula
module _ (ks : List Kind) (ps : List Payload) (fm : Formula) where
  -- the call's own checks, and the search of before from every start
  abbrev pub analysed_unmarked : ℕ → List ℕ → Analysed
  analysed_unmarked words rows =
      cond (ltb words 192) (refusal (Short 192) rows)
      (cond (ltb (length rows) (12 * length ps)) (refusal (Short (12 * length ps)) rows)
      (written_into (rows_from (log_of (unmarked_file ks ps)) fm (search_unmarked ks ps fm (slots_of words)) (length ps) 0 []) rows))

  pub analysed-unmarked : (l f : List ℕ) → read_files l f ≡ accepted (unmarked_file ks ps) fm → (words : ℕ) (rows : List ℕ)
      → analysis l f words rows ≡ analysed_unmarked words rows
  unfolding checked analysis
  analysed-unmarked l f read words rows =
      let same : search (machine (log_of (unmarked_file ks ps)) fm) (slots_of words) ≡ search_unmarked ks ps fm (slots_of words) =
      fun_ext (search-unmarked ks ps fm (slots_of words)) in
      rw (read, same, length-sent ps)
