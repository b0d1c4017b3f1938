-- An analysis of a log without 03 is answered, and its rows are written, as before there were absent fields, by the tie rule of now: `Untied` says what that
-- rule moved.
use Prim.Native.Nat.{ℕ, ◌*◌}
use mathlib.Core.Path.{◌≡◌, fun_ext}
use mathlib.Core.Bool.{cond}
use mathlib.Core.List.{List, []}
use lib.ListN.{length}
use lib.Dec.{ltb}
use Rattle.base.specs.Lists.{Bytes}
use Rattle.refusal.specs.declared.Refusal.TheVariants.{Short}
use Rattle.event_log.specs.Log.{Kind}
use Rattle.event_log.specs.File.{log_of}
use Rattle.event_log.proofs.AsBefore.{plain_file}
use Rattle.formula.specs.Formula.{Formula}
use Rattle.files.specs.Files.{accepted, read_files}
use Rattle.runs.specs.inner.Search.{search}
use Rattle.machine.specs.Machine.{machine}
use Rattle.machine.proofs.AsBefore.{machine_before}
use Rattle.search.specs.Search.{slots_of}
use Rattle.search.proofs.AsBefore.{length-plain, searched-before}
use Rattle.analysis.specs.Rows.{rows_from}
use Rattle.analysis.specs.Analysis.{Analysed, refusal, written_into, checked, analysis}

-- a log of 02 alone, by its fields' kinds and its events' values, and a formula
module _ (ks : List Kind) (vs : List (List ℕ)) (fm : Formula) where
  -- the call's own checks, and every start searched over the machine of before
  abbrev pub analysed_before : ℕ → List ℕ → Analysed
  analysed_before words rows =
      cond (ltb words 192) (refusal (Short 192) rows)
      (cond (ltb (length rows) (12 * length vs)) (refusal (Short (12 * length vs)) rows)
      (written_into (rows_from (log_of (plain_file ks vs)) fm (search (machine_before ks vs fm) (slots_of words)) (length vs) 0 []) rows))

  pub analysed-before : (l f : List ℕ) → Bytes l → Bytes f → read_files l f ≡ accepted (plain_file ks vs) fm → (words : ℕ) (rows : List ℕ)
      → analysis l f words rows ≡ analysed_before words rows
  unfolding checked analysis
  analysed-before l f log_bytes formula_bytes read words rows =
      let same : search (machine (log_of (plain_file ks vs)) fm) (slots_of words) ≡ search (machine_before ks vs fm) (slots_of words) =
      fun_ext (λ i. searched-before ks vs fm l f log_bytes formula_bytes read (slots_of words) i) in
      rw (read, same, length-plain ks vs fm)
