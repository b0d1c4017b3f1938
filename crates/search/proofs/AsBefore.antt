-- A search of a log without 03 is answered as before there were absent fields.
use Prim.Native.Nat.{ℕ}
use Rattle.std.specs.Prelude.{Result}
use mathlib.Core.Path.{◌≡◌}
use mathlib.Core.Bool.{cond}
use mathlib.Core.List.{List}
use lib.ListN.{length, length-map}
use lib.Dec.{leb, ltb}
use Rattle.base.specs.Lists.{Bytes}
use Rattle.refusal.specs.declared.Refusal.{Refusal}
use Rattle.refusal.specs.declared.Refusal.TheVariants.{Outside, Short}
use Rattle.event_log.specs.Log.{Kind}
use Rattle.event_log.specs.File.{log_of}
use Rattle.event_log.proofs.AsBefore.{plain_file, whole, all-present, correct-before}
use Rattle.formula.specs.Formula.{Formula}
use Rattle.files.specs.Files.{accepted, read_files}
use Rattle.files.proofs.Reading.{files-correct}
use Rattle.runs.specs.inner.Search.{search}
use Rattle.machine.specs.Machine.{machine}
use Rattle.machine.proofs.AsBefore.{machine_before, search-before}
use Rattle.search.specs.declared.SearchAnswer.{SearchAnswer}
use Rattle.search.specs.Search.{slots_of, refusal, answer_of, checked, search_answer}

-- a log of 02 alone, by its fields' kinds and its events' values, and a formula
module _ (ks : List Kind) (vs : List (List ℕ)) (fm : Formula) where
  -- the call's own checks, and the search over the machine of before
  abbrev pub checked_before : ℕ → ℕ → Result SearchAnswer Refusal
  checked_before start words =
      cond (leb (length vs) start) (refusal (Outside start))
      (cond (ltb words 192) (refusal (Short 192))
      (answer_of (log_of (plain_file ks vs)) fm (search (machine_before ks vs fm) (slots_of words) start)))

  pub length-plain : length (log_of (plain_file ks vs)).events ≡ length vs
  length-plain = rw (all-present vs) (length-map vs whole)

  -- the bytes of both
  module _ (l f : List ℕ) (log_bytes : Bytes l) (formula_bytes : Bytes f) (read : read_files l f ≡ accepted (plain_file ks vs) fm) where
    -- a search over their machine, from any event
    pub searched-before : (slots i : ℕ) → search (machine (log_of (plain_file ks vs)) fm) slots i ≡ search (machine_before ks vs fm) slots i
    searched-before slots i =
        let ok = files-correct l f log_bytes formula_bytes (plain_file ks vs) fm read in
        search-before ks vs fm ((correct-before ks vs).0 ok.0).one_per_field ok.1 slots i

    pub answered-before : (start words : ℕ) → search_answer l f start words ≡ checked_before start words
    unfolding checked search_answer
    answered-before start words = rw (read, searched-before (slots_of words) start, length-plain)
