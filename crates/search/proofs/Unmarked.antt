-- A search of a log without 04 is answered as before there were clock marks.
use Prim.Native.Nat.{ℕ}
use Rattle.std.specs.Prelude.{Result}
use mathlib.Core.Path.{◌≡◌}
use mathlib.Core.Bool.{cond}
use mathlib.Core.List.{List}
use lib.ListN.{length}
use lib.Dec.{leb, ltb}
use Rattle.refusal.specs.declared.Refusal.{Refusal}
use Rattle.refusal.specs.declared.Refusal.TheVariants.{Outside, Short}
use Rattle.event_log.specs.Log.{Kind}
use Rattle.event_log.specs.File.{Payload, log_of}
use Rattle.event_log.proofs.Unmarked.{unmarked_file, length-sent}
use Rattle.formula.specs.Formula.{Formula}
use Rattle.files.specs.Files.{accepted, read_files}
use Rattle.machine.proofs.Unmarked.{search_unmarked, search-unmarked}
use Rattle.search.specs.declared.SearchAnswer.{SearchAnswer}
use Rattle.search.specs.Search.{slots_of, refusal, answer_of, checked, search_answer}

-- a log of 02 and 03 alone, by its fields' kinds and what its events send, and a formula
module _ (ks : List Kind) (ps : List Payload) (fm : Formula) where
  -- the call's own checks, and the search of before
  abbrev pub checked_unmarked : ℕ → ℕ → Result SearchAnswer Refusal
  checked_unmarked start words =
      cond (leb (length ps) start) (refusal (Outside start))
      (cond (ltb words 192) (refusal (Short 192))
      (answer_of (log_of (unmarked_file ks ps)) fm (search_unmarked ks ps fm (slots_of words) start)))

  pub answered-unmarked : (l f : List ℕ) → read_files l f ≡ accepted (unmarked_file ks ps) fm → (start words : ℕ)
      → search_answer l f start words ≡ checked_unmarked start words
  unfolding checked search_answer
  answered-unmarked l f read start words = rw (read, search-unmarked ks ps fm (slots_of words) start, length-sent ps)
