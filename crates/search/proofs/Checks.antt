-- "A call checks the log, the formula, 9 (search only), 10 for work words, .. then runs": each check of a search, in this order.
use Prim.Native.Nat.{ℕ, ◌≤◌, ◌<◌}
use mathlib.Core.Path.{◌≡◌, ◌∙◌}
use mathlib.Core.List.{List}
use borrow.Author.Tests.{lt-ltb, le-ltb, le-leb, lt-leb}
use lib.ListN.{length}
use Rattle.refusal.specs.declared.Refusal.{Refusal}
use Rattle.refusal.specs.declared.Refusal.TheVariants.{Outside, Short}
use Rattle.event_log.specs.File.{LogFile, log_of}
use Rattle.formula.specs.Formula.{Formula}
use Rattle.files.specs.Files.{accepted, refused, read_files}
use Rattle.runs.specs.inner.Search.{search}
use Rattle.machine.specs.Machine.{machine}
use Rattle.search.specs.Search.{slots_of, refusal, answer_of, checked, search_answer}

module _ (l f : List ℕ) (start words : ℕ) where
  pub bad-file : (why : Refusal) → read_files l f ≡ refused why → search_answer l f start words ≡ refusal why
  unfolding search_answer
  bad-file why e = rw e

  module _ (t : LogFile) (fm : Formula) (read : read_files l f ≡ accepted t fm) where
    both_read : search_answer l f start words ≡ checked (log_of t) fm start words
    unfolding search_answer
    both_read = rw read

    -- 9, however few words are lent
    pub outside : length (log_of t).events ≤ start → search_answer l f start words ≡ refusal (Outside start)
    unfolding checked
    outside h = both_read ∙ rw (le-leb (length (log_of t).events) start h)

    -- 10, where the start is one of the events
    pub short : start < length (log_of t).events → words < 192 → search_answer l f start words ≡ refusal (Short 192)
    unfolding checked
    short h k = both_read ∙ rw (lt-leb (length (log_of t).events) start h, lt-ltb words 192 k)

    -- then the runs decide
    pub searched : start < length (log_of t).events → 192 ≤ words
        → search_answer l f start words ≡ answer_of (log_of t) fm (search (machine (log_of t) fm) (slots_of words) start)
    unfolding checked
    searched h k = both_read ∙ rw (lt-leb (length (log_of t).events) start h, le-ltb words 192 k)
