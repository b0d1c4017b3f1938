-- "Search and analysis": the answer of a search, from the bytes of the two files, the start and the number of lent work words.
use Rattle.std.specs.Prelude.{ℕ, ◌/◌, min, false, cond, List, [], length, leb, ltb, Result, Ok, Err}
use Rattle.base.specs.Lists.{pad}
use Rattle.refusal.specs.declared.Refusal.{Refusal}
use Rattle.refusal.specs.declared.Refusal.TheVariants.{Outside, Short, Crowded}
use Rattle.event_log.specs.Log.{Log}
use Rattle.event_log.specs.File.{log_of}
use Rattle.formula.specs.Formula.{Formula}
use Rattle.files.specs.Files.{Files, accepted, refused, read_files}
use Rattle.runs.specs.Run.{Trail}
use Rattle.runs.specs.Order.{events, numbers}
use Rattle.runs.specs.inner.Search.{search}
use Rattle.runs.specs.Answer.{Answer, found, absent, crowded}
use Rattle.machine.specs.Configuration.{Config}
use Rattle.machine.specs.Machine.{machine, accepting}
use Rattle.search.specs.declared.Verdict.TheVariants.{Absent, Accept, Reject}
use Rattle.search.specs.declared.SearchAnswer.{SearchAnswer}

-- "A seat counts 192 lent work words of 32 bits; words left over are unused, and more than 64 seats count as 64"
unfoldable pub slots_of : ℕ → ℕ
slots_of words = min 64 (words / 192)

-- an answer without a run, "unused entries 0"
abbrev pub without : ℕ → SearchAnswer
without width = record { verdict = Absent; steps = 0; events = pad 32 0 []; numbers = pad 32 0 []; held = pad 8 false []; values = pad 8 0 []; width = width }

-- a refusal names file, number and place, and nothing else
abbrev pub refusal : Refusal → Result SearchAnswer Refusal
refusal r = Err r

-- an answer that names a run: where it ends, its trail
abbrev pub named : Formula → Config → Trail → ℕ → SearchAnswer
named f c t width =
    record {
      verdict = cond (accepting f c) Accept Reject;
      steps = length t;
      events = pad 32 0 (events t);
      numbers = pad 32 0 (numbers t);
      held = c.held;
      values = c.values;
      width = width;
    }

-- "the search gives accept or reject with the least run (step count, events, step numbers, held variables; unused entries 0),
-- or none. It also carries the width"; of 11 the place is "the event in a search"
abbrev pub answer_of : (g : Log) (f : Formula) → Answer (machine g f) → Result SearchAnswer Refusal
answer_of g f (found c t width) = Ok (named f c t width)
answer_of g f (absent width) = Ok (without width)
answer_of g f (crowded n) = refusal (Crowded n)

-- "A call checks the log, the formula, 9 (search only), 10 for work words, .. then runs"
unfoldable pub checked : Log → Formula → ℕ → ℕ → Result SearchAnswer Refusal
checked g f start words =
    cond (leb (length g.events) start) (refusal (Outside start))
    (cond (ltb words 192) (refusal (Short 192))
    (answer_of g f (search (machine g f) (slots_of words) start)))

-- a file is refused, or both are accepted and the call's own checks follow
abbrev pub answered : Files → ℕ → ℕ → Result SearchAnswer Refusal
answered (accepted t f) start words = checked (log_of t) f start words
answered (refused r) start words = refusal r

-- The search's answer: from the bytes of the log and the formula, the start, the number of lent work words.
unfoldable pub search_answer : List ℕ → List ℕ → ℕ → ℕ → Result SearchAnswer Refusal
search_answer l f start words = answered (read_files l f) start words
