-- The analysis, from the bytes of the two files, the number of lent work words and the lent row words.
use Rattle.std.specs.Prelude.{ℕ, ◌*◌, cond, List, [], ◌++◌, length, drop, ltb, Result, Ok, Err}
use Rattle.refusal.specs.declared.Refusal.{Refusal}
use Rattle.refusal.specs.declared.Refusal.TheVariants.{Short, Crowded}
use Rattle.event_log.specs.Log.{Log}
use Rattle.event_log.specs.File.{log_of}
use Rattle.formula.specs.Formula.{Formula}
use Rattle.files.specs.Files.{Files, accepted, refused, read_files}
use Rattle.runs.specs.inner.Search.{search}
use Rattle.machine.specs.Machine.{machine}
use Rattle.search.specs.Search.{slots_of}
use Rattle.analysis.specs.Rows.{Written, all, upto, rows_from}

-- the answer, and every lent row word after the call
pub record Analysed : Type 0 where
  pub outcome : Result Unit Refusal
  pub rows : List ℕ

-- a refusal before the searches: no row word is touched
abbrev pub refusal : Refusal → List ℕ → Analysed
refusal r rows = record { outcome = Err r; rows = rows }

-- "further words stay untouched. On 11 the rows before that start are written and the rest is untouched"; of 11 the place is "the start in an
-- analysis"
abbrev pub written_into : Written → List ℕ → Analysed
written_into (all ws) rows = record { outcome = Ok tt; rows = ws ++ drop (length ws) rows }
written_into (upto i ws) rows = record { outcome = Err (Crowded i); rows = ws ++ drop (length ws) rows }

-- "A call checks the log, the formula, .. 10 for work words, 10 for rows (analysis only), then runs"; "Rows need 12 words an event"
unfoldable pub checked : Log → Formula → ℕ → List ℕ → Analysed
checked g f words rows =
    cond (ltb words 192) (refusal (Short 192) rows)
    (cond (ltb (length rows) (12 * length g.events)) (refusal (Short (12 * length g.events)) rows)
    (written_into (rows_from g f (search (machine g f) (slots_of words)) (length g.events) 0 []) rows))

-- a file is refused, or both are accepted and the call's own checks follow
abbrev pub answered : Files → ℕ → List ℕ → Analysed
answered (accepted t f) words rows = checked (log_of t) f words rows
answered (refused r) words rows = refusal r rows

-- The analysis: from the bytes of the log and the formula, the number of lent work words, the lent row words.
unfoldable pub analysis : List ℕ → List ℕ → ℕ → List ℕ → Analysed
analysis l f words rows = answered (read_files l f) words rows
