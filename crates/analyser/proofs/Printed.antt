-- What a call of the analysis leaves, as the text to be printed; how many events there are.
use Prim.Native.Nat.{ℕ, zero, suc, ◌+◌, ◌*◌, ◌<◌, ◌≤◌}
use mathlib.Core.Path.{◌≡◌, refl, ap, ◌∙◌}
use mathlib.Core.List.{List}
use lib.ListN.{length, replicate, get_or, take, drop}
use Rattle.std.proofs.lemmas.List.{drop-drop}
use Rattle.std.specs.Simd.{first_chunks}
use native.Mathlib.Omega.{arith}
use Rattle.std.specs.Prelude.{Result, Ok, Err}
use Rattle.base.specs.Lists.{Bytes}
use Rattle.refusal.specs.declared.Refusal.{Refusal}
use Rattle.refusal.specs.Refusals.{report_of}
use Rattle.event_log.specs.declared.LogReading.{LogReading}
use Rattle.event_log.specs.Read.{Reading, accepted, refused, read_log, answer_of}
use Rattle.event_log.proofs.Accepted.{accepted-is-encoding}
use Rattle.analysis.specs.Analysis.{analysis}
use Rattle.analysis.specs.Call.{Analyses}
use Rattle.text.specs.Text.{lines, refused_line, text_of, events_in, printed}

-- row n of the first k rows of 12 words
pub row-of : (k n : ℕ) (rows d : List ℕ) → n < k → get_or (first_chunks 12 k rows) n d ≡ take 12 (drop (n * 12) rows)
row-of zero n rows d h = absurd (omega arith)
row-of (suc k) zero rows d h = refl
row-of (suc k) (suc n) rows d h =
    let e : 12 + n * 12 ≡ suc n * 12 = omega arith in
    row-of k n (drop 12 rows) d (omega arith) ∙ ap (take 12) (drop-drop (n * 12) 12 rows ∙ ap (λ i. drop i rows) e)

-- the events that the reader counts are those of the log; none where it refuses
abbrev pub counted : Result LogReading Refusal → ℕ
counted (Ok r) = r.events
counted (Err why) = 0

pub events_are : (r : Reading) → counted (answer_of r) ≡ events_in r
unfolding answer_of
events_are (accepted t) = refl
events_are (refused r) = refl

-- an accepted log has at most 1,024 events
few : (l : List ℕ) → Bytes l → (r : Reading) → read_log l ≡ r → events_in r ≤ 1024
few l b (accepted t) e = (accepted-is-encoding l t b e).1.recorded.most_events
few l b (refused r) e = omega arith

pub few-events : (l : List ℕ) → Bytes l → events_in (read_log l) ≤ 1024
few-events l b = few l b (read_log l) refl

-- a call with so many work words and these row words, as text
abbrev printed_with : List ℕ → List ℕ → ℕ → List ℕ → List ℕ
printed_with l f words lent = let a = analysis l f words lent in text_of (events_in (read_log l)) a.outcome a.rows

-- what a call leaves is printed where 64 slots and 1,024 rows are lent: the lines of all rows, or the refusal's
module _ (l f : List ℕ) {work work-after lent rows : List ℕ} {o : Result Unit Refusal}
    (left : Analyses l f work work-after lent rows o)
    (w : length work ≡ 64 * 192) (r : lent ≡ replicate (12 * 1024) 0) where
  as-printed : printed_with l f (length work) lent ≡ printed l f
  unfolding printed
  as-printed = ap (λ n. printed_with l f n lent) w ∙ ap (printed_with l f (64 * 192)) r

  pub done-text : (n : ℕ) → o ≡ Ok tt → n ≡ events_in (read_log l) → lines n rows ≡ printed l f
  done-text n d e =
      let t : lines n rows ≡ printed_with l f (length work) lent = rw (e, ← left.outcome, d, left.rows) in
      t ∙ as-printed

  pub refused-text : (why : Refusal) → o ≡ Err why → refused_line (report_of why) ≡ printed l f
  refused-text why d =
      let t : refused_line (report_of why) ≡ printed_with l f (length work) lent = rw (← left.outcome, d) in
      t ∙ as-printed
