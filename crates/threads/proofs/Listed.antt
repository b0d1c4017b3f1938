-- The threads of a list of slots, as loops meet them: the next one, and those behind it.
use Prim.Native.Nat.{ℕ, zero, suc, ◌+◌, ◌-◌, ◌<◌, ◌≤◌}
use mathlib.Core.Path.{◌≡◌, refl, ap, sym, ◌∙◌, subst}
use mathlib.Core.List.{List, [], ◌∷◌, ◌++◌, nil≢cons, cons≢nil, head-eq_of_cons-eq}
use native.Mathlib.Omega.{arith}
use Rattle.std.specs.Prelude.{Option as Maybe}
use lib.ListN.{length, get_or, drop, length-map, get_or-map, drop_of_length-le}
use lib.Seq.{drop-cons, drop-nil}
use Rattle.base.proofs.Lists.{All-at}
use Rattle.event_log.specs.Log.{Log}
use Rattle.formula.specs.Formula.{Formula}
use Rattle.runs.specs.Machine.{Machine}
use Rattle.runs.specs.inner.Lists.{keep, in_turn}
use Rattle.runs.specs.inner.Search as Runs
use Rattle.machine.specs.Machine.{machine}
use Rattle.slots.specs.declared.Thread.{Thread}
use Rattle.slots.specs.inner.Words.{thread_at, place, list}
use Rattle.threads.specs.inner.Setting.{Fit, thread}
use Rattle.threads.specs.inner.Event.{waiting_in, Kept, NoneEnds}
use Rattle.threads.specs.inner.Calls.{Going, Grown, NoEnding}
use Rattle.slots.proofs.Slots.{threads-length, thread-at}

-- a kept list's thread has room for one step more
pub kept_at : (g : Log) (fm : Formula) (half count : ℕ) (l : List ℕ) (j : ℕ) (t : Thread) → Kept g fm half count l → j < count → t ≡ thread_at l (place half j)
    → Going g fm t
kept_at g fm half count l j t k h e =
    let q : get_or (list half count l) j t ≡ t = thread-at half 0 count l j j t (omega arith) h ∙ sym e in
    let n : j < length (list half count l) = omega (arith, threads-length half 0 count l) in
    record {
      fit = subst (Fit g fm) q (All-at (Fit g fm) (list half count l) j t k.fit n);
      short = subst (λ (x : Thread). x.steps < 32) q (All-at (λ (x : Thread). x.steps < 32) (list half count l) j t k.short n);
    }

-- the list of one half stays while the other is filled: so does each of its threads
pub thread-stays : (half slots count : ℕ) (before after : List ℕ) (r : Maybe ℕ) (j : ℕ) (t : Thread) → half < 2 → count ≤ slots → Grown (1 - half) slots before after r
    → j < count → t ≡ thread_at after (place half j) → t ≡ thread_at before (place half j)
thread-stays half slots count before after r j t two most w h e =
    let back : 1 - (1 - half) ≡ half = omega arith in
    let q : list half count after ≡ list half count before = subst (λ i. list i count after ≡ list i count before) back (w.other count most) in
    e ∙ sym (thread-at half 0 count after j j t (omega arith) h) ∙ ap (λ (z : List Thread). get_or z j t) q ∙ thread-at half 0 count before j j t (omega arith) h

-- both parts of an empty list are empty
module _ {A : Type 0} where
  front-empty : (xs ys : List A) → xs ++ ys ≡ [] → xs ≡ []
  front-empty [] ys e = refl
  front-empty (x ∷ xs) ys e = absurd (cons≢nil e)

  back-empty : (xs ys : List A) → xs ++ ys ≡ [] → ys ≡ []
  back-empty [] ys e = e
  back-empty (x ∷ xs) ys e = absurd (cons≢nil e)

-- of a list none of whose threads ends a run, the j-th does not
none-at : (M : Machine) (n j : ℕ) (xs : List (Runs.Thread M)) (y : Runs.Thread M) (ys : List (Runs.Thread M)) → Runs.endings M n xs ≡ [] → drop j xs ≡ y ∷ ys
    → keep (Runs.ended M) (Runs.moves M n y) ≡ []
unfolding Runs.endings in_turn
none-at M n j [] y ys o e = absurd (nil≢cons (sym (drop-nil j) ∙ e))
none-at M n zero (x ∷ xs) y ys o e =
    subst (λ (z : Runs.Thread M). keep (Runs.ended M) (Runs.moves M n z) ≡ []) (head-eq_of_cons-eq e)
    (front-empty (keep (Runs.ended M) (Runs.moves M n x)) (Runs.endings M n xs) o)
none-at M n (suc j) (x ∷ xs) y ys o e =
    none-at M n j xs y ys (back-empty (keep (Runs.ended M) (Runs.moves M n x)) (Runs.endings M n xs) o) e

module _ (g : Log) (fm : Formula) (half count : ℕ) (l : List ℕ) (j : ℕ) (t : Thread) (h : j < count) (e : t ≡ thread_at l (place half j)) where
  -- from the j-th thread on: it, and those from the next on
  pub waiting-next : drop j (waiting_in g fm half count l) ≡ thread g fm t ∷ drop (j + 1) (waiting_in g fm half count l)
  waiting-next =
      let n : j < length (waiting_in g fm half count l) = omega (arith, length-map (list half count l) (thread g fm), threads-length half 0 count l) in
      let q : get_or (waiting_in g fm half count l) j (thread g fm t) ≡ thread g fm t = get_or-map (thread g fm) (list half count l) j t
      ∙ ap (thread g fm) (thread-at half 0 count l j j t (omega arith) h ∙ sym e) in
      let one : suc j ≡ j + 1 = omega arith in
      drop-cons (waiting_in g fm half count l) j (thread g fm t) n
      ∙ ap (λ (x : Runs.Thread (machine g fm)). x ∷ drop (suc j) (waiting_in g fm half count l)) q
      ∙ ap (λ i. thread g fm t ∷ drop i (waiting_in g fm half count l)) one

  -- where no thread of the list ends a run, it does not
  pub ends-none : (n : ℕ) → NoneEnds g fm n half count l → NoEnding g fm t n
  ends-none n o = none-at (machine g fm) n j (waiting_in g fm half count l) (thread g fm t) (drop (j + 1) (waiting_in g fm half count l)) o waiting-next

pub waiting-done : (g : Log) (fm : Formula) (half count : ℕ) (l : List ℕ) (j : ℕ) → count ≤ j → drop j (waiting_in g fm half count l) ≡ []
waiting-done g fm half count l j h =
    let n : length (waiting_in g fm half count l) ≤ j = omega (arith, length-map (list half count l) (thread g fm), threads-length half 0 count l) in
    drop_of_length-le (waiting_in g fm half count l) n
