-- Inserting one of the structs' threads into a list is the search's insert; looking for one that stands for the same configuration.
use mathlib.Core.Path.{◌≡◌, refl, ap, sym, subst, ◌∙◌}
use mathlib.Core.Bool.{Bool, true, false, ◌&&◌}
use mathlib.Core.Option.{some}
use mathlib.Core.List.{List, [], ◌∷◌, map}
use Prim.Native.Nat.{ℕ, ◌<◌, ◌≤◌, Ordering}
use native.Mathlib.Omega.{arith}
use lib.Dec.{eqb}
use Rattle.base.specs.Lists.{same_list}
use Rattle.event_log.specs.Log.{Log}
use Rattle.formula.specs.Formula.{Formula}
use Rattle.runs.specs.inner.Order.{order}
use Rattle.runs.specs.inner.Search.{pick, lesser}
use Rattle.runs.specs.inner.Threads.{place, insert}
use Rattle.machine.specs.Machine.{machine}
use Rattle.slots.specs.declared.Thread.{Thread}
use Rattle.slots.specs.inner.Threads.{trail_of, same_words, comes_after, replaced, lesser_thread, placed, insert_thread}
use Rattle.slots.specs.inner.Words.{thread_at, Differ}
use Rattle.slots.specs.inner.Words as Slots
use Rattle.slots.proofs.ByPlace.{ranges}
use Rattle.machine.specs.inner.Along.{gathered}
use Rattle.threads.specs.inner.Setting.{Fit, thread}
use Rattle.threads.specs.inner.Event.{Kept}
use Rattle.threads.specs.inner.Calls.{same_as}
use Rattle.threads.proofs.Same.{same-is}
use Rattle.threads.proofs.Listed.{kept_at}

module _ (g : Log) (fm : Formula) where
  -- the lesser trail is the search's
  lesser-is : (a b : Thread) → thread g fm (lesser_thread a b) ≡ lesser (machine g fm) (some (thread g fm a)) (thread g fm b)
  unfolding lesser_thread lesser
  lesser-is a b = go (order (trail_of a) (trail_of b))
    where
      go : (o : Ordering) → thread g fm (replaced (comes_after o) a b) ≡ pick (machine g fm) o (thread g fm a) (thread g fm b)
      go Ordering.lt = refl
      go Ordering.eq = refl
      go Ordering.gt = refl

  pub insert-is : (b : Thread) (ths : List Thread)
      → map (thread g fm) (insert_thread (same_as g fm b) b ths) ≡ insert (machine g fm) (thread g fm b) (map (thread g fm) ths)
  unfolding insert_thread insert
  insert-is b [] = refl
  insert-is b (a ∷ rest) = go (same_as g fm b a) (insert-is b rest)
    where
      go : (s : Bool) → map (thread g fm) (insert_thread (same_as g fm b) b rest) ≡ insert (machine g fm) (thread g fm b) (map (thread g fm) rest)
          → map (thread g fm) (placed s a b rest (insert_thread (same_as g fm b) b rest))
          ≡ place (machine g fm) s (thread g fm a) (thread g fm b) (map (thread g fm) rest) (insert (machine g fm) (thread g fm b) (map (thread g fm) rest))
      go true e = ap (λ x. x ∷ map (thread g fm) rest) (lesser-is a b)
      go false e = ap (λ x. thread g fm a ∷ x) e

module _ (g : Log) (fm : Formula) (half count : ℕ) (l : List ℕ) (k : Kept g fm half count l) (b : Thread) (w : Fit g fm b) where
  -- none of the threads of a range stands for b's configuration
  abbrev Missed : ℕ → ℕ → Type 0
  Missed from to = (i : ℕ) → from ≤ i → i < to → same_as g fm b (thread_at l (Slots.place half i)) ≡ false

  fit_at : (i : ℕ) → i < count → Fit g fm (thread_at l (Slots.place half i))
  fit_at i h = (kept_at g fm half count l i (thread_at l (Slots.place half i)) k h refl).fit

  -- those whose words differ do not
  pub missed-words : (from to : ℕ) → to ≤ count → Differ half from to b.config l → Missed from to
  missed-words from to most x i h m =
      same-is g fm (thread_at l (Slots.place half i)) b (fit_at i (omega arith)) w
      ∙ ap (λ z. z && same_list (same_list eqb) (gathered g fm (trail_of (thread_at l (Slots.place half i)))) (gathered g fm (trail_of b))) (x i h m)

  -- nor do those before a place, and those from there on whose words differ
  pub missed_more : (from to : ℕ) → to ≤ count → Missed 0 from → Differ half from to b.config l → Missed 0 to
  missed_more from to most before x = ranges (λ i. same_as g fm b (thread_at l (Slots.place half i)) ≡ false) 0 from to before (missed-words from to most x)

  -- where the words are the same, the lists decide
  pub same-by-lists : (j : ℕ) (a : Thread) (r : Bool) → j < count → a ≡ thread_at l (Slots.place half j)
      → same_words (thread_at l (Slots.place half j)).config b.config ≡ true
      → (Fit g fm a → Fit g fm b → same_words a.config b.config ≡ true
      → r ≡ same_list (same_list eqb) (gathered g fm (trail_of a)) (gathered g fm (trail_of b)))
      → same_as g fm b (thread_at l (Slots.place half j)) ≡ r
  same-by-lists j a r h e q lists =
      let u : Fit g fm a = subst (Fit g fm) (sym e) (fit_at j h) in
      let p : same_words a.config b.config ≡ true = ap (λ (x : Thread). same_words x.config b.config) e ∙ q in
      ap (same_as g fm b) (sym e) ∙ same-is g fm a b u w
      ∙ ap (λ z. z && same_list (same_list eqb) (gathered g fm (trail_of a)) (gathered g fm (trail_of b))) p ∙ sym (lists u w p)
