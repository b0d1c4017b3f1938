-- A thread's trail: its length, its events and step numbers, and one step more.
use Prim.Native.Nat.{ℕ, ◌+◌, ◌*◌, ◌/◌, ◌%◌, ◌<◌, ◌≤◌, min}
use mathlib.Core.Path.{◌≡◌, refl, ap, sym, ◌∙◌}
use mathlib.Core.Bool.{Bool, true, false}
use mathlib.Core.List.{List, map, map-map, map-append}
use native.Mathlib.Numerals.{add-one}
use native.Mathlib.Omega.{arith}
use lib.ListN.{length, take, length-take, length-map}
use lib.Dec.{leb}
use borrow.Author.Tests.{leb-true, leb-false}
use lib.Seq.{take_all, take-suc-set}
use Rattle.runs.specs.Run.{Entry}
use Rattle.runs.specs.Order.{events, numbers}
use Rattle.runs.specs.inner.Order.{order}
use Rattle.slots.specs.declared.Thread.{Thread}
use Rattle.slots.specs.inner.Threads.{entry_of, trail_of, Sized, with_step, Extended, word_order}

-- a trail has as many entries as steps were taken, 32 at most
pub trail-length : (t : Thread) → Sized t → length (trail_of t) ≡ min t.steps 32
unfolding trail_of
trail-length t s = length-map (take t.steps t.trail) entry_of ∙ length-take t.steps t.trail ∙ ap (min t.steps) s.trail_32

-- so many words of the trail are enough
take-capped : (l : List ℕ) (n m : ℕ) → length l ≡ 32 → m ≡ min n 32 → take m l ≡ take n l
take-capped l n m e h = go (leb n 32) refl
  where
    go : (b : Bool) → leb n 32 ≡ b → take m l ≡ take n l
    go true p =
        let q : n ≤ 32 = leb-true n 32 p in
        let r : m ≡ n = omega arith in
        ap (λ k. take k l) r
    go false p =
        let q : 32 < n = leb-false n 32 p in
        take_all m l (omega arith) ∙ sym (take_all n l (omega arith))

module _ (t : Thread) (s : length t.trail ≡ 32) (m : ℕ) (h : m ≡ min t.steps 32) where
  -- the words' events and step numbers are the trail's
  trail-events : map (λ w. w / 8) (take m t.trail) ≡ events (trail_of t)
  unfolding trail_of
  trail-events = ap (map (λ w. w / 8)) (take-capped t.trail t.steps m s h) ∙ sym (map-map (λ (x : Entry). x.event) entry_of (take t.steps t.trail))

  trail-numbers : map (λ w. w % 8) (take m t.trail) ≡ numbers (trail_of t)
  unfolding trail_of
  trail-numbers = ap (map (λ w. w % 8)) (take-capped t.trail t.steps m s h) ∙ sym (map-map (λ (x : Entry). x.step) entry_of (take t.steps t.trail))

-- first by the events, then by the step numbers: the order of the trails
pub later-is : (a b : Thread) → length a.trail ≡ 32 → length b.trail ≡ 32 → (m n : ℕ) → m ≡ min a.steps 32 → n ≡ min b.steps 32
    → word_order (take m a.trail) (take n b.trail) ≡ order (trail_of a) (trail_of b)
unfolding order word_order
later-is a b s t m n h k = rw (trail-events a s m h, trail-events b t n k, trail-numbers a s m h, trail-numbers b t n k)

-- a trail with one word more has one entry more
pub extended : (t : Thread) (event number : ℕ) → Sized t → t.steps < 32 → number < 8 → Extended t event number (with_step t event number)
unfolding trail_of
extended t event number s h k =
    let e : (event * 8 + number) / 8 ≡ event = omega arith in
    let n : (event * 8 + number) % 8 ≡ number = omega arith in
    let i : t.steps < length t.trail = omega (arith, s.trail_32) in
    record {
      fields = refl;
      trail = rw (add-one t.steps, take-suc-set t.trail t.steps (event * 8 + number) i, map-append, e, n);
    }
