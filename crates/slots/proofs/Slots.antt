-- The threads of the slots: storing into one slot leaves every other slot's and the other half's threads alone.
use Prim.Native.Nat.{ℕ, zero, suc, ◌+◌, ◌<◌, ◌≤◌, min}
use mathlib.Core.Path.{◌≡◌, refl, ap, sym, ◌∙◌}
use mathlib.Core.Bool.{Bool, true, false}
use mathlib.Core.List.{List, [], ◌∷◌, ◌++◌}
use native.Mathlib.Numerals.{add-one}
use native.Mathlib.Omega.{arith}
use borrow.Author.Tests.{ltb-true, ltb-false}
use lib.Dec.{ltb}
use lib.ListN.{length, get_or, take, drop, set}
use lib.Seq.{get_or-drop, take-take}
use Rattle.runs.specs.inner.Order.{order}
use Rattle.slots.specs.declared.Thread.{Thread}
use Rattle.slots.specs.inner.Threads.{Sized, trail_of, word_order}
use Rattle.slots.specs.inner.Words.{words_of, thread_of, thread_at, put, place, threads_from, list}
use Rattle.slots.proofs.Parts.{part_length, drop-put, drop-put-behind, part-put-before}
use Rattle.slots.proofs.Trails.{later-is}
use Rattle.slots.proofs.Words.{thread-take, thread-of-words, words-length}

-- the thread of a half's words is that of the words from where it begins
pub half-thread : (l h : List ℕ) (p : ℕ) → h ≡ take 96 (drop p l) → thread_of h ≡ thread_at l p
half-thread l h p e = ap thread_of e ∙ thread-take 96 (drop p l) (omega arith)

-- the words of its trail compared: the order of its thread's trail
pub later-there : (h : List ℕ) (b : Thread) (m k n : ℕ) → m ≡ k → 78 ≤ length h → length b.trail ≡ 32 → k ≡ min (get_or h 45 0) 32 → n ≡ min b.steps 32
    → word_order (take m (drop 46 h)) (take n b.trail) ≡ order (trail_of (thread_of h)) (trail_of b)
unfolding thread_of
later-there h b m k n q z s e f =
    let w : take m (drop 46 h) ≡ take k (take 32 (drop 46 h)) = ap (λ i. take i (drop 46 h)) q ∙ sym (take-take k 32 (drop 46 h) (omega arith)) in
    rw w (later-is (thread_of h) b (part_length 46 32 h (omega arith)) s k n e f)

module _ (l : List ℕ) (t : Thread) (s : Sized t) where
  -- where a thread was stored it is read back
  pub stored_here : (a : ℕ) → a ≤ length l → thread_at (put l a (words_of t)) a ≡ t
  stored_here a h = ap thread_of (drop-put l a (words_of t) h) ∙ thread-of-words t (drop (a + length (words_of t)) l) s

  stored-before : (a b : ℕ) → a ≤ length l → b + 78 ≤ a → thread_at (put l a (words_of t)) b ≡ thread_at l b
  stored-before a b h k =
      sym (thread-take 78 (drop b (put l a (words_of t))) (omega arith))
      ∙ ap thread_of (part-put-before l a (words_of t) b 78 h k)
      ∙ thread-take 78 (drop b l) (omega arith)

  stored-behind : (a b : ℕ) → a ≤ length l → a + 78 ≤ b → thread_at (put l a (words_of t)) b ≡ thread_at l b
  stored-behind a b h k =
      let n = words-length t s in
      ap thread_of (drop-put-behind l a (words_of t) b h (omega arith))

  -- storing into one half of a slot leaves the thread of every other half or slot
  pub stored-elsewhere : (half slot half' slot' : ℕ) → place half slot ≤ length l → (place half' slot' ≡ place half slot → ⊥)
      → thread_at (put l (place half slot) (words_of t)) (place half' slot') ≡ thread_at l (place half' slot')
  stored-elsewhere half slot half' slot' h ne = go (ltb (place half' slot') (place half slot)) refl
    where
      go : (b : Bool) → ltb (place half' slot') (place half slot) ≡ b
          → thread_at (put l (place half slot) (words_of t)) (place half' slot') ≡ thread_at l (place half' slot')
      go true e =
          let k : place half' slot' < place half slot = ltb-true (place half' slot') (place half slot) e in
          stored-before (place half slot) (place half' slot') h (omega arith)
      go false e =
          let k : place half slot ≤ place half' slot' = ltb-false (place half' slot') (place half slot) e in
          stored-behind (place half slot) (place half' slot') h (omega (arith, ne))

  module _ (half slot : ℕ) (fits : place half slot ≤ length l) where
    -- a list of slots that the stored one is not among
    pub threads-elsewhere : (half' k n : ℕ) → ((i : ℕ) → k ≤ i → i < k + n → place half' i ≡ place half slot → ⊥)
        → threads_from half' k n (put l (place half slot) (words_of t)) ≡ threads_from half' k n l
    unfolding threads_from
    threads-elsewhere half' k zero ne = refl
    threads-elsewhere half' k (suc n) ne =
        rw (
          stored-elsewhere half slot half' k fits (ne k (omega arith) (omega arith)),
          threads-elsewhere half' (suc k) n
              (λ i h g. ne i (omega arith) (omega arith)),
        )

    -- a list that the stored slot is among
    pub threads-stored : (k n m : ℕ) → slot ≡ k + m → m < n → threads_from half k n (put l (place half slot) (words_of t)) ≡ set (threads_from half k n l) m t
    unfolding threads_from
    threads-stored k zero m e h = absurd (omega arith)
    threads-stored k (suc n) zero e h =
        let q : slot ≡ k = omega arith in
        let here : thread_at (put l (place half slot) (words_of t)) (place half k) ≡ t =
        ap (λ i. thread_at (put l (place half slot) (words_of t)) (place half i)) (sym q) ∙ stored_here (place half slot) fits in
        rw (here, threads-elsewhere half (suc k) n (λ i p g z. omega arith))
    threads-stored k (suc n) (suc m) e h =
        rw (stored-elsewhere half slot half k fits (λ z. omega arith), threads-stored (suc k) n m (omega arith) (omega arith))

-- one slot more, at the end
threads-last : (half k n m : ℕ) (l : List ℕ) → m ≡ k + n → threads_from half k (suc n) l ≡ threads_from half k n l ++ (thread_at l (place half m) ∷ [])
unfolding threads_from
threads-last half k zero m l e =
    let q : m ≡ k = omega arith in
    rw q
threads-last half k (suc n) m l e = ap (λ x. thread_at l (place half k) ∷ x) (threads-last half (suc k) n m l (omega arith))

pub list-more : (half n : ℕ) (l : List ℕ) → list half (n + 1) l ≡ list half n l ++ (thread_at l (place half n) ∷ [])
list-more half n l = ap (λ i. list half i l) (add-one n) ∙ threads-last half 0 n n l (omega arith)

pub threads-length : (half k n : ℕ) (l : List ℕ) → length (threads_from half k n l) ≡ n
unfolding threads_from
threads-length half k zero l = refl
threads-length half k (suc n) l = ap suc (threads-length half (suc k) n l)

-- the thread at an index
pub thread-at : (half k n : ℕ) (l : List ℕ) (i j : ℕ) (d : Thread) → j ≡ k + i → i < n → get_or (threads_from half k n l) i d ≡ thread_at l (place half j)
unfolding threads_from
thread-at half k zero l i j d e h = absurd (omega arith)
thread-at half k (suc n) l zero j d e h =
    let q : j ≡ k = omega arith in
    rw q
thread-at half k (suc n) l (suc i) j d e h = thread-at half (suc k) n l i j d (omega arith) (omega arith)

-- a thread's state and its number of steps, as words
pub state-word : (l : List ℕ) (a : ℕ) → get_or l a 0 ≡ (thread_at l a).config.state
unfolding thread_of
state-word l a = sym (get_or-drop a l 0 0 ∙ ap (λ i. get_or l i 0) (omega arith))

pub steps-word : (l : List ℕ) (a : ℕ) → get_or l (a + 45) 0 ≡ (thread_at l a).steps
unfolding thread_of
steps-word l a = sym (get_or-drop a l 45 0)
