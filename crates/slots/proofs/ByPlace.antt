-- Inserting a thread into a list of threads: by where the first one that passes a test stands.
use Prim.Native.Nat.{ℕ, zero, suc, ◌+◌, ◌*◌, ◌<◌, ◌≤◌}
use mathlib.Core.Path.{◌≡◌, refl, ap, sym, ◌∙◌}
use mathlib.Core.Bool.{Bool, true, false}
use mathlib.Core.List.{List, [], ◌∷◌, ◌++◌}
use native.Mathlib.Omega.{arith}
use native.Mathlib.Decide.{dec_lt}
use lib.ListN.{length, get_or, set, length-append, length-set}
use lib.Seq.{set-get_or}
use lib.Dec.{ltb}
use borrow.Author.Tests.{lt-ltb, le-ltb, ltb-false}
use Rattle.std.specs.Prelude.{Option, Some, None}
use Rattle.base.specs.Lists.{some_if, some_below}
use Rattle.runs.specs.inner.Order.{order}
use Rattle.slots.specs.declared.Thread.{Thread}
use Rattle.slots.specs.inner.Threads.{Sized, trail_of, comes_after, replaced, lesser_thread, placed, insert_thread, found_or, position}
use Rattle.slots.specs.inner.Words.{words_of, thread_at, put, place, threads_from, list, Around, InsertedAt, KeptAt}
use Rattle.slots.proofs.Parts.{put-length}
use Rattle.slots.proofs.Words.{words-length}
use Rattle.slots.proofs.Slots.{threads-elsewhere, threads-stored, threads-length, thread-at, list-more, stored_here, stored-elsewhere}

-- what holds of the numbers of two ranges, one behind the other, holds of both
pub ranges : (P : ℕ → Type 0) (a i b : ℕ) → ((k : ℕ) → a ≤ k → k < i → P k) → ((k : ℕ) → i ≤ k → k < b → P k) → (k : ℕ) → a ≤ k → k < b → P k
ranges P a i b low high k h l = go (dec_lt k i)
  where
    go : Dec (k < i) → P k
    go (yes p) = low k h p
    go (no p) = high k (omega arith) l

module _ (p : Thread → Bool) where
  -- the first that passes stands where none before it does
  position_from : (half k n : ℕ) (l : List ℕ) (m r : ℕ) → m ≡ k + r → r ≤ n → ((i : ℕ) → k ≤ i → i < m → p (thread_at l (place half i)) ≡ false)
      → (r < n → p (thread_at l (place half m)) ≡ true) → r ≡ position p (threads_from half k n l)
  unfolding position threads_from
  position_from half k zero l m r e h before here = omega arith
  position_from half k (suc n) l m zero e h before here =
      let q : m ≡ k = omega arith in
      let t : p (thread_at l (place half k)) ≡ true = ap (λ i. p (thread_at l (place half i))) (sym q) ∙ here (omega arith) in
      rw t
  position_from half k (suc n) l m (suc r) e h before here =
      rw (before k (omega arith) (omega arith))
      (ap suc (position_from half (suc k) n l m r (omega arith) (omega arith) (λ i q. before i (omega arith)) (λ q. here (omega arith))))

  pub position-is : (half count : ℕ) (l : List ℕ) (r : ℕ) → r ≤ count → ((i : ℕ) → 0 ≤ i → i < r → p (thread_at l (place half i)) ≡ false)
      → (r < count → p (thread_at l (place half r)) ≡ true) → r ≡ position p (list half count l)
  position-is half count l r h before here = position_from half 0 count l r r (omega arith) h before here

  position-within : (ths : List Thread) → position p ths ≤ length ths
  unfolding position
  position-within [] = omega arith
  position-within (a ∷ rest) = go (p a) (position-within rest)
    where
      go : (s : Bool) → position p rest ≤ length rest → found_or s (position p rest) ≤ suc (length rest)
      go true h = omega arith
      go false h = omega arith

  module _ (b : Thread) where
    -- where a thread passes, the lesser of the two trails takes its place
    insert-found : (ths : List Thread) → position p ths < length ths
        → insert_thread p b ths ≡ set ths (position p ths) (lesser_thread (get_or ths (position p ths) b) b)
    unfolding position insert_thread
    insert-found [] h = absurd (omega arith)
    insert-found (a ∷ rest) h = go (p a) h (insert-found rest)
      where
        go : (s : Bool) → found_or s (position p rest) < suc (length rest)
            → (position p rest < length rest → insert_thread p b rest ≡ set rest (position p rest) (lesser_thread (get_or rest (position p rest) b) b))
            → placed s a b rest (insert_thread p b rest) ≡ set (a ∷ rest) (found_or s (position p rest))
            (lesser_thread (get_or (a ∷ rest) (found_or s (position p rest)) b) b)
        go true k more = refl
        go false k more = ap (λ l. a ∷ l) (more (omega arith))

    -- where none does, b stands at the end
    insert-absent : (ths : List Thread) → position p ths ≡ length ths → insert_thread p b ths ≡ ths ++ (b ∷ [])
    unfolding position insert_thread
    insert-absent [] h = refl
    insert-absent (a ∷ rest) h = go (p a) h (insert-absent rest)
      where
        go : (s : Bool) → found_or s (position p rest) ≡ suc (length rest) → (position p rest ≡ length rest → insert_thread p b rest ≡ rest ++ (b ∷ []))
            → placed s a b rest (insert_thread p b rest) ≡ a ∷ (rest ++ (b ∷ []))
        go true k more = absurd (omega arith)
        go false k more = ap (λ l. a ∷ l) (more (omega arith))

    -- in a list of slots
    module _ (half count : ℕ) (l : List ℕ) (at : ℕ) (found : at ≡ position p (list half count l)) where
      insert-here : at < count → (r : Bool) → r ≡ comes_after (order (trail_of (thread_at l (place half at))) (trail_of b))
          → insert_thread p b (list half count l) ≡ set (list half count l) at (replaced r (get_or (list half count l) at b) b)
      unfolding lesser_thread
      insert-here h r e =
          let n = threads-length half 0 count l in
          let g : get_or (list half count l) at b ≡ thread_at l (place half at) = thread-at half 0 count l at at b (omega arith) h in
          insert-found (list half count l) (omega arith) ∙ rw (← found, g, e)

      insert-there : count ≤ at → insert_thread p b (list half count l) ≡ list half count l ++ (b ∷ [])
      insert-there h =
          let n = threads-length half 0 count l in
          let q = position-within (list half count l) in
          insert-absent (list half count l) (omega arith)

      one_more : count ≤ at → length (insert_thread p b (list half count l)) ≡ count + 1
      one_more h =
          let n = threads-length half 0 count l in
          let e = ap length (insert-there h) ∙ length-append (list half count l) (b ∷ []) in
          omega arith

  -- and so as an option: none where no thread passes
  pub position-some : (half count : ℕ) (l : List ℕ) (r : ℕ) → r < count → ((i : ℕ) → 0 ≤ i → i < r → p (thread_at l (place half i)) ≡ false)
      → p (thread_at l (place half r)) ≡ true → Some r ≡ some_below count (position p (list half count l))
  position-some half count l r h before here = rw (← position-is half count l r (omega arith) before (λ k. here), lt-ltb r count h)

  pub position-none : (half count : ℕ) (l : List ℕ) → ((i : ℕ) → 0 ≤ i → i < count → p (thread_at l (place half i)) ≡ false)
      → None ≡ some_below count (position p (list half count l))
  position-none half count l before = rw (← position-is half count l count (omega arith) before (λ k. absurd (omega arith)), le-ltb count count (omega arith))

-- what a search found is the number, and where it is not below n nothing was found
found-at : (k n q : ℕ) → Some k ≡ some_below n q → k ≡ q
found-at k n q e = by (ltb q n) e
  where
    by : (b : Bool) → Some k ≡ some_if b q → k ≡ q
    by true h = cc
    by false h = cc

none_below : (at : Option ℕ) (n q : ℕ) → at ≡ some_below n q → ((k : ℕ) → at ≡ Some k → n ≤ k) → n ≤ q
none_below at n q e away = by (ltb q n) refl e
  where
    by : (b : Bool) → ltb q n ≡ b → at ≡ some_if b q → n ≤ q
    by true t h = away q h
    by false t h = ltb-false q n t

-- the two halves of slots lie apart
apart : (half half' i slot : ℕ) → half' + half ≡ 1 → place half' i ≡ place half slot → ⊥
apart zero zero i slot h e = omega arith
apart zero (suc zero) i slot h e = omega arith
apart zero (suc (suc half')) i slot h e = omega arith
apart (suc zero) zero i slot h e = omega arith
apart (suc zero) (suc half') i slot h e = omega arith
apart (suc (suc half)) half' i slot h e = omega arith

module _ (half count slots : ℕ) (b : Thread) (s : Sized b) (l : List ℕ) (room : slots * 192 ≤ length l) (which : half < 2) (within : count ≤ slots) where
  around-stored : (slot r : ℕ) → slot < slots → count ≤ r → r ≤ count + 1 → Around half count l (put l (place half slot) (words_of b)) r
  around-stored slot r h least most =
      let n = words-length b s in
      record {
        least = least;
        most = most;
        other = λ half' k n e. threads-elsewhere l b s half slot (omega arith) half' k n (λ i p q. apart half half' i slot e);
        sized = put-length l (place half slot) (words_of b) (omega arith);
      }

  around-same : (r : ℕ) → count ≤ r → r ≤ count + 1 → Around half count l l r
  around-same r least most = record { least = least; most = most; other = λ half' k n e. refl; sized = refl }

  inside : (r : ℕ) → r ≤ slots → Some r ≡ some_below (slots + 1) r
  inside r h = rw (lt-ltb r (slots + 1) (omega arith))

  module _ (at : Option ℕ) (w : List ℕ) where
    module _ (k : ℕ) (is : at ≡ Some k) (h : k < count) where
      -- a thread stands at the place and its trail is later: b takes its place
      pub inserted-lesser : comes_after (order (trail_of (thread_at l (place half k))) (trail_of b)) ≡ true → w ≡ put l (place half k) (words_of b)
          → InsertedAt half count slots at b l w (Some count)
      inserted-lesser e g =
          rw g (record {
            within = inside count within;
            around = around-stored k count (omega arith) (omega arith) (omega arith);
            inserted = λ p found.
                let i = insert-here p b half count l k (found-at k count (position p (list half count l)) (sym is ∙ found)) h true (sym e) in
                let n = threads-length half 0 count l in
                let m = ap length i ∙ length-set (list half count l) k b in
                record {
                  counted = omega arith;
                  listed = λ x. threads-stored l b s half k (omega arith) 0 count k (omega arith) h ∙ sym i;
                  full = λ x. absurd (omega arith);
                };
          })

      -- its trail is not later: it stays
      pub inserted-kept : comes_after (order (trail_of (thread_at l (place half k))) (trail_of b)) ≡ false → InsertedAt half count slots at b l l (Some count)
      inserted-kept e =
          record {
            within = inside count within;
            around = around-same count (omega arith) (omega arith);
            inserted = λ p found.
                let i = insert-here p b half count l k (found-at k count (position p (list half count l)) (sym is ∙ found)) h false (sym e)
                ∙ set-get_or (list half count l) k b in
                let n = threads-length half 0 count l in
                let m = ap length i in
                record { counted = omega arith; listed = λ x. sym i; full = λ x. refl };
          }

    module _ (away : (k : ℕ) → at ≡ Some k → count ≤ k) where
      -- no thread stands at the place, and there is room
      pub inserted-more : count < slots → w ≡ put l (place half count) (words_of b) → InsertedAt half count slots at b l w (Some (count + 1))
      inserted-more k g =
          let front : list half count (put l (place half count) (words_of b)) ≡ list half count l =
          threads-elsewhere l b s half count (omega arith) half 0 count (λ i p q z. omega arith) in
          let back : thread_at (put l (place half count) (words_of b)) (place half count) ≡ b = stored_here l b s (place half count) (omega arith) in
          rw g (record {
            within = inside (count + 1) (omega arith);
            around = around-stored count (count + 1) k (omega arith) (omega arith);
            inserted = λ p found.
                let h = none_below at count (position p (list half count l)) found away in
                record {
                  counted = sym (one_more p b half count l (position p (list half count l)) refl h);
                  listed = λ x. list-more half count (put l (place half count) (words_of b))
                      ∙ rw (front, back) (sym (insert-there p b half count l (position p (list half count l)) refl h));
                  full = λ x. absurd (omega arith);
                };
          })

      -- and there is no room
      pub inserted-none : slots ≤ count → InsertedAt half count slots at b l l None
      inserted-none k =
          record {
            within = rw (le-ltb (slots + 1) (slots + 1) (omega arith));
            around = around-same (slots + 1) (omega arith) (omega arith);
            inserted = λ p found.
                let n = one_more p b half count l (position p (list half count l)) refl (none_below at count (position p (list half count l)) found away) in
                record { counted = omega arith; listed = λ x. absurd (omega arith); full = λ x. refl };
          }

-- ---- a thread of the list that is kept

module _ (half count slot : ℕ) (t : Thread) (s : Sized t) (l : List ℕ) (fits : slot * 192 + 192 ≤ length l) (which : half < 2) where
  -- threads before it were dropped: it moves down
  pub kept-moved : count < slot → KeptAt half count slot t l (put l (place half count) (words_of t))
  kept-moved h =
      let n = words-length t s in
      let front : list half count (put l (place half count) (words_of t)) ≡ list half count l =
      threads-elsewhere l t s half count (omega arith) half 0 count (λ i p q z. omega arith) in
      let back : thread_at (put l (place half count) (words_of t)) (place half count) ≡ t = stored_here l t s (place half count) (omega arith) in
      record {
        listed = list-more half count (put l (place half count) (words_of t)) ∙ rw (front, back) refl;
        behind = λ i k. stored-elsewhere l t s half count half i (omega arith) (λ z. omega arith);
        other = λ half' k n e. threads-elsewhere l t s half count (omega arith) half' k n (λ i p q. apart half half' i count e);
        sized = put-length l (place half count) (words_of t) (omega arith);
      }

-- none was: it stays, and so does every word
pub kept-still : (half count slot : ℕ) (t : Thread) (l : List ℕ) → slot ≤ count → count ≤ slot → t ≡ thread_at l (place half slot) → KeptAt half count slot t l l
kept-still half count slot t l h k e =
    let q : slot ≡ count = omega arith in
    record {
      listed = list-more half count l ∙ ap (λ (x : Thread). list half count l ++ (x ∷ [])) (ap (λ i. thread_at l (place half i)) (sym q) ∙ sym e);
      behind = λ i j. refl;
      other = λ half' j n z. refl;
      sized = refl;
    }

pub kept-as : (half count slot : ℕ) (t : Thread) (l w : List ℕ) {v : List ℕ} → w ≡ v → KeptAt half count slot t l v → KeptAt half count slot t l w
kept-as half count slot t l w e k = rw e k
