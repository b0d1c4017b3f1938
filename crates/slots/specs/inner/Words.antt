-- 'A seat counts 192 lent work words of 32 bits': the words of a thread, and the threads of the slots (the paper's seats).
use Rattle.std.specs.Prelude.{ℕ, zero, suc, ◌+◌, ◌*◌, ◌≤◌, ◌<◌, ◌≡◌, Bool, true, false, not, List, [], ◌∷◌, ◌++◌, map, length, take, drop, get_or, eqb, Option, Some, None}
use Rattle.base.specs.Lists.{some_below}
use Rattle.base.specs.Mask.{bit}
use Rattle.machine_code.specs.declared.Configuration.{Configuration}
use Rattle.slots.specs.declared.Thread.{Thread}
use Rattle.slots.specs.inner.Threads.{same_words, insert_thread, position}

-- a word says that a variable is held: every word but 0 does
abbrev pub is_set : ℕ → Bool
is_set w = not (eqb w 0)

-- the 78 words of a thread: state, 8 held (1, or 0 where not), 8 values, 16 counters, 12 tallies, number of steps, 32 trail words
unfoldable pub words_of : Thread → List ℕ
words_of t =
    t.config.state ∷ (map bit t.config.held ++ (t.config.values ++ (t.config.counters ++ (t.config.tallies ++ (t.steps ∷ t.trail)))))

-- the thread that words begin with
unfoldable pub thread_of : List ℕ → Thread
thread_of ws =
    record {
      config = record {
        state = get_or ws 0 0;
        held = map is_set (take 8 (drop 1 ws));
        values = take 8 (drop 9 ws);
        counters = take 16 (drop 17 ws);
        tallies = take 12 (drop 33 ws);
      };
      steps = get_or ws 45 0;
      trail = take 32 (drop 46 ws);
    }

-- the thread whose words begin at an offset
abbrev pub thread_at : List ℕ → ℕ → Thread
thread_at l a = thread_of (drop a l)

-- the list with words ws in place of as many from a on
unfoldable pub put : List ℕ → ℕ → List ℕ → List ℕ
put l a ws = take a l ++ (ws ++ drop (a + length ws) l)

-- where a half of a slot begins: a slot is 192 words, two halves of 96
abbrev pub place : ℕ → ℕ → ℕ
place half slot = slot * 192 + half * 96

-- the threads of n slots from slot k on, in one half
unfoldable pub threads_from : ℕ → ℕ → ℕ → List ℕ → List Thread
threads_from half k zero l = []
threads_from half k (suc n) l = thread_at l (place half k) ∷ threads_from half (suc k) n l

-- the threads of the first slots, in one half
abbrev pub list : ℕ → ℕ → List ℕ → List Thread
list half count l = threads_from half 0 count l

-- none of the threads from one on before another has the configuration's words
abbrev pub Differ : ℕ → ℕ → ℕ → Configuration → List ℕ → Type 0
Differ half from to c l = (i : ℕ) → from ≤ i → i < to → same_words (thread_at l (place half i)).config c ≡ false

-- thread r is the first from one on that has them
pub record FoundAt (half count from : ℕ) (c : Configuration) (l : List ℕ) (r : ℕ) : Type 0 where
  pub least : from ≤ r
  pub inside : r < count
  pub missed : Differ half from r c l
  pub here : same_words (thread_at l (place half r)).config c ≡ true

-- the first thread from one on whose words hold the configuration's
abbrev pub FoundFrom : ℕ → ℕ → ℕ → Configuration → List ℕ → Option ℕ → Type 0
FoundFrom half count from c l (Some r) = FoundAt half count from c l r
FoundFrom half count from c l None = Differ half from count c l

-- What inserting into the list of one half leaves of the rest. The answer r is the list's length then. The threads of the other half
-- stay, whichever slots they are in.
pub record Around (half count : ℕ) (before after : List ℕ) (r : ℕ) : Type 0 where
  pub least : count ≤ r
  pub most : r ≤ count + 1
  pub other : (half' k n : ℕ) → half' + half ≡ 1 → threads_from half' k n after ≡ threads_from half' k n before
  pub sized : length after ≡ length before

-- What inserting thread b leaves, by the test that tells where. Within the slots that list is there; beyond them every word stays.
pub record Inserted (p : Thread → Bool) (half count slots : ℕ) (b : Thread) (before after : List ℕ) (r : ℕ) : Type 0 where
  pub counted : r ≡ length (insert_thread p b (list half count before))
  pub listed : r ≤ slots → list half r after ≡ insert_thread p b (list half count before)
  pub full : slots < r → after ≡ before

-- the list's length that an insertion answers, as a number: one more than the slots where there was no room
abbrev pub length_in : ℕ → Option ℕ → ℕ
length_in slots (Some r) = r
length_in slots None = slots + 1

-- thread b was inserted where the first thread stands that passes a test, by whichever test that is
pub record InsertedAt (half count slots : ℕ) (at : Option ℕ) (b : Thread) (before after : List ℕ) (r : Option ℕ) : Type 0 where
  pub within : r ≡ some_below (slots + 1) (length_in slots r)
  pub around : Around half count before after (length_in slots r)
  pub inserted :
      (p : Thread → Bool) → at ≡ some_below count (position p (list half count before)) → Inserted p half count slots b before after (length_in slots r)

-- the thread of a slot in one half was kept: it stands at the end of the list of that half, which ends before it; the threads behind it and
-- those of the other half stay
pub record KeptAt (half count slot : ℕ) (t : Thread) (before after : List ℕ) : Type 0 where
  pub listed : list half (count + 1) after ≡ list half count before ++ (t ∷ [])
  pub behind : (i : ℕ) → slot < i → thread_at after (place half i) ≡ thread_at before (place half i)
  pub other : (half' k n : ℕ) → half' + half ≡ 1 → threads_from half' k n after ≡ threads_from half' k n before
  pub sized : length after ≡ length before
