-- A thread (a configuration with its least trail) as a struct: its trail, telling configurations apart, inserting into a list.
use Prim.Native.Nat.{ℕ, zero, suc, ◌+◌, ◌*◌, ◌/◌, ◌%◌, Ordering}
use Rattle.std.specs.Prelude.{◌≡◌, Bool, true, false, ◌&&◌, List, [], ◌∷◌, ◌++◌, map, length, take, set, replicate, eqb}
use Rattle.std.specs.Bool.{beq}
use Rattle.std.specs.declared.cmp.Ordering.{Ordering as Answer}
use Rattle.std.specs.declared.cmp.Ordering.TheVariants.{Less, Equal, Greater}
use Rattle.base.specs.Lists.{same_list}
use Rattle.runs.specs.Run.{Entry, Trail}
use Rattle.runs.specs.inner.Order.{order, lex, then}
use Rattle.machine_code.specs.declared.Configuration.{Configuration}
use Rattle.slots.specs.declared.Thread.{Thread}

-- "The start configuration holds nothing, with counters 0": the thread before the first step
abbrev pub origin_thread : Thread
origin_thread =
    record {
      config = record { state = 0; held = replicate 8 false; values = replicate 8 0; counters = replicate 16 0; tallies = replicate 12 0 };
      steps = 0;
      trail = replicate 32 0;
    }

-- a trail word is event * 8 + step number
abbrev pub entry_of : ℕ → Entry
entry_of w = record { event = w / 8; step = w % 8 }

-- the trail: as many entries as steps were taken
unfoldable pub trail_of : Thread → Trail
trail_of t = map entry_of (take t.steps t.trail)

-- the struct's arrays have their lengths, as every value of the struct does
pub record Sized (t : Thread) : Type 0 where
  pub held_8 : length t.config.held ≡ 8
  pub values_8 : length t.config.values ≡ 8
  pub counters_16 : length t.config.counters ≡ 16
  pub tallies_12 : length t.config.tallies ≡ 12
  pub trail_32 : length t.trail ≡ 32

-- configurations are the same, word by word: what tells them apart but for the gathered lists
unfoldable pub same_words : Configuration → Configuration → Bool
same_words c d =
    eqb c.state d.state
    && same_list beq c.held d.held
    && same_list eqb c.values d.values
    && same_list eqb c.counters d.counters
    && same_list eqb c.tallies d.tallies

-- what a comparison says of the first against the second: it comes after
abbrev pub comes_after : Ordering → Bool
comes_after Ordering.lt = false
comes_after Ordering.eq = false
comes_after Ordering.gt = true

abbrev pub replaced : Bool → Thread → Thread → Thread
replaced true a b = b
replaced false a b = a

-- the lesser trail of two: b only where a comes after it
unfoldable pub lesser_thread : Thread → Thread → Thread
lesser_thread a b = replaced (comes_after (order (trail_of a) (trail_of b))) a b

abbrev pub placed : Bool → Thread → Thread → List Thread → List Thread → List Thread
placed true a b rest further = lesser_thread a b ∷ rest
placed false a b rest further = a ∷ further

-- the first thread that passes the test: the lesser trail is kept; where none does, one thread more, at the end
unfoldable pub insert_thread : (Thread → Bool) → Thread → List Thread → List Thread
insert_thread p b [] = b ∷ []
insert_thread p b (a ∷ rest) = placed (p a) a b rest (insert_thread p b rest)

abbrev pub found_or : Bool → ℕ → ℕ
found_or true further = zero
found_or false further = suc further

-- where the first thread that passes the test stands; the list's length where there is none
unfoldable pub position : (Thread → Bool) → List Thread → ℕ
position p [] = zero
position p (a ∷ rest) = found_or (p a) (position p rest)

-- a thread with one step more in its trail; its configuration stays
abbrev pub with_step : Thread → ℕ → ℕ → Thread
with_step t event number = record { config = t.config; steps = t.steps + 1; trail = set t.trail t.steps (event * 8 + number) }

pub record Extended (t : Thread) (event number : ℕ) (r : Thread) : Type 0 where
  pub fields : r ≡ with_step t event number
  pub trail : trail_of r ≡ trail_of t ++ (record { event = event; step = number } ∷ [])

-- a key of words computes a function
abbrev pub Computes : (ℕ → ℕ → Type 0) → (ℕ → ℕ) → Type 0
Computes gives k = (x y : ℕ) → gives x y → y ≡ k x

-- a comparison as the code says it
abbrev pub side_of : Ordering → Answer
side_of Ordering.lt = Less
side_of Ordering.eq = Equal
side_of Ordering.gt = Greater

-- words of trails compared: first by their events, then by their step numbers
unfoldable pub word_order : List ℕ → List ℕ → Ordering
word_order a b = then (lex (map (λ w. w / 8) a) (map (λ w. w / 8) b)) (lex (map (λ w. w % 8) a) (map (λ w. w % 8) b))
