-- A search of a log with clock marks is the search of its start's stretch taken as a log of its own, event numbers carried over.
use Prim.Native.Nat.{ℕ, suc, ◌+◌, ◌-◌, ◌<◌, ◌≤◌}
use mathlib.Core.Path.{◌≡◌, sym, ap, ap₂, ◌∙◌}
use native.Mathlib.Decide.{dec_lt}
use native.Mathlib.Omega.{arith}
use lib.ListN.{length}
use Rattle.event_log.specs.Log.{Event, Log, stretch_at}
use Rattle.event_log.specs.Correct.{Recorded}
use Rattle.event_log.specs.Latest.{latest, latest_at}
use Rattle.event_log.proofs.Stretches.{first_of, alone, Begins, first-begins, event-alone, stretch-alone, length-alone, latest-alone, recorded-alone}
use Rattle.formula.specs.Formula.{Formula}
use Rattle.formula.specs.Lookup.{step_at}
use Rattle.runs.specs.inner.Search.{end_of, search}
use Rattle.runs.specs.inner.Moved.{moved, carried}
use Rattle.runs.proofs.Stretch.{end-most, end_after, inside}
use Rattle.runs.proofs.Moved.{search-moved}
use Rattle.runs.proofs.Alike.{search-alike}
use Rattle.machine.specs.Configuration.{Config}
use Rattle.machine.specs.Machine.{fire_by, fire_at, expired_by, expired_at, machine}

-- event i's stretch as a log of its own
abbrev pub stretch_of : Log → Formula → ℕ → Log
stretch_of g fm i = alone g (first_of g i) (end_of (machine g fm) i)

module _ (g : Log) (fm : Formula) (ok : Recorded g) (i : ℕ) (there : i < length g.events) where
  abbrev b : ℕ
  b = first_of g i

  abbrev e : ℕ
  e = end_of (machine g fm) i

  begins : Begins g i b
  begins = first-begins g ok i there

  pub most : e ≤ length g.events
  most = end-most (machine g fm) i (omega (arith, there))

  pub within : (m : ℕ) → b ≤ m → m < e → stretch_at g m ≡ stretch_at g i
  within m h l = go (dec_lt m i)
    where
      go : Dec (m < i) → stretch_at g m ≡ stretch_at g i
      go (yes k) = begins.same m h (omega (arith, k))
      go (no k) = inside (machine g fm) i m (omega (arith, k)) l

  -- It is a correct log, and the start is one of its events.
  pub stretch-recorded : Recorded (stretch_of g fm i)
  stretch-recorded = recorded-alone g b e (stretch_at g i) begins.other within ok most

  pub start-there : i - first_of g i < length (stretch_of g fm i).events
  start-there = omega (arith, length-alone g b e most, begins.least, end_after (machine g fm) i there)

  abbrev own : Log
  own = stretch_of g fm i

  fires-alone : (c : Config) (n k : ℕ) → n < e - b → fire_at g fm c (b + n) k ≡ fire_at own fm c n k
  unfolding fire_at
  fires-alone c n k h = ap (λ (x : Event). fire_by (step_at fm c.state k) c x.values) (sym (event-alone g b e n h))

  seen-alone : (n : ℕ) → n < e - b → latest_at g (b + n) ≡ latest_at own n
  seen-alone n h =
      ap₂ (latest g) (within (b + n) (omega arith) (omega (arith, h))) (omega arith)
      ∙ sym (latest-alone g b e (stretch_at g i) begins.other within (suc n) (omega (arith, h)))
      ∙ ap (λ s. latest own s (suc n)) (sym (stretch-alone g b e n))

  expires-alone : (c : Config) (k n : ℕ) → n < e - b → expired_at g fm c k (b + n) ≡ expired_at own fm c k n
  unfolding expired_at alone
  expires-alone c k n h = ap (expired_by g.fields (step_at fm c.state k) c) (seen-alone n h)

  -- A search with any number of slots is answered by its start's stretch alone, and as if that were the whole log.
  pub search-alone : (slots : ℕ)
      → search (machine g fm) slots i ≡ carried (first_of g i) (search (machine (stretch_of g fm i) fm) slots (i - first_of g i))
  search-alone slots =
      search-moved (machine g fm) b slots i begins.least
      ∙ ap (carried b)
      (search-alike (moved (machine g fm) b e) (fire_at own fm) (expired_at own fm) fires-alone expires-alone (stretch_at own) (length own.events)
      (λ n. sym (stretch-alone g b e n)) (sym (length-alone g b e most)) slots (i - b))
