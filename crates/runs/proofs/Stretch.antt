-- The stretch of a search: it ends behind its start, holds exactly the events of the start's number, and no run or waiting leaves it.
use mathlib.Core.Path.{◌≡◌, refl, sym, ap, ◌∙◌}
use mathlib.Core.Logic.{◌⊎◌, inl, inr}
use mathlib.Core.Bool.{Bool, true, false, cond}
use mathlib.Core.Option.{none}
use mathlib.Core.List.Memᴰ
use mathlib.Core.List.{[], ◌∷◌}
use Prim.Native.Nat.{ℕ, zero, suc, ◌+◌, ◌-◌, ◌≤◌, ◌<◌}
use native.Mathlib.Nat.{eq-or-lt_of_le}
use native.Mathlib.Decide.{dec_lt}
use native.Mathlib.Omega.{arith}
use lib.Dec.{eqb}
use borrow.Author.Tests.{eqb-true, eqb-false}
use Rattle.runs.specs.Machine.{Machine}
use Rattle.runs.specs.inner.Laws.{Laws}
use Rattle.runs.specs.Run.{Entry, Trail, last_or, last, Unbroken, Run}
use Rattle.runs.specs.Waiting.{Waits, Count}
use Rattle.runs.specs.inner.Search.{end_from, end_of}
use Rattle.runs.proofs.Comparison.{Rising, rising-last}
use Rattle.runs.proofs.Trails.{run-from, run-there}

module _ (M : Machine) where
  open M use {Config, stretch, events}

  -- of at most f events from n on, those before e are of stretch s, and e, if it is one of them, is not
  record Ended (s f n e : ℕ) : Type 0 where
    least : n ≤ e
    most : e ≤ n + f
    same : (m : ℕ) → n ≤ m → m < e → stretch m ≡ s
    other : e < n + f → stretch e ≡ s → ⊥

  from-ended : (s f n : ℕ) → Ended s f n (end_from M s f n)
  unfolding end_from
  from-ended s zero n =
      record { least = omega arith; most = omega arith; same = λ m a b. absurd (omega (arith, a, b)); other = λ h e. absurd (omega (arith, h)) }
  from-ended s (suc f) n = go (eqb (stretch n) s) refl (from-ended s f (suc n))
    where
      go : (b : Bool) → eqb (stretch n) s ≡ b → Ended s f (suc n) (end_from M s f (suc n)) → Ended s (suc f) n (cond b (end_from M s f (suc n)) n)
      go true e h =
          record {
            least = omega (arith, h.least);
            most = omega (arith, h.most);
            same = λ m a b. here m b (eq-or-lt_of_le a);
            other = λ l q. h.other (omega (arith, l)) q;
          }
        where
          here : (m : ℕ) → m < end_from M s f (suc n) → (n ≡ m) ⊎ (n < m) → stretch m ≡ s
          here m b (inl q) = ap stretch (sym q) ∙ eqb-true (stretch n) s e
          here m b (inr q) = h.same m q b
      go false e h =
          record { least = omega arith; most = omega arith; same = λ m a b. absurd (omega (arith, a, b)); other = λ l q. eqb-false (stretch n) s e q }

  end-ended : (i : ℕ) → Ended (stretch i) (events - i) i (end_of M i)
  unfolding end_of
  end-ended i = from-ended (stretch i) (events - i) i

  -- ---- where a stretch ends

  pub end-least : (i : ℕ) → i ≤ end_of M i
  end-least i = (end-ended i).least

  pub end-span : (i : ℕ) → end_of M i ≤ i + (events - i)
  end-span i = (end-ended i).most

  pub end-most : (i : ℕ) → i ≤ events → end_of M i ≤ events
  end-most i h = omega (arith, h, end-span i)

  pub end_after : (i : ℕ) → i < events → i < end_of M i
  end_after i h = go (eq-or-lt_of_le (end-least i))
    where
      go : (i ≡ end_of M i) ⊎ (i < end_of M i) → i < end_of M i
      go (inl e) = absurd ((end-ended i).other (omega (arith, h, e)) (ap stretch (sym e)))
      go (inr l) = l

  -- where all events from the start on are of its stretch, it ends behind the last
  pub end_whole : (i : ℕ) → ((n : ℕ) → i ≤ n → n < events → stretch n ≡ stretch i) → end_of M i ≡ i + (events - i)
  end_whole i one = go (eq-or-lt_of_le (end-span i))
    where
      go : (end_of M i ≡ i + (events - i)) ⊎ (end_of M i < i + (events - i)) → end_of M i ≡ i + (events - i)
      go (inl e) = e
      go (inr l) = absurd ((end-ended i).other l (one (end_of M i) (end-least i) (omega (arith, l, end-least i))))

  -- an event before the end is of the start's stretch
  pub inside : (i n : ℕ) → i ≤ n → n < end_of M i → stretch n ≡ stretch i
  inside i n h l = (end-ended i).same n h l

  -- two events before the end are of one stretch
  one-stretch : (i n m : ℕ) → i ≤ n → n < m → m < end_of M i → stretch n ≡ stretch m
  one-stretch i n m h a b = inside i n h (omega (arith, a, b)) ∙ sym (inside i m (omega (arith, a, h)) b)

  -- ---- trails

  unbroken-last : (i : ℕ) (x : Entry) (t : Trail) → Unbroken M i (x ∷ t) → stretch (last (x ∷ t)) ≡ stretch i
  unbroken-last i x [] u = u.0
  unbroken-last i x (y ∷ t) u = unbroken-last i y t u.1

  -- a run ends in the stretch in which it starts
  pub run-stretch : (i : ℕ) (t : Trail) (e : Config) → Run M i t e → stretch (last t) ≡ stretch i
  run-stretch i [] e r = absurd r.path.begins
  run-stretch i (x ∷ t) e r = unbroken-last i x t r.path.unbroken

  -- a rising trail from the start that ends before the end is unbroken
  pub unbroken-in : (i s a : ℕ) (t : Trail) → i ≤ s → Rising s t → last_or a t < end_of M i → Unbroken M i t
  unbroken-in i s a [] h r l = tt
  unbroken-in i s a (x ∷ t) h r l = (
    inside i x.event (omega (arith, h, r.0)) (omega (arith, l, rising-last x.event t r.1)),
    unbroken-in i (suc x.event) x.event t (omega (arith, h, r.0)) r.1 l,
  )

module _ (M : Machine) (L : Laws M) where
  open M use {Config, fire, expired, stretch, events}

  -- an event of the start's stretch comes before the end
  pub outside : (i n : ℕ) → i ≤ n → n < events → stretch n ≡ stretch i → n < end_of M i
  outside i n h l e = go (dec_lt n (end_of M i))
    where
      go : Dec (n < end_of M i) → n < end_of M i
      go (yes b) = b
      go (no b) =
          let high = L.ordered (end_of M i) n (omega (arith, b)) l in
          let low = L.ordered i (end_of M i) (end-least M i) (omega (arith, b, l)) in
          absurd ((end-ended M i).other (omega (arith, b, h, l)) (omega (arith, high, low, e)))

  pub run_inside : (i : ℕ) (t : Trail) (e : Config) → Run M i t e → last t < end_of M i
  run_inside i t e r = outside i (last t) (run-from M i t e r) (run-there M i t e r) (run-stretch M i t e r)

  -- a step that is expired after an event of the stretch is expired after every later one of it, and fires on none
  pub expired-on : (i n m k : ℕ) (c : Config) → L.Valid c → i ≤ events → i ≤ n → n < m → m < end_of M i → expired c k n ≡ true → expired c k m ≡ true
  expired-on i n m k c v z h a b e = L.stable c k n m v (one-stretch M i n m h a b) a (omega (arith, b, end-most M i z)) e

  pub expired-silent : (i n m k : ℕ) (c : Config) → L.Valid c → i ≤ events → i ≤ n → n < m → m < end_of M i → expired c k n ≡ true → fire c m k ≡ none
  expired-silent i n m k c v z h a b e = L.silent c k n m v (one-stretch M i n m h a b) a (omega (arith, b, end-most M i z)) e

  -- behind the end nothing waits
  pub none-waits : (i n : ℕ) → i ≤ n → n < events → end_of M i ≤ n → Count M i n 0
  none-waits i n h l b =
      record {
        list = [];
        once = tt;
        sound = λ c m. absurd (Memᴰ.not-nil m);
        complete = λ c w. absurd (across c w);
        counted = refl;
      }
    where
      across : (c : Config) → Waits M i n c → ⊥
      across c w = omega (arith, b, outside i n h l w.unbroken)
