-- The peak is at most the number of slots.
use mathlib.Core.Path.{◌≡◌, ap}
use mathlib.Core.Logic.{◌⊎◌, inl, inr}
use Prim.Native.Nat.{ℕ, ◌≤◌, ◌<◌}
use native.Mathlib.Decide.{dec_lt}
use native.Mathlib.Omega.{arith}
use Rattle.runs.specs.Machine.{Machine}
use Rattle.runs.specs.Run.{Trail, last, Run}
use Rattle.runs.specs.Order.{Later}
use Rattle.runs.specs.Answer.{Answer, found, absent, crowded}
use Rattle.runs.specs.Demand.{Crowded, Peak}
use Rattle.runs.specs.inner.Demand.{Demand}
use Rattle.runs.proofs.Comparison.{later_last}
use Rattle.runs.proofs.Trails.{run-there}

module _ (M : Machine) where
  open M use {Config, events}

  -- a peak before an event at or before which no run ends, where nothing is crowded
  peak-fits : (slots i e p : ℕ) → e ≤ events → ((u : Trail) (d : Config) → Run M i u d → e ≤ last u) → ((n : ℕ) → Crowded M slots i n → ⊥) → Peak M i e p
      → p ≤ slots
  peak-fits slots i e p b open-till roomy k = go (dec_lt i e) (dec_lt slots p)
    where
      go : Dec (i < e) → Dec (slots < p) → p ≤ slots
      go (yes h) (yes l) =
          let r = k.reached h in
          absurd (roomy r.event (record {
            from = r.from;
            there = omega (arith, r.before, b);
            unended = λ
                u d x. omega (arith, r.before, open-till u d x);
            more = record { number = p; count = r.count; over = l };
          }))
      go (no h) (yes l) = absurd (omega (arith, l, k.nothing (omega (arith, h))))
      go h (no l) = omega (arith, l)

  abbrev pub PeakWithin : ℕ → Answer M → Type 0
  PeakWithin slots (found e t p) = p ≤ slots
  PeakWithin slots (absent p) = p ≤ slots
  PeakWithin slots (crowded n) = Unit {0}

  pub peak-within : (slots i : ℕ) (a : Answer M) → Demand M slots i a → PeakWithin slots a
  peak-within slots i (found e t p) d =
      peak-fits slots i (last t) p (omega (arith, run-there M i t e d.run)) (λ u c r. go u (d.least u c r)) d.roomy d.peak
    where
      go : (u : Trail) → (u ≡ t) ⊎ Later t u → last t ≤ last u
      go u (inl q) = omega (arith, ap last q)
      go u (inr l) = later_last t u l
  peak-within slots i (absent p) d = peak-fits slots i events p (omega arith) (λ u c r. absurd (d.none u c r)) d.roomy d.peak
  peak-within slots i (crowded n) d = tt
