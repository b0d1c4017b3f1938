-- The least run that ends on an event, one step and one thread at a time.
use Prim.Native.Nat.{ℕ, suc, ◌+◌, ◌-◌, ◌<◌, ◌≤◌, Ordering}
use mathlib.Core.Path.{◌≡◌, refl, ap, sym, ◌∙◌, subst}
use mathlib.Core.Bool.{true, false, true≢false, false≢true}
use mathlib.Core.List.{List, [], ◌∷◌}
use mathlib.Core.Option.{Option, none, some}
use native.Mathlib.Omega.{arith}
use Rattle.std.specs.Prelude.{Option as Maybe, Some, None}
use lib.ListN.{drop}
use Rattle.event_log.specs.Log.{Log}
use Rattle.formula.specs.Formula.{Formula}
use Rattle.runs.specs.inner.Lists.{keep, in_turn}
use Rattle.runs.specs.inner.Order.{order}
use Rattle.runs.specs.inner.Search as Runs
use Rattle.runs.proofs.Growth.{keep_append, least-append, ending-final, ending-open}
use Rattle.machine.specs.Configuration.{Config}
use Rattle.machine.specs.Machine.{machine, fire_at, final}
use Rattle.slots.specs.declared.Thread.{Thread}
use Rattle.slots.specs.inner.Threads.{trail_of, comes_after}
use Rattle.slots.specs.inner.Words.{thread_at, place}
use Rattle.threads.specs.inner.Setting.{Fit, conf, thread}
use Rattle.threads.specs.inner.Event.{best_of, BestFits, waiting_in}
use Rattle.threads.specs.inner.Calls.{MovedBy, Improved, EndsNothing, move_by}
use Rattle.threads.proofs.Firing.{firing-next, moves-open}
use Rattle.threads.proofs.Listed.{waiting-next, waiting-done}

module _ (g : Log) (fm : Formula) where
  -- nothing more ends: the best so far stays
  improved-same : (best : Maybe Thread) (xs : List (Runs.Thread (machine g fm)))
      → Runs.least_from (machine g fm) (best_of g fm best) (keep (Runs.ended (machine g fm)) xs) ≡ best_of g fm best → BestFits g fm best
      → Improved g fm best xs best
  improved-same best xs e h = record { least = sym e; fits = h }

  pub improved-none : (best : Maybe Thread) → BestFits g fm best → Improved g fm best [] best
  unfolding Runs.least_from keep
  improved-none best h = improved-same best [] refl h

  -- a thread no step of which ends a run
  pub improved-nothing : (best : Maybe Thread) → BestFits g fm best → (t : Thread) (n : ℕ) → EndsNothing g fm t n
      → Improved g fm best (Runs.moves (machine g fm) n (thread g fm t)) best
  unfolding Runs.least_from
  improved-nothing best ok t n h =
      improved-same best _ (ap (Runs.least_from (machine g fm) (best_of g fm best)) (moves-open (machine g fm) n (thread g fm t) h)) ok

  -- a step that leads to an open state ends nothing
  pub better-past : (best : Maybe Thread) → BestFits g fm best → (t : Thread) (n k : ℕ)
      → ((d : Config) → fire_at g fm (conf g fm t) n k ≡ some d → final fm d ≡ false) → Improved g fm best (move_by g fm t n k) best
  better-past best ok t n k o = by (fire_at g fm (conf g fm t) n k) refl
    where
      by : (x : Option Config) → fire_at g fm (conf g fm t) n k ≡ x → Improved g fm best (Runs.arrive (machine g fm) (thread g fm t) n k x []) best
      by none e = improved-none best ok
      by (some d) e = improved-same best _ (ending-open (machine g fm) (best_of g fm best) _ [] (o d e) ∙ sym (improved-none best ok).least) ok

  -- the step does not fire
  pub better-silent : (best : Maybe Thread) → BestFits g fm best → (t : Thread) (n k : ℕ) → MovedBy g fm (fire_at g fm (conf g fm t) n k) t n k None
      → Improved g fm best (move_by g fm t n k) best
  better-silent best ok t n k h = by (fire_at g fm (conf g fm t) n k) h
    where
      by : (o : Option Config) → MovedBy g fm o t n k None → Improved g fm best (Runs.arrive (machine g fm) (thread g fm t) n k o []) best
      by none x = improved-none best ok
      by (some d) x = absurd x

  module _ (best : Maybe Thread) (ok : BestFits g fm best) (t : Thread) (n k : ℕ) (m : Thread)
      (h : MovedBy g fm (fire_at g fm (conf g fm t) n k) t n k (Some m)) (o : final fm (conf g fm m) ≡ true) where
    -- it ends a run: the lesser of the two is the best
    better-final : (r : Maybe Thread) → best_of g fm r ≡ some (Runs.lesser (machine g fm) (best_of g fm best) (thread g fm m))
        → (Fit g fm m → BestFits g fm r) → Improved g fm best (move_by g fm t n k) r
    unfolding Runs.least_from keep
    better-final r q w = by (fire_at g fm (conf g fm t) n k) h
      where
        by : (x : Option Config) → MovedBy g fm x t n k (Some m) → Improved g fm best (Runs.arrive (machine g fm) (thread g fm t) n k x []) r
        by none x = absurd cc
        by (some d) x =
            subst (λ (y : Runs.Thread (machine g fm)). Improved g fm best (y ∷ []) r) x.is
            (record { least = q ∙ sym (ending-final (machine g fm) (best_of g fm best) (thread g fm m) [] o); fits = w x.fit })

    -- the first run that ends
    pub better-first : best ≡ None → Improved g fm best (move_by g fm t n k) (Some m)
    unfolding Runs.lesser
    better-first z =
        better-final (Some m) (ap (λ (b : Maybe Thread). some (Runs.lesser (machine g fm) (best_of g fm b) (thread g fm m))) (sym z)) (λ w. w)

    module _ (b : Thread) (z : best ≡ Some b) where
      -- it comes before the best so far
      pub better-earlier : comes_after (order (trail_of b) (trail_of m)) ≡ true → Improved g fm best (move_by g fm t n k) (Some m)
      unfolding Runs.lesser
      better-earlier c =
          better-final (Some m) (go (order (trail_of b) (trail_of m)) c
          ∙ ap (λ (x : Maybe Thread). some (Runs.lesser (machine g fm) (best_of g fm x) (thread g fm m))) (sym z)) (λ w. w)
        where
          go : (x : Ordering) → comes_after x ≡ true → some (thread g fm m) ≡ some (Runs.pick (machine g fm) x (thread g fm b) (thread g fm m))
          go Ordering.lt q = absurd (false≢true q)
          go Ordering.eq q = absurd (false≢true q)
          go Ordering.gt q = refl

      -- it does not
      pub better-kept : comes_after (order (trail_of b) (trail_of m)) ≡ false → Improved g fm best (move_by g fm t n k) best
      unfolding Runs.lesser
      better-kept c =
          better-final best (ap (best_of g fm) z ∙ go (order (trail_of b) (trail_of m)) c
          ∙ ap (λ (x : Maybe Thread). some (Runs.lesser (machine g fm) (best_of g fm x) (thread g fm m))) (sym z)) (λ w. ok)
        where
          go : (x : Ordering) → comes_after x ≡ false → some (thread g fm b) ≡ some (Runs.pick (machine g fm) x (thread g fm b) (thread g fm m))
          go Ordering.lt q = refl
          go Ordering.eq q = refl
          go Ordering.gt q = absurd (true≢false q)

  -- the best of the steps before k, bettered by step k: what the rest makes of it is the same
  pub improved-next : (best from r : Maybe Thread) (t : Thread) (n k s : ℕ) (xs : List (Runs.Thread (machine g fm))) → k < s
      → Runs.least_from (machine g fm) (best_of g fm from) (keep (Runs.ended (machine g fm)) xs)
      ≡ Runs.least_from (machine g fm) (best_of g fm best) (keep (Runs.ended (machine g fm)) (Runs.firing (machine g fm) (thread g fm t) n k (s - k)))
      → Improved g fm best (move_by g fm t n k) r
      → Runs.least_from (machine g fm) (best_of g fm from) (keep (Runs.ended (machine g fm)) xs)
      ≡ Runs.least_from (machine g fm) (best_of g fm r)
      (keep (Runs.ended (machine g fm)) (Runs.firing (machine g fm) (thread g fm t) n (k + 1) (s - (k + 1))))
  improved-next best from r t n k s xs l e i =
      let M = machine g fm in
      let rest = Runs.firing M (thread g fm t) n (suc k) (s - suc k) in
      let one : k + 1 ≡ suc k = omega arith in
      e ∙ ap (λ z. Runs.least_from M (best_of g fm best) (keep (Runs.ended M) z)) (firing-next g fm t n k (s - k) (s - suc k) (omega arith))
      ∙ ap (Runs.least_from M (best_of g fm best)) (keep_append (Runs.ended M) (move_by g fm t n k) rest)
      ∙ least-append M (best_of g fm best) (keep (Runs.ended M) (move_by g fm t n k)) (keep (Runs.ended M) rest)
      ∙ ap (λ b. Runs.least_from M b (keep (Runs.ended M) rest)) (sym i.least)
      ∙ ap (λ j. Runs.least_from M (best_of g fm r) (keep (Runs.ended M) (Runs.firing M (thread g fm t) n j (s - j)))) (sym one)

  -- no step is left
  pub improved-done : (best from : Maybe Thread) (t : Thread) (n k s : ℕ) (xs : List (Runs.Thread (machine g fm))) → s ≤ k
      → Runs.least_from (machine g fm) (best_of g fm from) (keep (Runs.ended (machine g fm)) xs)
      ≡ Runs.least_from (machine g fm) (best_of g fm best) (keep (Runs.ended (machine g fm)) (Runs.firing (machine g fm) (thread g fm t) n k (s - k)))
      → BestFits g fm best → Improved g fm from xs best
  unfolding Runs.least_from Runs.firing keep
  improved-done best from t n k s xs l e h =
      let none_left : s - k ≡ 0 = omega arith in
      record {
        least = sym (e ∙ ap
            (λ j. Runs.least_from (machine g fm) (best_of g fm best) (keep (Runs.ended (machine g fm)) (Runs.firing (machine g fm) (thread g fm t) n k j)))
            none_left);
        fits = h;
      }

  -- ---- one thread more

  module _ (n half count : ℕ) (l : List ℕ) (j : ℕ) (whole : Option (Runs.Thread (machine g fm))) (best : Maybe Thread)
      (e : whole ≡ Runs.least_from (machine g fm) (best_of g fm best) (Runs.endings (machine g fm) n (drop j (waiting_in g fm half count l)))) where
    pub ending-next : (t : Thread) (r : Maybe Thread) → j < count → t ≡ thread_at l (place half j) → Improved g fm best (Runs.moves (machine g fm) n (thread g fm t)) r
        → whole ≡ Runs.least_from (machine g fm) (best_of g fm r) (Runs.endings (machine g fm) n (drop (j + 1) (waiting_in g fm half count l)))
    unfolding Runs.endings in_turn
    ending-next t r h q i =
        let M = machine g fm in
        let rest = drop (j + 1) (waiting_in g fm half count l) in
        e ∙ ap (λ z. Runs.least_from M (best_of g fm best) (Runs.endings M n z)) (waiting-next g fm half count l j t h q)
        ∙ least-append M (best_of g fm best) (keep (Runs.ended M) (Runs.moves M n (thread g fm t))) (Runs.endings M n rest)
        ∙ ap (λ b. Runs.least_from M b (Runs.endings M n rest)) (sym i.least)

    pub ending-done : count ≤ j → best_of g fm best ≡ whole
    unfolding Runs.endings Runs.least_from in_turn
    ending-done h = sym (e ∙ ap (λ z. Runs.least_from (machine g fm) (best_of g fm best) (Runs.endings (machine g fm) n z)) (waiting-done g fm half count l j h))
