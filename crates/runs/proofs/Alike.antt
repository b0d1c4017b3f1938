-- Two machines whose steps do the same on every event answer a search alike, whatever their steps would do beyond the last event.
use mathlib.Core.Path.{◌≡◌, refl, ap, ap₂, fun_ext, ◌∙◌}
use mathlib.Core.Bool.{Bool, not, ◌&&◌, ◌||◌}
use mathlib.Core.Option.{Option}
use mathlib.Core.List.{List, map}
use Prim.Native.Nat.{ℕ, zero, suc, ◌-◌, ◌≤◌, ◌<◌, max}
use native.Mathlib.Omega.{arith}
use lib.ListN.{length}
use Rattle.runs.specs.Machine.{Machine}
use Rattle.runs.specs.inner.Lists.{only, keep, in_turn, distinct}
use Rattle.runs.specs.inner.Search.{Thread, begun, arrive, firing, chosen, moves, passes_over, stays, unended, offers, next, ended, endings, lesser, least_from, least, any_alive, hopeful, waiting, waiting_count, scan, origin, end_from, end_of, search}
use Rattle.runs.proofs.Stretch.{end-span}

module _ (M : Machine) where
  open M use {Config, same, start, committed, final, steps, stretch, events}

  -- the machine with other steps, stretches and number of events
  abbrev stepping : (Config → ℕ → ℕ → Option Config) → (Config → ℕ → ℕ → Bool) → (ℕ → ℕ) → ℕ → Machine
  stepping fire expired parts number =
      record {
        Config = Config;
        same = same;
        start = start;
        committed = committed;
        final = final;
        fire = fire;
        expired = expired;
        steps = steps;
        stretch = parts;
        events = number;
      }

  module _ (fire : Config → ℕ → ℕ → Option Config) (expired : Config → ℕ → ℕ → Bool)
      (fires : (c : Config) (n k : ℕ) → n < events → M.fire c n k ≡ fire c n k)
      (expires : (c : Config) (k n : ℕ) → n < events → M.expired c k n ≡ expired c k n) where
    abbrev other : Machine
    other = stepping fire expired stretch events

    -- one event
    module _ (n : ℕ) (h : n < events) where
      firing-alike : (th : Thread M) (k r : ℕ) → firing M th n k r ≡ firing other th n k r
      unfolding firing
      firing-alike th k zero = refl
      firing-alike th k (suc r) = ap₂ (arrive M th n k) (fires th.config n k h) (firing-alike th (suc k) r)

      moves-alike : (th : Thread M) → moves M n th ≡ moves other n th
      unfolding moves
      moves-alike th = ap (chosen M (committed th.config)) (firing-alike th 0 steps)

      offers-alike : (th : Thread M) → offers M n th ≡ offers other n th
      unfolding stays unended offers
      offers-alike th =
          ap₂ (λ l m. only (begun th.trail && passes_over M (committed th.config) l) th (keep (unended M) m)) (firing-alike th 0 steps) (moves-alike th)

      next-alike : (ths : List (Thread M)) → next M n ths ≡ next other n ths
      unfolding next
      next-alike ths = ap (λ o. in_turn o ths) (fun_ext offers-alike)

      endings-alike : (ths : List (Thread M)) → endings M n ths ≡ endings other n ths
      unfolding endings
      endings-alike ths = ap (λ (o : Thread M → List (Thread M)). in_turn (λ (th : Thread M). keep (ended M) (o th)) ths) (fun_ext moves-alike)

      alive-alike : (c : Config) (r : ℕ) → any_alive M c n r ≡ any_alive other c n r
      unfolding any_alive
      alive-alike c zero = refl
      alive-alike c (suc r) = ap₂ (λ x y. not x || y) (expires c r n h) (alive-alike c r)

      count-alike : (ths : List (Thread M)) → waiting_count M n ths ≡ waiting_count other n ths
      unfolding hopeful waiting waiting_count
      count-alike ths =
          ap (λ p. length (distinct same (map (λ (th : Thread M). th.config) (keep p ths)))) (fun_ext (λ (th : Thread M). alive-alike th.config steps))

    scan-alike : (slots f n : ℕ) (ths : List (Thread M)) (peak : ℕ) → f ≤ events - n
        → scan M (next M) (waiting_count M) slots f n ths peak ≡ scan other (next other) (waiting_count other) slots f n ths peak
    unfolding lesser least_from least scan
    scan-alike slots zero n ths peak h = refl
    scan-alike slots (suc f) n ths peak h =
        let l : n < events = omega (arith, h) in
        rw (
          next-alike n l ths,
          count-alike n l (next other n ths),
          endings-alike n l ths,
          scan-alike slots f (suc n) (next other n ths) (max peak (waiting_count other n (next other n ths))) (omega (arith, h)),
        )

    steps_alike : (slots i : ℕ) → search M slots i ≡ search other slots i
    unfolding origin end_from end_of search
    steps_alike slots i = scan-alike slots (end_of M i - i) i (origin M) 0 (omega (arith, end-span M i))

    -- With the same stretches, and as many events, the answers are the same.
    pub search-alike : (parts : ℕ → ℕ) (number : ℕ) → ((n : ℕ) → stretch n ≡ parts n) → events ≡ number → (slots i : ℕ)
        → search M slots i ≡ search (stepping fire expired parts number) slots i
    search-alike parts number same_parts same_number slots i =
        steps_alike slots i ∙ ap₂ (λ p m. search (stepping fire expired p m) slots i) (fun_ext same_parts) same_number
