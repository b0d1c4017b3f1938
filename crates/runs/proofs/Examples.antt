-- The definitions compute: of two runs that end on one event the longer comes first, one slot is too few for it, and a clock mark parts it.
use mathlib.Core.Path.{◌≡◌, refl}
use mathlib.Core.Bool.{Bool, true, false, cond, ◌&&◌, beq}
use mathlib.Core.Option.{Option, none, some}
use mathlib.Core.List.{List, [], ◌∷◌}
use Prim.Native.Nat.{ℕ, zero, suc}
use native.Mathlib.Omega.{arith}
use lib.Dec.{eqb, ltb}
use lib.ListN.{length}
use Rattle.runs.specs.Machine.{Machine}
use Rattle.runs.specs.Run.{Run, last}
use Rattle.runs.specs.Waiting.{Waits}
use Rattle.runs.specs.inner.Lists.{keep, in_turn, has, distinct}
use Rattle.runs.specs.inner.Order.{lex, order}
use Rattle.runs.specs.Answer.{found, absent, crowded}
use Rattle.runs.specs.inner.Search.{Thread, firing, moves, stays, unended, offers, next, endings, lesser, least_from, least, any_alive, hopeful, waiting, waiting_count, scan, origin, end_from, end_of, search}
use Rattle.runs.specs.inner.Threads.{insert, insert_within}
use Rattle.runs.specs.inner.Settle.{lasts, stayers, arrivals, movers, settle, pursue, swift}
use Rattle.runs.specs.inner.Aged.{firing_but, moves_but, arrivals_but, movers_but, settle_but}

-- on three events, step 0 always fires and goes on, step 1 fires on event 2 and ends: a configuration is told by the number
-- of steps taken and by whether it has ended
record Place : Type 0 where
  taken : ℕ
  over : Bool

abbrev ends : Place → Bool → Option Place
ends c true = some (record { taken = suc c.taken; over = true })
ends c false = none

abbrev goes : Place → ℕ → ℕ → Option Place
goes c n zero = some (record { taken = suc c.taken; over = false })
goes c n (suc k) = ends c (eqb n 2)

abbrev late_in : (ℕ → ℕ) → Machine
late_in stretch =
    record {
      Config = Place;
      same = λ c d. eqb c.taken d.taken && beq c.over d.over;
      start = record { taken = 0; over = false };
      committed = λ c. false;
      final = λ c. c.over;
      fire = goes;
      expired = λ c k n. false;
      steps = 2;
      stretch = stretch;
      events = 3;
    }

abbrev late : Machine
late = late_in (λ n. 0)

-- the same with a clock mark behind event 0
abbrev marked : Machine
marked = late_in (λ n. cond (eqb n 0) 0 1)

-- events 0, 1, 2 come before events 0, 2; two wait after event 1
longer-first : search late 2 0 ≡ found (record {
  taken =
      3;
  over = true;
}) (record { event = 0; step = 0 } ∷ (record { event = 1; step = 0 } ∷ (record { event = 2; step = 1 } ∷ []))) 2
unfolding keep in_turn lex order firing moves stays unended offers next endings lesser least_from least any_alive hopeful origin has distinct waiting waiting_count
    scan end_from end_of search
longer-first = refl

-- with one slot the search is crowded after event 1
one-slot : swift late 1 0 ≡ crowded 1
unfolding keep in_turn lex order firing moves stays unended endings lesser least_from least any_alive hopeful origin insert insert_within
    lasts stayers arrivals movers settle pursue end_from end_of swift
one-slot = refl

-- a search from before the mark finds nothing, though one waited after event 0
none_before : search marked 2 0 ≡ absent 1
unfolding keep in_turn lex order firing moves stays unended offers next endings lesser least_from least any_alive hopeful origin has distinct waiting waiting_count
    scan end_from end_of search
none_before = refl

-- a search from behind it goes on to the last event
one-behind : search marked 2 1 ≡ found (record { taken = 2; over = true }) (record { event = 1; step = 0 } ∷ (record { event = 2; step = 1 } ∷ [])) 1
unfolding keep in_turn lex order firing moves stays unended offers next endings lesser least_from least any_alive hopeful origin has distinct waiting waiting_count
    scan end_from end_of search
one-behind = refl

-- events 0, 2 are no run: the mark stands between them
no-run-across : (e : Place) → Run marked 0 (record { event = 0; step = 0 } ∷ (record { event = 2; step = 1 } ∷ [])) e → ⊥
no-run-across e r = omega (arith, r.path.unbroken.1.0)

-- nothing from event 0 waits after event 1
none-across : (c : Place) → Waits marked 0 1 c → ⊥
none-across c w = omega (arith, w.unbroken)

-- before event 2: one thread came on event 0, another on event 1
abbrev two : List (Thread late)
two =
    record { config = record { taken = 1; over = false }; trail = record { event = 0; step = 0 } ∷ [] }
    ∷ (record { config = record { taken = 2; over = false }; trail = record { event = 0; step = 0 } ∷ (record { event = 1; step = 0 } ∷ []) } ∷ [])

-- step 0, of threads that came before event 1
abbrev again : Thread late → ℕ → Bool
again th k = eqb k 0 && ltb (last th.trail) 1

-- without it there is one mover less, and the waiting list is the same
one_less : (length (movers late 2 two) ≡ 2) × (length (movers_but late again 2 two) ≡ 1) × (settle_but late again 3 2 two ≡ settle late 3 2 two)
unfolding keep in_turn lex order firing firing_but moves moves_but stays unended lesser any_alive hopeful insert insert_within lasts stayers arrivals arrivals_but
    movers movers_but settle settle_but
one_less = (refl, refl, refl)
