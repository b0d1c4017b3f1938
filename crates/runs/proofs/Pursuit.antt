-- The loop over the events with the stayers first, unrolled by one event (over, found, crowded, next), and the loop over the
-- threads on one event, one thread more at a time.
use mathlib.Core.Path.{◌≡◌, refl, sym, ap, ◌∙◌}
use mathlib.Core.Bool.{Bool, true, false}
use mathlib.Core.Option.{none, some}
use mathlib.Core.List.{List, [], ◌∷◌, ◌++◌, append-nil, append_assoc}
use Prim.Native.Nat.{ℕ, zero, suc, ◌+◌, ◌-◌, ◌≤◌, ◌<◌, max}
use native.Mathlib.Omega.{arith}
use lib.ListN.{length}
use Rattle.runs.specs.inner.Lists.{only, keep, in_turn}
use Rattle.runs.specs.Machine.{Machine}
use Rattle.runs.specs.Answer.{Answer, found, absent, crowded}
use Rattle.runs.specs.inner.Search.{Thread, arrive, firing, endings, least, outcome}
use Rattle.runs.specs.inner.Threads.{insert_within, chain, onward}
use Rattle.runs.specs.inner.Settle.{lasts, stayers, arrivals, movers, settle, pursue}
use Rattle.runs.specs.inner.Aged.{unless, firing_but, arrivals_but, movers_but, settle_but}
use Rattle.runs.proofs.Growth.{keep_append}
use Rattle.runs.proofs.OneByOne.{within-append}

-- ---- the events

-- a search that ends before event `end`
module _ (M : Machine) (end : ℕ) where
  -- what is still to do before event n
  abbrev pub ahead : ℕ → ℕ → List (Thread M) → ℕ → Answer M
  ahead slots n ths p = pursue M slots (end - n) n ths p

  one-event : (slots n p : ℕ) (ths : List (Thread M)) → n < end
      → ahead slots n ths p ≡ outcome M (least M (endings M n ths)) p
      (onward M (settle M slots n ths) n (λ more. ahead slots (suc n) more (max p (length more))))
  unfolding least pursue
  one-event slots n p ths h = ap (λ f. pursue M slots f n ths p) left
    where
      left : end - n ≡ suc (end - suc n)
      left = omega (arith, h)

  pub event-over : (slots n p : ℕ) (ths : List (Thread M)) → end ≤ n → ahead slots n ths p ≡ absent p
  unfolding pursue
  event-over slots n p ths h = ap (λ f. pursue M slots f n ths p) left
    where
      left : end - n ≡ 0
      left = omega (arith, h)

  pub event-found : (slots n p : ℕ) (ths : List (Thread M)) (th : Thread M) → n < end → least M (endings M n ths) ≡ some th
      → ahead slots n ths p ≡ found th.config th.trail p
  event-found slots n p ths th h e = one-event slots n p ths h ∙ rw e refl

  pub event-crowded : (slots n p : ℕ) (ths : List (Thread M)) → n < end → least M (endings M n ths) ≡ none → settle M slots n ths ≡ none
      → ahead slots n ths p ≡ crowded n
  event-crowded slots n p ths h e f = one-event slots n p ths h ∙ rw (e, f) refl

  pub event-next : (slots n p : ℕ) (ths more : List (Thread M)) → n < end → least M (endings M n ths) ≡ none → settle M slots n ths ≡ some more
      → ahead slots n ths p ≡ ahead slots (suc n) more (max p (length more))
  event-next slots n p ths more h e f = one-event slots n p ths h ∙ rw (e, f) refl

-- ---- the threads on one event

module _ {A B : Type 0} where
  turn-append : (f : B → List A) (xs ys : List B) → in_turn f (xs ++ ys) ≡ in_turn f xs ++ in_turn f ys
  unfolding in_turn
  turn-append f [] ys = refl
  turn-append f (x ∷ xs) ys = ap (λ r. f x ++ r) (turn-append f xs ys) ∙ sym (append_assoc (f x) (in_turn f xs) (in_turn f ys))

module _ (M : Machine) where
  open M use {fire}

  -- one thread more: it stands at the end, if it lasts
  pub stayers-more : (n : ℕ) (ths : List (Thread M)) (t : Thread M) → stayers M n (ths ++ (t ∷ [])) ≡ stayers M n ths ++ only (lasts M n t) t []
  unfolding stayers keep
  stayers-more n ths t = keep_append (lasts M n) ths (t ∷ [])

  movers-append : (n : ℕ) (front back : List (Thread M)) → movers M n (front ++ back) ≡ movers M n front ++ movers M n back
  unfolding movers
  movers-append n front back = turn-append (arrivals M n) front back

  -- one thread more: its arrivals follow
  pub movers-more : (n : ℕ) (ths : List (Thread M)) (t : Thread M) → movers M n (ths ++ (t ∷ [])) ≡ movers M n ths ++ arrivals M n t
  unfolding movers in_turn
  movers-more n ths t = movers-append n ths (t ∷ []) ∙ ap (λ r. movers M n ths ++ r) (append-nil (arrivals M n t))

  -- where the first threads alone have too many movers, so has the whole list
  pub settle-over : (slots n : ℕ) (ths front back : List (Thread M)) → ths ≡ front ++ back → insert_within M slots [] (movers M n front) ≡ none
      → settle M slots n ths ≡ none
  unfolding settle
  settle-over slots n ths front back q e = ap (λ o. chain M o (λ fresh. insert_within M slots (stayers M n ths) fresh)) all
    where
      all : insert_within M slots [] (movers M n ths) ≡ none
      all =
          ap (λ l. insert_within M slots [] (movers M n l)) q ∙ ap (insert_within M slots []) (movers-append n front back)
          ∙ within-append M slots [] (movers M n front) (movers M n back) ∙ ap (λ o. chain M o (λ more. insert_within M slots more (movers M n back))) e

  -- where the movers are distinct within the slots, they are inserted into the stayers
  pub settle-by : (slots n : ℕ) (ths fresh : List (Thread M)) → insert_within M slots [] (movers M n ths) ≡ some fresh
      → settle M slots n ths ≡ insert_within M slots (stayers M n ths) fresh
  unfolding settle
  settle-by slots n ths fresh e = ap (λ o. chain M o (λ fresh. insert_within M slots (stayers M n ths) fresh)) e

  -- ---- the same without the moves that are left out

  movers_but-append : (out : Thread M → ℕ → Bool) (n : ℕ) (front back : List (Thread M))
      → movers_but M out n (front ++ back) ≡ movers_but M out n front ++ movers_but M out n back
  unfolding movers_but
  movers_but-append out n front back = turn-append (arrivals_but M out n) front back

  -- one thread more: its arrivals follow
  pub movers_but-more : (out : Thread M → ℕ → Bool) (n : ℕ) (ths : List (Thread M)) (t : Thread M)
      → movers_but M out n (ths ++ (t ∷ [])) ≡ movers_but M out n ths ++ arrivals_but M out n t
  unfolding movers_but in_turn
  movers_but-more out n ths t = movers_but-append out n ths (t ∷ []) ∙ ap (λ r. movers_but M out n ths ++ r) (append-nil (arrivals_but M out n t))

  -- where the first threads alone have too many movers, so has the whole list
  pub settle_but-over : (out : Thread M → ℕ → Bool) (slots n : ℕ) (ths front back : List (Thread M)) → ths ≡ front ++ back
      → insert_within M slots [] (movers_but M out n front) ≡ none → settle_but M out slots n ths ≡ none
  unfolding settle_but
  settle_but-over out slots n ths front back q e = ap (λ o. chain M o (λ fresh. insert_within M slots (stayers M n ths) fresh)) all
    where
      all : insert_within M slots [] (movers_but M out n ths) ≡ none
      all =
          ap (λ l. insert_within M slots [] (movers_but M out n l)) q ∙ ap (insert_within M slots []) (movers_but-append out n front back)
          ∙ within-append M slots [] (movers_but M out n front) (movers_but M out n back)
          ∙ ap (λ o. chain M o (λ more. insert_within M slots more (movers_but M out n back))) e

  -- where the movers are distinct within the slots, they are inserted into the stayers
  pub settle_but-by : (out : Thread M → ℕ → Bool) (slots n : ℕ) (ths fresh : List (Thread M)) → insert_within M slots [] (movers_but M out n ths) ≡ some fresh
      → settle_but M out slots n ths ≡ insert_within M slots (stayers M n ths) fresh
  unfolding settle_but
  settle_but-by out slots n ths fresh e = ap (λ o. chain M o (λ fresh. insert_within M slots (stayers M n ths) fresh)) e

  -- a thread of which nothing is left out
  pub firing_but-all : (out : ℕ → Bool) (th : Thread M) (n k r : ℕ) → ((j : ℕ) → out j ≡ false) → firing_but M out th n k r ≡ firing M th n k r
  unfolding firing firing_but
  firing_but-all out th n k zero h = refl
  firing_but-all out th n k (suc r) h =
      ap (λ b. arrive M th n k (unless M b (fire th.config n k)) (firing_but M out th n (suc k) r)) (h k)
      ∙ ap (arrive M th n k (fire th.config n k)) (firing_but-all out th n (suc k) r h)

  -- a thread none of whose steps fires
  pub firing_but-quiet : (out : ℕ → Bool) (th : Thread M) (n k r : ℕ) → ((j : ℕ) → j < k + r → fire th.config n j ≡ none) → firing_but M out th n k r ≡ []
  unfolding firing_but
  firing_but-quiet out th n k zero h = refl
  firing_but-quiet out th n k (suc r) h =
      ap (λ o. arrive M th n k (unless M (out k) o) (firing_but M out th n (suc k) r)) (h k (omega arith)) ∙ drop (out k)
      ∙ firing_but-quiet out th n (suc k) r (λ j l. h j (omega (arith, l)))
    where
      drop : (b : Bool) → arrive M th n k (unless M b none) (firing_but M out th n (suc k) r) ≡ firing_but M out th n (suc k) r
      drop true = refl
      drop false = refl
