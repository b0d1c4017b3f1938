-- A search within one stretch is the search of that stretch taken by itself, with its event numbers carried back to the log's.
use mathlib.Core.Path.{◌≡◌, refl, sym, ap, ap₂, ◌∙◌}
use mathlib.Core.Bool.{Bool, true, false, not, ◌&&◌, ◌||◌}
use mathlib.Core.Option.{Option, none, some}
use mathlib.Core.List.{List, [], ◌∷◌, ◌++◌, map, map-append}
use Prim.Native.Nat.compare
use Prim.Native.Nat.{ℕ, zero, suc, ◌+◌, ◌-◌, ◌≤◌, max, compare, Ordering}
use native.Mathlib.Omega.{arith}
use lib.Dec.{ltb, leb}
use lib.ListN.{length, length-map}
use Rattle.runs.specs.Machine.{Machine}
use Rattle.runs.specs.Run.{Trail}
use Rattle.runs.specs.Order.{events, numbers}
use Rattle.runs.specs.Answer.{Answer}
use Rattle.runs.specs.inner.Lists.{only, keep, in_turn, distinct}
use Rattle.runs.specs.inner.Order.{then, lex, order}
use Rattle.runs.specs.inner.Search.{Thread, begun, arrive, firing, chosen, moves, passes_over, stays, unended, offers, next, ended, endings, pick, lesser, least_from, least, any_alive, hopeful, waiting, waiting_count, overfull, outcome, scan, origin, end_of, search}
use Rattle.runs.specs.inner.Moved.{moved, carried_trail, carried}
use Rattle.runs.proofs.Stretch.{end-least, end_whole}

-- ---- lists of which one is the other's image

module _ {A : Type 0} (c : A → A) where
  only-map : (t : Bool) (x : A) (xs : List A) → only t (c x) (map c xs) ≡ map c (only t x xs)
  only-map true x xs = refl
  only-map false x xs = refl

  keep-map : (p q : A → Bool) → ((x : A) → p (c x) ≡ q x) → (xs : List A) → keep p (map c xs) ≡ map c (keep q xs)
  unfolding keep
  keep-map p q h [] = refl
  keep-map p q h (x ∷ xs) = ap₂ (λ t r. only t (c x) r) (h x) (keep-map p q h xs) ∙ only-map (q x) x (keep q xs)

  turn-map : (f g : A → List A) → ((x : A) → f (c x) ≡ map c (g x)) → (xs : List A) → in_turn f (map c xs) ≡ map c (in_turn g xs)
  unfolding in_turn
  turn-map f g h [] = refl
  turn-map f g h (x ∷ xs) = ap₂ ◌++◌ (h x) (turn-map f g h xs) ∙ sym (map-append c (g x) (in_turn g xs))

-- ---- the order

compare-moved : (b x y : ℕ) → compare (b + x) (b + y) ≡ compare x y
compare-moved zero x y = ap₂ compare (omega arith) (omega arith)
compare-moved (suc b) x y = ap₂ compare (up x) (up y) ∙ compare.suc-suc (b + x) (b + y) ∙ compare-moved b x y
  where
    up : (z : ℕ) → suc b + z ≡ suc (b + z)
    up z = omega arith

events-moved : (b : ℕ) (t u : Trail) → lex (events (carried_trail b t)) (events (carried_trail b u)) ≡ lex (events t) (events u)
unfolding lex
events-moved b [] [] = refl
events-moved b [] (y ∷ u) = refl
events-moved b (x ∷ t) [] = refl
events-moved b (x ∷ t) (y ∷ u) = ap₂ then (compare-moved b x.event y.event) (events-moved b t u)

pub numbers-moved : (b : ℕ) (t : Trail) → numbers (carried_trail b t) ≡ numbers t
numbers-moved b [] = refl
numbers-moved b (x ∷ t) = ap (λ r. x.step ∷ r) (numbers-moved b t)

order-moved : (b : ℕ) (t u : Trail) → order (carried_trail b t) (carried_trail b u) ≡ order t u
unfolding lex order
order-moved b t u = ap₂ then (events-moved b t u) (ap₂ lex (numbers-moved b t) (numbers-moved b u))

begun-moved : (b : ℕ) (t : Trail) → begun (carried_trail b t) ≡ begun t
begun-moved b [] = refl
begun-moved b (x ∷ t) = refl

module _ (M : Machine) (b e : ℕ) where
  open M use {Config, same, committed, final, fire, expired, steps}

  abbrev alone : Machine
  alone = moved M b e

  abbrev lifted : Thread M → Thread M
  lifted th = record { config = th.config; trail = carried_trail b th.trail }

  abbrev lifted_if : Option (Thread M) → Option (Thread M)
  lifted_if none = none
  lifted_if (some th) = some (lifted th)

  -- ---- one event

  arrive-moved : (n k : ℕ) (th : Thread M) (o : Option Config) (rest : List (Thread M))
      → arrive M (lifted th) (b + n) k o (map lifted rest) ≡ map lifted (arrive alone th n k o rest)
  arrive-moved n k th none rest = refl
  arrive-moved n k th (some d) rest =
      ap (λ (t : Trail). record { config = d; trail = t } ∷ map lifted rest)
      (sym (map-append _ th.trail (record { event = n; step = k } ∷ [])))

  firing-moved : (n : ℕ) (th : Thread M) (k r : ℕ) → firing M (lifted th) (b + n) k r ≡ map lifted (firing alone th n k r)
  unfolding firing
  firing-moved n th k zero = refl
  firing-moved n th k (suc r) =
      let o = fire th.config (b + n) k in
      ap (arrive M (lifted th) (b + n) k o) (firing-moved n th (suc k) r) ∙ arrive-moved n k th o (firing alone th n (suc k) r)

  chosen-moved : (t : Bool) (ms : List (Thread M)) → chosen M t (map lifted ms) ≡ map lifted (chosen alone t ms)
  chosen-moved false ms = refl
  chosen-moved true [] = refl
  chosen-moved true (m ∷ ms) = refl

  moves-moved : (n : ℕ) (th : Thread M) → moves M (b + n) (lifted th) ≡ map lifted (moves alone n th)
  unfolding moves
  moves-moved n th =
      ap (chosen M (committed th.config)) (firing-moved n th 0 steps) ∙ chosen-moved (committed th.config) (firing alone th n 0 steps)

  passes-moved : (t : Bool) (ms : List (Thread M)) → passes_over M t (map lifted ms) ≡ passes_over alone t ms
  passes-moved false ms = refl
  passes-moved true [] = refl
  passes-moved true (m ∷ ms) = refl

  stays_moved : (n : ℕ) (th : Thread M) → stays M (b + n) (lifted th) ≡ stays alone n th
  unfolding stays
  stays_moved n th =
      ap₂ ◌&&◌ (begun-moved b th.trail)
      (ap (passes_over M (committed th.config)) (firing-moved n th 0 steps) ∙ passes-moved (committed th.config) (firing alone th n 0 steps))

  unended-moved : (th : Thread M) → unended M (lifted th) ≡ unended alone th
  unfolding unended
  unended-moved th = ap (λ k. not (final th.config) && leb k 31) (length-map th.trail _)

  offers-moved : (n : ℕ) (th : Thread M) → offers M (b + n) (lifted th) ≡ map lifted (offers alone n th)
  unfolding offers
  offers-moved n th =
      ap₂ (λ t r. only t (lifted th) r) (stays_moved n th)
      (ap (keep (unended M)) (moves-moved n th) ∙ keep-map lifted (unended M) (unended alone) unended-moved (moves alone n th))
      ∙ only-map lifted (stays alone n th) th (keep (unended alone) (moves alone n th))

  next-moved : (n : ℕ) (ths : List (Thread M)) → next M (b + n) (map lifted ths) ≡ map lifted (next alone n ths)
  unfolding next
  next-moved n ths = turn-map lifted (offers M (b + n)) (offers alone n) (offers-moved n) ths

  endings-moved : (n : ℕ) (ths : List (Thread M)) → endings M (b + n) (map lifted ths) ≡ map lifted (endings alone n ths)
  unfolding endings
  endings-moved n ths =
      turn-map lifted (λ (th : Thread M). keep (ended M) (moves M (b + n) th)) (λ (th : Thread M). keep (ended alone) (moves alone n th)) ends ths
    where
      ends : (th : Thread M) → keep (ended M) (moves M (b + n) (lifted th)) ≡ map lifted (keep (ended alone) (moves alone n th))
      ends th = ap (keep (ended M)) (moves-moved n th) ∙ keep-map lifted (ended M) (ended alone) (λ x. refl) (moves alone n th)

  -- ---- the least

  pick-moved : (o : Ordering) (x y : Thread M) → pick M o (lifted x) (lifted y) ≡ lifted (pick alone o x y)
  pick-moved Ordering.lt x y = refl
  pick-moved Ordering.eq x y = refl
  pick-moved Ordering.gt x y = refl

  lesser-moved : (o : Option (Thread M)) (y : Thread M) → lesser M (lifted_if o) (lifted y) ≡ lifted (lesser alone o y)
  unfolding lesser
  lesser-moved none y = refl
  lesser-moved (some x) y =
      ap (λ o. pick M o (lifted x) (lifted y)) (order-moved b x.trail y.trail) ∙ pick-moved (order x.trail y.trail) x y

  least-moved : (o : Option (Thread M)) (ths : List (Thread M)) → least_from M (lifted_if o) (map lifted ths) ≡ lifted_if (least_from alone o ths)
  unfolding least_from
  least-moved o [] = refl
  least-moved o (th ∷ ths) = ap (λ y. least_from M (some y) (map lifted ths)) (lesser-moved o th) ∙ least-moved (some (lesser alone o th)) ths

  -- ---- the number that wait

  alive-moved : (c : Config) (n r : ℕ) → any_alive M c (b + n) r ≡ any_alive alone c n r
  unfolding any_alive
  alive-moved c n zero = refl
  alive-moved c n (suc r) = ap (λ t. not (expired c r (b + n)) || t) (alive-moved c n r)

  configs-moved : (ths : List (Thread M)) → map (λ (th : Thread M). th.config) (map lifted ths) ≡ map (λ (th : Thread M). th.config) ths
  configs-moved [] = refl
  configs-moved (th ∷ ths) = ap (λ r. th.config ∷ r) (configs-moved ths)

  count-moved : (n : ℕ) (ths : List (Thread M)) → waiting_count M (b + n) (map lifted ths) ≡ waiting_count alone n ths
  unfolding hopeful waiting waiting_count
  count-moved n ths =
      ap (λ l. length (distinct same l))
      (ap (map (λ (th : Thread M). th.config))
      (keep-map lifted (hopeful M (b + n)) (hopeful alone n) (λ (th : Thread M). alive-moved th.config n steps) ths)
      ∙ configs-moved (keep (hopeful alone n) ths))

  -- ---- event after event

  answer-moved : (n p : ℕ) (o : Option (Thread M)) (t : Bool) (a : Answer M)
      → outcome M (lifted_if o) p (overfull M t (b + n) (carried b a)) ≡ carried b (outcome alone o p (overfull alone t n a))
  answer-moved n p (some th) t a = refl
  answer-moved n p none true a = refl
  answer-moved n p none false a = refl

  scan-moved : (slots f n p : ℕ) (ths : List (Thread M))
      → scan M (next M) (waiting_count M) slots f (b + n) (map lifted ths) p ≡ carried b (scan alone (next alone) (waiting_count alone) slots f n ths p)
  unfolding least scan
  scan-moved slots zero n p ths = refl
  scan-moved slots (suc f) n p ths =
      ap₂ (λ (o : Option (Thread M)) (a : Answer M). outcome M o p a)
      (ap (least_from M none) (endings-moved n ths) ∙ least-moved none (endings alone n ths))
      (ap₂ (λ (k : ℕ) (a : Answer M). overfull M (ltb slots k) (b + n) a) count (rest ∙ scan-moved slots f (suc n) (max p w) (next alone n ths)))
      ∙ answer-moved n p (least alone (endings alone n ths)) (ltb slots w)
      (scan alone (next alone) (waiting_count alone) slots f (suc n) (next alone n ths) (max p w))
    where
      w : ℕ
      w = waiting_count alone n (next alone n ths)

      count : waiting_count M (b + n) (next M (b + n) (map lifted ths)) ≡ w
      count = ap (waiting_count M (b + n)) (next-moved n ths) ∙ count-moved n (next alone n ths)

      on : ℕ → List (Thread M) → ℕ → Answer M
      on m l k = scan M (next M) (waiting_count M) slots f m l (max p k)

      rest : on (suc (b + n)) (next M (b + n) (map lifted ths)) (waiting_count M (b + n) (next M (b + n) (map lifted ths)))
          ≡ on (b + suc n) (map lifted (next alone n ths)) w
      rest = ap₂ (on (suc (b + n))) (next-moved n ths) count ∙ ap (λ m. on m (map lifted (next alone n ths)) w) (omega arith)

pub search-moved : (M : Machine) (b slots i : ℕ) → b ≤ i → search M slots i ≡ carried b (search (moved M b (end_of M i)) slots (i - b))
unfolding origin search
search-moved M b slots i h =
    ap₂ (λ f n. scan M (next M) (waiting_count M) slots f n (origin M) 0) left from
    ∙ scan-moved M b (end_of M i) slots (end_of (moved M b (end_of M i)) (i - b) - (i - b)) (i - b) 0 (origin M)
  where
    from : i ≡ b + (i - b)
    from = omega (arith, h)

    left : end_of M i - i ≡ end_of (moved M b (end_of M i)) (i - b) - (i - b)
    left = omega (arith, h, end-least M i, end_whole (moved M b (end_of M i)) (i - b) (λ n h k. refl))
