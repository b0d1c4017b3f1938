-- The computed order of trails is linear, appending the same steps to two trails of one length does not change it, and
-- it says what the literal order of runs says.
use mathlib.Core.Path.{◌≡◌, refl, sym, ap, ap₂, ◌∙◌, subst}
use mathlib.Core.Logic.{◌⊎◌, inl, inr}
use mathlib.Core.List.{List, [], ◌∷◌, ◌++◌, map, map-append, head-eq_of_cons-eq, tail-eq_of_cons-eq, nil≢cons}
use Prim.Native.Nat.compare
use Prim.Native.Nat.{ℕ, zero, suc, ◌≤◌, ◌<◌, suc-le-suc, compare, Ordering}
use native.Mathlib.Nat.{le_of_suc-le-suc, not-suc-le-zero, zero-lt-suc, suc_inj}
use native.Mathlib.Omega.{arith}
use lib.ListN.{length, length-map}
use Rattle.runs.specs.Run.{Entry, Trail, last_or, last}
use Rattle.runs.specs.Order.{events, numbers, Higher, Later, ends_later, later_event, higher_number}
use Rattle.runs.specs.inner.Order.{then, lex, order}

abbrev IsLt : Ordering → Type 0
IsLt Ordering.lt = Unit {0}
IsLt Ordering.eq = ⊥
IsLt Ordering.gt = ⊥

abbrev IsGt : Ordering → Type 0
IsGt Ordering.lt = ⊥
IsGt Ordering.eq = ⊥
IsGt Ordering.gt = Unit {0}

pub eq≢lt : Ordering.eq ≡ Ordering.lt → ⊥
eq≢lt e = subst IsLt (sym e) tt

gt≢lt : Ordering.gt ≡ Ordering.lt → ⊥
gt≢lt e = subst IsLt (sym e) tt

lt≢eq : Ordering.lt ≡ Ordering.eq → ⊥
lt≢eq e = subst IsLt e tt

gt≢eq : Ordering.gt ≡ Ordering.eq → ⊥
gt≢eq e = subst IsGt e tt

abbrev flip : Ordering → Ordering
flip Ordering.lt = Ordering.gt
flip Ordering.eq = Ordering.eq
flip Ordering.gt = Ordering.lt

-- ---- two keys, the first deciding

then-eq : (o p : Ordering) → then o p ≡ Ordering.eq → (o ≡ Ordering.eq) × (p ≡ Ordering.eq)
then-eq Ordering.lt p e = absurd (lt≢eq e)
then-eq Ordering.eq p e = (refl, e)
then-eq Ordering.gt p e = absurd (gt≢eq e)

then-lt : (o p : Ordering) → then o p ≡ Ordering.lt → (o ≡ Ordering.lt) ⊎ ((o ≡ Ordering.eq) × (p ≡ Ordering.lt))
then-lt Ordering.lt p e = inl refl
then-lt Ordering.eq p e = inr (refl, e)
then-lt Ordering.gt p e = absurd (gt≢lt e)

then_flip : (o p : Ordering) → then (flip o) (flip p) ≡ flip (then o p)
then_flip Ordering.lt p = refl
then_flip Ordering.eq p = refl
then_flip Ordering.gt p = refl

-- an order in which any two differ or are equal
record Linear {A : Type 0} (cmp : A → A → Ordering) : Type 0 where
  self : (a : A) → cmp a a ≡ Ordering.eq
  equal : (a b : A) → cmp a b ≡ Ordering.eq → a ≡ b
  turn : (a b : A) → cmp b a ≡ flip (cmp a b)
  trans : (a b c : A) → cmp a b ≡ Ordering.lt → cmp b c ≡ Ordering.lt → cmp a c ≡ Ordering.lt

then-trans : {A : Type 0} (cmp : A → A → Ordering) (lin : Linear cmp) (a b c : A) (p q r : Ordering) → (p ≡ Ordering.lt → q ≡ Ordering.lt → r ≡ Ordering.lt)
    → then (cmp a b) p ≡ Ordering.lt → then (cmp b c) q ≡ Ordering.lt → then (cmp a c) r ≡ Ordering.lt
then-trans {A} cmp lin a b c p q r h e f = go (then-lt (cmp a b) p e) (then-lt (cmp b c) q f)
  where
    go : (cmp a b ≡ Ordering.lt) ⊎ ((cmp a b ≡ Ordering.eq) × (p ≡ Ordering.lt)) → (cmp b c ≡ Ordering.lt) ⊎ ((cmp b c ≡ Ordering.eq) × (q ≡ Ordering.lt))
        → then (cmp a c) r ≡ Ordering.lt
    go (inl x) (inl y) = ap (λ o. then o r) (lin.trans a b c x y)
    go (inl x) (inr y) = ap (λ o. then o r) (subst (λ z. cmp a z ≡ Ordering.lt) (lin.equal b c y.0) x)
    go (inr x) (inl y) = ap (λ o. then o r) (subst (λ z. cmp z c ≡ Ordering.lt) (sym (lin.equal a b x.0)) y)
    go (inr x) (inr y) = ap₂ then (subst (λ z. cmp a z ≡ Ordering.eq) (lin.equal b c y.0) x.0) (h x.1 y.1)

-- ---- numbers

pub compare_self : (n : ℕ) → compare n n ≡ Ordering.eq
compare_self zero = compare.zero-zero
compare_self (suc n) = compare.suc-suc n n ∙ compare_self n

compare-equal : (m n : ℕ) → compare m n ≡ Ordering.eq → m ≡ n
compare-equal zero zero e = refl
compare-equal zero (suc n) e = absurd (lt≢eq (sym (compare.zero-suc n) ∙ e))
compare-equal (suc m) zero e = absurd (gt≢eq (sym (compare.suc-zero m) ∙ e))
compare-equal (suc m) (suc n) e = ap suc (compare-equal m n (sym (compare.suc-suc m n) ∙ e))

compare-turn : (m n : ℕ) → compare n m ≡ flip (compare m n)
compare-turn zero zero = compare.zero-zero ∙ sym (ap flip compare.zero-zero)
compare-turn zero (suc n) = compare.suc-zero n ∙ sym (ap flip (compare.zero-suc n))
compare-turn (suc m) zero = compare.zero-suc m ∙ sym (ap flip (compare.suc-zero m))
compare-turn (suc m) (suc n) = compare.suc-suc n m ∙ compare-turn m n ∙ sym (ap flip (compare.suc-suc m n))

compare-less : (m n : ℕ) → compare m n ≡ Ordering.lt → m < n
compare-less zero zero e = absurd (eq≢lt (sym compare.zero-zero ∙ e))
compare-less zero (suc n) e = zero-lt-suc n
compare-less (suc m) zero e = absurd (gt≢lt (sym (compare.suc-zero m) ∙ e))
compare-less (suc m) (suc n) e = suc-le-suc (compare-less m n (sym (compare.suc-suc m n) ∙ e))

pub less-compare : (m n : ℕ) → m < n → compare m n ≡ Ordering.lt
less-compare m zero h = absurd (not-suc-le-zero h)
less-compare zero (suc n) h = compare.zero-suc n
less-compare (suc m) (suc n) h = compare.suc-suc m n ∙ less-compare m n (le_of_suc-le-suc h)

numbers-linear : Linear compare
numbers-linear =
    record {
      self = compare_self;
      equal = compare-equal;
      turn = compare-turn;
      trans = λ a b c e f. less-compare a c (omega (arith, compare-less a b e, compare-less b c f));
    }

-- ---- lists of numbers

lex-self : (xs : List ℕ) → lex xs xs ≡ Ordering.eq
unfolding lex
lex-self [] = refl
lex-self (x ∷ xs) = ap (λ o. then o (lex xs xs)) (compare_self x) ∙ lex-self xs

lex-equal : (xs ys : List ℕ) → lex xs ys ≡ Ordering.eq → xs ≡ ys
unfolding lex
lex-equal [] [] e = refl
lex-equal [] (y ∷ ys) e = absurd (lt≢eq e)
lex-equal (x ∷ xs) [] e = absurd (gt≢eq e)
lex-equal (x ∷ xs) (y ∷ ys) e =
    let h = then-eq (compare x y) (lex xs ys) e in
    ap₂ ◌∷◌ (compare-equal x y h.0) (lex-equal xs ys h.1)

lex-turn : (xs ys : List ℕ) → lex ys xs ≡ flip (lex xs ys)
unfolding lex
lex-turn [] [] = refl
lex-turn [] (y ∷ ys) = refl
lex-turn (x ∷ xs) [] = refl
lex-turn (x ∷ xs) (y ∷ ys) = ap₂ then (compare-turn x y) (lex-turn xs ys) ∙ then_flip (compare x y) (lex xs ys)

lex-trans : (xs ys zs : List ℕ) → lex xs ys ≡ Ordering.lt → lex ys zs ≡ Ordering.lt → lex xs zs ≡ Ordering.lt
unfolding lex
lex-trans [] [] zs e f = f
lex-trans [] (y ∷ ys) [] e f = absurd (gt≢lt f)
lex-trans [] (y ∷ ys) (z ∷ zs) e f = refl
lex-trans (x ∷ xs) [] zs e f = absurd (gt≢lt e)
lex-trans (x ∷ xs) (y ∷ ys) [] e f = absurd (gt≢lt f)
lex-trans (x ∷ xs) (y ∷ ys) (z ∷ zs) e f =
    then-trans compare numbers-linear x y z (lex xs ys) (lex ys zs) (lex xs zs) (lex-trans xs ys zs) e f

lists-linear : Linear lex
lists-linear = record { self = lex-self; equal = lex-equal; turn = lex-turn; trans = lex-trans }

-- the same end on two lists of one length
lex-append : (xs ys zs : List ℕ) → length xs ≡ length ys → lex (xs ++ zs) (ys ++ zs) ≡ lex xs ys
unfolding lex
lex-append [] [] zs h = lex-self zs
lex-append [] (y ∷ ys) zs h = absurd (omega (arith, h))
lex-append (x ∷ xs) [] zs h = absurd (omega (arith, h))
lex-append (x ∷ xs) (y ∷ ys) zs h = ap (λ o. then (compare x y) o) (lex-append xs ys zs (suc_inj h))

-- ---- trails

trail-equal : (t u : Trail) → events t ≡ events u → numbers t ≡ numbers u → t ≡ u
trail-equal [] [] e f = refl
trail-equal [] (y ∷ u) e f = absurd (nil≢cons e)
trail-equal (x ∷ t) [] e f = absurd (nil≢cons (sym e))
trail-equal (x ∷ t) (y ∷ u) e f =
    ap₂ {A =
    Entry} {B = Trail} {C = Trail} ◌∷◌ (λ i. record { event = head-eq_of_cons-eq e i; step = head-eq_of_cons-eq f i }) (trail-equal t u
    (tail-eq_of_cons-eq e) (tail-eq_of_cons-eq f))

order-equal : (t u : Trail) → order t u ≡ Ordering.eq → t ≡ u
unfolding lex order
order-equal t u e =
    let h = then-eq (lex (events t) (events u)) (lex (numbers t) (numbers u)) e in
    trail-equal t u (lex-equal (events t) (events u) h.0) (lex-equal (numbers t) (numbers u) h.1)

order-turn : (t u : Trail) → order u t ≡ flip (order t u)
unfolding order lex
order-turn t u =
    ap₂ then (lex-turn (events t) (events u)) (lex-turn (numbers t) (numbers u)) ∙ then_flip (lex (events t) (events u)) (lex (numbers t) (numbers u))

order_trans : (t u v : Trail) → order t u ≡ Ordering.lt → order u v ≡ Ordering.lt → order t v ≡ Ordering.lt
unfolding lex order
order_trans t u v e f =
    then-trans lex lists-linear (events t) (events u) (events v) (lex (numbers t) (numbers u)) (lex (numbers u) (numbers v)) (lex (numbers t) (numbers v))
    (lex-trans (numbers t) (numbers u) (numbers v)) e f

-- 'appending the same steps to two trails of one length keeps their order'
pub order-append : (t u v : Trail) → length t ≡ length u → order (t ++ v) (u ++ v) ≡ order t u
unfolding order lex
order-append t u v h = ap₂ then (key (λ (x : Entry). x.event)) (key (λ (x : Entry). x.step))
  where
    key : (f : Entry → ℕ) → lex (map f (t ++ v)) (map f (u ++ v)) ≡ lex (map f t) (map f u)
    key f = ap₂ lex (map-append f t v) (map-append f u v) ∙ lex-append (map f t) (map f u) (map f v) (length-map t f ∙ h ∙ sym (length-map u f))

-- ---- at most as late

-- t is u, or comes before it
pub record AtMost (t u : Trail) : Type 0 where
  pub holds : (order t u ≡ Ordering.lt) ⊎ (t ≡ u)

pub at-most-self : (t : Trail) → AtMost t t
at-most-self t = record { holds = inr refl }

pub at-most-trans : (t u v : Trail) → AtMost t u → AtMost u v → AtMost t v
at-most-trans t u v a b = record { holds = go a.holds b.holds }
  where
    go : (order t u ≡ Ordering.lt) ⊎ (t ≡ u) → (order u v ≡ Ordering.lt) ⊎ (u ≡ v) → (order t v ≡ Ordering.lt) ⊎ (t ≡ v)
    go (inl e) (inl f) = inl (order_trans t u v e f)
    go (inl e) (inr f) = inl (subst (λ w. order t w ≡ Ordering.lt) f e)
    go (inr e) (inl f) = inl (subst (λ w. order w v ≡ Ordering.lt) (sym e) f)
    go (inr e) (inr f) = inr (e ∙ f)

order-asym : (t u : Trail) → order t u ≡ Ordering.lt → order u t ≡ Ordering.lt → ⊥
order-asym t u e f = gt≢lt (sym (order-turn t u ∙ ap flip e) ∙ f)

pub at-most-antisym : (t u : Trail) → AtMost t u → AtMost u t → t ≡ u
at-most-antisym t u a b = go a.holds b.holds
  where
    go : (order t u ≡ Ordering.lt) ⊎ (t ≡ u) → (order u t ≡ Ordering.lt) ⊎ (u ≡ t) → t ≡ u
    go (inl e) (inl f) = absurd (order-asym t u e f)
    go (inl e) (inr f) = sym f
    go (inr e) f = e

-- what a comparison says
pub first-at-most : (t u : Trail) (o : Ordering) → order t u ≡ o → (o ≡ Ordering.gt → ⊥) → AtMost t u
first-at-most t u Ordering.lt e n = record { holds = inl e }
first-at-most t u Ordering.eq e n = record { holds = inr (order-equal t u e) }
first-at-most t u Ordering.gt e n = absurd (n refl)

pub second-at-most : (t u : Trail) → order t u ≡ Ordering.gt → AtMost u t
second-at-most t u e = record { holds = inl (order-turn t u ∙ ap flip e) }

pub lt≢gt : Ordering.lt ≡ Ordering.gt → ⊥
lt≢gt e = gt≢lt (sym e)

pub eq≢gt : Ordering.eq ≡ Ordering.gt → ⊥
eq≢gt e = gt≢eq (sym e)

-- the same steps taken after two trails of one length
pub at-most-append : (t u v : Trail) → length t ≡ length u → AtMost t u → AtMost (t ++ v) (u ++ v)
at-most-append t u v h a = record { holds = go a.holds }
  where
    go : (order t u ≡ Ordering.lt) ⊎ (t ≡ u) → (order (t ++ v) (u ++ v) ≡ Ordering.lt) ⊎ (t ++ v ≡ u ++ v)
    go (inl e) = inl (order-append t u v h ∙ e)
    go (inr e) = inr (ap (λ w. w ++ v) e)

-- ---- the literal order

higher-cons : (x : ℕ) (xs ys : List ℕ) → Higher xs ys → Higher (x ∷ xs) (x ∷ ys)
higher-cons x xs ys h =
    record {
      shared = x ∷ h.shared;
      low = h.low;
      high = h.high;
      xs_rest = h.xs_rest;
      ys_rest = h.ys_rest;
      xs_is = ap (λ r. x ∷ r) h.xs_is;
      ys_is = ap (λ r. x ∷ r) h.ys_is;
      rises = h.rises;
    }

higher-here : (x y : ℕ) (xs ys : List ℕ) → x < y → Higher (x ∷ xs) (y ∷ ys)
higher-here x y xs ys h = record { shared = []; low = x; high = y; xs_rest = xs; ys_rest = ys; xs_is = refl; ys_is = refl; rises = h }

-- two lists with heads compared and, where these are equal, tails judged by what is known of them
higher-or : (x y : ℕ) (xs ys : List ℕ) → (x ≡ y → lex xs ys ≡ Ordering.lt → Higher xs ys) → then (compare x y) (lex xs ys) ≡ Ordering.lt
    → Higher (x ∷ xs) (y ∷ ys)
higher-or x y xs ys ih e = go (then-lt (compare x y) (lex xs ys) e)
  where
    go : (compare x y ≡ Ordering.lt) ⊎ ((compare x y ≡ Ordering.eq) × (lex xs ys ≡ Ordering.lt)) → Higher (x ∷ xs) (y ∷ ys)
    go (inl c) = higher-here x y xs ys (compare-less x y c)
    go (inr c) = let q = compare-equal x y c.0 in subst (λ z. Higher (x ∷ xs) (z ∷ ys)) q (higher-cons x xs ys (ih q c.1))

higher-same-length : (xs ys : List ℕ) → length xs ≡ length ys → lex xs ys ≡ Ordering.lt → Higher xs ys
unfolding lex
higher-same-length [] [] h e = absurd (eq≢lt e)
higher-same-length [] (y ∷ ys) h e = absurd (omega (arith, h))
higher-same-length (x ∷ xs) [] h e = absurd (gt≢lt e)
higher-same-length (x ∷ xs) (y ∷ ys) h e = higher-or x y xs ys (λ q l. higher-same-length xs ys (suc_inj h) l) e

-- strictly rising events, the first at s or later
abbrev pub Rising : ℕ → Trail → Type 0
Rising s [] = Unit {0}
Rising s (x ∷ t) = (s ≤ x.event) × Rising (suc x.event) t

pub rising-last : (a : ℕ) (t : Trail) → Rising (suc a) t → a ≤ last_or a t
rising-last a [] r = omega arith
rising-last a (x ∷ t) r = omega (arith, r.0, rising-last x.event t r.1)

higher-events : (a : ℕ) (t u : Trail) → Rising (suc a) t → Rising (suc a) u → last_or a t ≡ last_or a u → lex (events t) (events u) ≡ Ordering.lt
    → Higher (events t) (events u)
unfolding lex
higher-events a [] [] r s h e = absurd (eq≢lt e)
higher-events a [] (y ∷ u) r s h e = absurd (omega (arith, h, s.0, rising-last y.event u s.1))
higher-events a (x ∷ t) [] r s h e = absurd (gt≢lt e)
higher-events a (x ∷ t) (y ∷ u) r s h e =
    higher-or x.event y.event (events t) (events u)
    (λ q l. higher-events x.event t u r.1 (subst (λ n. Rising (suc n) u) (sym q) s.1) (h ∙ ap (λ n. last_or n u) (sym q)) l) e

-- of two runs that begin on one event and end on one event the computed comparison finds the later
pub order-later : (x y : Entry) (t u : Trail) → x.event ≡ y.event → Rising (suc x.event) t → Rising (suc y.event) u → last (x ∷ t) ≡ last (y ∷ u)
    → order (x ∷ t) (y ∷ u) ≡ Ordering.lt → Later (x ∷ t) (y ∷ u)
unfolding lex order
order-later x y t u b r s h e = go (then-lt (lex (events (x ∷ t)) (events (y ∷ u))) (lex (numbers (x ∷ t)) (numbers (y ∷ u))) e)
  where
    go : (lex (events (x ∷ t)) (events (y ∷ u)) ≡ Ordering.lt)
        ⊎ ((lex (events (x ∷ t)) (events (y ∷ u)) ≡ Ordering.eq) × (lex (numbers (x ∷ t)) (numbers (y ∷ u)) ≡ Ordering.lt))
        → Later (x ∷ t) (y ∷ u)
    go (inl l) =
        later_event h
        (higher-or x.event y.event (events t) (events u)
        (λ q k. higher-events x.event t u r (subst (λ n. Rising (suc n) u) (sym b) s) (h ∙ ap (λ n. last_or n u) (sym b)) k) l)
    go (inr p) =
        let same = lex-equal (events (x ∷ t)) (events (y ∷ u)) p.0 in
        higher_number same (higher-same-length (numbers (x ∷ t)) (numbers (y ∷ u)) (lengths (x ∷ t) (y ∷ u) same) p.1)
      where
        lengths : (v w : Trail) → events v ≡ events w → length (numbers v) ≡ length (numbers w)
        lengths [] [] q = refl
        lengths [] (z ∷ w) q = absurd (nil≢cons q)
        lengths (z ∷ v) [] q = absurd (nil≢cons (sym q))
        lengths (z ∷ v) (z' ∷ w) q = ap suc (lengths v w (tail-eq_of_cons-eq q))

lex-higher : (xs ys : List ℕ) → Higher xs ys → lex xs ys ≡ Ordering.lt
unfolding lex
lex-higher xs ys h = ap₂ lex h.xs_is h.ys_is ∙ go h.shared
  where
    go : (p : List ℕ) → lex (p ++ (h.low ∷ h.xs_rest)) (p ++ (h.high ∷ h.ys_rest)) ≡ Ordering.lt
    go [] = ap (λ o. then o (lex h.xs_rest h.ys_rest)) (less-compare h.low h.high h.rises)
    go (x ∷ p) = ap₂ then (compare_self x) (go p)

same-last : (a : ℕ) (t u : Trail) → events t ≡ events u → last_or a t ≡ last_or a u
same-last a [] [] e = refl
same-last a [] (y ∷ u) e = absurd (nil≢cons e)
same-last a (x ∷ t) [] e = absurd (nil≢cons (sym e))
same-last a (x ∷ t) (y ∷ u) e = same-last x.event t u (tail-eq_of_cons-eq e) ∙ ap (λ n. last_or n u) (head-eq_of_cons-eq e)

-- a later run ends later, or with the other and after it in the computed order
later-cases : (t u : Trail) → Later t u → (last t < last u) ⊎ ((last t ≡ last u) × (order t u ≡ Ordering.lt))
unfolding order lex
later-cases t u (ends_later h) = inl h
later-cases t u (later_event e h) = inr (e, ap (λ o. then o (lex (numbers t) (numbers u))) (lex-higher (events t) (events u) h))
later-cases t u (higher_number e h) =
    inr (same-last 0 t u e, ap₂ then (subst (λ z. lex (events t) z ≡ Ordering.eq) e (lex-self (events t))) (lex-higher (numbers t) (numbers u) h))

pub later_last : (t u : Trail) → Later t u → last t ≤ last u
later_last t u p = go (later-cases t u p)
  where
    go : (last t < last u) ⊎ ((last t ≡ last u) × (order t u ≡ Ordering.lt)) → last t ≤ last u
    go (inl h) = omega (arith, h)
    go (inr h) = omega (arith, h.0)

-- no two runs come after each other
pub later-asym : (t u : Trail) → Later t u → Later u t → ⊥
later-asym t u p q = go (later-cases t u p) (later-cases u t q)
  where
    go : (last t < last u) ⊎ ((last t ≡ last u) × (order t u ≡ Ordering.lt)) → (last u < last t) ⊎ ((last u ≡ last t) × (order u t ≡ Ordering.lt)) → ⊥
    go (inl a) (inl b) = omega (arith, a, b)
    go (inl a) (inr b) = omega (arith, a, b.0)
    go (inr a) (inl b) = omega (arith, a.0, b)
    go (inr a) (inr b) = order-asym t u a.1 b.1
