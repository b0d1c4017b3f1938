-- Members of the lists that the definitions build, and: two lists without repeats and with the same members are equally long.
use mathlib.Core.Path.{◌≡◌, refl, sym, ap, ◌∙◌, subst}
use mathlib.Core.Logic.{◌⊎◌, inl, inr}
use mathlib.Core.Bool.{Bool, true, false, not, ◌||◌, or-true, true≢false, false≢true}
use mathlib.Core.List.Memᴰ
use mathlib.Core.List.{List, [], ◌∷◌, map}
use Prim.Native.Nat.{suc, ◌≤◌, zero-le}
use native.Mathlib.Nat.{le_antisymm}
use native.Mathlib.Omega.{arith}
use lib.ListN.{length}
use Rattle.runs.specs.Lists.{In, Distinct}
use Rattle.runs.specs.inner.Lists.{only, keep, in_turn, has, distinct}

module _ {A : Type 0} where
  -- membership in `only`: the first where the test holds, or the rest
  pub only-in : (b : Bool) {a x : A} {xs : List A} → In a (only b x xs) → ((b ≡ true) × (a ≡ x)) ⊎ In a xs
  only-in true (Memᴰ.head e) = inl (refl, e)
  only-in true (Memᴰ.tail m) = inr m
  only-in false m = inr m

  pub only-first : {b : Bool} {x : A} (xs : List A) → b ≡ true → In x (only b x xs)
  only-first xs e = rw e (Memᴰ.head refl)

  pub only-rest : (b : Bool) (x : A) {a : A} {xs : List A} → In a xs → In a (only b x xs)
  only-rest true x m = Memᴰ.tail m
  only-rest false x m = m

  -- a member of what passes a test
  pub record Passed (p : A → Bool) (xs : List A) (a : A) : Type 0 where
    pub member : In a xs
    pub passes : p a ≡ true

  pub keep-in : (p : A → Bool) (xs : List A) {a : A} → In a (keep p xs) → Passed p xs a
  unfolding keep
  keep-in p [] m = absurd (Memᴰ.not-nil m)
  keep-in p (x ∷ xs) {a} m = go (only-in (p x) m) (λ r. keep-in p xs r)
    where
      go : ((p x ≡ true) × (a ≡ x)) ⊎ In a (keep p xs) → (In a (keep p xs) → Passed p xs a) → Passed p (x ∷ xs) a
      go (inl e) ih = record { member = Memᴰ.head e.1; passes = ap p e.1 ∙ e.0 }
      go (inr r) ih = record { member = Memᴰ.tail (ih r).member; passes = (ih r).passes }

  pub keep_out : (p : A → Bool) {a : A} {xs : List A} → In a xs → p a ≡ true → In a (keep p xs)
  unfolding keep
  keep_out p (Memᴰ.head {x = x} {xs = xs} e) t = subst (λ b. In b (keep p (x ∷ xs))) (sym e) (only-first (keep p xs) (ap p (sym e) ∙ t))
  keep_out p (Memᴰ.tail {x = x} {xs = xs} m) t = only-rest (p x) x (keep_out p m t)

  -- a member of what the members of a list give
  pub record Given {B : Type 0} (f : B → List A) (bs : List B) (a : A) : Type 0 where
    pub giver : B
    pub member : In giver bs
    pub gives : In a (f giver)

  pub turn_in : {B : Type 0} (f : B → List A) (bs : List B) {a : A} → In a (in_turn f bs) → Given f bs a
  unfolding in_turn
  turn_in f [] m = absurd (Memᴰ.not-nil m)
  turn_in f (b ∷ bs) {a} m = go (Memᴰ.append_cases (f b) m) (λ r. turn_in f bs r)
    where
      go : In a (f b) ⊎ In a (in_turn f bs) → (In a (in_turn f bs) → Given f bs a) → Given f (b ∷ bs) a
      go (inl h) ih = record { giver = b; member = Memᴰ.head refl; gives = h }
      go (inr r) ih = record { giver = (ih r).giver; member = Memᴰ.tail (ih r).member; gives = (ih r).gives }

  pub turn-out : {B : Type 0} (f : B → List A) {b : B} {a : A} {bs : List B} → In b bs → In a (f b) → In a (in_turn f bs)
  unfolding in_turn
  turn-out f {a = a} (Memᴰ.head {x = x} {xs = xs} e) g = Memᴰ.append_left (in_turn f xs) (subst (λ y. In a (f y)) e g)
  turn-out f (Memᴰ.tail {x = x} {xs = xs} m) g = Memᴰ.append_right (f x) (turn-out f m g)

  -- a member of a list of images
  pub record Image {B : Type 0} (f : B → A) (bs : List B) (a : A) : Type 0 where
    pub source : B
    pub member : In source bs
    pub is : a ≡ f source

  pub map-in : {B : Type 0} (f : B → A) (bs : List B) {a : A} → In a (map f bs) → Image f bs a
  map-in f [] m = absurd (Memᴰ.not-nil m)
  map-in f (b ∷ bs) {a} m = go (Memᴰ.cases_cons m) (λ r. map-in f bs r)
    where
      go : (a ≡ f b) ⊎ In a (map f bs) → (In a (map f bs) → Image f bs a) → Image f (b ∷ bs) a
      go (inl e) ih = record { source = b; member = Memᴰ.head refl; is = e }
      go (inr r) ih = record { source = (ih r).source; member = Memᴰ.tail (ih r).member; is = (ih r).is }

  pub map-out : {B : Type 0} (f : B → A) {b : B} {bs : List B} → In b bs → In (f b) (map f bs)
  map-out f (Memᴰ.head e) = Memᴰ.head (ap f e)
  map-out f (Memᴰ.tail m) = Memᴰ.tail (map-out f m)

  -- a list without one of its members
  record Without (a : A) (xs : List A) : Type 0 where
    rest : List A
    shorter : length xs ≡ suc (length rest)
    keeps : (b : A) → In b xs → (b ≡ a → ⊥) → In b rest

  without : {a : A} {xs : List A} → In a xs → Without a xs
  without {a} (Memᴰ.head {x = x} {xs = xs} e) = record { rest = xs; shorter = refl; keeps = λ b m n. go b n (Memᴰ.cases_cons m) }
    where
      go : (b : A) → (b ≡ a → ⊥) → (b ≡ x) ⊎ In b xs → In b xs
      go b n (inl q) = absurd (n (q ∙ sym e))
      go b n (inr m) = m
  without {a} (Memᴰ.tail {x = x} {xs = xs} m) = step (without m)
    where
      step : Without a xs → Without a (x ∷ xs)
      step w = record { rest = x ∷ w.rest; shorter = ap suc w.shorter; keeps = λ b m n. go b n (Memᴰ.cases_cons m) }
        where
          go : (b : A) → (b ≡ a → ⊥) → (b ≡ x) ⊎ In b xs → In b (x ∷ w.rest)
          go b n (inl q) = Memᴰ.head q
          go b n (inr m) = Memᴰ.tail (w.keeps b m n)

  pub at_most : (xs ys : List A) → Distinct xs → ((a : A) → In a xs → In a ys) → length xs ≤ length ys
  at_most [] ys d s = zero-le
  at_most (x ∷ xs) ys d s = go (without (s x (Memᴰ.head refl))) (λ zs h. at_most xs zs d.1 h)
    where
      go : Without x ys → ((zs : List A) → ((a : A) → In a xs → In a zs) → length xs ≤ length zs) → suc (length xs) ≤ length ys
      go w ih = omega (arith, w.shorter, ih w.rest (λ a m. w.keeps a (s a (Memᴰ.tail m)) (λ e. d.0 (subst (λ b. In b xs) e m))))

  pub same_length : (xs ys : List A) → Distinct xs → Distinct ys → ((a : A) → In a xs → In a ys) → ((a : A) → In a ys → In a xs) → length xs ≡ length ys
  same_length xs ys dx dy f g = le_antisymm (at_most xs ys dx f) (at_most ys xs dy g)

-- the list with each member once
module _ {A : Type 0} (same : A → A → Bool) (same_equal : (a b : A) → same a b ≡ true → a ≡ b) (equal_same : (a : A) → same a a ≡ true) where
  pub has_in : (a : A) (xs : List A) → has same a xs ≡ true → In a xs
  unfolding has
  has_in a [] h = absurd (false≢true h)
  has_in a (x ∷ xs) h = go (same a x) refl h (λ r. has_in a xs r)
    where
      go : (b : Bool) → same a x ≡ b → (b || has same a xs) ≡ true → (has same a xs ≡ true → In a xs) → In a (x ∷ xs)
      go true e h ih = Memᴰ.head (same_equal a x e)
      go false e h ih = Memᴰ.tail (ih h)

  has-out : {a : A} {xs : List A} → In a xs → has same a xs ≡ true
  unfolding has
  has-out {a} (Memᴰ.head {x = x} {xs = xs} e) = ap (λ b. b || has same a xs) (subst (λ y. same a y ≡ true) e (equal_same a))
  has-out {a} (Memᴰ.tail {x = x} {xs = xs} m) = ap (λ b. same a x || b) (has-out m) ∙ or-true (same a x)

  pub distinct-in : (xs : List A) {a : A} → In a (distinct same xs) → In a xs
  unfolding distinct
  distinct-in [] m = m
  distinct-in (x ∷ xs) {a} m = go (only-in (not (has same x (distinct same xs))) m) (λ r. distinct-in xs r)
    where
      go : ((not (has same x (distinct same xs)) ≡ true) × (a ≡ x)) ⊎ In a (distinct same xs) → (In a (distinct same xs) → In a xs) → In a (x ∷ xs)
      go (inl e) ih = Memᴰ.head e.1
      go (inr r) ih = Memᴰ.tail (ih r)

  pub distinct-out : {a : A} {xs : List A} → In a xs → In a (distinct same xs)
  unfolding distinct has
  distinct-out {a} (Memᴰ.head {x = x} {xs = xs} e) = go (has same x (distinct same xs)) refl
    where
      go : (b : Bool) → has same x (distinct same xs) ≡ b → In a (only (not b) x (distinct same xs))
      go true h = subst (λ y. In y (distinct same xs)) (sym e) (has_in x (distinct same xs) h)
      go false h = Memᴰ.head e
  distinct-out {a} (Memᴰ.tail {x = x} {xs = xs} m) = only-rest (not (has same x (distinct same xs))) x (distinct-out m)

  pub distinct-once : (xs : List A) → Distinct (distinct same xs)
  unfolding distinct
  distinct-once [] = tt
  distinct-once (x ∷ xs) = go (has same x (distinct same xs)) refl (distinct-once xs)
    where
      go : (b : Bool) → has same x (distinct same xs) ≡ b → Distinct (distinct same xs) → Distinct (only (not b) x (distinct same xs))
      go true h ih = ih
      go false h ih = (λ m. true≢false (sym (has-out m) ∙ h), ih)
