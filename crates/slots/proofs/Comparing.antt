-- Comparing words: lists element by element, trails by a key of their words, and configurations part by part.
use Prim.Native.Nat.compare
use Prim.Native.Nat.{ℕ, zero, suc, ◌+◌, ◌<◌, compare, Ordering}
use mathlib.Core.Path.{◌≡◌, refl, ap, sym, ◌∙◌}
use mathlib.Core.Bool.{Bool, true, false, ◌&&◌, cond, true≢false, false≢true}
use mathlib.Core.List.{List, [], ◌∷◌, map}
use mathlib.Core.Logic.{◌⊎◌, inl, inr}
use native.Mathlib.Omega.{arith}
use lib.ListN.{length}
use lib.Dec.{eqb, ltb}
use lib.Pointwise.{pointwise}
use Rattle.std.specs.Ordering.{nat_cmp, is_ne, is_gt}
use Rattle.std.specs.declared.cmp.Ordering.{Ordering as Answer}
use Rattle.std.specs.declared.cmp.Ordering.TheVariants.{Less, Equal, Greater}
use Rattle.base.specs.Lists.{same_list}
use Rattle.runs.specs.inner.Order.{then, lex}
use Rattle.runs.proofs.Comparison.{compare_self, less-compare}
use Rattle.slots.specs.inner.Threads.{comes_after, side_of}
use borrow.Author.Tests.{ltb-true, ltb-false, eqb-true, eqb-false}

-- lists compared element by element, as `==` compares them
same-pointwise : {A : Type 0} (test : A → A → Bool) (xs ys : List A) → pointwise test xs ys ≡ same_list test xs ys
same-pointwise test [] [] = refl
same-pointwise test [] (y ∷ ys) = refl
same-pointwise test (x ∷ xs) [] = refl
same-pointwise test (x ∷ xs) (y ∷ ys) = ap (λ b. test x y && b) (same-pointwise test xs ys)

pub part-same : {A : Type 0} (test : A → A → Bool) (xs ys zs : List A) (r : Bool) → r ≡ pointwise test xs zs → xs ≡ ys → r ≡ same_list test ys zs
part-same test xs ys zs r e h = e ∙ same-pointwise test xs zs ∙ ap (λ l. same_list test l zs) h

compare-gt : (x y : ℕ) → y < x → compare x y ≡ Ordering.gt
compare-gt zero zero h = absurd (omega arith)
compare-gt zero (suc y) h = absurd (omega arith)
compare-gt (suc x) zero h = compare.suc-zero x
compare-gt (suc x) (suc y) h = compare.suc-suc x y ∙ compare-gt x y (omega arith)

-- numbers compared: as the code does it
nat_cmp-is : (x y : ℕ) → nat_cmp x y ≡ side_of (compare x y)
nat_cmp-is x y = by (ltb x y) refl (eqb x y) refl
  where
    by : (b : Bool) → ltb x y ≡ b → (d : Bool) → eqb x y ≡ d → cond b Less (cond d Equal Greater) ≡ side_of (compare x y)
    by true e d f = rw (less-compare x y (ltb-true x y e))
    by false e true f =
        let p : x ≡ y = eqb-true x y f in
        rw (p, compare_self y)
    by false e false f = rw (compare-gt x y (omega (arith, ltb-false x y e, eqb-false x y f)))

-- the keys of two trails compared, where xs and ys are left to compare
module _ (k : ℕ → ℕ) (xs ys : List ℕ) (o : Ordering) (left : o ≡ lex (map k xs) (map k ys)) where
  module _ (xr yr : List ℕ) (x y u v : ℕ) (r : Answer) (a : xs ≡ x ∷ xr) (b : ys ≡ y ∷ yr) (p : u ≡ k x) (q : v ≡ k y) (c : r ≡ nat_cmp u v) where
    is : r ≡ side_of (compare (k x) (k y))
    is = rw (c, p, q) (nat_cmp-is (k x) (k y))

    -- the keys of the first words differ: they decide
    pub keys-differ : is_ne r ≡ true → r ≡ side_of o
    unfolding lex
    keys-differ h = rw (left, a, b) (by (compare (k x) (k y)) is)
      where
        by : (t : Ordering) → r ≡ side_of t → r ≡ side_of (then t (lex (map k xr) (map k yr)))
        by Ordering.lt e = e
        by Ordering.eq e = absurd (false≢true (ap is_ne (sym e) ∙ h))
        by Ordering.gt e = e

    -- they are the same: the rest decides
    pub keys-same : is_ne r ≡ false → o ≡ lex (map k xr) (map k yr)
    unfolding lex
    keys-same h = rw (left, a, b) (by (compare (k x) (k y)) is)
      where
        by : (t : Ordering) → r ≡ side_of t → then t (lex (map k xr) (map k yr)) ≡ lex (map k xr) (map k yr)
        by Ordering.lt e = absurd (true≢false (ap is_ne (sym e) ∙ h))
        by Ordering.eq e = refl
        by Ordering.gt e = absurd (true≢false (ap is_ne (sym e) ∙ h))

  -- one list is at its end: the longer one comes after
  pub keys-end : (m n : ℕ) → m + length ys ≡ n + length xs → (length xs ≡ 0) ⊎ (length ys ≡ 0) → nat_cmp m n ≡ side_of o
  unfolding lex
  keys-end m n e h = rw left (by xs ys e h)
    where
      by : (xs ys : List ℕ) → m + length ys ≡ n + length xs → (length xs ≡ 0) ⊎ (length ys ≡ 0) → nat_cmp m n ≡ side_of (lex (map k xs) (map k ys))
      by [] [] e h =
          let p : m ≡ n = omega arith in
          rw p (nat_cmp-is n n ∙ ap side_of (compare_self n))
      by [] (y ∷ ys) e h = nat_cmp-is m n ∙ ap side_of (less-compare m n (omega arith))
      by (x ∷ xs) [] e h = nat_cmp-is m n ∙ ap side_of (compare-gt m n (omega arith))
      by (x ∷ xs) (y ∷ ys) e h = elim h [ inl p ↦ absurd (omega arith) | inr p ↦ absurd (omega arith) ]

-- first by one key, then by another
pub first-then : (o p : Ordering) (r s : Answer) → r ≡ side_of o → (r ≡ Less → s ≡ Less) → (r ≡ Equal → s ≡ side_of p)
    → (r ≡ Greater → s ≡ Greater) → is_gt s ≡ comes_after (then o p)
first-then Ordering.lt p r s e l m g = ap is_gt (l e)
first-then Ordering.eq p r s e l m g = ap is_gt (m e) ∙ gt-is p
  where
    gt-is : (o : Ordering) → is_gt (side_of o) ≡ comes_after o
    gt-is Ordering.lt = refl
    gt-is Ordering.eq = refl
    gt-is Ordering.gt = refl
first-then Ordering.gt p r s e l m g = ap is_gt (g e)

-- a second test is made where the first holds
pub and-next : (r p q : Bool) → p ≡ true → r ≡ q → r ≡ (p && q)
and-next r p q h e = rw h e

pub and-stop : (r p q : Bool) → p ≡ false → r ≡ false → r ≡ (p && q)
and-stop r p q h e = rw h e

-- five tests in the order of the code, and in that of the configuration's fields
pub in_order : (state held values counters tallies : Bool)
    → ((((state && counters) && values) && held) && tallies) ≡ (state && held && values && counters && tallies)
in_order false h v k t = refl
in_order true true true true t = refl
in_order true true true false t = refl
in_order true true false true t = refl
in_order true true false false t = refl
in_order true false true true t = refl
in_order true false true false t = refl
in_order true false false true t = refl
in_order true false false false t = refl
