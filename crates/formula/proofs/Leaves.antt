-- The first leaf of an expression that a test finds: it is the first that the test holds of, and stands among the expression's bytes.
use Prim.Native.Nat.{ℕ, suc, ◌+◌, ◌<◌, ◌≤◌}
use mathlib.Core.Path.{◌≡◌, refl}
use mathlib.Core.Logic.{◌⊎◌, inl, inr, ⊎_elim}
use mathlib.Core.Bool.{Bool, true, false, true≢false}
use mathlib.Core.List.{◌++◌}
use mathlib.Core.Option.{Option, none, some}
use native.Mathlib.Omega.{arith}
use lib.ListN.{length, length-append}
use Rattle.formula.specs.Formula.{Leaf, CONST, VAR, COUNT, SUM, LENGTH, DIFFERENT, Expr, LEAF, ADD, SUB, LESS, ATMOST, EQUAL, NOT, AND, OR, IF}
use Rattle.formula.specs.Encode.{encode_leaf, encode_expr}
use Rattle.formula.specs.Absent.{LeafAt}
use Rattle.formula.specs.Read.{or_else, when, first_leaf}

-- the place found is the first that has the property; where none is found, none has it
abbrev pub First : (ℕ → Type 0) → Option ℕ → Type 0
First Q none = (q : ℕ) → Q q → ⊥
First Q (some p) = Q p × ((q : ℕ) → Q q → p ≤ q)

-- of two properties, of which the one is had only before the other
pub else-first : (Q R : ℕ → Type 0) (x y : Option ℕ) → First Q x → First R y → ((q r : ℕ) → Q q → R r → q ≤ r) → First (λ k. Q k ⊎ R k) (or_else x y)
else-first Q R none none f g h = λ q. ⊎_elim (f q) (g q)
else-first Q R none (some p) f g h = (inr g.0, λ q. ⊎_elim (λ a. absurd (f q a)) (g.1 q))
else-first Q R (some p) y f g h = (inl f.0, λ q. ⊎_elim (f.1 q) (λ b. h p q f.0 b))

-- the place where the test holds, which is where the property fails
pub when-first : (b : Bool) (at : ℕ) (D : Type 0) → (b ≡ false → D) → (D → b ≡ false) → First (λ q. (q ≡ at) × (¬ D)) (when b at)
when-first true at D f g = ((refl, λ d. true≢false (g d)), λ q h. let e = h.0 in omega arith)
when-first false at D f g = λ q h. h.1 (f refl)

-- a place among the n bytes from `at` on
abbrev pub Inside : ℕ → ℕ → ℕ → Type 0
Inside at n q = (at ≤ q) × (q < at + n)

leaf-long : (l : Leaf) → 0 < length (encode_leaf l)
leaf-long (CONST x) = omega arith
leaf-long (VAR v) = omega arith
leaf-long (COUNT t) = omega arith
leaf-long (SUM v) = omega arith
leaf-long (LENGTH v) = omega arith
leaf-long (DIFFERENT v) = omega arith

-- a leaf stands among the bytes of its expression
module _ (P : Leaf → Type 0) (q : ℕ) where
  abbrev Stands : ℕ → Expr → Type 0
  Stands at e = LeafAt P at e q → Inside at (length (encode_expr e)) q

  two-inside : (at : ℕ) (a b : Expr) → Stands (at + 1) a → Stands (at + 1 + length (encode_expr a)) b
      → LeafAt P (at + 1) a q ⊎ LeafAt P (at + 1 + length (encode_expr a)) b q → Inside at (suc (length (encode_expr a ++ encode_expr b))) q
  two-inside at a b f g (inl h) = let k = f h in (omega (arith, k.0), omega (arith, k.1, length-append (encode_expr a) (encode_expr b)))
  two-inside at a b f g (inr h) = let k = g h in (omega (arith, k.0), omega (arith, k.1, length-append (encode_expr a) (encode_expr b)))

  pub leaf-inside : (at : ℕ) (e : Expr) → Stands at e
  unfolding encode_expr
  leaf-inside at (LEAF l) h = (omega (arith, h.0), omega (arith, h.0, leaf-long l))
  leaf-inside at (ADD a b) h = two-inside at a b (leaf-inside (at + 1) a) (leaf-inside (at + 1 + length (encode_expr a)) b) h
  leaf-inside at (SUB a b) h = two-inside at a b (leaf-inside (at + 1) a) (leaf-inside (at + 1 + length (encode_expr a)) b) h
  leaf-inside at (LESS a b) h = two-inside at a b (leaf-inside (at + 1) a) (leaf-inside (at + 1 + length (encode_expr a)) b) h
  leaf-inside at (ATMOST a b) h = two-inside at a b (leaf-inside (at + 1) a) (leaf-inside (at + 1 + length (encode_expr a)) b) h
  leaf-inside at (EQUAL a b) h = two-inside at a b (leaf-inside (at + 1) a) (leaf-inside (at + 1 + length (encode_expr a)) b) h
  leaf-inside at (NOT a) h = let k = leaf-inside (at + 1) a h in (omega (arith, k.0), omega (arith, k.1))
  leaf-inside at (AND a b) h = two-inside at a b (leaf-inside (at + 1) a) (leaf-inside (at + 1 + length (encode_expr a)) b) h
  leaf-inside at (OR a b) h = two-inside at a b (leaf-inside (at + 1) a) (leaf-inside (at + 1 + length (encode_expr a)) b) h
  leaf-inside at (IF c a b) h =
      let n = length-append (encode_expr c) (encode_expr a ++ encode_expr b) in
      let m = length-append (encode_expr a) (encode_expr b) in
      let i = at + 1 + length (encode_expr c) in
      ⊎_elim (λ x. let k = leaf-inside (at + 1) c x in (omega (arith, k.0), omega (arith, k.1, n)))
      (⊎_elim (λ x. let k = leaf-inside i a x in (omega (arith, k.0), omega (arith, k.1, n, m)))
      (λ x. let k = leaf-inside (i + length (encode_expr a)) b x in (omega (arith, k.0), omega (arith, k.1, n, m))))
      h

-- the first leaf that the test finds is the first that lacks the property, where the test fails exactly on what has it
module _ (test : Leaf → Bool) (D : Leaf → Type 0) (in-d : (l : Leaf) → test l ≡ false → D l) (out-d : (l : Leaf) → D l → test l ≡ false) where
  abbrev Lacks : Leaf → Type 0
  Lacks l = ¬ D l

  abbrev LeafFirst : ℕ → Expr → Type 0
  LeafFirst at e = First (LeafAt Lacks at e) (first_leaf test at e)

  two-first : (at : ℕ) (a b : Expr) → LeafFirst (at + 1) a → LeafFirst (at + 1 + length (encode_expr a)) b
      → First (λ q. LeafAt Lacks (at + 1) a q ⊎ LeafAt Lacks (at + 1 + length (encode_expr a)) b q)
      (or_else (first_leaf test (at + 1) a) (first_leaf test (at + 1 + length (encode_expr a)) b))
  two-first at a b f g =
      else-first (LeafAt Lacks (at + 1) a) (LeafAt Lacks (at + 1 + length (encode_expr a)) b) (first_leaf test (at + 1) a) _ f g
      (λ q r h k. omega (arith, (leaf-inside Lacks q (at + 1) a h).1, (leaf-inside Lacks r (at + 1 + length (encode_expr a)) b k).0))

  pub leaf_first : (at : ℕ) (e : Expr) → LeafFirst at e
  unfolding first_leaf
  leaf_first at (LEAF l) = when-first (test l) at (D l) (in-d l) (out-d l)
  leaf_first at (ADD a b) = two-first at a b (leaf_first (at + 1) a) (leaf_first (at + 1 + length (encode_expr a)) b)
  leaf_first at (SUB a b) = two-first at a b (leaf_first (at + 1) a) (leaf_first (at + 1 + length (encode_expr a)) b)
  leaf_first at (LESS a b) = two-first at a b (leaf_first (at + 1) a) (leaf_first (at + 1 + length (encode_expr a)) b)
  leaf_first at (ATMOST a b) = two-first at a b (leaf_first (at + 1) a) (leaf_first (at + 1 + length (encode_expr a)) b)
  leaf_first at (EQUAL a b) = two-first at a b (leaf_first (at + 1) a) (leaf_first (at + 1 + length (encode_expr a)) b)
  leaf_first at (NOT a) = leaf_first (at + 1) a
  leaf_first at (AND a b) = two-first at a b (leaf_first (at + 1) a) (leaf_first (at + 1 + length (encode_expr a)) b)
  leaf_first at (OR a b) = two-first at a b (leaf_first (at + 1) a) (leaf_first (at + 1 + length (encode_expr a)) b)
  leaf_first at (IF c a b) =
      let i = at + 1 + length (encode_expr c) in
      let j = i + length (encode_expr a) in
      else-first (LeafAt Lacks (at + 1) c) (λ q. LeafAt Lacks i a q ⊎ LeafAt Lacks j b q) (first_leaf test (at + 1) c)
      (or_else (first_leaf test i a) (first_leaf test j b)) (leaf_first (at + 1) c)
      (else-first (LeafAt Lacks i a) (LeafAt Lacks j b) (first_leaf test i a) (first_leaf test j b) (leaf_first i a) (leaf_first j b)
      (λ q r h k. omega (arith, (leaf-inside Lacks q i a h).1, (leaf-inside Lacks r j b k).0)))
      (λ q r h.
      let m = (leaf-inside Lacks q (at + 1) c h).1 in
      ⊎_elim (λ k. omega (arith, m, (leaf-inside Lacks r i a k).0)) (λ k. omega (arith, m, (leaf-inside Lacks r j b k).0)))
