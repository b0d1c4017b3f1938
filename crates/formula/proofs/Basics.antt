-- Small laws on bytes, tests and expressions that the laws of reading cite.
use Prim.Native.Nat.{ℕ, zero, suc, ◌-◌}
use mathlib.Core.Path.{◌≡◌, sym, subst}
use mathlib.Core.Bool.{true, cond}
use mathlib.Core.List.{List, [], ◌∷◌, ◌++◌}
use native.Mathlib.Omega.{arith}
use borrow.Author.Tests.{eqb-true, ltb-true, leb-true, lt-ltb, le-leb}
use lib.Dec.{eqb, ltb, leb}
use lib.ListN.{length, drop}
use lib.Seq.{drop_at}
use Rattle.base.proofs.Tests.{cond-holds, and_left, and_right}
use Rattle.base.specs.Lists.{All, Bytes}
use Rattle.formula.specs.Formula.{Leaf, Expr, LEAF, ADD, SUB, LESS, ATMOST, EQUAL, NOT, AND, OR, IF}
use Rattle.formula.specs.Encode.{list_byte}
use Rattle.formula.specs.Correct.{Leaves, ListVariable}
use Rattle.formula.specs.Read.{is_list}

-- a choice by a byte: the branch's property at that byte, or that of the other choices
pub byte-case : {A : Type 0} (P : ℕ → A → Type 0) (b k : ℕ) (x y : A) → P k x → P b y → P b (cond (eqb b k) x y)
byte-case P b k x y p q = cond-holds (P b) (eqb b k) x y (λ e. subst (λ j. P j x) (sym (eqb-true b k e)) p) (λ e. q)

-- bytes behind a byte list's front are bytes
pub bytes_drop : (n : ℕ) (l : List ℕ) → Bytes l → Bytes (drop n l)
bytes_drop zero l h = h
bytes_drop (suc n) [] h = h
bytes_drop (suc n) (x ∷ xs) h = bytes_drop n xs h.1

-- what stands behind the front of a list
pub behind : (l x t : List ℕ) (u : ℕ) → l ≡ x ++ t → u ≡ length x → drop u l ≡ t
behind l x t u e h = rw e (drop_at x t u (sym h))

-- a byte that names a list is its number's, and a list's byte names it
pub list_back : (b : ℕ) → is_list b ≡ true → (b ≡ list_byte (b - 8)) × ListVariable (b - 8)
list_back b h =
    let p = leb-true 8 b (and_left (leb 8 b) (ltb b 12) h) in
    let q = ltb-true b 12 (and_right (leb 8 b) (ltb b 12) h) in
    (omega arith, omega arith)

pub list-number : (v : ℕ) → list_byte v - 8 ≡ v
list-number v = omega arith

pub list-named : (v : ℕ) → ListVariable v → is_list (list_byte v) ≡ true
list-named v h = rw (le-leb 8 (list_byte v) (omega arith), lt-ltb (list_byte v) 12 (omega arith))

-- a property of each leaf, from leaf to leaf
pub leaves_map : (P Q : Leaf → Type 0) → ((l : Leaf) → P l → Q l) → (e : Expr) → Leaves P e → Leaves Q e
leaves_map P Q f (LEAF l) x = f l x
leaves_map P Q f (ADD a b) x = (leaves_map P Q f a x.0, leaves_map P Q f b x.1)
leaves_map P Q f (SUB a b) x = (leaves_map P Q f a x.0, leaves_map P Q f b x.1)
leaves_map P Q f (LESS a b) x = (leaves_map P Q f a x.0, leaves_map P Q f b x.1)
leaves_map P Q f (ATMOST a b) x = (leaves_map P Q f a x.0, leaves_map P Q f b x.1)
leaves_map P Q f (EQUAL a b) x = (leaves_map P Q f a x.0, leaves_map P Q f b x.1)
leaves_map P Q f (NOT a) x = leaves_map P Q f a x
leaves_map P Q f (AND a b) x = (leaves_map P Q f a x.0, leaves_map P Q f b x.1)
leaves_map P Q f (OR a b) x = (leaves_map P Q f a x.0, leaves_map P Q f b x.1)
leaves_map P Q f (IF c a b) x = (leaves_map P Q f c x.0, leaves_map P Q f a x.1, leaves_map P Q f b x.2)

-- a property of all elements of a list in two parts
pub all_left {ℓ} : {A : Type ℓ} (P : A → Type 0) (xs ys : List A) → All P (xs ++ ys) → All P xs
all_left P [] ys p = tt
all_left P (x ∷ xs) ys p = (p.0, all_left P xs ys p.1)

pub all_right {ℓ} : {A : Type ℓ} (P : A → Type 0) (xs ys : List A) → All P (xs ++ ys) → All P ys
all_right P [] ys p = p
all_right P (x ∷ xs) ys p = all_right P xs ys p.1
