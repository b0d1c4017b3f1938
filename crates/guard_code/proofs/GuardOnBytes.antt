-- Evaluating a guard over its bytes: what each test of the code shows, and that on an expression's bytes it is the expression's value.
use Prim.Native.Nat.{ℕ, zero, suc, ◌+◌, ◌-◌, ◌<◌, ◌≤◌}
use mathlib.Core.Path.{◌≡◌, refl, ap, sym, ◌∙◌}
use mathlib.Core.List.{List, [], ◌∷◌, ◌++◌, append_assoc}
use native.Mathlib.Omega.{arith}
use borrow.Author.Tests.{le-leb, ne_eqb}
use lib.ListN.{length, get_or, take, drop, get_or-append, get_or-eq_default, length-append}
use lib.Seq.{drop-append_seam, get_or-append-add}
use Rattle.base.specs.Lists.{pad}
use Rattle.base.specs.Value.{bytes_of, value_at}
use Rattle.base.proofs.Lists.{length-pad, get_d-pad}
use Rattle.base.proofs.Values.{value-of-bytes}
use Rattle.formula.specs.Formula.{Leaf, CONST, VAR, COUNT, SUM, LENGTH, DIFFERENT, Expr, LEAF, ADD, SUB, LESS, ATMOST, EQUAL, NOT, AND, OR, IF}
use Rattle.formula.specs.Encode.{encode_leaf, encode_expr}
use Rattle.formula.specs.Correct.{depth, Leaves, Value, LeafExists}
use Rattle.machine.specs.Configuration.{Config}
use Rattle.machine.specs.Guard.{leaf, value}
use Rattle.machine.specs.inner.Along.{tallies}
use Rattle.guard_code.specs.inner.Bytes.{operands_of, applied, leaf_in, leaf_value, leaf_width, leaf_used, leaf_whole, Evaluated}
use Rattle.guard_code.specs.inner.Bytes.{evaluated_second, evaluated_first, leaf_or, compound, evaluated}
use Rattle.guard_code.proofs.Tallies.{sum-at, length_at, different-at}

-- a part from k on, as it is lent
abbrev pub rest : List ℕ → ℕ → List ℕ
rest l k = take (length l - k) (drop k l)

-- there is a byte where one is not 0
pub byte_inside : (f : List ℕ) (at c : ℕ) → c ≡ get_or f at 0 → 0 < c → at < length f
byte_inside f at c e h = grind (arith, get_or-eq_default {A = ℕ})

-- a command that has operands is a byte
pub operands_inside : (f : List ℕ) (at : ℕ) → (operands_of (get_or f at 0) ≡ 0 → ⊥) → at < length f
unfolding operands_of
operands_inside f at h = grind (arith, get_or-eq_default {A = ℕ})

-- the bytes behind a command's first operand, and behind its second
pub behind-one : (c : ℕ) (xs ys : List ℕ) → drop (1 + length xs) (c ∷ (xs ++ ys)) ≡ ys
behind-one c xs ys = let e : 1 + length xs ≡ suc (length xs) = omega arith in rw e (drop-append_seam xs ys)

pub behind-two : (c : ℕ) (xs ys zs : List ℕ) → drop (1 + length xs + length ys) (c ∷ (xs ++ (ys ++ zs))) ≡ zs
behind-two c xs ys zs =
    let e : 1 + length xs + length ys ≡ 1 + length (xs ++ ys) = omega (arith, length-append xs ys) in
    rw (e, ← append_assoc xs ys zs) (behind-one c (xs ++ ys) zs)

-- a reader that reads the operands' bytes reads the command's
module _ (read : List ℕ → Evaluated) where
  abbrev Gives : List ℕ → ℕ → ℕ → Type 0
  Gives l v n = read l ≡ record { value = v; used = n }

  one-read : (c x : ℕ) (a rest : List ℕ) → operands_of c ≡ 1 → Gives (a ++ rest) x (length a)
      → evaluated_first read (c ∷ (a ++ rest)) (read (a ++ rest)) ≡ record { value = applied c x 0 0; used = length (c ∷ a) }
  unfolding evaluated_first
  one-read c x a rest o e = let n : 1 + length a ≡ suc (length a) = omega arith in rw (o, e, n)

  two-read : (c x y : ℕ) (a b rest : List ℕ) → operands_of c ≡ 2 → Gives (a ++ (b ++ rest)) x (length a) → Gives (b ++ rest) y (length b)
      → evaluated_first read (c ∷ ((a ++ b) ++ rest)) (read ((a ++ b) ++ rest)) ≡ record { value = applied c x y 0; used = length (c ∷ (a ++ b)) }
  unfolding evaluated_first evaluated_second
  two-read c x y a b rest o e f =
      let n : 1 + length a + length b ≡ suc (length (a ++ b)) = omega (arith, length-append a b) in
      rw (append_assoc a b rest, o, e, behind-one c a (b ++ rest), f, n)

  three-read : (c x y z : ℕ) (a b d rest : List ℕ) → operands_of c ≡ 3 → Gives (a ++ (b ++ (d ++ rest))) x (length a)
      → Gives (b ++ (d ++ rest)) y (length b) → Gives (d ++ rest) z (length d)
      → evaluated_first read (c ∷ ((a ++ (b ++ d)) ++ rest)) (read ((a ++ (b ++ d)) ++ rest))
      ≡ record { value = applied c x y z; used = length (c ∷ (a ++ (b ++ d))) }
  unfolding evaluated_first evaluated_second
  three-read c x y z a b d rest o e f g =
      let n : 1 + length a + length b + length d ≡ suc (length (a ++ (b ++ d))) = omega (arith, length-append a (b ++ d), length-append b d) in
      rw (append_assoc a (b ++ d) rest, append_assoc b d rest, o, e, behind-one c a (b ++ (d ++ rest)), f, behind-two c a b (d ++ rest), g, n)

const-value : (x : ℕ) (l : List ℕ) → Value x → value_at (0x20 ∷ (bytes_of x ++ l)) 1 ≡ x
const-value x l h = value-of-bytes (0x20 ∷ []) x l h

length-bytes : (x : ℕ) → length (bytes_of x) ≡ 4
unfolding bytes_of
length-bytes x = refl

-- a leaf has no operands
pub leaf-alone : (l : Leaf) (rest : List ℕ) → operands_of (get_or (encode_leaf l ++ rest) 0 0) ≡ 0
unfolding operands_of
leaf-alone (CONST x) rest = refl
leaf-alone (VAR v) rest = refl
leaf-alone (COUNT s) rest = refl
leaf-alone (SUM v) rest = refl
leaf-alone (LENGTH v) rest = refl
leaf-alone (DIFFERENT v) rest = refl

-- and takes its own bytes
pub leaf-used : (l : Leaf) (rest : List ℕ) → leaf_used (encode_leaf l ++ rest) ≡ length (encode_leaf l)
leaf-used (CONST x) rest = omega (arith, length-append (bytes_of x) rest, length-bytes x)
leaf-used (VAR v) rest = omega arith
leaf-used (COUNT s) rest = omega arith
leaf-used (SUM v) rest = omega arith
leaf-used (LENGTH v) rest = omega arith
leaf-used (DIFFERENT v) rest = omega arith

-- which are all there
pub whole : (part : List ℕ) → leaf_width (get_or part 0 0) ≤ length part → leaf_whole part ≡ leaf_width (get_or part 0 0)
unfolding leaf_whole
whole part h = rw (le-leb _ _ h)

leaf-whole : (l : Leaf) (rest : List ℕ) → leaf_whole (encode_leaf l ++ rest) ≡ length (encode_leaf l)
leaf-whole (CONST x) rest = whole (encode_leaf (CONST x) ++ rest) (omega (arith, length-append (bytes_of x) rest, length-bytes x)) ∙ ap suc (sym (length-bytes x))
leaf-whole (VAR v) rest = whole (encode_leaf (VAR v) ++ rest) (omega arith)
leaf-whole (COUNT s) rest = whole (encode_leaf (COUNT s) ++ rest) (omega arith)
leaf-whole (SUM v) rest = whole (encode_leaf (SUM v) ++ rest) (omega arith)
leaf-whole (LENGTH v) rest = whole (encode_leaf (LENGTH v) ++ rest) (omega arith)
leaf-whole (DIFFERENT v) rest = whole (encode_leaf (DIFFERENT v) ++ rest) (omega arith)

leaf-some : (l : Leaf) → length (encode_leaf l) ≡ 0 → ⊥
leaf-some (CONST x) h = omega arith
leaf-some (VAR v) h = omega arith
leaf-some (COUNT s) h = omega arith
leaf-some (SUM v) h = omega arith
leaf-some (LENGTH v) h = omega arith
leaf-some (DIFFERENT v) h = omega arith

-- what stands where among the leaves' values
module _ (values counters tallies : List ℕ) where
  abbrev laid : List ℕ
  laid = pad 8 0 values ++ (pad 12 0 tallies ++ counters)

  variable-at : (v : ℕ) → v < 8 → get_or laid v 0 ≡ get_or values v 0
  variable-at v h =
      get_or-append (pad 8 0 values) (pad 12 0 tallies ++ counters) 0 v (omega (arith, length-pad 8 0 values)) ∙ get_d-pad 8 0 values v h

  behind-variables : (i : ℕ) → get_or laid (8 + i) 0 ≡ get_or (pad 12 0 tallies ++ counters) i 0
  behind-variables i =
      let e : 8 + i ≡ length (pad 8 0 values) + i = omega (arith, length-pad 8 0 values) in
      rw e (get_or-append-add (pad 8 0 values) (pad 12 0 tallies ++ counters) i 0)

  tally-at : (i : ℕ) → i < 12 → get_or laid (8 + i) 0 ≡ get_or tallies i 0
  tally-at i h =
      behind-variables i ∙ get_or-append (pad 12 0 tallies) counters 0 i (omega (arith, length-pad 12 0 tallies)) ∙ get_d-pad 12 0 tallies i h

  counter_at : (i : ℕ) → get_or laid (20 + i) 0 ≡ get_or counters i 0
  counter_at i =
      let e : 20 + i ≡ 8 + (12 + i) = omega arith in
      let g : 12 + i ≡ length (pad 12 0 tallies) + i = omega (arith, length-pad 12 0 tallies) in
      rw e (behind-variables (12 + i) ∙ rw g (get_or-append-add (pad 12 0 tallies) counters i 0))

-- its value over its bytes
leaf-encode : (c : Config) → length c.lists ≡ 4 → (l : Leaf) (rest : List ℕ) → LeafExists l
    → leaf_value c.values c.counters (tallies c.lists) (encode_leaf l ++ rest) ≡ leaf c l
unfolding leaf_value leaf_in
leaf-encode c k (CONST x) rest h = const-value x rest h
leaf-encode c k (VAR v) rest h = let e : 0 + v ≡ v = omega arith in rw e (variable-at c.values c.counters (tallies c.lists) v h)
leaf-encode c k (COUNT s) rest h = counter_at c.values c.counters (tallies c.lists) s
leaf-encode c k (SUM v) rest h =
    let e : 0 + (8 + v) ≡ 8 + v = omega arith in
    rw e (tally-at c.values c.counters (tallies c.lists) v (omega arith) ∙ sum-at c.lists k v h)
leaf-encode c k (LENGTH v) rest h =
    let e : 4 + (8 + v) ≡ 8 + (4 + v) = omega arith in
    rw e (tally-at c.values c.counters (tallies c.lists) (4 + v) (omega arith) ∙ length_at c.lists k v h)
leaf-encode c k (DIFFERENT v) rest h =
    tally-at c.values c.counters (tallies c.lists) (8 + v) (omega arith) ∙ different-at c.lists k v

-- every expression has a command
pub no-depth : (e : Expr) → depth e ≤ 0 → ⊥
unfolding depth
no-depth (LEAF l) h = omega arith
no-depth (ADD a b) h = omega arith
no-depth (SUB a b) h = omega arith
no-depth (LESS a b) h = omega arith
no-depth (ATMOST a b) h = omega arith
no-depth (EQUAL a b) h = omega arith
no-depth (NOT a) h = omega arith
no-depth (AND a b) h = omega arith
no-depth (OR a b) h = omega arith
no-depth (IF a b d) h = omega arith

-- On an expression's bytes, whatever follows them, the code's value is the expression's, and it takes exactly those bytes.
module _ (c : Config) (four : length c.lists ≡ 4) where
  abbrev leaf_at : List ℕ → ℕ
  leaf_at = leaf_value c.values c.counters (tallies c.lists)

  abbrev Evaluates : ℕ → List ℕ → ℕ → Type 0
  Evaluates n bytes v = (l : List ℕ) → evaluated n leaf_at (bytes ++ l) ≡ record { value = v; used = length bytes }

  none-whole : (o : ℕ) (l : List ℕ) → leaf_width o ≡ 0 → leaf_whole (o ∷ l) ≡ 0
  none-whole o l h = whole (o ∷ l) (omega arith) ∙ h

  one : (o : ℕ) (a : Expr) (n : ℕ) → leaf_width o ≡ 0 → operands_of o ≡ 1 → Evaluates n (encode_expr a) (value c a)
      → Evaluates (suc n) (o ∷ encode_expr a) (applied o (value c a) 0 0)
  unfolding evaluated leaf_or compound
  one o a n w h p l = rw (none-whole o (encode_expr a ++ l) w, h) (one-read (evaluated n leaf_at) o (value c a) (encode_expr a) l h (p l))

  two : (o : ℕ) (a b : Expr) (n : ℕ) → leaf_width o ≡ 0 → operands_of o ≡ 2 → Evaluates n (encode_expr a) (value c a) → Evaluates n (encode_expr b) (value c b)
      → Evaluates (suc n) (o ∷ (encode_expr a ++ encode_expr b)) (applied o (value c a) (value c b) 0)
  unfolding evaluated leaf_or compound
  two o a b n w h p q l =
      rw (none-whole o ((encode_expr a ++ encode_expr b) ++ l) w, h)
      (two-read (evaluated n leaf_at) o (value c a) (value c b) (encode_expr a) (encode_expr b) l h (p (encode_expr b ++ l)) (q l))

  three : (o : ℕ) (a b d : Expr) (n : ℕ) → leaf_width o ≡ 0 → operands_of o ≡ 3 → Evaluates n (encode_expr a) (value c a)
      → Evaluates n (encode_expr b) (value c b) → Evaluates n (encode_expr d) (value c d)
      → Evaluates (suc n) (o ∷ (encode_expr a ++ (encode_expr b ++ encode_expr d))) (applied o (value c a) (value c b) (value c d))
  unfolding evaluated leaf_or compound
  three o a b d n w h p q r l =
      rw (none-whole o ((encode_expr a ++ (encode_expr b ++ encode_expr d)) ++ l) w, h)
      (three-read (evaluated n leaf_at) o (value c a) (value c b) (value c d) (encode_expr a) (encode_expr b) (encode_expr d) l h
      (p (encode_expr b ++ (encode_expr d ++ l))) (q (encode_expr d ++ l)) (r l))

  alone : (x : Leaf) (n : ℕ) → LeafExists x → Evaluates n (encode_leaf x) (leaf c x)
  unfolding evaluated leaf_or
  alone x n h l =
      let e = leaf-whole x l in
      rw (ne_eqb _ 0 (λ z. leaf-some x (sym e ∙ z)), e, leaf-encode c four x l h)

  pub evaluate-encode : (e : Expr) (n : ℕ) → Leaves LeafExists e → depth e ≤ n → (l : List ℕ)
      → evaluated n (leaf_value c.values c.counters (tallies c.lists)) (encode_expr e ++ l) ≡ record { value = value c e; used = length (encode_expr e) }
  unfolding encode_expr depth value operands_of applied
  evaluate-encode e zero h k l = absurd (no-depth e k)
  evaluate-encode (LEAF x) (suc n) h k l = alone x (suc n) h l
  evaluate-encode (ADD a b) (suc n) h k l = two 0x23 a b n refl refl (evaluate-encode a n h.0 (omega arith)) (evaluate-encode b n h.1 (omega arith)) l
  evaluate-encode (SUB a b) (suc n) h k l = two 0x24 a b n refl refl (evaluate-encode a n h.0 (omega arith)) (evaluate-encode b n h.1 (omega arith)) l
  evaluate-encode (LESS a b) (suc n) h k l = two 0x25 a b n refl refl (evaluate-encode a n h.0 (omega arith)) (evaluate-encode b n h.1 (omega arith)) l
  evaluate-encode (ATMOST a b) (suc n) h k l = two 0x26 a b n refl refl (evaluate-encode a n h.0 (omega arith)) (evaluate-encode b n h.1 (omega arith)) l
  evaluate-encode (EQUAL a b) (suc n) h k l = two 0x27 a b n refl refl (evaluate-encode a n h.0 (omega arith)) (evaluate-encode b n h.1 (omega arith)) l
  evaluate-encode (NOT a) (suc n) h k l = one 0x28 a n refl refl (evaluate-encode a n h (omega arith)) l
  evaluate-encode (AND a b) (suc n) h k l = two 0x29 a b n refl refl (evaluate-encode a n h.0 (omega arith)) (evaluate-encode b n h.1 (omega arith)) l
  evaluate-encode (OR a b) (suc n) h k l = two 0x2A a b n refl refl (evaluate-encode a n h.0 (omega arith)) (evaluate-encode b n h.1 (omega arith)) l
  evaluate-encode (IF a b d) (suc n) h k l =
      three 0x2B a b d n refl refl (evaluate-encode a n h.0 (omega arith)) (evaluate-encode b n h.1 (omega arith))
      (evaluate-encode d n h.2 (omega arith)) l
