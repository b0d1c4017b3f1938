-- Reading an expression: what is read is the encoding of the expression it gives, within depth and count, and every such encoding is read as its expression.
use Prim.Native.Nat.{ℕ, zero, suc, ◌+◌, ◌-◌, ◌<◌, ◌≤◌, max}
use mathlib.Core.Path.{◌≡◌, refl, sym, ap, ◌∙◌}
use mathlib.Core.Bool.{true}
use mathlib.Core.List.{List, [], ◌∷◌, ◌++◌, append_assoc}
use native.Mathlib.Omega.{arith}
use native.Mathlib.Nat.{not-suc-le-zero}
use borrow.Author.Tests.{ltb-true, ltb-false, lt-ltb, le-ltb}
use lib.Dec.{ltb}
use lib.ListN.{length, get_or, drop, length-append}
use lib.Seq.{drop-drop, drop-append_seam}
use Rattle.base.specs.Lists.{Bytes}
use Rattle.base.specs.Value.{bytes_of, value_at}
use Rattle.base.proofs.Tests.{cond-holds}
use Rattle.base.proofs.Values.{bytes-of-value, value-of-bytes, byte-below}
use Rattle.formula.specs.Formula.{Leaf, CONST, VAR, COUNT, SUM, LENGTH, DIFFERENT, Expr, LEAF, ADD, SUB, LESS, ATMOST, EQUAL, NOT, AND, OR, IF}
use Rattle.formula.specs.Encode.{list_byte, encode_leaf, encode_expr}
use Rattle.formula.specs.Correct.{size, depth, Leaves, Value, Variable, ListVariable, LeafExists}
use Rattle.formula.specs.Read.{ExprNext, expression, failed, ExprOpcode, const-op, var-op, count-op, list_op, unary, binary, ternary, foreign_op}
use Rattle.formula.specs.Read.{expr_opcode, is_list, over_of, over, and_then, expr_of, expr_with, read_expr}
use Rattle.formula.proofs.Basics.{byte-case, bytes_drop, behind, list_back, list-number, list-named}

-- the expression's bytes stand in front, and it is within depth d and n commands
pub record Found (d n : ℕ) (rest : List ℕ) (e : Expr) (u m : ℕ) : Type 0 where
  pub behind : List ℕ
  pub bytes : rest ≡ encode_expr e ++ behind
  pub used : u ≡ length (encode_expr e)
  pub left : n ≡ size e + m
  pub deep : depth e ≤ d
  pub leaves : Leaves LeafExists e

abbrev pub Finds : ℕ → ℕ → List ℕ → ExprNext → Type 0
Finds d n rest (expression e u m) = Found d n rest e u m
Finds d n rest (failed r) = Unit {0}

-- what the opcodes of lists, and those with operands, build
record OfList (c : ℕ) (mk : ℕ → Leaf) : Type 0 where
  bytes : (v : ℕ) → encode_leaf (mk v) ≡ c ∷ list_byte v ∷ []
  exists : (v : ℕ) → ListVariable v → LeafExists (mk v)

record Unary (c : ℕ) (mk : Expr → Expr) : Type 0 where
  bytes : (a : Expr) → encode_expr (mk a) ≡ c ∷ encode_expr a
  size_is : (a : Expr) → size (mk a) ≡ suc (size a)
  depth_is : (a : Expr) → depth (mk a) ≡ suc (depth a)
  leaves : (a : Expr) → Leaves LeafExists a → Leaves LeafExists (mk a)

record Binary (c : ℕ) (mk : Expr → Expr → Expr) : Type 0 where
  bytes : (a b : Expr) → encode_expr (mk a b) ≡ c ∷ (encode_expr a ++ encode_expr b)
  size_is : (a b : Expr) → size (mk a b) ≡ suc (size a + size b)
  depth_is : (a b : Expr) → depth (mk a b) ≡ suc (max (depth a) (depth b))
  leaves : (a b : Expr) → Leaves LeafExists a → Leaves LeafExists b → Leaves LeafExists (mk a b)

record Ternary (c : ℕ) (mk : Expr → Expr → Expr → Expr) : Type 0 where
  bytes : (a b e : Expr) → encode_expr (mk a b e) ≡ c ∷ (encode_expr a ++ (encode_expr b ++ encode_expr e))
  size_is : (a b e : Expr) → size (mk a b e) ≡ suc (size a + (size b + size e))
  depth_is : (a b e : Expr) → depth (mk a b e) ≡ suc (max (depth a) (max (depth b) (depth e)))
  leaves : (a b e : Expr) → Leaves LeafExists a → Leaves LeafExists b → Leaves LeafExists e → Leaves LeafExists (mk a b e)

abbrev Names : ℕ → ExprOpcode → Type 0
Names c const-op = c ≡ 0x20
Names c var-op = c ≡ 0x21
Names c count-op = c ≡ 0x22
Names c (list_op mk) = OfList c mk
Names c (unary mk) = Unary c mk
Names c (binary mk) = Binary c mk
Names c (ternary mk) = Ternary c mk
Names c foreign_op = Unit {0}

-- an opcode is that of its byte
names : (c : ℕ) → Names c (expr_opcode c)
unfolding expr_opcode encode_expr size depth
names c =
    byte-case Names c 0x20 _ _ refl
    (byte-case Names c 0x21 _ _ refl
    (byte-case Names c 0x22 _ _ refl
    (byte-case Names c 0x23 _ _ record { bytes = λ a b. refl; size_is = λ a b. refl; depth_is = λ a b. refl; leaves = λ a b x y. (x, y) }
    (byte-case Names c 0x24 _ _ record { bytes = λ a b. refl; size_is = λ a b. refl; depth_is = λ a b. refl; leaves = λ a b x y. (x, y) }
    (byte-case Names c 0x25 _ _ record { bytes = λ a b. refl; size_is = λ a b. refl; depth_is = λ a b. refl; leaves = λ a b x y. (x, y) }
    (byte-case Names c 0x26 _ _ record { bytes = λ a b. refl; size_is = λ a b. refl; depth_is = λ a b. refl; leaves = λ a b x y. (x, y) }
    (byte-case Names c 0x27 _ _ record { bytes = λ a b. refl; size_is = λ a b. refl; depth_is = λ a b. refl; leaves = λ a b x y. (x, y) }
    (byte-case Names c 0x28 _ _ record { bytes = λ a. refl; size_is = λ a. refl; depth_is = λ a. refl; leaves = λ a x. x }
    (byte-case Names c 0x29 _ _ record { bytes = λ a b. refl; size_is = λ a b. refl; depth_is = λ a b. refl; leaves = λ a b x y. (x, y) }
    (byte-case Names c 0x2A _ _ record { bytes = λ a b. refl; size_is = λ a b. refl; depth_is = λ a b. refl; leaves = λ a b x y. (x, y) }
    (byte-case Names c 0x2B _ _ record { bytes = λ a b e. refl; size_is = λ a b e. refl; depth_is = λ a b e. refl; leaves = λ a b e x y z. (x, y, z) }
    (byte-case Names c 0x2C _ _ record { bytes = λ v. refl; exists = λ v h. h }
    (byte-case Names c 0x2D _ _ record { bytes = λ v. refl; exists = λ v h. h }
    (byte-case Names c 0x2E _ _ record { bytes = λ v. refl; exists = λ v h. h } tt))))))))))))))

then-finds : (d n : ℕ) (rest : List ℕ) (d₁ n₁ : ℕ) (rest₁ : List ℕ) (x : ExprNext) (k : Expr → ℕ → ℕ → ExprNext) → Finds d n rest x
    → ((e : Expr) (u m : ℕ) → Found d n rest e u m → Finds d₁ n₁ rest₁ (k e u m)) → Finds d₁ n₁ rest₁ (and_then x k)
then-finds d n rest d₁ n₁ rest₁ (expression e u m) k h f = f e u m h
then-finds d n rest d₁ n₁ rest₁ (failed r) k h f = tt

over-finds : (d n at : ℕ) (rest : List ℕ) → Finds d n rest (over at rest)
unfolding over
over-finds d n at [] = tt
over-finds d n at (b ∷ ops) = go (expr_opcode b)
  where
    go : (w : ExprOpcode) → Finds d n (b ∷ ops) (over_of at w)
    go const-op = tt
    go var-op = tt
    go count-op = tt
    go (list_op mk) = tt
    go (unary mk) = tt
    go (binary mk) = tt
    go (ternary mk) = tt
    go foreign_op = tt

-- a reader of operands of depth d is sound
Sound : ℕ → (ℕ → ℕ → List ℕ → ExprNext) → Type 0
Sound d op = (n at : ℕ) (rest : List ℕ) → Bytes rest → Finds d n rest (op n at rest)

-- the value of four bytes is a value
pub value-below : (l : List ℕ) (at : ℕ) → Bytes l → Value (value_at l at)
unfolding value_at
value-below l at h =
    let a = byte-below l at h in
    let b = byte-below l (at + 1) h in
    let c = byte-below l (at + 2) h in
    let d = byte-below l (at + 3) h in
    omega arith

const-found : (d n c : ℕ) (ops : List ℕ) → c ≡ 0x20 → Bytes ops → 4 ≤ length ops → Found (suc d) (suc n) (c ∷ ops) (LEAF (CONST (value_at ops 0))) 5 n
unfolding encode_expr size depth bytes_of
const-found d n c ops e h k =
    record {
      behind = drop 4 ops;
      bytes = rw e (ap (λ r. 0x20 ∷ r) (bytes-of-value ops 0 h k));
      used = refl;
      left = omega arith;
      deep = omega arith;
      leaves = value-below ops 0 h;
    }

var-found : (d n c : ℕ) (ops : List ℕ) → c ≡ 0x21 → 1 ≤ length ops → get_or ops 0 0 < 8 → Found (suc d) (suc n) (c ∷ ops) (LEAF (VAR (get_or ops 0 0))) 2 n
unfolding encode_expr size depth
var-found d n c [] e k v = absurd (not-suc-le-zero k)
var-found d n c (x ∷ xs) e k v = record { behind = xs; bytes = rw e; used = refl; left = omega arith; deep = omega arith; leaves = v }

count-found : (d n c : ℕ) (ops : List ℕ) → c ≡ 0x22 → 1 ≤ length ops → Found (suc d) (suc n) (c ∷ ops) (LEAF (COUNT (get_or ops 0 0))) 2 n
unfolding encode_expr size depth
count-found d n c [] e k = absurd (not-suc-le-zero k)
count-found d n c (x ∷ xs) e k = record { behind = xs; bytes = rw e; used = refl; left = omega arith; deep = omega arith; leaves = tt }

list-found : (d n c : ℕ) (mk : ℕ → Leaf) (ops : List ℕ) → OfList c mk → 1 ≤ length ops → is_list (get_or ops 0 0) ≡ true
    → Found (suc d) (suc n) (c ∷ ops) (LEAF (mk (get_or ops 0 0 - 8))) 2 n
unfolding encode_expr size depth
list-found d n c mk [] e k v = absurd (not-suc-le-zero k)
list-found d n c mk (x ∷ xs) e k v =
    let p = list_back x v in
    let b = e.bytes (x - 8) in
    record {
      behind = xs;
      bytes = rw b (ap (λ y. c ∷ y ∷ xs) p.0);
      used = rw b;
      left = omega arith;
      deep = omega arith;
      leaves = e.exists (x - 8) p.1;
    }

unary-found : (d n c : ℕ) (mk : Expr → Expr) (ops : List ℕ) (a : Expr) (u m : ℕ) → Unary c mk → Found d n ops a u m
    → Found (suc d) (suc n) (c ∷ ops) (mk a) (1 + u) m
unary-found d n c mk ops a u m e f =
    let e₁ = e.bytes a in
    let e₂ = e.size_is a in
    let e₃ = e.depth_is a in
    let f₁ = f.used in
    let f₂ = f.left in
    let f₃ = f.deep in
    record {
      behind = f.behind;
      bytes = rw e₁ (ap (λ r. c ∷ r) f.bytes);
      used = rw e₁ (omega arith);
      left = omega arith;
      deep = omega arith;
      leaves = e.leaves a f.leaves;
    }

-- two expressions in a row
pair-bytes : (ops xa xb t tb : List ℕ) (u : ℕ) → ops ≡ xa ++ t → u ≡ length xa → drop u ops ≡ xb ++ tb → ops ≡ xa ++ (xb ++ tb)
pair-bytes ops xa xb t tb u e h f = e ∙ ap (λ r. xa ++ r) (sym (behind ops xa t u e h) ∙ f)

binary-found : (d n c : ℕ) (mk : Expr → Expr → Expr) (ops : List ℕ) (a b : Expr) (u m w k : ℕ) → Binary c mk → Found d n ops a u m
    → Found d m (drop u ops) b w k → Found (suc d) (suc n) (c ∷ ops) (mk a b) (1 + u + w) k
binary-found d n c mk ops a b u m w k e f g =
    let e₁ = e.bytes a b in
    let e₂ = e.size_is a b in
    let e₃ = e.depth_is a b in
    let f₁ = f.used in
    let f₂ = f.left in
    let f₃ = f.deep in
    let g₁ = g.used in
    let g₂ = g.left in
    let g₃ = g.deep in
    let p = pair-bytes ops (encode_expr a) (encode_expr b) f.behind g.behind u f.bytes f₁ g.bytes in
    record {
      behind = g.behind;
      bytes = rw (e₁, append_assoc (encode_expr a) (encode_expr b) g.behind) (ap (λ r. c ∷ r) p);
      used = rw (e₁, length-append (encode_expr a) (encode_expr b)) (omega arith);
      left = omega arith;
      deep = omega arith;
      leaves = e.leaves a b f.leaves g.leaves;
    }

ternary-found : (d n c : ℕ) (mk : Expr → Expr → Expr → Expr) (ops : List ℕ) (a b i : Expr) (u m w k x j : ℕ) → Ternary c mk → Found d n ops a u m
    → Found d m (drop u ops) b w k → Found d k (drop (u + w) ops) i x j → Found (suc d) (suc n) (c ∷ ops) (mk a b i) (1 + u + w + x) j
ternary-found d n c mk ops a b i u m w k x j e f g l =
    let e₁ = e.bytes a b i in
    let e₂ = e.size_is a b i in
    let e₃ = e.depth_is a b i in
    let f₁ = f.used in
    let f₂ = f.left in
    let f₃ = f.deep in
    let g₁ = g.used in
    let g₂ = g.left in
    let g₃ = g.deep in
    let l₁ = l.used in
    let l₂ = l.left in
    let l₃ = l.deep in
    let q = pair-bytes (drop u ops) (encode_expr b) (encode_expr i) g.behind l.behind w g.bytes g₁ (drop-drop w u ops ∙ l.bytes) in
    let p =
    pair-bytes ops (encode_expr a) (encode_expr b ++ encode_expr i) f.behind l.behind u f.bytes f₁
    (q ∙ sym (append_assoc (encode_expr b) (encode_expr i) l.behind)) in
    record {
      behind = l.behind;
      bytes = rw (e₁, append_assoc (encode_expr a) (encode_expr b ++ encode_expr i) l.behind) (ap (λ r. c ∷ r) p);
      used = rw (e₁, length-append (encode_expr a) (encode_expr b ++ encode_expr i), length-append (encode_expr b) (encode_expr i)) (omega arith);
      left = omega arith;
      deep = omega arith;
      leaves = e.leaves a b i f.leaves g.leaves l.leaves;
    }

expr_of-finds : (d : ℕ) (op : ℕ → ℕ → List ℕ → ExprNext) → Sound d op → (n at c : ℕ) (ops : List ℕ) → Bytes ops → (w : ExprOpcode) → Names c w
    → Finds (suc d) (suc n) (c ∷ ops) (expr_of op n at ops w)
unfolding Sound
expr_of-finds d op s n at c ops h const-op e =
    cond-holds (Finds (suc d) (suc n) (c ∷ ops)) (ltb (length ops) 4) _ _ (λ q. tt) (λ q. const-found d n c ops e h (ltb-false (length ops) 4 q))
expr_of-finds d op s n at c ops h var-op e =
    cond-holds (Finds (suc d) (suc n) (c ∷ ops)) (ltb (length ops) 1) _ _ (λ q. tt)
    (λ q.
    cond-holds (Finds (suc d) (suc n) (c ∷ ops)) (ltb (get_or ops 0 0) 8) _ _
    (λ p. var-found d n c ops e (ltb-false (length ops) 1 q) (ltb-true (get_or ops 0 0) 8 p)) (λ p. tt))
expr_of-finds d op s n at c ops h count-op e =
    cond-holds (Finds (suc d) (suc n) (c ∷ ops)) (ltb (length ops) 1) _ _ (λ q. tt) (λ q. count-found d n c ops e (ltb-false (length ops) 1 q))
expr_of-finds d op s n at c ops h (list_op mk) e =
    cond-holds (Finds (suc d) (suc n) (c ∷ ops)) (ltb (length ops) 1) _ _ (λ q. tt)
    (λ q.
    cond-holds (Finds (suc d) (suc n) (c ∷ ops)) (is_list (get_or ops 0 0)) _ _ (λ p. list-found d n c mk ops e (ltb-false (length ops) 1 q) p) (λ p. tt))
expr_of-finds d op s n at c ops h (unary mk) e =
    then-finds d n ops (suc d) (suc n) (c ∷ ops) (op n (at + 1) ops) _ (s n (at + 1) ops h) (λ a u m f. unary-found d n c mk ops a u m e f)
expr_of-finds d op s n at c ops h (binary mk) e =
    then-finds d n ops (suc d) (suc n) (c ∷ ops) (op n (at + 1) ops) _ (s n (at + 1) ops h)
    (λ a u m f.
    then-finds d m (drop u ops) (suc d) (suc n) (c ∷ ops) (op m (at + 1 + u) (drop u ops)) _ (s m (at + 1 + u) (drop u ops) (bytes_drop u ops h))
    (λ b w k g. binary-found d n c mk ops a b u m w k e f g))
expr_of-finds d op s n at c ops h (ternary mk) e =
    then-finds d n ops (suc d) (suc n) (c ∷ ops) (op n (at + 1) ops) _ (s n (at + 1) ops h)
    (λ a u m f.
    then-finds d m (drop u ops) (suc d) (suc n) (c ∷ ops) (op m (at + 1 + u) (drop u ops)) _ (s m (at + 1 + u) (drop u ops) (bytes_drop u ops h))
    (λ b w k g.
    then-finds d k (drop (u + w) ops) (suc d) (suc n) (c ∷ ops) (op k (at + 1 + u + w) (drop (u + w) ops)) _
    (s k (at + 1 + u + w) (drop (u + w) ops) (bytes_drop (u + w) ops h)) (λ i x j l. ternary-found d n c mk ops a b i u m w k x j e f g l)))
expr_of-finds d op s n at c ops h foreign_op e = tt

with-finds : (d : ℕ) (op : ℕ → ℕ → List ℕ → ExprNext) → Sound d op → (n at : ℕ) (rest : List ℕ) → Bytes rest → Finds (suc d) n rest (expr_with op n at rest)
unfolding expr_with
with-finds d op s n at [] h = tt
with-finds d op s zero at (c ∷ ops) h = over-finds (suc d) zero at (c ∷ ops)
with-finds d op s (suc n) at (c ∷ ops) h = expr_of-finds d op s n at c ops h.1 (expr_opcode c) (names c)

-- whatever is read as an expression is its encoding, within depth and count
pub expr-found : (d n at : ℕ) (rest : List ℕ) → Bytes rest → Finds d n rest (read_expr d n at rest)
unfolding read_expr Sound
expr-found zero n at rest h = over-finds zero n at rest
expr-found (suc d) n at rest h = with-finds d (read_expr d) (expr-found d) n at rest h

-- a reader of operands reads the bytes xs as e, which takes k commands
Reads : (ℕ → ℕ → List ℕ → ExprNext) → List ℕ → Expr → ℕ → Type 0
Reads op xs e k = (m at : ℕ) (rest : List ℕ) → op (k + m) at (xs ++ rest) ≡ expression e (length xs) m

const-reads : (op : ℕ → ℕ → List ℕ → ExprNext) (v : ℕ) → Value v → Reads (expr_with op) (0x20 ∷ bytes_of v) (LEAF (CONST v)) 1
unfolding Reads expr_with expr_opcode bytes_of
const-reads op v h m at rest =
    let e : 1 + m ≡ suc m = omega arith in
    let x : value_at (bytes_of v ++ rest) 0 ≡ v = value-of-bytes [] v rest h in
    rw (e, le-ltb (length (bytes_of v ++ rest)) 4 (omega arith), x)

var-reads : (op : ℕ → ℕ → List ℕ → ExprNext) (v : ℕ) → Variable v → Reads (expr_with op) (0x21 ∷ v ∷ []) (LEAF (VAR v)) 1
unfolding Reads expr_with expr_opcode
var-reads op v h m at rest =
    let e : 1 + m ≡ suc m = omega arith in
    rw (e, le-ltb (length (v ∷ rest)) 1 (omega arith), lt-ltb v 8 h)

count-reads : (op : ℕ → ℕ → List ℕ → ExprNext) (s : ℕ) → Reads (expr_with op) (0x22 ∷ s ∷ []) (LEAF (COUNT s)) 1
unfolding Reads expr_with expr_opcode
count-reads op s m at rest =
    let e : 1 + m ≡ suc m = omega arith in
    rw (e, le-ltb (length (s ∷ rest)) 1 (omega arith))

list-reads : (op : ℕ → ℕ → List ℕ → ExprNext) (c : ℕ) (mk : ℕ → Leaf) (v : ℕ) → expr_opcode c ≡ list_op mk → ListVariable v
    → Reads (expr_with op) (c ∷ list_byte v ∷ []) (LEAF (mk v)) 1
unfolding Reads expr_with
list-reads op c mk v q h m at rest =
    let e : 1 + m ≡ suc m = omega arith in
    rw (e, q, le-ltb (length (list_byte v ∷ rest)) 1 (omega arith), list-named v h, list-number v)

unary-reads : (op : ℕ → ℕ → List ℕ → ExprNext) (c : ℕ) (mk : Expr → Expr) (xa : List ℕ) (a : Expr) (ka : ℕ) → expr_opcode c ≡ unary mk
    → Reads op xa a ka → Reads (expr_with op) (c ∷ xa) (mk a) (suc ka)
unfolding Reads expr_with
unary-reads op c mk xa a ka e ra m at rest =
    let q : suc ka + m ≡ suc (ka + m) = omega arith in
    let z : 1 + length xa ≡ suc (length xa) = omega arith in
    rw (q, e, ra m (at + 1) rest, z)

binary-reads : (op : ℕ → ℕ → List ℕ → ExprNext) (c : ℕ) (mk : Expr → Expr → Expr) (xa xb : List ℕ) (a b : Expr) (ka kb : ℕ) → expr_opcode c ≡ binary mk
    → Reads op xa a ka → Reads op xb b kb → Reads (expr_with op) (c ∷ (xa ++ xb)) (mk a b) (suc (ka + kb))
unfolding Reads expr_with
binary-reads op c mk xa xb a b ka kb e ra rb m at rest =
    let q : suc (ka + kb) + m ≡ suc (ka + (kb + m)) = omega arith in
    let l = length-append xa xb in
    let z : 1 + length xa + length xb ≡ suc (length (xa ++ xb)) = omega arith in
    rw (q, e, append_assoc xa xb rest, ra (kb + m) (at + 1) (xb ++ rest), drop-append_seam xa (xb ++ rest), rb m (at + 1 + length xa) rest, z)

ternary-reads : (op : ℕ → ℕ → List ℕ → ExprNext) (c : ℕ) (mk : Expr → Expr → Expr → Expr) (xa xb xi : List ℕ) (a b i : Expr) (ka kb ki : ℕ)
    → expr_opcode c ≡ ternary mk → Reads op xa a ka → Reads op xb b kb → Reads op xi i ki
    → Reads (expr_with op) (c ∷ (xa ++ (xb ++ xi))) (mk a b i) (suc (ka + (kb + ki)))
unfolding Reads expr_with
ternary-reads op c mk xa xb xi a b i ka kb ki e ra rb ri m at rest =
    let q : suc (ka + (kb + ki)) + m ≡ suc (ka + (kb + (ki + m))) = omega arith in
    let l = length-append xa (xb ++ xi) in
    let k = length-append xb xi in
    let z : 1 + length xa + length xb + length xi ≡ suc (length (xa ++ (xb ++ xi))) = omega arith in
    let y : drop (length xa + length xb) (xa ++ (xb ++ (xi ++ rest))) ≡ xi ++ rest =
    sym (drop-drop (length xb) (length xa) (xa ++ (xb ++ (xi ++ rest))))
    ∙ (rw (drop-append_seam xa (xb ++ (xi ++ rest)), drop-append_seam xb (xi ++ rest))) in
    rw (
      q,
      e,
      append_assoc xa (xb ++ xi) rest,
      append_assoc xb xi rest,
      ra (kb + (ki + m)) (at + 1) (xb ++ (xi ++ rest)),
      drop-append_seam xa (xb ++ (xi ++ rest)),
      rb (ki + m) (at + 1 + length xa) (xi ++ rest),
      y,
      ri m (at + 1 + length xa + length xb) rest,
      z,
    )

-- no expression has depth 0
deep : (e : Expr) → 1 ≤ depth e
unfolding depth
deep (LEAF l) = omega arith
deep (ADD a b) = omega arith
deep (SUB a b) = omega arith
deep (LESS a b) = omega arith
deep (ATMOST a b) = omega arith
deep (EQUAL a b) = omega arith
deep (NOT a) = omega arith
deep (AND a b) = omega arith
deep (OR a b) = omega arith
deep (IF c a b) = omega arith

first : (a b d : ℕ) → suc (max a b) ≤ suc d → a ≤ d
first a b d h = omega arith

second : (a b d : ℕ) → suc (max a b) ≤ suc d → b ≤ d
second a b d h = omega arith

-- the encoding of an expression of depth at most d is read as that expression
expr-reads : (d : ℕ) (e : Expr) → depth e ≤ d → Leaves LeafExists e → Reads (read_expr d) (encode_expr e) e (size e)
unfolding read_expr encode_expr size depth expr_opcode
expr-reads zero e h l = absurd (not-suc-le-zero (native.Mathlib.Nat.le_trans (deep e) h))
expr-reads (suc d) (LEAF (CONST v)) h l = const-reads (read_expr d) v l
expr-reads (suc d) (LEAF (VAR v)) h l = var-reads (read_expr d) v l
expr-reads (suc d) (LEAF (COUNT s)) h l = count-reads (read_expr d) s
expr-reads (suc d) (LEAF (SUM v)) h l = list-reads (read_expr d) 0x2C SUM v refl l
expr-reads (suc d) (LEAF (LENGTH v)) h l = list-reads (read_expr d) 0x2D LENGTH v refl l
expr-reads (suc d) (LEAF (DIFFERENT v)) h l = list-reads (read_expr d) 0x2E DIFFERENT v refl l
expr-reads (suc d) (ADD a b) h l =
    binary-reads (read_expr d) 0x23 ADD (encode_expr a) (encode_expr b) a b (size a) (size b) refl
    (expr-reads d a (first (depth a) (depth b) d h) l.0) (expr-reads d b (second (depth a) (depth b) d h) l.1)
expr-reads (suc d) (SUB a b) h l =
    binary-reads (read_expr d) 0x24 SUB (encode_expr a) (encode_expr b) a b (size a) (size b) refl
    (expr-reads d a (first (depth a) (depth b) d h) l.0) (expr-reads d b (second (depth a) (depth b) d h) l.1)
expr-reads (suc d) (LESS a b) h l =
    binary-reads (read_expr d) 0x25 LESS (encode_expr a) (encode_expr b) a b (size a) (size b) refl
    (expr-reads d a (first (depth a) (depth b) d h) l.0) (expr-reads d b (second (depth a) (depth b) d h) l.1)
expr-reads (suc d) (ATMOST a b) h l =
    binary-reads (read_expr d) 0x26 ATMOST (encode_expr a) (encode_expr b) a b (size a) (size b) refl
    (expr-reads d a (first (depth a) (depth b) d h) l.0) (expr-reads d b (second (depth a) (depth b) d h) l.1)
expr-reads (suc d) (EQUAL a b) h l =
    binary-reads (read_expr d) 0x27 EQUAL (encode_expr a) (encode_expr b) a b (size a) (size b) refl
    (expr-reads d a (first (depth a) (depth b) d h) l.0) (expr-reads d b (second (depth a) (depth b) d h) l.1)
expr-reads (suc d) (NOT a) h l = unary-reads (read_expr d) 0x28 NOT (encode_expr a) a (size a) refl (expr-reads d a (omega arith) l)
expr-reads (suc d) (AND a b) h l =
    binary-reads (read_expr d) 0x29 AND (encode_expr a) (encode_expr b) a b (size a) (size b) refl
    (expr-reads d a (first (depth a) (depth b) d h) l.0) (expr-reads d b (second (depth a) (depth b) d h) l.1)
expr-reads (suc d) (OR a b) h l =
    binary-reads (read_expr d) 0x2A OR (encode_expr a) (encode_expr b) a b (size a) (size b) refl (expr-reads d a (first (depth a) (depth b) d h) l.0)
    (expr-reads d b (second (depth a) (depth b) d h) l.1)
expr-reads (suc d) (IF c a b) h l =
    ternary-reads (read_expr d) 0x2B IF (encode_expr c) (encode_expr a) (encode_expr b) c a b (size c) (size a) (size b) refl
    (expr-reads d c (omega arith) l.0) (expr-reads d a (omega arith) l.1) (expr-reads d b (omega arith) l.2)

-- every encoding within depth d and n commands is read as its expression, whatever follows
pub expr-read : (d n at : ℕ) (e : Expr) (rest : List ℕ) → depth e ≤ d → size e ≤ n → Leaves LeafExists e
    → read_expr d n at (encode_expr e ++ rest) ≡ expression e (length (encode_expr e)) (n - size e)
unfolding Reads
expr-read d n at e rest h k l =
    let q : n ≡ size e + (n - size e) = omega arith in
    ap (λ m. read_expr d m at (encode_expr e ++ rest)) q ∙ expr-reads d e h l (n - size e) at rest
