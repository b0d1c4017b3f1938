-- Reading an expression is reading its command and then its operands one by one, and an expression that was read uses its own bytes.
use Prim.Native.Nat.{ℕ, zero, suc, ◌+◌, ◌-◌, ◌<◌}
use mathlib.Core.Path.{◌≡◌, refl, sym, ap, ◌∙◌}
use mathlib.Core.Bool.{Bool, true, false, cond}
use mathlib.Core.List.{List, [], ◌∷◌, ◌++◌}
use Rattle.std.specs.Prelude.{Result, Ok, Err}
use native.Mathlib.Omega.{arith}
use native.Mathlib.Nat.{add_assoc}
use native.Mathlib.Numerals.{one-add}
use borrow.Author.Tests.{ltb-true, ltb-false, lt-ltb, le-ltb, ne_eqb}
use lib.Dec.{ltb, eqb}
use lib.ListN.{length, get_or, drop, length-append}
use Rattle.base.proofs.Tests.{cond-holds}
use Rattle.refusal.specs.declared.File.TheVariants.{Formula as InFormula}
use Rattle.refusal.specs.declared.Refusal.{Refusal}
use Rattle.refusal.specs.declared.Refusal.TheVariants.{CutShort, Value}
use Rattle.expression_reader.specs.declared.Takes.{Takes}
use Rattle.expression_reader.specs.declared.Prefix.{Prefix}
use Rattle.base.specs.Value.{bytes_of, value_at}
use Rattle.formula.specs.Formula.{Leaf, CONST, VAR, COUNT, SUM, LENGTH, DIFFERENT, Expr, LEAF, ADD, SUB, LESS, ATMOST, EQUAL, NOT, AND, OR, IF}
use Rattle.formula.specs.Encode.{encode_expr}
use Rattle.formula.specs.Read.{ExprOpcode, const-op, var-op, count-op, list_op, unary, binary, ternary, foreign_op, expr_opcode, is_list, ExprNext}
use Rattle.formula.specs.Read.{expression, failed, over_of, and_then, expr_of, expr_with, read_expr}
use Rattle.expression_reader.specs.inner.Prefix.{takes, operands_of, over, takes_at, End, ExprEnd, whole, broken, end_of, front, joined}
use Rattle.expression_reader.specs.inner.Prefix.{head_of, shape}
use Rattle.expression_reader.specs.inner.Places.{leaves_noted, noted, state_key, var_noted}

-- a list is not noted; the leaves of an operator are those of its operands, one after the other
abbrev Unnoted : (ℕ → Leaf) → Type 0
Unnoted mk = (s : ℕ) (own : List Bool) (at v : ℕ) (places : List ℕ) → leaves_noted s own at (LEAF (mk v)) places ≡ places

abbrev One : (Expr → Expr) → Type 0
One mk = (s : ℕ) (own : List Bool) (at : ℕ) (a : Expr) (places : List ℕ) → leaves_noted s own at (mk a) places ≡ leaves_noted s own (at + 1) a places

abbrev Two : (Expr → Expr → Expr) → Type 0
Two mk = (s : ℕ) (own : List Bool) (at : ℕ) (a b : Expr) (places : List ℕ)
    → leaves_noted s own at (mk a b) places ≡ leaves_noted s own (at + 1 + length (encode_expr a)) b (leaves_noted s own (at + 1) a places)

abbrev Three : (Expr → Expr → Expr → Expr) → Type 0
Three mk = (s : ℕ) (own : List Bool) (at : ℕ) (a b c : Expr) (places : List ℕ)
    → leaves_noted s own at (mk a b c) places
    ≡ leaves_noted s own (at + 1 + length (encode_expr a) + length (encode_expr b)) c
    (leaves_noted s own (at + 1 + length (encode_expr a)) b (leaves_noted s own (at + 1) a places))

abbrev Ordered : ExprOpcode → Type 0
Ordered const-op = Unit {0}
Ordered var-op = Unit {0}
Ordered count-op = Unit {0}
Ordered (list_op mk) = Unnoted mk
Ordered (unary mk) = One mk
Ordered (binary mk) = Two mk
Ordered (ternary mk) = Three mk
Ordered foreign_op = Unit {0}

-- an expression takes its command's bytes, and those of its operands
abbrev Sized : ExprOpcode → Type 0
Sized const-op = Unit {0}
Sized var-op = Unit {0}
Sized count-op = Unit {0}
Sized (list_op mk) = (v : ℕ) → length (encode_expr (LEAF (mk v))) ≡ 2
Sized (unary mk) = (a : Expr) → length (encode_expr (mk a)) ≡ 1 + length (encode_expr a)
Sized (binary mk) = (a b : Expr) → length (encode_expr (mk a b)) ≡ 1 + length (encode_expr a) + length (encode_expr b)
Sized (ternary mk) = (a b c : Expr) → length (encode_expr (mk a b c)) ≡ 1 + length (encode_expr a) + length (encode_expr b) + length (encode_expr c)
Sized foreign_op = Unit {0}

-- what holds of every command that a byte may name
module _ (P : ExprOpcode → Type 0) where
  either : (t : Bool) (x y : ExprOpcode) → P x → P y → P (cond t x y)
  either true x y h k = h
  either false x y h k = k

  of-byte : P const-op → P var-op → P count-op → P (binary ADD) → P (binary SUB) → P (binary LESS) → P (binary ATMOST) → P (binary EQUAL) → P (unary NOT)
      → P (binary AND) → P (binary OR) → P (ternary IF) → P (list_op SUM) → P (list_op LENGTH) → P (list_op DIFFERENT) → P foreign_op
      → (b : ℕ) → P (expr_opcode b)
  unfolding expr_opcode
  of-byte h₀ h₁ h₂ h₃ h₄ h₅ h₆ h₇ h₈ h₉ hA hB hC hD hE none b =
      either (eqb b 0x20) _ _ h₀
      (either (eqb b 0x21) _ _ h₁
      (either (eqb b 0x22) _ _ h₂
      (either (eqb b 0x23) _ _ h₃
      (either (eqb b 0x24) _ _ h₄
      (either (eqb b 0x25) _ _ h₅
      (either (eqb b 0x26) _ _ h₆
      (either (eqb b 0x27) _ _ h₇
      (either (eqb b 0x28) _ _ h₈
      (either (eqb b 0x29) _ _ h₉
      (either (eqb b 0x2A) _ _ hA
      (either (eqb b 0x2B) _ _ hB
      (either (eqb b 0x2C) _ _ hC
      (either (eqb b 0x2D) _ _ hD
      (either (eqb b 0x2E) _ _ hE none))))))))))))))

ordered : (b : ℕ) → Ordered (expr_opcode b)
unfolding leaves_noted
ordered =
    of-byte Ordered tt tt tt (λ s own at x y places. refl) (λ s own at x y places. refl) (λ s own at x y places. refl) (λ s own at x y places. refl)
    (λ s own at x y places. refl) (λ s own at x places. refl) (λ s own at x y places. refl) (λ s own at x y places. refl) (λ s own at x y z places. refl)
    (λ s own at v places. refl) (λ s own at v places. refl) (λ s own at v places. refl) tt

sized : (b : ℕ) → Sized (expr_opcode b)
unfolding encode_expr
sized =
    of-byte Sized tt tt tt (λ a b. omega (arith, length-append (encode_expr a) (encode_expr b))) (λ a b. omega (arith, length-append (encode_expr a) (encode_expr b)))
    (λ a b. omega (arith, length-append (encode_expr a) (encode_expr b))) (λ a b. omega (arith, length-append (encode_expr a) (encode_expr b)))
    (λ a b. omega (arith, length-append (encode_expr a) (encode_expr b))) (λ a. omega arith)
    (λ a b. omega (arith, length-append (encode_expr a) (encode_expr b))) (λ a b. omega (arith, length-append (encode_expr a) (encode_expr b)))
    (λ a b c. omega (arith, length-append (encode_expr a) (encode_expr b ++ encode_expr c), length-append (encode_expr b) (encode_expr c)))
    (λ v. refl) (λ v. refl) (λ v. refl) tt

-- operands are read as expressions
abbrev pub Operand : Type 0
Operand = ℕ → ℕ → List ℕ → ExprNext

-- an expression that was read used its own bytes
abbrev Used : ExprNext → Type 0
Used (expression e u m) = u ≡ length (encode_expr e)
Used (failed r) = Unit {0}

abbrev AllUsed : Operand → Type 0
AllUsed op = (m at : ℕ) (bs : List ℕ) → Used (op m at bs)

used-then : (x : ExprNext) (k : Expr → ℕ → ℕ → ExprNext) → Used x → ((e : Expr) (u m : ℕ) → u ≡ length (encode_expr e) → Used (k e u m)) → Used (and_then x k)
used-then (expression e u m) k h f = f e u m h
used-then (failed r) k h f = tt

over-used : (at : ℕ) (o : ExprOpcode) → Used (over_of at o)
over-used at const-op = tt
over-used at var-op = tt
over-used at count-op = tt
over-used at (list_op mk) = tt
over-used at (unary mk) = tt
over-used at (binary mk) = tt
over-used at (ternary mk) = tt
over-used at foreign_op = tt

expr-used : (op : Operand) → AllUsed op → (left at : ℕ) (ops : List ℕ) (o : ExprOpcode) → Sized o → Used (expr_of op left at ops o)
unfolding encode_expr bytes_of
expr-used op h left at ops const-op s = cond-holds Used (ltb (length ops) 4) _ _ (λ e. tt) (λ e. refl)
expr-used op h left at ops var-op s =
    cond-holds Used (ltb (length ops) 1) _ _ (λ e. tt) (λ e. cond-holds Used (ltb (get_or ops 0 0) 8) _ _ (λ f. refl) (λ f. tt))
expr-used op h left at ops count-op s = cond-holds Used (ltb (length ops) 1) _ _ (λ e. tt) (λ e. refl)
expr-used op h left at ops (list_op mk) s =
    cond-holds Used (ltb (length ops) 1) _ _ (λ e. tt) (λ e. cond-holds Used (is_list (get_or ops 0 0)) _ _ (λ f. sym (s _)) (λ f. tt))
expr-used op h left at ops (unary mk) s = used-then (op left (at + 1) ops) _ (h left (at + 1) ops) (λ a u m q. omega (arith, s a))
expr-used op h left at ops (binary mk) s =
    used-then (op left (at + 1) ops) _ (h left (at + 1) ops) (λ a u m q.
    used-then (op m (at + 1 + u) (drop u ops)) _ (h m (at + 1 + u) (drop u ops)) (λ b w n r. omega (arith, s a b)))
expr-used op h left at ops (ternary mk) s =
    used-then (op left (at + 1) ops) _ (h left (at + 1) ops) (λ a u m q.
    used-then (op m (at + 1 + u) (drop u ops)) _ (h m (at + 1 + u) (drop u ops)) (λ b w n r.
    used-then (op n (at + 1 + u + w) (drop (u + w) ops)) _ (h n (at + 1 + u + w) (drop (u + w) ops)) (λ c x k p. omega (arith, s a b c))))
expr-used op h left at ops foreign_op s = tt

read-used : (d : ℕ) → AllUsed (read_expr d)
unfolding read_expr expr_with Rattle.formula.specs.Read.over
read-used zero left at [] = tt
read-used zero left at (b ∷ ops) = over-used at (expr_opcode b)
read-used (suc d) left at [] = tt
read-used (suc d) zero at (b ∷ ops) = over-used at (expr_opcode b)
read-used (suc d) (suc left) at (b ∷ ops) = expr-used (read_expr d) (read-used d) left at ops (expr_opcode b) (sized b)

-- the reader's view of an operand, with the places before it
abbrev pub Reader : Type 0
Reader = ℕ → ℕ → List ℕ → List ℕ → ExprEnd

-- what follows a command or an operand; its refusal is handed on
abbrev pub after : {A : Type 0} → (A → List ℕ → ExprEnd) → End A → ExprEnd
after k (whole q t) = k q t
after k (broken r) = broken r

-- reading n operands, behind the front p of the expression at `at`, where bs begins
pub complete : Reader → ℕ → ℕ → List ℕ → Prefix → List ℕ → ExprEnd
complete op zero at bs p places = whole p places
complete op (suc n) at bs p places = after (λ q t. complete op n at bs (joined p q) t) (op p.left (at + p.used) (drop p.used bs) places)

-- reading a command of so many bytes and its n operands, where `left` commands are still allowed
abbrev pub headed : Reader → ℕ → ℕ → ℕ → List ℕ → End ℕ → ExprEnd
headed op n left at bs x = after (λ u t. complete op n at bs (front u left) t) x

ltb-suc' : (m n : ℕ) (b : Bool) → ltb m n ≡ b → ltb (suc m) (suc n) ≡ b
ltb-suc' m n true h = lt-ltb (suc m) (suc n) (omega (arith, ltb-true m n h))
ltb-suc' m n false h = le-ltb (suc m) (suc n) (omega (arith, ltb-false m n h))

pub ltb-suc : (m n : ℕ) → ltb (suc m) (suc n) ≡ ltb m n
ltb-suc m n = ltb-suc' m n (ltb m n) refl

pub suc-eqb : (n : ℕ) → eqb (suc n) 0 ≡ false
suc-eqb n = ne_eqb (suc n) 0 (λ e. omega arith)

drop_past : (u b : ℕ) (ops : List ℕ) → drop (1 + u) (b ∷ ops) ≡ drop u ops
drop_past u b ops = rw one-add

module _ (s : ℕ) (own : List Bool) where
  abbrev pub view : Operand → Reader
  view op m a r places = shape s own a places (op m a r)

  unary-is : (mk : Expr → Expr) → One mk → (at left : ℕ) (places : List ℕ) (x : ExprNext)
      → shape s own at places (and_then x (λ a u m. expression (mk a) (1 + u) m)) ≡ after (λ q t. whole (joined (front 1 left) q) t)
      (shape s own (at + 1) places x)
  unary-is mk g at left places (expression a u m) = rw (g s own at a places)
  unary-is mk g at left places (failed r) = refl

  binary-second : (mk : Expr → Expr → Expr) → Two mk → (at m u : ℕ) (a : Expr) → u ≡ length (encode_expr a) → (places : List ℕ) (y : ExprNext)
      → shape s own at places (and_then y (λ c w n. expression (mk a c) (1 + u + w) n))
      ≡ after (λ q t. whole (joined (front (1 + u) m) q) t) (shape s own (at + 1 + u) (leaves_noted s own (at + 1) a places) y)
  binary-second mk g at m u a h places (expression c w n) = rw (g s own at a c places, ← h)
  binary-second mk g at m u a h places (failed r) = refl

  module _ (op : Operand) (uses : AllUsed op) where
    -- the operand behind u bytes of operands, as the reader finds it
    view-behind : (at m u b : ℕ) (ops places : List ℕ) → view op m (at + (1 + u)) (drop (1 + u) (b ∷ ops)) places ≡ view op m (at + 1 + u) (drop u ops) places
    view-behind at m u b ops places = rw (drop_past u b ops, add_assoc at 1 u)

    binary-is : (mk : Expr → Expr → Expr) → Two mk → (at left b : ℕ) (ops places : List ℕ) (x : ExprNext) → Used x
        → shape s own at places (and_then x (λ a u m. and_then (op m (at + 1 + u) (drop u ops)) (λ c w n. expression (mk a c) (1 + u + w) n)))
        ≡ after (λ q t. complete (view op) 1 at (b ∷ ops) (joined (front 1 left) q) t) (shape s own (at + 1) places x)
    unfolding complete
    binary-is mk g at left b ops places (expression a u m) h =
        rw (view-behind at m u b ops (leaves_noted s own (at + 1) a places))
        (binary-second mk g at m u a h places (op m (at + 1 + u) (drop u ops)))
    binary-is mk g at left b ops places (failed r) h = refl

    ternary-third : (mk : Expr → Expr → Expr → Expr) → Three mk → (at n u w : ℕ) (a c : Expr) → u ≡ length (encode_expr a) → w ≡ length (encode_expr c)
        → (places : List ℕ) (z : ExprNext)
        → shape s own at places (and_then z (λ d x k. expression (mk a c d) (1 + u + w + x) k))
        ≡ after (λ q t. whole (joined (front (1 + u + w) n) q) t)
        (shape s own (at + 1 + u + w) (leaves_noted s own (at + 1 + u) c (leaves_noted s own (at + 1) a places)) z)
    ternary-third mk g at n u w a c h k places (expression d x i) = rw (g s own at a c d places, ← h, ← k)
    ternary-third mk g at n u w a c h k places (failed r) = refl

    ternary-second : (mk : Expr → Expr → Expr → Expr) → Three mk → (at m u b : ℕ) (ops : List ℕ) (a : Expr) → u ≡ length (encode_expr a)
        → (places : List ℕ) (y : ExprNext) → Used y
        → shape s own at places (and_then y (λ c w n. and_then (op n (at + 1 + u + w) (drop (u + w) ops)) (λ d x k. expression (mk a c d) (1 + u + w + x) k)))
        ≡ after (λ q t. complete (view op) 1 at (b ∷ ops) (joined (front (1 + u) m) q) t) (shape s own (at + 1 + u) (leaves_noted s own (at + 1) a places) y)
    unfolding complete
    ternary-second mk g at m u b ops a h places (expression c w n) k =
        let before = leaves_noted s own (at + 1 + u) c (leaves_noted s own (at + 1) a places) in
        rw (add_assoc 1 u w, view-behind at n (u + w) b ops before, ← (add_assoc 1 u w), ← (add_assoc (at + 1) u w))
        (ternary-third mk g at n u w a c h k places (op n (at + 1 + u + w) (drop (u + w) ops)))
    ternary-second mk g at m u b ops a h places (failed r) k = refl

    ternary-is : (mk : Expr → Expr → Expr → Expr) → Three mk → (at left b : ℕ) (ops places : List ℕ) (x : ExprNext) → Used x
        → shape s own at places
        (and_then x
        (λ a u m.
        and_then (op m (at + 1 + u) (drop u ops))
        (λ c w n. and_then (op n (at + 1 + u + w) (drop (u + w) ops)) (λ d x k. expression (mk a c d) (1 + u + w + x) k))))
        ≡ after (λ q t. complete (view op) 2 at (b ∷ ops) (joined (front 1 left) q) t) (shape s own (at + 1) places x)
    unfolding complete
    ternary-is mk g at left b ops places (expression a u m) h =
        rw (view-behind at m u b ops (leaves_noted s own (at + 1) a places))
        (ternary-second mk g at m u b ops a h places (op m (at + 1 + u) (drop u ops)) (uses m (at + 1 + u) (drop u ops)))
    ternary-is mk g at left b ops places (failed r) h = refl

    const-is : (at left b : ℕ) (ops places : List ℕ) (t : Bool)
        → shape s own at places (cond t (failed (CutShort InFormula at)) (expression (LEAF (CONST (value_at ops 0))) 5 left))
        ≡ headed (view op) 0 left at (b ∷ ops) (end_of (cond t (Err (CutShort InFormula at)) (Ok 5)) places)
    unfolding leaves_noted complete
    const-is at left b ops places true = refl
    const-is at left b ops places false = refl

    var-is : (at left b v : ℕ) (ops places : List ℕ) (t exists : Bool)
        → shape s own at places (cond t (failed (CutShort InFormula at)) (cond exists (expression (LEAF (VAR v)) 2 left) (failed (Value InFormula at))))
        ≡ headed (view op) 0 left at (b ∷ ops)
        (cond t (broken (CutShort InFormula at)) (cond exists (whole 2 (var_noted s own v at places)) (broken (Value InFormula at))))
    unfolding leaves_noted complete
    var-is at left b v ops places true exists = refl
    var-is at left b v ops places false true = refl
    var-is at left b v ops places false false = refl

    count-is : (at left b v : ℕ) (ops places : List ℕ) (t : Bool)
        → shape s own at places (cond t (failed (CutShort InFormula at)) (expression (LEAF (COUNT v)) 2 left))
        ≡ headed (view op) 0 left at (b ∷ ops) (cond t (broken (CutShort InFormula at)) (whole 2 (noted places (state_key v) at)))
    unfolding leaves_noted complete
    count-is at left b v ops places true = refl
    count-is at left b v ops places false = refl

    list-is : (mk : ℕ → Leaf) → Unnoted mk → (at left b v : ℕ) (ops places : List ℕ) (t exists : Bool)
        → shape s own at places (cond t (failed (CutShort InFormula at)) (cond exists (expression (LEAF (mk v)) 2 left) (failed (Value InFormula at))))
        ≡ headed (view op) 0 left at (b ∷ ops)
        (end_of (cond t (Err (CutShort InFormula at)) (cond exists (Ok 2) (Err (Value InFormula at)))) places)
    unfolding complete
    list-is mk g at left b v ops places true exists = refl
    list-is mk g at left b v ops places false true = rw (g s own at v places)
    list-is mk g at left b v ops places false false = refl

    head-is : (left at b : ℕ) (ops places : List ℕ) (o : ExprOpcode) → Ordered o
        → shape s own at places (expr_of op left at ops o) ≡ headed (view op) (operands_of (takes o)) left at (b ∷ ops) (head_of s own at (b ∷ ops) places (takes o))
    unfolding complete
    head-is left at b ops places const-op g = rw (ltb-suc (length ops) 4) (const-is at left b ops places (ltb (length ops) 4))
    head-is left at b ops places var-op g =
        rw (ltb-suc (length ops) 1) (var-is at left b (get_or ops 0 0) ops places (ltb (length ops) 1) (ltb (get_or ops 0 0) 8))
    head-is left at b ops places count-op g = rw (ltb-suc (length ops) 1) (count-is at left b (get_or ops 0 0) ops places (ltb (length ops) 1))
    head-is left at b ops places (list_op mk) g =
        rw (ltb-suc (length ops) 1) (list-is mk g at left b (get_or ops 0 0 - 8) ops places (ltb (length ops) 1) (is_list (get_or ops 0 0)))
    head-is left at b ops places (unary mk) g = unary-is mk g at left places (op left (at + 1) ops)
    head-is left at b ops places (binary mk) g = binary-is mk g at left b ops places (op left (at + 1) ops) (uses left (at + 1) ops)
    head-is left at b ops places (ternary mk) g = ternary-is mk g at left b ops places (op left (at + 1) ops) (uses left (at + 1) ops)
    head-is left at b ops places foreign_op g = refl

  over-is : (at : ℕ) (places : List ℕ) (o : ExprOpcode) → shape s own at places (over_of at o) ≡ broken (over (takes o) at)
  over-is at places const-op = refl
  over-is at places var-op = refl
  over-is at places count-op = refl
  over-is at places (list_op mk) = refl
  over-is at places (unary mk) = refl
  over-is at places (binary mk) = refl
  over-is at places (ternary mk) = refl
  over-is at places foreign_op = refl

  -- operands, each at most one level less deep
  abbrev pub deeper : ℕ → Reader
  deeper depth = view (read_expr (depth - 1))

  -- an expression by what its command takes
  abbrev pub taken-by : ℕ → ℕ → ℕ → List ℕ → List ℕ → Result Takes Refusal → ExprEnd
  taken-by depth left at bs places (Ok t) = headed (deeper depth) (operands_of t) (left - 1) at bs (head_of s own at bs places t)
  taken-by depth left at bs places (Err r) = broken r

  -- an expression is its command and the operands that it takes
  read_is : (d left at : ℕ) (bs places : List ℕ)
      → shape s own at places (read_expr d left at bs) ≡ taken-by d left at bs places (takes_at d left at bs)
  unfolding read_expr expr_with Rattle.formula.specs.Read.over
  read_is zero left at [] places = refl
  read_is zero left at (b ∷ ops) places = rw (suc-eqb (length ops)) (over-is at places (expr_opcode b))
  read_is (suc d) left at [] places = refl
  read_is (suc d) zero at (b ∷ ops) places = rw (suc-eqb (length ops), suc-eqb d) (over-is at places (expr_opcode b))
  read_is (suc d) (suc left) at (b ∷ ops) places =
      let e : suc d - 1 ≡ d = omega arith in
      let f : suc left - 1 ≡ left = omega arith in
      rw (suc-eqb (length ops), suc-eqb d, suc-eqb left, e, f) (head-is (read_expr d) (read-used d) left at b ops places (expr_opcode b) (ordered b))

  -- the same once it is known what the command takes, and what the command comes to
  pub from-takes : (depth left at : ℕ) (bs places : List ℕ) (x : Result Takes Refusal) → x ≡ takes_at depth left at bs
      → taken-by depth left at bs places x ≡ shape s own at places (read_expr depth left at bs)
  from-takes depth left at bs places x e = ap (taken-by depth left at bs places) e ∙ sym (read_is depth left at bs places)

  pub from-head : (depth left at : ℕ) (bs places : List ℕ) (t : Takes) (x : End ℕ) → Ok t ≡ takes_at depth left at bs
      → x ≡ head_of s own at bs places t
      → headed (deeper depth) (operands_of t) (left - 1) at bs x ≡ shape s own at places (read_expr depth left at bs)
  from-head depth left at bs places t x e h =
      ap (headed (deeper depth) (operands_of t) (left - 1) at bs) h ∙ from-takes depth left at bs places (Ok t) e

-- one operand more
pub complete-on : (op : Reader) (n at : ℕ) (bs : List ℕ) (p : Prefix) (places : List ℕ) (x : ExprEnd) → 0 < n
    → x ≡ op p.left (at + p.used) (drop p.used bs) places → complete op n at bs p places ≡ after (λ q t. complete op (n - 1) at bs (joined p q) t) x
unfolding complete
complete-on op zero at bs p places x h e = absurd (omega arith)
complete-on op (suc n) at bs p places x h e = let m : suc n - 1 ≡ n = omega arith in rw (m, e)

-- and none
pub complete-all : (op : Reader) (n at : ℕ) (bs : List ℕ) (p : Prefix) (places : List ℕ) → n ≡ 0 → complete op n at bs p places ≡ whole p places
unfolding complete
complete-all op n at bs p places e = rw e
