-- What a command is refused with: one of the refusals 1 to 4 and 12, of the formula, at a place in the file or at its end.
use Prim.Native.Nat.{ℕ, zero, suc, ◌+◌, ◌-◌, ◌≤◌}
use mathlib.Core.Path.{◌≡◌, refl, ap, ◌∙◌}
use mathlib.Core.Bool.{Bool, true, cond, ◌&&◌}
use mathlib.Core.List.{List, [], ◌∷◌, ◌++◌}
use native.Mathlib.Omega.{arith}
use borrow.Author.Tests.{ltb-false}
use lib.Dec.{ltb, eqb}
use lib.ListN.{length, get_or, drop, length-append, length-drop}
use Rattle.base.proofs.Tests.{cond-holds}
use Rattle.base.specs.Value.{bytes_of, value_at}
use Rattle.refusal.specs.declared.File.TheVariants.{Formula as InFormula}
use Rattle.refusal.specs.declared.Refusal.{Refusal}
use Rattle.refusal.specs.declared.Refusal.TheVariants.{CutShort, Foreign, Value, Surplus, Twice}
use Rattle.formula.specs.Formula.{Expr, LEAF, TEST, TESTV, BIND, GATHER}
use Rattle.formula.specs.Encode.{Command, TIED, STATE, STEP, CLAUSE, encode_expr}
use Rattle.formula.specs.Encode.{encode_clause, encode_command}
use Rattle.formula.specs.declared.Summary.{Summary}
use Rattle.formula.specs.declared.Opcode.{Opcode}
use Rattle.formula.specs.declared.Opcode.TheVariants.{End as end-op, State as state-op, Step as step_op, Test as test-op, Testv as testv-op}
use Rattle.formula.specs.declared.Opcode.TheVariants.{Bind as bind-op, Guard as guard-op, Tied as tied-op, Gather as gather-op, Other as other-op}
use Rattle.formula.specs.Read.{opcode, allowed, room, operator_of, kind_of, ExprNext, expression}
use Rattle.formula.specs.Read.{failed, ExprOpcode, const-op, var-op, count-op, list_op, unary, binary, ternary, foreign_op, expr_opcode, over_of, over}
use Rattle.formula.specs.Read.{is_list, and_then, expr_of, expr_with, read_expr, Next, command, end, bad, operands, guard_of, operands_of, next}
use Rattle.formula.proofs.Order.{by-gather}

-- a refusal of a command in a file of n bytes
pub data CommandRefusal (n : ℕ) : Refusal → Type 0 where
  cut_short : {p : ℕ} → p ≤ n → CommandRefusal n (CutShort InFormula p)
  foreign : {p : ℕ} → p ≤ n → CommandRefusal n (Foreign InFormula p)
  value : {p : ℕ} → p ≤ n → CommandRefusal n (Value InFormula p)
  surplus : {p : ℕ} → p ≤ n → CommandRefusal n (Surplus InFormula p)
  twice : {p : ℕ} → p ≤ n → CommandRefusal n (Twice p)

-- an expression of a list has two bytes, one with operands one byte more than they have
abbrev OneMore : ExprOpcode → Type 0
OneMore const-op = Unit {0}
OneMore var-op = Unit {0}
OneMore count-op = Unit {0}
OneMore (list_op mk) = (v : ℕ) → length (encode_expr (LEAF (mk v))) ≡ 2
OneMore (unary mk) = (a : Expr) → length (encode_expr (mk a)) ≡ suc (length (encode_expr a))
OneMore (binary mk) = (a b : Expr) → length (encode_expr (mk a b)) ≡ suc (length (encode_expr a) + length (encode_expr b))
OneMore (ternary mk) = (a b c : Expr) → length (encode_expr (mk a b c)) ≡ suc (length (encode_expr a) + (length (encode_expr b) + length (encode_expr c)))
OneMore foreign_op = Unit {0}

two : (a b : Expr) → suc (length (encode_expr a ++ encode_expr b)) ≡ suc (length (encode_expr a) + length (encode_expr b))
two a b = ap suc (length-append (encode_expr a) (encode_expr b))

three : (a b c : Expr)
    → suc (length (encode_expr a ++ (encode_expr b ++ encode_expr c))) ≡ suc (length (encode_expr a) + (length (encode_expr b) + length (encode_expr c)))
three a b c =
    ap suc
    (length-append (encode_expr a) (encode_expr b ++ encode_expr c) ∙ ap (λ k. length (encode_expr a) + k) (length-append (encode_expr b) (encode_expr c)))

one_of : (t : Bool) (x y : ExprOpcode) → OneMore x → OneMore y → OneMore (cond t x y)
one_of t x y h k = cond-holds OneMore t x y (λ e. h) (λ e. k)

one_more : (b : ℕ) → OneMore (expr_opcode b)
unfolding expr_opcode encode_expr
one_more b =
    one_of (eqb b 0x20) _ _ tt
    (one_of (eqb b 0x21) _ _ tt
    (one_of (eqb b 0x22) _ _ tt
    (one_of (eqb b 0x23) _ _ two
    (one_of (eqb b 0x24) _ _ two
    (one_of (eqb b 0x25) _ _ two
    (one_of (eqb b 0x26) _ _ two
    (one_of (eqb b 0x27) _ _ two
    (one_of (eqb b 0x28) _ _ (λ a. refl)
    (one_of (eqb b 0x29) _ _ two
    (one_of (eqb b 0x2A) _ _ two
    (one_of (eqb b 0x2B) _ _ three
    (one_of (eqb b 0x2C) _ _ (λ v. refl) (one_of (eqb b 0x2D) _ _ (λ v. refl) (one_of (eqb b 0x2E) _ _ (λ v. refl) tt))))))))))))))

-- in a file of n bytes, where the bytes bs stand from offset `at` on
module _ (n : ℕ) where
  -- an expression that was read used its own bytes, which stand there; a refusal is one of the file
  abbrev ExprTells : List ℕ → ExprNext → Type 0
  ExprTells bs (expression e u m) = (u ≡ length (encode_expr e)) × (u ≤ length bs)
  ExprTells bs (failed r) = CommandRefusal n r

  abbrev Telling : (ℕ → ℕ → List ℕ → ExprNext) → Type 0
  Telling op = (left at : ℕ) (bs : List ℕ) → at + length bs ≡ n → ExprTells bs (op left at bs)

  then-tells : (bs cs : List ℕ) (x : ExprNext) (k : Expr → ℕ → ℕ → ExprNext) → ExprTells bs x
      → ((e : Expr) (u m : ℕ) → u ≡ length (encode_expr e) → u ≤ length bs → ExprTells cs (k e u m)) → ExprTells cs (and_then x k)
  then-tells bs cs (expression e u m) k h f = f e u m h.0 h.1
  then-tells bs cs (failed r) k h f = h

  over-tells : (at : ℕ) (bs : List ℕ) → at ≤ n → ExprTells bs (over at bs)
  unfolding over
  over-tells at [] h = cut_short h
  over-tells at (b ∷ ops) h = go (expr_opcode b)
    where
      go : (w : ExprOpcode) → ExprTells (b ∷ ops) (over_of at w)
      go const-op = surplus h
      go var-op = surplus h
      go count-op = surplus h
      go (list_op mk) = surplus h
      go (unary mk) = surplus h
      go (binary mk) = surplus h
      go (ternary mk) = surplus h
      go foreign_op = foreign h

  module _ (op : ℕ → ℕ → List ℕ → ExprNext) (tells : Telling op) (left at b : ℕ) (ops : List ℕ) (here : at + suc (length ops) ≡ n) where
    -- a command without operands that are expressions, of `width` bytes behind its own
    leaf-tells : (width : ℕ) (x : ExprNext) → (width ≤ length ops → ExprTells (b ∷ ops) x)
        → ExprTells (b ∷ ops) (cond (ltb (length ops) width) (failed (CutShort InFormula at)) x)
    leaf-tells width x f =
        cond-holds (ExprTells (b ∷ ops)) (ltb (length ops) width) _ _ (λ t. cut_short {p = at} (omega arith))
        (λ t. f (ltb-false (length ops) width t))

    of-tells : (w : ExprOpcode) → OneMore w → ExprTells (b ∷ ops) (expr_of op left at ops w)
    unfolding encode_expr bytes_of
    of-tells const-op g = leaf-tells 4 _ (λ k. (refl, omega arith))
    of-tells var-op g =
        leaf-tells 1 _
        (λ k. cond-holds (ExprTells (b ∷ ops)) (ltb (get_or ops 0 0) 8) _ _ (λ t. (refl, omega arith)) (λ t. value {p = at} (omega arith)))
    of-tells count-op g = leaf-tells 1 _ (λ k. (refl, omega arith))
    of-tells (list_op mk) g =
        leaf-tells 1 _
        (λ k.
        cond-holds (ExprTells (b ∷ ops)) (is_list (get_or ops 0 0)) _ _ (λ t. (omega (arith, g (get_or ops 0 0 - 8)), omega arith))
        (λ t. value {p = at} (omega arith)))
    of-tells (unary mk) g =
        then-tells ops (b ∷ ops) (op left (at + 1) ops) _ (tells left (at + 1) ops (omega arith)) (λ a u m e i. (omega (arith, g a), omega arith))
    of-tells (binary mk) g =
        then-tells ops (b ∷ ops) (op left (at + 1) ops) _ (tells left (at + 1) ops (omega arith))
        (λ a u m e i.
        let s = drop u ops in
        let k = length-drop u ops in
        then-tells s (b ∷ ops) (op m (at + 1 + u) s) _ (tells m (at + 1 + u) s (omega arith)) (λ c w j e' i'. (omega (arith, g a c), omega arith)))
    of-tells (ternary mk) g =
        then-tells ops (b ∷ ops) (op left (at + 1) ops) _ (tells left (at + 1) ops (omega arith))
        (λ a u m e i.
        let s = drop u ops in
        let k = length-drop u ops in
        then-tells s (b ∷ ops) (op m (at + 1 + u) s) _ (tells m (at + 1 + u) s (omega arith))
        (λ c w j e' i'.
        let t = drop (u + w) ops in
        let k' = length-drop (u + w) ops in
        then-tells t (b ∷ ops) (op j (at + 1 + u + w) t) _ (tells j (at + 1 + u + w) t (omega arith)) (λ d x y e'' i''. (omega (arith, g a c d), omega arith))))
    of-tells foreign_op g = foreign {p = at} (omega arith)

  expr-tells : (d : ℕ) → Telling (read_expr d)
  unfolding read_expr expr_with
  expr-tells zero left at bs h = over-tells at bs (omega arith)
  expr-tells (suc d) left at [] h = cut_short {p = at} (omega arith)
  expr-tells (suc d) zero at (b ∷ ops) h = over-tells at (b ∷ ops) (omega arith)
  expr-tells (suc d) (suc left) at (b ∷ ops) h = of-tells (read_expr d) (expr-tells d) left at b ops h (expr_opcode b) (one_more b)

  -- a command that was taken used its own bytes, which stand there, and END its one; a refusal is one of the file
  abbrev pub Tells : List ℕ → Next → Type 0
  Tells bs (command c u) = (u ≡ length (encode_command c)) × (u ≤ length bs)
  Tells bs end = 1 ≤ length bs
  Tells bs (bad r) = CommandRefusal n r

  guard_tells : (b : ℕ) (ops : List ℕ) (x : ExprNext) → ExprTells ops x → Tells (b ∷ ops) (guard_of x)
  unfolding encode_command
  guard_tells b ops (expression e u m) h = (omega (arith, h.0), omega (arith, h.1))
  guard_tells b ops (failed r) h = h

  module _ (fields : ℕ) (seen : List Bool) (at b : ℕ) (ops : List ℕ) (here : at + suc (length ops) ≡ n) where
    operands-tell : (width : ℕ) (exist : Bool) (c : Command) → 1 + width ≡ length (encode_command c) → Tells (b ∷ ops) (operands at ops width exist c)
    operands-tell width exist c e =
        cond-holds (Tells (b ∷ ops)) (ltb (length ops) width) _ _ (λ t. cut_short {p = at} (omega arith))
        (λ t. cond-holds (Tells (b ∷ ops)) exist _ _ (λ s. (e, omega (arith, ltb-false (length ops) width t))) (λ s. value {p = at} (omega arith)))

    opcode-tells : (w : Opcode) → Tells (b ∷ ops) (operands_of fields seen at ops w)
    unfolding encode_command encode_clause bytes_of
    opcode-tells end-op = omega arith
    opcode-tells state-op = operands-tell 1 (ltb (get_or ops 0 0) 4) (STATE (kind_of (get_or ops 0 0))) refl
    opcode-tells step_op = operands-tell 1 true (STEP (get_or ops 0 0)) refl
    opcode-tells test-op =
        operands-tell 6 (ltb (get_or ops 0 0) fields && ltb (get_or ops 1 0) 6) (CLAUSE (TEST (get_or ops 0 0) (operator_of (get_or ops 1 0)) (value_at ops 2)))
        refl
    opcode-tells testv-op =
        operands-tell 3 (ltb (get_or ops 0 0) fields && ltb (get_or ops 1 0) 6 && ltb (get_or ops 2 0) 8)
        (CLAUSE (TESTV (get_or ops 0 0) (operator_of (get_or ops 1 0)) (get_or ops 2 0))) refl
    opcode-tells bind-op = operands-tell 2 (ltb (get_or ops 0 0) fields && ltb (get_or ops 1 0) 8) (CLAUSE (BIND (get_or ops 0 0) (get_or ops 1 0))) refl
    opcode-tells guard-op = guard_tells b ops (read_expr 8 31 (at + 1) ops) (expr-tells 8 31 (at + 1) ops (omega arith))
    opcode-tells tied-op = operands-tell 1 (ltb (get_or ops 0 0) 8) (TIED (get_or ops 0 0)) refl
    opcode-tells gather-op =
        by-gather fields seen at ops (Tells (b ∷ ops)) (cut_short {p = at} (omega arith)) (twice {p = at} (omega arith))
        (λ k. operands-tell 2 (ltb (get_or ops 0 0) fields && is_list (get_or ops 1 0)) (CLAUSE (GATHER (get_or ops 0 0) (get_or ops 1 0 - 8))) refl)
    opcode-tells other-op = foreign {p = at} (omega arith)

  pub next-tells : (fields : ℕ) (s : Summary) (at : ℕ) (bs : List ℕ) → at + length bs ≡ n → Tells bs (next fields s at bs)
  unfolding next
  next-tells fields s at [] h = cut_short {p = at} (omega arith)
  next-tells fields s at (b ∷ ops) h =
      cond-holds (Tells (b ∷ ops)) (allowed s (opcode b)) _ _
      (λ a. cond-holds (Tells (b ∷ ops)) (room s (opcode b)) _ _ (λ r. opcode-tells fields s.gathered at b ops h (opcode b))
      (λ r. surplus {p = at} (omega arith)))
      (λ a. foreign {p = at} (omega arith))
