-- Reading never runs out of fuel: every command takes a byte, so that any fuel above the file's length gives the same answer.
use Prim.Native.Nat.{ℕ, zero, suc, ◌+◌, ◌-◌, ◌<◌, ◌≤◌}
use mathlib.Core.Path.{◌≡◌, refl}
use mathlib.Core.Bool.{Bool, true, ◌&&◌}
use mathlib.Core.List.{List, [], ◌∷◌, ◌++◌}
use native.Mathlib.Omega.{arith}
use native.Mathlib.Nat.{not-suc-le-zero}
use lib.Dec.{ltb}
use lib.ListN.{length, get_or, drop, length-drop}
use Rattle.base.specs.Value.{value_at}
use Rattle.formula.specs.Formula.{TEST, TESTV, BIND, GATHER}
use Rattle.formula.specs.Encode.{Command, TIED, STATE, STEP, CLAUSE}
use Rattle.formula.specs.declared.Summary.{Summary}
use Rattle.formula.specs.declared.Opcode.{Opcode}
use Rattle.formula.specs.declared.Opcode.TheVariants.{End as end-op, State as state-op, Step as step_op, Test as test-op, Testv as testv-op}
use Rattle.formula.specs.declared.Opcode.TheVariants.{Bind as bind-op, Guard as guard-op, Tied as tied-op, Gather as gather-op, Other as other-op}
use Rattle.formula.specs.Read.{Reading, start, advance, opcode, operator_of, kind_of, ExprNext, expression, failed, read_expr, Next, command, end}
use Rattle.formula.specs.Read.{bad, is_list, operands, guard_of, operands_of, next, follow, read_from, read_formula}
use Rattle.formula.proofs.Order.{by_order, by-operands, by-gather}

-- a command takes at least a byte
abbrev pub Proceeds : Next → Type 0
Proceeds (command c u) = 1 ≤ u
Proceeds end = Unit {0}
Proceeds (bad r) = Unit {0}

operands-proceed : (at : ℕ) (ops : List ℕ) (width : ℕ) (exist : Bool) (c : Command) → Proceeds (operands at ops width exist c)
operands-proceed at ops width exist c = by-operands at ops width exist c Proceeds tt tt (λ k e. omega arith)

guard-proceeds : (x : ExprNext) → Proceeds (guard_of x)
guard-proceeds (expression e u m) = omega arith
guard-proceeds (failed r) = tt

op-proceeds : (fields : ℕ) (seen : List Bool) (at : ℕ) (ops : List ℕ) (w : Opcode) → Proceeds (operands_of fields seen at ops w)
op-proceeds fields seen at ops end-op = tt
op-proceeds fields seen at ops state-op = operands-proceed at ops 1 (ltb (get_or ops 0 0) 4) (STATE (kind_of (get_or ops 0 0)))
op-proceeds fields seen at ops step_op = operands-proceed at ops 1 true (STEP (get_or ops 0 0))
op-proceeds fields seen at ops test-op =
    operands-proceed at ops 6 (ltb (get_or ops 0 0) fields && ltb (get_or ops 1 0) 6)
    (CLAUSE (TEST (get_or ops 0 0) (operator_of (get_or ops 1 0)) (value_at ops 2)))
op-proceeds fields seen at ops testv-op =
    operands-proceed at ops 3 (ltb (get_or ops 0 0) fields && ltb (get_or ops 1 0) 6 && ltb (get_or ops 2 0) 8)
    (CLAUSE (TESTV (get_or ops 0 0) (operator_of (get_or ops 1 0)) (get_or ops 2 0)))
op-proceeds fields seen at ops bind-op =
    operands-proceed at ops 2 (ltb (get_or ops 0 0) fields && ltb (get_or ops 1 0) 8) (CLAUSE (BIND (get_or ops 0 0) (get_or ops 1 0)))
op-proceeds fields seen at ops guard-op = guard-proceeds (read_expr 8 31 (at + 1) ops)
op-proceeds fields seen at ops tied-op = operands-proceed at ops 1 (ltb (get_or ops 0 0) 8) (TIED (get_or ops 0 0))
op-proceeds fields seen at ops gather-op =
    by-gather fields seen at ops Proceeds tt tt
    (λ n. operands-proceed at ops 2 (ltb (get_or ops 0 0) fields && is_list (get_or ops 1 0)) (CLAUSE (GATHER (get_or ops 0 0) (get_or ops 1 0 - 8))))
op-proceeds fields seen at ops other-op = tt

pub next-proceeds : (fields : ℕ) (s : Summary) (at b : ℕ) (ops : List ℕ) → Proceeds (next fields s at (b ∷ ops))
next-proceeds fields s at b ops = by_order fields s at b ops Proceeds tt tt (λ a r. op-proceeds fields s.gathered at ops (opcode b))

-- two readers of the rest that agree on shorter files go on alike
follow-same : (p q : Summary → List Command → ℕ → List ℕ → Reading) (s : Summary) (cs : List Command) (at b : ℕ) (ops : List ℕ)
    → ((t : Summary) (ds : List Command) (k : ℕ) (r : List ℕ) → length r ≤ length ops → p t ds k r ≡ q t ds k r) → (x : Next) → Proceeds x
    → follow p s cs at (b ∷ ops) x ≡ follow q s cs at (b ∷ ops) x
follow-same p q s cs at b ops h (command c u) k =
    let l = length-drop u (b ∷ ops) in
    h (advance s c) (cs ++ (c ∷ [])) (at + u) (drop u (b ∷ ops)) (omega arith)
follow-same p q s cs at b ops h end k = refl
follow-same p q s cs at b ops h (bad r) k = refl

from-same : (n m fields : ℕ) (s : Summary) (cs : List Command) (at : ℕ) (rest : List ℕ) → length rest < n → length rest < m
    → read_from n fields s cs at rest ≡ read_from m fields s cs at rest
unfolding read_from next
from-same zero m fields s cs at rest h k = absurd (not-suc-le-zero h)
from-same (suc n) zero fields s cs at rest h k = absurd (not-suc-le-zero k)
from-same (suc n) (suc m) fields s cs at [] h k = refl
from-same (suc n) (suc m) fields s cs at (b ∷ ops) h k =
    follow-same (read_from n fields) (read_from m fields) s cs at b ops (λ t ds i r l. from-same n m fields t ds i r (omega arith) (omega arith))
    (next fields s at (b ∷ ops)) (next-proceeds fields s at b ops)

-- any fuel above the length reads the same
pub fuel-enough : (fields : ℕ) (l : List ℕ) (n : ℕ) → length l < n → read_formula fields l ≡ read_from n fields start [] 0 l
unfolding read_formula
fuel-enough fields l n h = from-same (suc (length l)) n fields start [] 0 l (omega arith) h
