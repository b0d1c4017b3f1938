-- "Rising and falling are worked out on the expression, each from the other", and when a step is expired (the paper's hopeless).
use Rattle.std.specs.Prelude.{ℕ, Bool, true, false, not, ◌&&◌, ◌||◌, cond, List, [], ◌∷◌, get_or, ltb, leb, eqb}
use Rattle.std.proofs.Math.Option.{Option, none, some}
use Rattle.event_log.specs.Log.{Kind, plain, rising as rising_field, Values, present, field}
use Rattle.formula.specs.Formula.{Operator, equal, unequal, less, greater, atmost, atleast, Clause, TEST, TESTV, BIND, GATHER, Step}
use Rattle.formula.specs.Formula.{Leaf, CONST, VAR, COUNT, SUM, LENGTH, DIFFERENT, Expr, LEAF, ADD, SUB, LESS, ATMOST, EQUAL, NOT, AND, OR, IF}
use Rattle.machine.specs.Configuration.{Config}
use Rattle.machine.specs.Guard.{guard_holds}
use Rattle.machine.specs.Firing.{value_of, is_held, leave}

-- "Kind 0 is plain, 1 is rising"
abbrev pub is_rising : Kind → Bool
is_rising plain = false
is_rising rising_field = true

-- field f is rising; the fields' kinds are given
abbrev pub rises : List Kind → ℕ → Bool
rises fields f = is_rising (get_or fields f plain)

-- the field of the step's first BIND of v
abbrev pub first_bind : List Clause → ℕ → Option ℕ
first_bind [] v = none
first_bind (TEST f o x ∷ ks) v = first_bind ks v
first_bind (TESTV f o u ∷ ks) v = first_bind ks v
first_bind (BIND f u ∷ ks) v = cond (eqb u v) (some f) (first_bind ks v)
first_bind (GATHER f u ∷ ks) v = first_bind ks v

abbrev pub field_rises : List Kind → Option ℕ → Bool
field_rises fields none = false
field_rises fields (some f) = rises fields f

-- the step gathers into list v
abbrev pub gathers : List Clause → ℕ → Bool
gathers [] v = false
gathers (TEST f o x ∷ ks) v = gathers ks v
gathers (TESTV f o u ∷ ks) v = gathers ks v
gathers (BIND f u ∷ ks) v = gathers ks v
gathers (GATHER f u ∷ ks) v = eqb u v || gathers ks v

-- every field that the step gathers into list v is rising; so too where it gathers none
abbrev pub gathers_rising : List Kind → List Clause → ℕ → Bool
gathers_rising fields [] v = true
gathers_rising fields (TEST f o x ∷ ks) v = gathers_rising fields ks v
gathers_rising fields (TESTV f o u ∷ ks) v = gathers_rising fields ks v
gathers_rising fields (BIND f u ∷ ks) v = gathers_rising fields ks v
gathers_rising fields (GATHER f u ∷ ks) v = cond (eqb u v) (rises fields f) true && gathers_rising fields ks v

-- "constants, counters and held variables are both; a variable not held is rising if its first BIND is of a rising field,
-- else neither"; "a sum is rising where the step gathers a rising field into it, both where it gathers none, neither where it gathers a plain one; a length
-- is both; the number of different values is both where the step gathers none, otherwise neither": in configuration c, at a step with these clauses
abbrev pub leaf_rises : List Kind → Config → List Clause → Leaf → Bool
leaf_rises fields c ks (CONST x) = true
leaf_rises fields c ks (VAR v) = is_held c v || field_rises fields (first_bind ks v)
leaf_rises fields c ks (COUNT s) = true
leaf_rises fields c ks (SUM v) = gathers_rising fields ks v
leaf_rises fields c ks (LENGTH v) = true
leaf_rises fields c ks (DIFFERENT v) = not (gathers ks v)

abbrev pub leaf_falls : List Kind → Config → List Clause → Leaf → Bool
leaf_falls fields c ks (CONST x) = true
leaf_falls fields c ks (VAR v) = is_held c v
leaf_falls fields c ks (COUNT s) = true
leaf_falls fields c ks (SUM v) = not (gathers ks v)
leaf_falls fields c ks (LENGTH v) = true
leaf_falls fields c ks (DIFFERENT v) = not (gathers ks v)

unfoldable mutual
  pub rising : List Kind → Config → List Clause → Expr → Bool
  rising fields c ks (LEAF l) = leaf_rises fields c ks l
  -- "ADD, AND, OR keep what both operands are"
  rising fields c ks (ADD a b) = rising fields c ks a && rising fields c ks b
  -- "SUB is rising if the first operand is rising and the second falling, and falling if the reverse"
  rising fields c ks (SUB a b) = rising fields c ks a && falling fields c ks b
  -- "LESS and ATMOST are rising if the first is falling and the second rising, and falling if the reverse"
  rising fields c ks (LESS a b) = falling fields c ks a && rising fields c ks b
  rising fields c ks (ATMOST a b) = falling fields c ks a && rising fields c ks b
  -- "EQUAL is both if both operands are both, else neither"
  rising fields c ks (EQUAL a b) = (rising fields c ks a && falling fields c ks a) && (rising fields c ks b && falling fields c ks b)
  -- "NOT exchanges them"
  rising fields c ks (NOT a) = falling fields c ks a
  rising fields c ks (AND a b) = rising fields c ks a && rising fields c ks b
  rising fields c ks (OR a b) = rising fields c ks a && rising fields c ks b
  -- "IF needs its condition to be both, then keeps what both branches are"
  rising fields c ks (IF a b d) = (rising fields c ks a && falling fields c ks a) && (rising fields c ks b && rising fields c ks d)

  pub falling : List Kind → Config → List Clause → Expr → Bool
  falling fields c ks (LEAF l) = leaf_falls fields c ks l
  falling fields c ks (ADD a b) = falling fields c ks a && falling fields c ks b
  falling fields c ks (SUB a b) = falling fields c ks a && rising fields c ks b
  falling fields c ks (LESS a b) = rising fields c ks a && falling fields c ks b
  falling fields c ks (ATMOST a b) = rising fields c ks a && falling fields c ks b
  falling fields c ks (EQUAL a b) = (rising fields c ks a && falling fields c ks a) && (rising fields c ks b && falling fields c ks b)
  falling fields c ks (NOT a) = rising fields c ks a
  falling fields c ks (AND a b) = falling fields c ks a && falling fields c ks b
  falling fields c ks (OR a b) = falling fields c ks a && falling fields c ks b
  falling fields c ks (IF a b d) = (rising fields c ks a && falling fields c ks a) && (falling fields c ks b && falling fields c ks d)

-- a test with less or at most that is false
abbrev pub missed : Operator → ℕ → ℕ → Bool
missed equal x y = false
missed unequal x y = false
missed less x y = not (ltb x y)
missed greater x y = false
missed atmost x y = not (leb x y)
missed atleast x y = false

-- "a TEST or TESTV with less or at most on a rising field is false on n": x has the values by which the step is judged, "the last present value up to n;
-- where a field has none, a test of it .. doesn't make the step hopeless"
abbrev pub past_due : List Kind → Config → Values → Clause → Bool
past_due fields c x (TEST f o y) = rises fields f && (present x f && missed o (field x f) y)
past_due fields c x (TESTV f o v) = rises fields f && (present x f && missed o (field x f) (value_of c v))
past_due fields c x (BIND f v) = false
past_due fields c x (GATHER f v) = false

abbrev pub any_past_due : List Kind → Config → Values → List Clause → Bool
any_past_due fields c x [] = false
any_past_due fields c x (k ∷ ks) = past_due fields c x k || any_past_due fields c x ks

-- the guard is falling; a step without a guard has none that falls
abbrev pub guard_falls : List Kind → Config → List Clause → Option Expr → Bool
guard_falls fields c ks none = false
guard_falls fields c ks (some g) = falling fields c ks g

-- the field of a BIND has a value; where the step does not bind the variable it takes none
abbrev pub arrived : Values → Option ℕ → Bool
arrived x none = true
arrived x (some f) = present x f

-- every field that the step gathers into list v has a value
abbrev pub gathers_known : Values → List Clause → ℕ → Bool
gathers_known x [] v = true
gathers_known x (TEST f o y ∷ ks) v = gathers_known x ks v
gathers_known x (TESTV f o u ∷ ks) v = gathers_known x ks v
gathers_known x (BIND f u ∷ ks) v = gathers_known x ks v
gathers_known x (GATHER f u ∷ ks) v = cond (eqb u v) (present x f) true && gathers_known x ks v

-- "a guard naming a variable or sum that would take its value, doesn't make the step hopeless; a length counts the value all the same": a leaf takes no
-- value that never arrived
abbrev pub leaf_known : Config → List Clause → Values → Leaf → Bool
leaf_known c ks x (CONST y) = true
leaf_known c ks x (VAR v) = is_held c v || arrived x (first_bind ks v)
leaf_known c ks x (COUNT s) = true
leaf_known c ks x (SUM v) = gathers_known x ks v
leaf_known c ks x (LENGTH v) = true
leaf_known c ks x (DIFFERENT v) = true

-- nor does any leaf of an expression, whatever its command, and of both branches of an IF
unfoldable pub known : Config → List Clause → Values → Expr → Bool
known c ks x (LEAF l) = leaf_known c ks x l
known c ks x (ADD a b) = known c ks x a && known c ks x b
known c ks x (SUB a b) = known c ks x a && known c ks x b
known c ks x (LESS a b) = known c ks x a && known c ks x b
known c ks x (ATMOST a b) = known c ks x a && known c ks x b
known c ks x (EQUAL a b) = known c ks x a && known c ks x b
known c ks x (NOT a) = known c ks x a
known c ks x (AND a b) = known c ks x a && known c ks x b
known c ks x (OR a b) = known c ks x a && known c ks x b
known c ks x (IF a b d) = known c ks x a && (known c ks x b && known c ks x d)

abbrev pub guard_known : Config → List Clause → Values → Option Expr → Bool
guard_known c ks x none = true
guard_known c ks x (some g) = known c ks x g

-- "A step is hopeless after event n if a TEST or TESTV with less or at most on a rising field is false on n, or its guard is
-- falling and is 0 with held values and, for variables not held, the field of the step's first BIND of it on n. Counters in
-- that guard include the step's own"; "its lists include the values it would gather there": the values, counters and lists of the configuration that the
-- step would leave
unfoldable pub expired : List Kind → Config → Step → Values → Bool
expired fields c s x =
    any_past_due fields c x s.clauses
    || (guard_falls fields c s.clauses s.guard && (guard_known c s.clauses x s.guard && not (guard_holds (leave c s x) s.guard)))
