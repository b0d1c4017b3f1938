-- "Commands are one byte (hexadecimal here) with operands of fixed width": a formula's commands in file order, and their bytes.
use Rattle.std.specs.Prelude.{ℕ, ◌+◌}
use mathlib.Core.List.{List, [], ◌∷◌, ◌++◌, map, flat_map}
use Rattle.std.proofs.Math.Option.{Option, none, some}
use Rattle.base.specs.Value.{bytes_of}
use Rattle.formula.specs.Formula.{Operator, equal, unequal, less, greater, atmost, atleast}
use Rattle.formula.specs.Formula.{Leaf, CONST, VAR, COUNT, SUM, LENGTH, DIFFERENT, Expr, LEAF, ADD, SUB, LESS, ATMOST, EQUAL, NOT, AND, OR, IF}
use Rattle.formula.specs.Formula.{Clause, TEST, TESTV, BIND, GATHER, Step, StateKind, ordinary, committed, accept, reject, State, Formula}

-- a command of the file but END; a TEST, TESTV, BIND or GATHER is a clause of its STEP
pub data Command : Type 0 where
  TIED : ℕ → Command
  STATE : StateKind → Command
  STEP : ℕ → Command
  CLAUSE : Clause → Command
  GUARD : Expr → Command

-- a step is its STEP, "then TEST, TESTV, BIND in any order", GATHERs among them, then its GUARD if it has one
unfoldable pub guard_commands : Option Expr → List Command
guard_commands none = []
guard_commands (some e) = GUARD e ∷ []

unfoldable pub step_commands : Step → List Command
step_commands t = STEP t.target ∷ (map CLAUSE t.clauses ++ guard_commands t.guard)

-- a state is its STATE and its steps
unfoldable pub state_commands : State → List Command
state_commands s = STATE s.kind ∷ flat_map step_commands s.steps

-- "TIED .. before any STATE", then the states
unfoldable pub commands : Formula → List Command
commands f = map TIED f.tied ++ flat_map state_commands f.states

-- "Operators: 0 equal, 1 unequal, 2 less, 3 greater, 4 at most, 5 at least"
abbrev pub operator_byte : Operator → ℕ
operator_byte equal = 0
operator_byte unequal = 1
operator_byte less = 2
operator_byte greater = 3
operator_byte atmost = 4
operator_byte atleast = 5

-- "kind 0 ordinary, 1 committed, 2 accept, 3 reject"
abbrev pub kind_byte : StateKind → ℕ
kind_byte ordinary = 0
kind_byte committed = 1
kind_byte accept = 2
kind_byte reject = 3

-- "list variables are 8 to 11": how list v is written
abbrev pub list_byte : ℕ → ℕ
list_byte v = 8 + v

-- "20 CONST value, 21 VAR variable, 22 COUNT state", 2C, 2D and 2E, "each has the variable as operand"
abbrev pub encode_leaf : Leaf → List ℕ
encode_leaf (CONST v) = 0x20 ∷ bytes_of v
encode_leaf (VAR v) = 0x21 ∷ v ∷ []
encode_leaf (COUNT s) = 0x22 ∷ s ∷ []
encode_leaf (SUM v) = 0x2C ∷ list_byte v ∷ []
encode_leaf (LENGTH v) = 0x2D ∷ list_byte v ∷ []
encode_leaf (DIFFERENT v) = 0x2E ∷ list_byte v ∷ []

-- "one expression follows in prefix order": a command, then its operands
unfoldable pub encode_expr : Expr → List ℕ
encode_expr (LEAF l) = encode_leaf l
encode_expr (ADD a b) = 0x23 ∷ (encode_expr a ++ encode_expr b)
encode_expr (SUB a b) = 0x24 ∷ (encode_expr a ++ encode_expr b)
encode_expr (LESS a b) = 0x25 ∷ (encode_expr a ++ encode_expr b)
encode_expr (ATMOST a b) = 0x26 ∷ (encode_expr a ++ encode_expr b)
encode_expr (EQUAL a b) = 0x27 ∷ (encode_expr a ++ encode_expr b)
encode_expr (NOT a) = 0x28 ∷ encode_expr a
encode_expr (AND a b) = 0x29 ∷ (encode_expr a ++ encode_expr b)
encode_expr (OR a b) = 0x2A ∷ (encode_expr a ++ encode_expr b)
encode_expr (IF c a b) = 0x2B ∷ (encode_expr c ++ (encode_expr a ++ encode_expr b))

-- "12 TEST field, operator, value; 13 TESTV field, operator, variable; 14 BIND field, variable"; "17 GATHER field, variable"
unfoldable pub encode_clause : Clause → List ℕ
encode_clause (TEST f o v) = 0x12 ∷ f ∷ operator_byte o ∷ bytes_of v
encode_clause (TESTV f o v) = 0x13 ∷ f ∷ operator_byte o ∷ v ∷ []
encode_clause (BIND f v) = 0x14 ∷ f ∷ v ∷ []
encode_clause (GATHER f v) = 0x17 ∷ f ∷ list_byte v ∷ []

-- "16 TIED variable", "10 STATE kind", "11 STEP target", "15 GUARD .. one expression follows"
unfoldable pub encode_command : Command → List ℕ
encode_command (TIED v) = 0x16 ∷ v ∷ []
encode_command (STATE k) = 0x10 ∷ kind_byte k ∷ []
encode_command (STEP t) = 0x11 ∷ t ∷ []
encode_command (CLAUSE c) = encode_clause c
encode_command (GUARD e) = 0x15 ∷ encode_expr e

-- "00 END: the last byte"
unfoldable pub encode : Formula → List ℕ
encode f = flat_map encode_command (commands f) ++ (0x00 ∷ [])
