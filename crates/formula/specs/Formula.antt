-- A formula in abstract syntax: tied variables, states with steps, guards as expressions.
use Rattle.std.specs.Prelude.{ℕ, List}
use Rattle.std.proofs.Math.Option.{Option}

-- "Operators: 0 equal, 1 unequal, 2 less, 3 greater, 4 at most, 5 at least; the field is on the left"
pub data Operator : Type 0 where
  equal unequal less greater atmost atleast : Operator

-- "CONST value, VAR variable, COUNT state" and, of a list, "2C gives its sum .., 2D its length, 2E the number of different values": the expressions that
-- hold no other; a list is named by its number, 0 to 3
pub data Leaf : Type 0 where
  CONST : ℕ → Leaf
  VAR : ℕ → Leaf
  COUNT : ℕ → Leaf
  SUM : ℕ → Leaf
  LENGTH : ℕ → Leaf
  DIFFERENT : ℕ → Leaf

-- "Expressions": a leaf, or one constructor a command, operands in prefix order
pub data Expr : Type 0 where
  LEAF : Leaf → Expr
  ADD : Expr → Expr → Expr
  SUB : Expr → Expr → Expr
  LESS : Expr → Expr → Expr
  ATMOST : Expr → Expr → Expr
  EQUAL : Expr → Expr → Expr
  NOT : Expr → Expr
  AND : Expr → Expr → Expr
  OR : Expr → Expr → Expr
  IF : Expr → Expr → Expr → Expr

-- "TEST field, operator, value; TESTV field, operator, variable; BIND field, variable" and "GATHER field, variable", with its list's number
pub data Clause : Type 0 where
  TEST : ℕ → Operator → ℕ → Clause
  TESTV : ℕ → Operator → ℕ → Clause
  BIND : ℕ → ℕ → Clause
  GATHER : ℕ → ℕ → Clause

-- "STEP target", its tests and binds in their order, and its GUARD if it has one
pub record Step : Type 0 where
  pub target : ℕ
  pub clauses : List Clause
  pub guard : Option Expr

-- "kind 0 ordinary, 1 committed, 2 accept, 3 reject"
pub data StateKind : Type 0 where
  ordinary committed accept reject : StateKind

-- A state's kind and its steps, numbered from 0
pub record State : Type 0 where
  pub kind : StateKind
  pub steps : List Step

-- The operands of the TIED commands, repeats too, and the states, numbered from 0
pub record Formula : Type 0 where
  pub tied : List ℕ
  pub states : List State
