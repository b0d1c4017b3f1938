-- Correct formulas, in the paper's words: its counts and depths, what exists, no absent state, no dead start, nothing unbound.
use Rattle.std.specs.Prelude.{ℕ, suc, ◌+◌, ◌<◌, ◌≤◌, max, ◌≡◌, Bool, true, false, List, [], ◌∷◌, length, get_or, set, replicate}
use Rattle.std.proofs.Math.Option.{Option, none, some}
use Rattle.base.specs.Lists.{All}
use Rattle.formula.specs.Formula.{Leaf, CONST, VAR, COUNT, SUM, LENGTH, DIFFERENT, Expr, LEAF, ADD, SUB, LESS, ATMOST, EQUAL, NOT, AND, OR, IF}
use Rattle.formula.specs.Formula.{Clause, TEST, TESTV, BIND, GATHER, Step, StateKind, ordinary, committed, accept, reject, State, Formula}
use Rattle.formula.specs.Encode.{Command, TIED, STATE, STEP, CLAUSE, GUARD, commands}
use Rattle.formula.specs.Unbound.{binds, Unbound}

-- "At most 31 commands": the commands of an expression
unfoldable pub size : Expr → ℕ
size (LEAF l) = 1
size (ADD a b) = suc (size a + size b)
size (SUB a b) = suc (size a + size b)
size (LESS a b) = suc (size a + size b)
size (ATMOST a b) = suc (size a + size b)
size (EQUAL a b) = suc (size a + size b)
size (NOT a) = suc (size a)
size (AND a b) = suc (size a + size b)
size (OR a b) = suc (size a + size b)
size (IF c a b) = suc (size c + (size a + size b))

-- "nested at most 8 deep, the outermost being depth 1"
unfoldable pub depth : Expr → ℕ
depth (LEAF l) = 1
depth (ADD a b) = suc (max (depth a) (depth b))
depth (SUB a b) = suc (max (depth a) (depth b))
depth (LESS a b) = suc (max (depth a) (depth b))
depth (ATMOST a b) = suc (max (depth a) (depth b))
depth (EQUAL a b) = suc (max (depth a) (depth b))
depth (NOT a) = suc (depth a)
depth (AND a b) = suc (max (depth a) (depth b))
depth (OR a b) = suc (max (depth a) (depth b))
depth (IF c a b) = suc (max (depth c) (max (depth a) (depth b)))

-- every leaf of the expression has the property
abbrev pub Leaves : (Leaf → Type 0) → Expr → Type 0
Leaves P (LEAF l) = P l
Leaves P (ADD a b) = Leaves P a × Leaves P b
Leaves P (SUB a b) = Leaves P a × Leaves P b
Leaves P (LESS a b) = Leaves P a × Leaves P b
Leaves P (ATMOST a b) = Leaves P a × Leaves P b
Leaves P (EQUAL a b) = Leaves P a × Leaves P b
Leaves P (NOT a) = Leaves P a
Leaves P (AND a b) = Leaves P a × Leaves P b
Leaves P (OR a b) = Leaves P a × Leaves P b
Leaves P (IF c a b) = Leaves P c × Leaves P a × Leaves P b

-- "accept or reject"
abbrev pub is_final : StateKind → Bool
is_final ordinary = false
is_final committed = false
is_final accept = true
is_final reject = true

-- "Variables are 0 to 7"
abbrev pub Variable : ℕ → Type 0
Variable v = v < 8

-- "list variables are 8 to 11": the lists are 0 to 3
abbrev pub ListVariable : ℕ → Type 0
ListVariable v = v < 4

-- "Values are .. 0 to 4294967295"
abbrev pub Value : ℕ → Type 0
Value v = v < 4294967296

-- the leaf's value, variable or list exists
abbrev pub LeafExists : Leaf → Type 0
LeafExists (CONST v) = Value v
LeafExists (VAR v) = Variable v
LeafExists (COUNT s) = Unit {0}
LeafExists (SUM v) = ListVariable v
LeafExists (LENGTH v) = ListVariable v
LeafExists (DIFFERENT v) = ListVariable v

-- 3 "is left for all other operands": the command's field, variable, value and list exist, given the number of fields, whatever state it names
abbrev pub Exists : ℕ → Command → Type 0
Exists fields (TIED v) = Variable v
Exists fields (STATE k) = Unit {0}
Exists fields (STEP t) = Unit {0}
Exists fields (CLAUSE (TEST f o v)) = (f < fields) × Value v
Exists fields (CLAUSE (TESTV f o v)) = (f < fields) × Variable v
Exists fields (CLAUSE (BIND f v)) = (f < fields) × Variable v
Exists fields (CLAUSE (GATHER f v)) = (f < fields) × ListVariable v
Exists fields (GUARD e) = Leaves LeafExists e

-- the state that a leaf, or a command, names is one of so many declared
abbrev pub LeafDeclared : ℕ → Leaf → Type 0
LeafDeclared states (CONST x) = Unit {0}
LeafDeclared states (VAR v) = Unit {0}
LeafDeclared states (COUNT s) = s < states
LeafDeclared states (SUM v) = Unit {0}
LeafDeclared states (LENGTH v) = Unit {0}
LeafDeclared states (DIFFERENT v) = Unit {0}

abbrev pub Declared : ℕ → Command → Type 0
Declared states (TIED v) = Unit {0}
Declared states (STATE k) = Unit {0}
Declared states (STEP t) = t < states
Declared states (CLAUSE c) = Unit {0}
Declared states (GUARD e) = Leaves (LeafDeclared states) e

-- "At most 31 commands, nested at most 8 deep"
abbrev pub GuardFits : Option Expr → Type 0
GuardFits none = Unit {0}
GuardFits (some e) = (size e ≤ 31) × (depth e ≤ 8)

-- the lists marked do not have that of the clause, if it is a GATHER; and the marks with it
abbrev pub Fresh : List Bool → Clause → Type 0
Fresh seen (TEST f o x) = Unit {0}
Fresh seen (TESTV f o v) = Unit {0}
Fresh seen (BIND f v) = Unit {0}
Fresh seen (GATHER f v) = get_or seen v false ≡ false

abbrev pub seen_with : List Bool → Clause → List Bool
seen_with seen (TEST f o x) = seen
seen_with seen (TESTV f o v) = seen
seen_with seen (BIND f v) = seen
seen_with seen (GATHER f v) = set seen v true

-- not "one STEP gathers a variable a second time": no GATHER's list is marked, or gathered into by one before it
abbrev pub Once : List Bool → List Clause → Type 0
Once seen [] = Unit {0}
Once seen (k ∷ ks) = Fresh seen k × Once (seen_with seen k) ks

-- "At most 8 of these a STEP", GATHERs "counted with them"
pub record StepFits (t : Step) : Type 0 where
  pub clauses : length t.clauses ≤ 8
  pub once : Once (replicate 4 false) t.clauses
  pub guard : GuardFits t.guard

-- "STEP .. at most 8 a state; in accept or reject it is foreign"
pub record StateFits (s : State) : Type 0 where
  pub steps : length s.steps ≤ 8
  pub closed : is_final s.kind ≡ true → s.steps ≡ []
  pub each : All StepFits s.steps

-- "unbound at a TESTV": no clause of state s is a TESTV of an unbound variable
abbrev pub ClauseBound : Formula → ℕ → Clause → Type 0
ClauseBound f s (TEST g o x) = Unit {0}
ClauseBound f s (TESTV g o v) = ¬ Unbound f v s
ClauseBound f s (BIND g v) = Unit {0}
ClauseBound f s (GATHER g v) = Unit {0}

-- "At a VAR the step's own BINDs count too": no leaf of a guard in state s, behind the clauses own, is a VAR of an unbound variable
abbrev pub LeafBound : Formula → ℕ → List Clause → Leaf → Type 0
LeafBound f s own (CONST x) = Unit {0}
LeafBound f s own (VAR v) = binds v own ≡ false → ¬ Unbound f v s
LeafBound f s own (COUNT t) = Unit {0}
LeafBound f s own (SUM v) = Unit {0}
LeafBound f s own (LENGTH v) = Unit {0}
LeafBound f s own (DIFFERENT v) = Unit {0}

-- no leaf of the guard is unbound
abbrev pub GuardBound : Formula → ℕ → List Clause → Option Expr → Type 0
GuardBound f s own none = Unit {0}
GuardBound f s own (some e) = Leaves (LeafBound f s own) e

-- no TESTV and no VAR of the step, which stands in state s, is unbound
pub record StepBound (f : Formula) (s : ℕ) (t : Step) : Type 0 where
  pub clauses : All (ClauseBound f s) t.clauses
  pub guard : GuardBound f s t.clauses t.guard

-- the same of every step of the states, numbered from s on
abbrev pub AllBound : Formula → ℕ → List State → Type 0
AllBound f s [] = Unit {0}
AllBound f s (x ∷ xs) = All (StepBound f s) x.steps × AllBound f (suc s) xs

-- "state 0 accepts or rejects"
abbrev pub dead_start : List State → Bool
dead_start [] = false
dead_start (x ∷ xs) = is_final x.kind

-- well formed up to END, for a log with so many fields: nothing that 1 to 4 and 12 are told for
pub record WellFormed (fields : ℕ) (f : Formula) : Type 0 where
  -- "TIED variable: up to 8 times"
  pub tied : length f.tied ≤ 8
  -- "1 to 16 states"
  pub nonempty : 1 ≤ length f.states
  pub states : length f.states ≤ 16
  pub each : All StateFits f.states
  -- no "kind, operator, field, variable .. does not exist"
  pub values : All (Exists fields) (commands f)

-- a correct formula for a log with so many fields
pub record Correct (fields : ℕ) (f : Formula) : Type 0 where
  pub formed : WellFormed fields f
  -- no "STEP or COUNT naming a state that the file doesn't declare"
  pub named : All (Declared (length f.states)) (commands f)
  -- not "state 0 accepts or rejects"
  pub start : dead_start f.states ≡ false
  -- nothing unbound
  pub bound : AllBound f 0 f.states
