-- An expression as its reader sees it, bytes alone: the front of it that was read, and what is missing.
use Rattle.std.specs.Prelude.{ℕ, ◌+◌, Bool, cond, List, ltb, eqb, length, get_or, Result, Ok, Err}
use Rattle.refusal.specs.declared.File.TheVariants.{Formula as InFormula}
use Rattle.refusal.specs.declared.Refusal.{Refusal}
use Rattle.refusal.specs.declared.Refusal.TheVariants.{CutShort, Foreign, Value, Surplus}
use Rattle.expression_reader.specs.declared.Takes.{Takes}
use Rattle.expression_reader.specs.declared.Takes.TheVariants.{Value as TakesValue, Variable as TakesVariable, State as TakesState, List as TakesList}
use Rattle.expression_reader.specs.declared.Takes.TheVariants.{Operands, Foreign as TakesNothing}
use Rattle.expression_reader.specs.declared.Prefix.{Prefix}
use Rattle.formula.specs.Read.{ExprOpcode, const-op, var-op, count-op, list_op, unary, binary, ternary, foreign_op, expr_opcode, is_list, ExprNext}
use Rattle.formula.specs.Read.{expression, failed}
use Rattle.expression_reader.specs.inner.Places.{noted, state_key, var_noted, leaves_noted}

-- what an expression command takes
abbrev pub takes : ExprOpcode → Takes
takes const-op = TakesValue
takes var-op = TakesVariable
takes count-op = TakesState
takes (list_op mk) = TakesList
takes (unary mk) = Operands 1
takes (binary mk) = Operands 2
takes (ternary mk) = Operands 3
takes foreign_op = TakesNothing

-- how many operands follow a command
abbrev pub operands_of : Takes → ℕ
operands_of TakesValue = 0
operands_of TakesVariable = 0
operands_of TakesState = 0
operands_of TakesList = 0
operands_of (Operands n) = n
operands_of TakesNothing = 0

-- the refusal of a command where none is allowed any more
abbrev pub over : Takes → ℕ → Refusal
over TakesValue at = Surplus InFormula at
over TakesVariable at = Surplus InFormula at
over TakesState at = Surplus InFormula at
over TakesList at = Surplus InFormula at
over (Operands n) at = Surplus InFormula at
over TakesNothing at = Foreign InFormula at

-- what the command at `at` takes, where bs begins, if at most `depth` more levels and `left` more commands are allowed
abbrev pub takes_at : ℕ → ℕ → ℕ → List ℕ → Result Takes Refusal
takes_at depth left at bs =
    let t = takes (expr_opcode (get_or bs 0 0)) in
    cond (eqb (length bs) 0) (Err (CutShort InFormula at)) (cond (eqb depth 0) (Err (over t at)) (cond (eqb left 0) (Err (over t at)) (Ok t)))

-- what was read with the places after it, or the refusal
pub data End (A : Type 0) : Type 0 where
  whole : A → List ℕ → End A
  broken : Refusal → End A

-- an expression's front
abbrev pub ExprEnd : Type 0
ExprEnd = End Prefix

-- what a reading and the places after it amount to: after a refusal no place counts
abbrev pub end_of : {A : Type 0} → Result A Refusal → List ℕ → End A
end_of (Ok x) places = whole x places
end_of (Err r) places = broken r

-- an expression's front and its next operand
abbrev pub joined : Prefix → Prefix → Prefix
joined p q = record { used = p.used + q.used; left = q.left }

-- a command of `used` bytes
abbrev pub front : ℕ → ℕ → Prefix
front used left = record { used = used; left = left }

-- the byte behind a command's, at `at`, where bs begins
abbrev pub operand_at : ℕ → List ℕ → Result ℕ Refusal
operand_at at bs = cond (ltb (length bs) 2) (Err (CutShort InFormula at)) (Ok (get_or bs 1 0))

-- the bytes of a CONST, VAR, COUNT, or one of a list, at `at`, where bs begins
abbrev pub const_head : ℕ → List ℕ → Result ℕ Refusal
const_head at bs = cond (ltb (length bs) 5) (Err (CutShort InFormula at)) (Ok 5)

abbrev pub var_head : ℕ → List Bool → ℕ → List ℕ → List ℕ → End ℕ
var_head s own at bs places =
    cond (ltb (length bs) 2) (broken (CutShort InFormula at))
    (cond (ltb (get_or bs 1 0) 8) (whole 2 (var_noted s own (get_or bs 1 0) at places)) (broken (Value InFormula at)))

abbrev pub count_head : ℕ → List ℕ → List ℕ → End ℕ
count_head at bs places = cond (ltb (length bs) 2) (broken (CutShort InFormula at)) (whole 2 (noted places (state_key (get_or bs 1 0)) at))

abbrev pub list_head : ℕ → List ℕ → Result ℕ Refusal
list_head at bs = cond (ltb (length bs) 2) (Err (CutShort InFormula at)) (cond (is_list (get_or bs 1 0)) (Ok 2) (Err (Value InFormula at)))

-- those of an expression command at `at`, where bs begins, in a step of state s that binds the variables marked
abbrev pub head_of : ℕ → List Bool → ℕ → List ℕ → List ℕ → Takes → End ℕ
head_of s own at bs places TakesValue = end_of (const_head at bs) places
head_of s own at bs places TakesVariable = var_head s own at bs places
head_of s own at bs places TakesState = count_head at bs places
head_of s own at bs places TakesList = end_of (list_head at bs) places
head_of s own at bs places (Operands n) = whole 1 places
head_of s own at bs places TakesNothing = broken (Foreign InFormula at)

-- what the reader keeps of an expression read at `at`
abbrev pub shape : ℕ → List Bool → ℕ → List ℕ → ExprNext → ExprEnd
shape s own at places (expression e used left) = whole (front used left) (leaves_noted s own at e places)
shape s own at places (failed r) = broken r
