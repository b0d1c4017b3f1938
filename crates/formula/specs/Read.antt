-- Reading a formula file: "Files are read from the front and the first bad command decides; within one the order is 2, 4, 1, 3", 12
-- "after 4 and 1 and before 3". "After END: 5"; then 13 'absent state', "where 3 stood after 5"; "then 7; then 8".
use Rattle.std.specs.Prelude.{ℕ, zero, suc, ◌+◌, ◌-◌, Bool, true, false, cond, not, ◌&&◌, List, [], ◌∷◌, ◌++◌, ltb, leb, eqb, length, get_or, drop, replicate}
use Rattle.std.proofs.Math.Option.{Option, none, some}
use Rattle.base.specs.Value.{value_at}
use Rattle.refusal.specs.declared.File.TheVariants.{Formula as InFormula}
use Rattle.refusal.specs.declared.Refusal.{Refusal}
use Rattle.refusal.specs.declared.Refusal.TheVariants.{CutShort, Foreign, Value, Surplus, Leftover, DeadStart, Unbound as UnboundAt, Twice, AbsentState}
use Rattle.formula.specs.declared.Summary.{Summary}
use Rattle.formula.specs.declared.Opcode.{Opcode}
use Rattle.formula.specs.declared.Opcode.TheVariants.{End as end-op, State as state-op, Step as step_op, Test as test-op, Testv as testv-op}
use Rattle.formula.specs.declared.Opcode.TheVariants.{Bind as bind-op, Guard as guard-op, Tied as tied-op, Gather as gather-op, Other as other-op}
use Rattle.formula.specs.Formula.{Operator, equal, unequal, less, greater, atmost, atleast}
use Rattle.formula.specs.Formula.{Leaf, CONST, VAR, COUNT, SUM, LENGTH, DIFFERENT, Expr, LEAF, ADD, SUB, LESS, ATMOST, EQUAL, NOT, AND, OR, IF}
use Rattle.formula.specs.Formula.{Clause, TEST, TESTV, BIND, GATHER, Step, StateKind, ordinary, committed, accept, reject, State, Formula}
use Rattle.formula.specs.Encode.{Command, TIED, STATE, STEP, CLAUSE, GUARD, encode_expr, encode_command, commands}
use Rattle.formula.specs.Unbound.{binds, is_unbound}
use Rattle.formula.specs.Correct.{is_final, dead_start, seen_with}

-- the answer of reading: the formula, or the refusal
pub data Reading : Type 0 where
  accepted : Formula → Reading
  refused : Refusal → Reading

-- What decides about the next command is a Summary of those before it, declared with the opcodes in src/lib.rt; that of none
unfoldable pub start : Summary
start = record { tied = 0; states = 0; closed = false; steps = 0; clauses = 0; guarded = false; gathered = replicate 4 false }

-- the summary after one more command
abbrev pub advance : Summary → Command → Summary
advance s (TIED v) =
    record {
      tied = suc s.tied;
      states = s.states;
      closed = s.closed;
      steps = s.steps;
      clauses = s.clauses;
      guarded = s.guarded;
      gathered = s.gathered;
    }
advance s (STATE k) =
    record { tied = s.tied; states = suc s.states; closed = is_final k; steps = 0; clauses = 0; guarded = false; gathered = replicate 4 false }
advance s (STEP t) =
    record { tied = s.tied; states = s.states; closed = s.closed; steps = suc s.steps; clauses = 0; guarded = false; gathered = replicate 4 false }
advance s (CLAUSE c) =
    record {
      tied = s.tied;
      states = s.states;
      closed = s.closed;
      steps = s.steps;
      clauses = suc s.clauses;
      guarded = s.guarded;
      gathered = seen_with s.gathered c;
    }
advance s (GUARD e) =
    record {
      tied = s.tied;
      states = s.states;
      closed = s.closed;
      steps = s.steps;
      clauses = s.clauses;
      guarded = true;
      gathered = s.gathered;
    }

-- the command that a byte names
unfoldable pub opcode : ℕ → Opcode
opcode b =
    cond (eqb b 0x00) end-op
    (cond (eqb b 0x10) state-op
    (cond (eqb b 0x11) step_op
    (cond (eqb b 0x12) test-op
    (cond (eqb b 0x13) testv-op
    (cond (eqb b 0x14) bind-op
    (cond (eqb b 0x15) guard-op
    (cond (eqb b 0x16) tied-op
    (cond (eqb b 0x17) gather-op other-op))))))))

-- 2 "foreign: unknown command, or one not allowed there": the commands that are allowed
abbrev pub allowed : Summary → Opcode → Bool
allowed s end-op = ltb 0 s.states
allowed s state-op = true
allowed s step_op = ltb 0 s.states && not s.closed
allowed s test-op = ltb 0 s.steps && not s.guarded
allowed s testv-op = ltb 0 s.steps && not s.guarded
allowed s bind-op = ltb 0 s.steps && not s.guarded
allowed s guard-op = ltb 0 s.steps
allowed s tied-op = eqb s.states 0
allowed s gather-op = ltb 0 s.steps && not s.guarded
allowed s other-op = false

-- 4 "surplus: one over a stated count": room for one more
abbrev pub room : Summary → Opcode → Bool
room s end-op = true
room s state-op = ltb s.states 16
room s step_op = ltb s.steps 8
room s test-op = ltb s.clauses 8
room s testv-op = ltb s.clauses 8
room s bind-op = ltb s.clauses 8
room s guard-op = not s.guarded
room s tied-op = ltb s.tied 8
room s gather-op = ltb s.clauses 8
room s other-op = true

-- the operator and the kind that a byte names
unfoldable pub operator_of : ℕ → Operator
operator_of zero = equal
operator_of (suc zero) = unequal
operator_of (suc (suc zero)) = less
operator_of (suc (suc (suc zero))) = greater
operator_of (suc (suc (suc (suc zero)))) = atmost
operator_of (suc (suc (suc (suc (suc n))))) = atleast

unfoldable pub kind_of : ℕ → StateKind
kind_of zero = ordinary
kind_of (suc zero) = committed
kind_of (suc (suc zero)) = accept
kind_of (suc (suc (suc n))) = reject

-- an expression with the bytes it used and the number of commands still allowed, or the refusal
pub data ExprNext : Type 0 where
  expression : Expr → ℕ → ℕ → ExprNext
  failed : Refusal → ExprNext

-- what an expression command takes: a value, a variable, a state, a list, or one, two or three operands
pub data ExprOpcode : Type 0 where
  const-op var-op count-op : ExprOpcode
  list_op : (ℕ → Leaf) → ExprOpcode
  unary : (Expr → Expr) → ExprOpcode
  binary : (Expr → Expr → Expr) → ExprOpcode
  ternary : (Expr → Expr → Expr → Expr) → ExprOpcode
  foreign_op : ExprOpcode

-- "20 CONST value, 21 VAR variable, 22 COUNT state, 23 ADD, 24 SUB, 25 LESS, 26 ATMOST, 27 EQUAL, 28 NOT, 29 AND, 2A OR, 2B IF"; "2C gives its sum ..,
-- 2D its length, 2E the number of different values"
unfoldable pub expr_opcode : ℕ → ExprOpcode
expr_opcode b =
    cond (eqb b 0x20) const-op
    (cond (eqb b 0x21) var-op
    (cond (eqb b 0x22) count-op
    (cond (eqb b 0x23) (binary ADD)
    (cond (eqb b 0x24) (binary SUB)
    (cond (eqb b 0x25) (binary LESS)
    (cond (eqb b 0x26) (binary ATMOST)
    (cond (eqb b 0x27) (binary EQUAL)
    (cond (eqb b 0x28) (unary NOT)
    (cond (eqb b 0x29) (binary AND)
    (cond (eqb b 0x2A) (binary OR)
    (cond (eqb b 0x2B) (ternary IF)
    (cond (eqb b 0x2C) (list_op SUM)
    (cond (eqb b 0x2D) (list_op LENGTH)
    (cond (eqb b 0x2E) (list_op DIFFERENT) foreign_op))))))))))))))

-- no command is allowed here any more: one that begins an expression is surplus, any other foreign
abbrev pub over_of : ℕ → ExprOpcode → ExprNext
over_of at const-op = failed (Surplus InFormula at)
over_of at var-op = failed (Surplus InFormula at)
over_of at count-op = failed (Surplus InFormula at)
over_of at (list_op mk) = failed (Surplus InFormula at)
over_of at (unary mk) = failed (Surplus InFormula at)
over_of at (binary mk) = failed (Surplus InFormula at)
over_of at (ternary mk) = failed (Surplus InFormula at)
over_of at foreign_op = failed (Foreign InFormula at)

unfoldable pub over : ℕ → List ℕ → ExprNext
over at [] = failed (CutShort InFormula at)
over at (b ∷ ops) = over_of at (expr_opcode b)

-- an operand is read, then the rest; its refusal is handed on
abbrev pub and_then : ExprNext → (Expr → ℕ → ℕ → ExprNext) → ExprNext
and_then (expression e used left) k = k e used left
and_then (failed r) k = failed r

-- "list variables are 8 to 11"
abbrev pub is_list : ℕ → Bool
is_list b = leb 8 b && ltb b 12

-- an expression command at `at` with the bytes behind it; `left` commands are still allowed, `operand` reads one operand
abbrev pub expr_of : (ℕ → ℕ → List ℕ → ExprNext) → ℕ → ℕ → List ℕ → ExprOpcode → ExprNext
expr_of operand left at ops const-op = cond (ltb (length ops) 4) (failed (CutShort InFormula at)) (expression (LEAF (CONST (value_at ops 0))) 5 left)
expr_of operand left at ops var-op =
    cond (ltb (length ops) 1) (failed (CutShort InFormula at))
    (cond (ltb (get_or ops 0 0) 8) (expression (LEAF (VAR (get_or ops 0 0))) 2 left) (failed (Value InFormula at)))
expr_of operand left at ops count-op = cond (ltb (length ops) 1) (failed (CutShort InFormula at)) (expression (LEAF (COUNT (get_or ops 0 0))) 2 left)
expr_of operand left at ops (list_op mk) =
    cond (ltb (length ops) 1) (failed (CutShort InFormula at))
    (cond (is_list (get_or ops 0 0)) (expression (LEAF (mk (get_or ops 0 0 - 8))) 2 left) (failed (Value InFormula at)))
expr_of operand left at ops (unary mk) = and_then (operand left (at + 1) ops) (λ a u m. expression (mk a) (1 + u) m)
expr_of operand left at ops (binary mk) =
    and_then (operand left (at + 1) ops) (λ a u m. and_then (operand m (at + 1 + u) (drop u ops)) (λ b w n. expression (mk a b) (1 + u + w) n))
expr_of operand left at ops (ternary mk) =
    and_then (operand left (at + 1) ops)
    (λ a u m.
    and_then (operand m (at + 1 + u) (drop u ops))
    (λ b w n. and_then (operand n (at + 1 + u + w) (drop (u + w) ops)) (λ c x k. expression (mk a b c) (1 + u + w + x) k)))
expr_of operand left at ops foreign_op = failed (Foreign InFormula at)

unfoldable pub expr_with : (ℕ → ℕ → List ℕ → ExprNext) → ℕ → ℕ → List ℕ → ExprNext
expr_with operand left at [] = failed (CutShort InFormula at)
expr_with operand zero at (b ∷ ops) = over at (b ∷ ops)
expr_with operand (suc left) at (b ∷ ops) = expr_of operand left at ops (expr_opcode b)

-- "At most 31 commands, nested at most 8 deep": an expression of at most `d` deep and `left` commands from offset `at` on
unfoldable pub read_expr : ℕ → ℕ → ℕ → List ℕ → ExprNext
read_expr zero left at rest = over at rest
read_expr (suc d) left at rest = expr_with (read_expr d) left at rest

-- what stands next: a command and its number of bytes, END, or a bad command
pub data Next : Type 0 where
  command : Command → ℕ → Next
  end : Next
  bad : Refusal → Next

-- 1 "operands run past the end", then 3 "does not exist": a command with its operands' width, and whether they exist
abbrev pub operands : ℕ → List ℕ → ℕ → Bool → Command → Next
operands at ops width exist c = cond (ltb (length ops) width) (bad (CutShort InFormula at)) (cond exist (command c (1 + width)) (bad (Value InFormula at)))

-- "one expression follows in prefix order"
abbrev pub guard_of : ExprNext → Next
guard_of (expression e used left) = command (GUARD e) (1 + used)
guard_of (failed r) = bad r

-- 12 "one STEP gathers a variable a second time": the step gathers into the list already
abbrev pub again : List Bool → ℕ → Bool
again seen b = leb 8 b && get_or seen (b - 8) false

-- an allowed command with the bytes behind it; `seen` marks the lists that its step gathers into
abbrev pub operands_of : ℕ → List Bool → ℕ → List ℕ → Opcode → Next
operands_of fields seen at ops end-op = end
operands_of fields seen at ops state-op = operands at ops 1 (ltb (get_or ops 0 0) 4) (STATE (kind_of (get_or ops 0 0)))
operands_of fields seen at ops step_op = operands at ops 1 true (STEP (get_or ops 0 0))
operands_of fields seen at ops test-op =
    operands at ops 6 (ltb (get_or ops 0 0) fields && ltb (get_or ops 1 0) 6) (CLAUSE (TEST (get_or ops 0 0) (operator_of (get_or ops 1 0)) (value_at ops 2)))
operands_of fields seen at ops testv-op =
    operands at ops 3 (ltb (get_or ops 0 0) fields && ltb (get_or ops 1 0) 6 && ltb (get_or ops 2 0) 8)
    (CLAUSE (TESTV (get_or ops 0 0) (operator_of (get_or ops 1 0)) (get_or ops 2 0)))
operands_of fields seen at ops bind-op = operands at ops 2 (ltb (get_or ops 0 0) fields && ltb (get_or ops 1 0) 8) (CLAUSE (BIND (get_or ops 0 0) (get_or ops 1 0)))
operands_of fields seen at ops guard-op = guard_of (read_expr 8 31 (at + 1) ops)
operands_of fields seen at ops tied-op = operands at ops 1 (ltb (get_or ops 0 0) 8) (TIED (get_or ops 0 0))
operands_of fields seen at ops gather-op =
    cond (ltb (length ops) 2) (bad (CutShort InFormula at))
    (cond (again seen (get_or ops 1 0)) (bad (Twice at))
    (operands at ops 2 (ltb (get_or ops 0 0) fields && is_list (get_or ops 1 0)) (CLAUSE (GATHER (get_or ops 0 0) (get_or ops 1 0 - 8)))))
operands_of fields seen at ops other-op = bad (Foreign InFormula at)

-- "within one the order is 2, 4, 1, 3", 12 before 3: the command at `at`, with the number of fields; "with END missing, the file length"
unfoldable pub next : ℕ → Summary → ℕ → List ℕ → Next
next fields s at [] = bad (CutShort InFormula at)
next fields s at (b ∷ ops) =
    let w = opcode b in
    cond (allowed s w) (cond (room s w) (operands_of fields s.gathered at ops w) (bad (Surplus InFormula at))) (bad (Foreign InFormula at))

-- the commands read, assembled into a formula from the last one on: clauses and guard of the step that will stand before them, steps of the state
-- that will, states, tied variables
pub record Assembly : Type 0 where
  pub clauses : List Clause
  pub guard : Option Expr
  pub steps : List Step
  pub states : List State
  pub tied : List ℕ

-- one more command in front
abbrev pub in_front : Command → Assembly → Assembly
in_front (TIED v) g = record { clauses = g.clauses; guard = g.guard; steps = g.steps; states = g.states; tied = v ∷ g.tied }
in_front (STATE k) g = record { clauses = []; guard = none; steps = []; states = record { kind = k; steps = g.steps } ∷ g.states; tied = g.tied }
in_front (STEP t) g =
    record {
      clauses = [];
      guard = none;
      steps = record { target = t; clauses = g.clauses; guard = g.guard } ∷ g.steps;
      states = g.states;
      tied = g.tied;
    }
in_front (CLAUSE c) g = record { clauses = c ∷ g.clauses; guard = g.guard; steps = g.steps; states = g.states; tied = g.tied }
in_front (GUARD e) g = record { clauses = g.clauses; guard = some e; steps = g.steps; states = g.states; tied = g.tied }

-- all of them
unfoldable pub assembly : List Command → Assembly
assembly [] = record { clauses = []; guard = none; steps = []; states = []; tied = [] }
assembly (c ∷ cs) = in_front c (assembly cs)

-- the formula of the commands
unfoldable pub assemble : List Command → Formula
assemble cs = record { tied = (assembly cs).tied; states = (assembly cs).states }

-- the first of two places
abbrev pub or_else : Option ℕ → Option ℕ → Option ℕ
or_else none q = q
or_else (some p) q = some p

-- the place, if the command there is bad
abbrev pub when : Bool → ℕ → Option ℕ
when true at = some at
when false at = none

-- the place of the first leaf of an expression that is bad
unfoldable pub first_leaf : (Leaf → Bool) → ℕ → Expr → Option ℕ
first_leaf p at (LEAF l) = when (p l) at
first_leaf p at (ADD a b) = or_else (first_leaf p (at + 1) a) (first_leaf p (at + 1 + length (encode_expr a)) b)
first_leaf p at (SUB a b) = or_else (first_leaf p (at + 1) a) (first_leaf p (at + 1 + length (encode_expr a)) b)
first_leaf p at (LESS a b) = or_else (first_leaf p (at + 1) a) (first_leaf p (at + 1 + length (encode_expr a)) b)
first_leaf p at (ATMOST a b) = or_else (first_leaf p (at + 1) a) (first_leaf p (at + 1 + length (encode_expr a)) b)
first_leaf p at (EQUAL a b) = or_else (first_leaf p (at + 1) a) (first_leaf p (at + 1 + length (encode_expr a)) b)
first_leaf p at (NOT a) = first_leaf p (at + 1) a
first_leaf p at (AND a b) = or_else (first_leaf p (at + 1) a) (first_leaf p (at + 1 + length (encode_expr a)) b)
first_leaf p at (OR a b) = or_else (first_leaf p (at + 1) a) (first_leaf p (at + 1 + length (encode_expr a)) b)
first_leaf p at (IF c a b) =
    or_else (first_leaf p (at + 1) c)
    (or_else (first_leaf p (at + 1 + length (encode_expr c)) a) (first_leaf p (at + 1 + length (encode_expr c) + length (encode_expr a)) b))

-- "COUNT naming an absent state", of `states` states
abbrev pub absent_leaf : ℕ → Leaf → Bool
absent_leaf states (CONST x) = false
absent_leaf states (VAR v) = false
absent_leaf states (COUNT s) = not (ltb s states)
absent_leaf states (SUM v) = false
absent_leaf states (LENGTH v) = false
absent_leaf states (DIFFERENT v) = false

-- "the first STEP or COUNT naming an absent state", of `states` states: in one command, and in the commands from offset `at` on
abbrev pub absent_in : ℕ → ℕ → Command → Option ℕ
absent_in states at (TIED v) = none
absent_in states at (STATE k) = none
absent_in states at (STEP t) = when (not (ltb t states)) at
absent_in states at (CLAUSE c) = none
absent_in states at (GUARD e) = first_leaf (absent_leaf states) (at + 1) e

unfoldable pub first_absent : ℕ → ℕ → List Command → Option ℕ
first_absent states at [] = none
first_absent states at (c ∷ cs) = or_else (absent_in states at c) (first_absent states (at + length (encode_command c)) cs)

-- "a TESTV or VAR as above, the first in the file": `seen` STATEs were passed, the last one holds the step with the clauses `own` so far; `open v s`
-- says that v is unbound in state s
abbrev pub seen_after : ℕ → Command → ℕ
seen_after seen (TIED v) = seen
seen_after seen (STATE k) = suc seen
seen_after seen (STEP t) = seen
seen_after seen (CLAUSE c) = seen
seen_after seen (GUARD e) = seen

abbrev pub own_after : List Clause → Command → List Clause
own_after own (TIED v) = own
own_after own (STATE k) = []
own_after own (STEP t) = []
own_after own (CLAUSE c) = own ++ (c ∷ [])
own_after own (GUARD e) = own

-- "a TESTV or VAR as above": a leaf, and a command
abbrev pub unbound_leaf : (ℕ → ℕ → Bool) → ℕ → List Clause → Leaf → Bool
unbound_leaf open_at seen own (CONST x) = false
unbound_leaf open_at seen own (VAR v) = open_at v (seen - 1) && not (binds v own)
unbound_leaf open_at seen own (COUNT s) = false
unbound_leaf open_at seen own (SUM v) = false
unbound_leaf open_at seen own (LENGTH v) = false
unbound_leaf open_at seen own (DIFFERENT v) = false

abbrev pub unbound_in : (ℕ → ℕ → Bool) → ℕ → List Clause → ℕ → Command → Option ℕ
unbound_in open_at seen own at (TIED v) = none
unbound_in open_at seen own at (STATE k) = none
unbound_in open_at seen own at (STEP t) = none
unbound_in open_at seen own at (CLAUSE (TEST f o x)) = none
unbound_in open_at seen own at (CLAUSE (TESTV f o v)) = when (open_at v (seen - 1)) at
unbound_in open_at seen own at (CLAUSE (BIND f v)) = none
unbound_in open_at seen own at (CLAUSE (GATHER f v)) = none
unbound_in open_at seen own at (GUARD e) = first_leaf (unbound_leaf open_at seen own) (at + 1) e

unfoldable pub first_unbound : (ℕ → ℕ → Bool) → ℕ → List Clause → ℕ → List Command → Option ℕ
first_unbound open_at seen own at [] = none
first_unbound open_at seen own at (c ∷ cs) =
    or_else (unbound_in open_at seen own at c) (first_unbound open_at (seen_after seen c) (own_after own c) (at + length (encode_command c)) cs)

-- a refusal where there is a place for it
abbrev pub refused_at : Option ℕ → (ℕ → Refusal) → Reading → Reading
refused_at none r go_on = go_on
refused_at (some p) r go_on = refused (r p)

-- 13 'absent state', "where 3 stood after 5", for "the first STEP or COUNT naming an absent state"; "then 7; then 8"
unfoldable pub judge : Formula → Reading
judge f =
    refused_at (first_absent (length f.states) 0 (commands f)) AbsentState
    (cond (dead_start f.states) (refused DeadStart) (refused_at (first_unbound (is_unbound f) 0 [] 0 (commands f)) UnboundAt (accepted f)))

-- "After END: 5": the bytes behind END, which begin at `at`
unfoldable pub after_end : Formula → ℕ → List ℕ → Reading
after_end f at [] = judge f
after_end f at (b ∷ bs) = refused (Leftover InFormula at)

-- what follows from what stands next; `go_on` reads the rest
abbrev pub follow : (Summary → List Command → ℕ → List ℕ → Reading) → Summary → List Command → ℕ → List ℕ → Next → Reading
follow go_on s cs at rest (command c used) = go_on (advance s c) (cs ++ (c ∷ [])) (at + used) (drop used rest)
follow go_on s cs at rest end = after_end (assemble cs) (at + 1) (drop 1 rest)
follow go_on s cs at rest (bad r) = refused r

-- the file from offset `at` on, where `rest` stands, after the commands `cs` whose summary is s; each command takes a byte, so that `fuel` above the
-- length never ends
unfoldable pub read_from : ℕ → ℕ → Summary → List Command → ℕ → List ℕ → Reading
read_from zero fields s cs at rest = refused (CutShort InFormula at)
read_from (suc fuel) fields s cs at rest = follow (read_from fuel fields) s cs at rest (next fields s at rest)

-- "A formula is read against an accepted log, which gives its fields": how many there are
unfoldable pub read_formula : ℕ → List ℕ → Reading
read_formula fields l = read_from (suc (length l)) fields start [] 0 l
