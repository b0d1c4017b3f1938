-- The next command as its reader sees it: what is kept of a command, and the same tests on bytes alone.
use Rattle.std.specs.Prelude.{ℕ, ◌+◌, ◌-◌, Bool, true, cond, ◌&&◌, List, ltb, eqb, length, get_or, drop, Option, Some, None, Result, Ok, Err}
use Rattle.refusal.specs.declared.File.TheVariants.{Formula as InFormula}
use Rattle.refusal.specs.declared.Refusal.{Refusal}
use Rattle.refusal.specs.declared.Refusal.TheVariants.{CutShort, Foreign, Value, Surplus, Twice}
use Rattle.command_reader.specs.declared.Command.{Command as Kept}
use Rattle.command_reader.specs.declared.Command.TheVariants.{Tied, State, Step, Test, Testv, Bind, Gather, Guard}
use Rattle.command_reader.specs.declared.Taken.{Taken}
use Rattle.formula.specs.Formula.{TEST, TESTV, BIND, GATHER}
use Rattle.formula.specs.Encode.{Command, TIED, STATE, STEP, CLAUSE, GUARD, kind_byte}
use Rattle.formula.specs.declared.Summary.{Summary}
use Rattle.formula.specs.declared.Opcode.{Opcode}
use Rattle.formula.specs.declared.Opcode.TheVariants.{End as end-op, State as state-op, Step as step_op, Test as test-op, Testv as testv-op}
use Rattle.formula.specs.declared.Opcode.TheVariants.{Bind as bind-op, Guard as guard-op, Tied as tied-op, Gather as gather-op, Other as other-op}
use Rattle.formula.specs.Read.{opcode, allowed, room, is_list, read_expr, again, Next, command, end, bad}
use Rattle.expression_reader.specs.inner.Places.{leaves_noted}
use Rattle.expression_reader.specs.inner.Prefix.{ExprEnd, whole, broken, shape}

-- what is kept of a command
abbrev pub command_shape : Command → Kept
command_shape (TIED v) = Tied v
command_shape (STATE k) = State (kind_byte k)
command_shape (STEP t) = Step t
command_shape (CLAUSE (TEST f o x)) = Test
command_shape (CLAUSE (TESTV f o v)) = Testv v
command_shape (CLAUSE (BIND f v)) = Bind v
command_shape (CLAUSE (GATHER f v)) = Gather v
command_shape (GUARD e) = Guard

-- the places after a command at `at` was read: a GUARD's expression is noted, in a step of state s that binds the variables marked
abbrev pub guard_noted : ℕ → List Bool → ℕ → List ℕ → Command → List ℕ
guard_noted s own at places (TIED v) = places
guard_noted s own at places (STATE k) = places
guard_noted s own at places (STEP t) = places
guard_noted s own at places (CLAUSE c) = places
guard_noted s own at places (GUARD e) = leaves_noted s own (at + 1) e places

-- what stands next with the places after it
pub data NextEnd : Type 0 where
  goes_on : Kept → ℕ → List ℕ → NextEnd
  ends : List ℕ → NextEnd
  breaks : Refusal → NextEnd

-- what a reading and the places after it amount to: after a refusal no place counts
abbrev pub next_end : Result (Option Taken) Refusal → List ℕ → NextEnd
next_end (Ok (Some t)) places = goes_on t.command t.used places
next_end (Ok None) places = ends places
next_end (Err r) places = breaks r

-- the same of a command other than END
abbrev pub taken_end : Result Taken Refusal → List ℕ → NextEnd
taken_end (Ok t) places = goes_on t.command t.used places
taken_end (Err r) places = breaks r

-- what is kept of what stands next
abbrev pub next_shape : ℕ → List Bool → ℕ → List ℕ → Next → NextEnd
next_shape s own at places (command c used) = goes_on (command_shape c) used (guard_noted s own at places c)
next_shape s own at places end = ends places
next_shape s own at places (bad r) = breaks r

-- a command of a fixed width, where bs begins
unfoldable pub fixed_at : List ℕ → ℕ → ℕ → Bool → Kept → Result Taken Refusal
fixed_at bs at width exist c =
    cond (ltb (length bs) width) (Err (CutShort InFormula at)) (cond exist (Ok (record { command = c; used = width })) (Err (Value InFormula at)))

abbrev pub state_at : List ℕ → ℕ → Result Taken Refusal
state_at bs at = fixed_at bs at 2 (ltb (get_or bs 1 0) 4) (State (get_or bs 1 0))

abbrev pub step_at : List ℕ → ℕ → Result Taken Refusal
step_at bs at = fixed_at bs at 2 true (Step (get_or bs 1 0))

abbrev pub tied_at : List ℕ → ℕ → Result Taken Refusal
tied_at bs at = fixed_at bs at 2 (ltb (get_or bs 1 0) 8) (Tied (get_or bs 1 0))

abbrev pub test_at : List ℕ → ℕ → ℕ → Result Taken Refusal
test_at bs at fields = fixed_at bs at 7 (ltb (get_or bs 1 0) fields && ltb (get_or bs 2 0) 6) Test

abbrev pub testv_at : List ℕ → ℕ → ℕ → Result Taken Refusal
testv_at bs at fields = fixed_at bs at 4 (ltb (get_or bs 1 0) fields && ltb (get_or bs 2 0) 6 && ltb (get_or bs 3 0) 8) (Testv (get_or bs 3 0))

abbrev pub bind_at : List ℕ → ℕ → ℕ → Result Taken Refusal
bind_at bs at fields = fixed_at bs at 3 (ltb (get_or bs 1 0) fields && ltb (get_or bs 2 0) 8) (Bind (get_or bs 2 0))

-- a GATHER, where `seen` marks the lists that its step gathers into
abbrev pub gather_at : List Bool → List ℕ → ℕ → ℕ → Result Taken Refusal
gather_at seen bs at fields =
    cond (ltb (length bs) 3) (Err (CutShort InFormula at))
    (cond (again seen (get_or bs 2 0)) (Err (Twice at))
    (fixed_at bs at 3 (ltb (get_or bs 1 0) fields && is_list (get_or bs 2 0)) (Gather (get_or bs 2 0 - 8))))

-- a GUARD with its expression
abbrev pub guard_of : ExprEnd → NextEnd
guard_of (whole p places) = goes_on Guard (1 + p.used) places
guard_of (broken r) = breaks r

abbrev pub guard_at : ℕ → List Bool → List ℕ → ℕ → List ℕ → NextEnd
guard_at s own bs at places = guard_of (shape s own (at + 1) places (read_expr 8 31 (at + 1) (drop 1 bs)))

-- an allowed command
abbrev pub taken_at : ℕ → List Bool → List Bool → ℕ → List ℕ → ℕ → List ℕ → Opcode → NextEnd
taken_at s own seen fields bs at places end-op = ends places
taken_at s own seen fields bs at places state-op = taken_end (state_at bs at) places
taken_at s own seen fields bs at places step_op = taken_end (step_at bs at) places
taken_at s own seen fields bs at places test-op = taken_end (test_at bs at fields) places
taken_at s own seen fields bs at places testv-op = taken_end (testv_at bs at fields) places
taken_at s own seen fields bs at places bind-op = taken_end (bind_at bs at fields) places
taken_at s own seen fields bs at places guard-op = guard_at s own bs at places
taken_at s own seen fields bs at places tied-op = taken_end (tied_at bs at) places
taken_at s own seen fields bs at places gather-op = taken_end (gather_at seen bs at fields) places
taken_at s own seen fields bs at places other-op = breaks (Foreign InFormula at)

-- the command at `at`, where bs begins, by what its byte names, in a step of the last state that binds the variables marked
abbrev pub begun : Summary → List Bool → ℕ → List ℕ → ℕ → List ℕ → Opcode → NextEnd
begun s own fields bs at places op =
    cond (allowed s op) (cond (room s op) (taken_at (s.states - 1) own s.gathered fields bs at places op) (breaks (Surplus InFormula at)))
    (breaks (Foreign InFormula at))

-- the same by the bytes alone
unfoldable pub next_at : Summary → List Bool → ℕ → List ℕ → ℕ → List ℕ → NextEnd
next_at s own fields bs at places = cond (eqb (length bs) 0) (breaks (CutShort InFormula at)) (begun s own fields bs at places (opcode (get_or bs 0 0)))
