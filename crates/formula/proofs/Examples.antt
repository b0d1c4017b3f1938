-- Worked examples of reading a formula against the bench log's fields: the border of each rule.
use Prim.Native.Nat.{ℕ}
use mathlib.Core.Path.{◌≡◌, refl}
use mathlib.Core.List.{List, [], ◌∷◌, flat_map}
use Rattle.base.specs.Value.{bytes_of, value_at}
use Rattle.refusal.specs.declared.Report.{Report}
use Rattle.refusal.specs.Refusals.{report_of, line}
use Rattle.formula.specs.Encode.{encode, encode_expr, encode_clause, encode_command, commands, state_commands, step_commands, guard_commands}
use Rattle.formula.specs.Unbound.{binds, steps_of, edges_from, mark, round, rounds, unbound, is_unbound}
use Rattle.formula.specs.Read.{Reading, accepted, refused, start, opcode, operator_of, kind_of, expr_opcode, over, expr_with, read_expr, next}
use Rattle.formula.specs.Read.{assembly, assemble, first_leaf, first_absent, first_unbound, judge, after_end, read_from, read_formula}

-- what a reading answers: file, number and place, or 0 0 0 for accepted
abbrev pub answer : Reading → Report
answer (accepted f) = line 0 0 0
answer (refused r) = report_of r

-- the number of the bench log's fields: time and code
abbrev bench : ℕ
bench = 2

pub read : List ℕ → Report
unfolding read_formula read_from after_end judge first_unbound first_absent first_leaf assemble assembly next read_expr expr_with over expr_opcode kind_of operator_of
    opcode start is_unbound unbound rounds round mark edges_from steps_of binds commands state_commands step_commands guard_commands encode_command encode_clause
    encode_expr encode bytes_of value_at flat_map
read l = answer (read_formula bench l)

-- depth 8 is accepted
deep-8 : read (0x10 ∷ 0 ∷ 0x11 ∷ 1 ∷ 0x15 ∷ 0x28 ∷ 0x28 ∷ 0x28 ∷ 0x28 ∷ 0x28 ∷ 0x28 ∷ 0x28 ∷ 0x20 ∷ 0 ∷ 0 ∷ 0 ∷ 1 ∷ 0x10 ∷ 2 ∷ 0 ∷ []) ≡ line 0 0 0
unfolding read
deep-8 = refl

-- depth 9 is surplus at the command that stands there
deep-9 : read (0x10 ∷ 0 ∷ 0x11 ∷ 1 ∷ 0x15 ∷ 0x28 ∷ 0x28 ∷ 0x28 ∷ 0x28 ∷ 0x28 ∷ 0x28 ∷ 0x28 ∷ 0x28 ∷ 0x20 ∷ 0 ∷ 0 ∷ 0 ∷ 1 ∷ 0x10 ∷ 2 ∷ 0 ∷ []) ≡ line 2 4 13
unfolding read
deep-9 = refl

-- END at depth 9 is foreign
deep-end : read (0x10 ∷ 0 ∷ 0x11 ∷ 1 ∷ 0x15 ∷ 0x28 ∷ 0x28 ∷ 0x28 ∷ 0x28 ∷ 0x28 ∷ 0x28 ∷ 0x28 ∷ 0x28 ∷ 0 ∷ []) ≡ line 2 2 13
unfolding read
deep-end = refl

-- the file's end at depth 9 is cut short, at the file length
deep-cut : read (0x10 ∷ 0 ∷ 0x11 ∷ 1 ∷ 0x15 ∷ 0x28 ∷ 0x28 ∷ 0x28 ∷ 0x28 ∷ 0x28 ∷ 0x28 ∷ 0x28 ∷ 0x28 ∷ []) ≡ line 2 1 13
unfolding read
deep-cut = refl

-- 31 commands are accepted
many-31 : read
    (0x10 ∷ 0 ∷ 0x11 ∷ 1 ∷ 0x15 ∷ 0x23 ∷ 0x23 ∷ 0x23 ∷ 0x23 ∷ 0x22 ∷ 0 ∷ 0x22 ∷ 0 ∷ 0x23 ∷ 0x22 ∷ 0 ∷ 0x22 ∷ 0 ∷ 0x23 ∷ 0x23 ∷ 0x22 ∷ 0 ∷ 0x22 ∷ 0 ∷ 0x23 ∷ 0x22
    ∷ 0 ∷ 0x22 ∷ 0 ∷ 0x23 ∷ 0x23 ∷ 0x23 ∷ 0x22 ∷ 0 ∷ 0x22 ∷ 0 ∷ 0x23 ∷ 0x22 ∷ 0 ∷ 0x22 ∷ 0 ∷ 0x23 ∷ 0x23 ∷ 0x22 ∷ 0 ∷ 0x22 ∷ 0 ∷ 0x23 ∷ 0x22 ∷ 0 ∷ 0x22 ∷ 0
    ∷ 0x10 ∷ 2 ∷ 0 ∷ [])
    ≡ line 0 0 0
unfolding read
many-31 = refl

-- the 32nd command is surplus
many-32 : read
    (0x10 ∷ 0 ∷ 0x11 ∷ 1 ∷ 0x15 ∷ 0x28 ∷ 0x23 ∷ 0x23 ∷ 0x23 ∷ 0x23 ∷ 0x22 ∷ 0 ∷ 0x22 ∷ 0 ∷ 0x23 ∷ 0x22 ∷ 0 ∷ 0x22 ∷ 0 ∷ 0x23 ∷ 0x23 ∷ 0x22 ∷ 0 ∷ 0x22 ∷ 0 ∷ 0x23
    ∷ 0x22 ∷ 0 ∷ 0x22 ∷ 0 ∷ 0x23 ∷ 0x23 ∷ 0x23 ∷ 0x22 ∷ 0 ∷ 0x22 ∷ 0 ∷ 0x23 ∷ 0x22 ∷ 0 ∷ 0x22 ∷ 0 ∷ 0x23 ∷ 0x23 ∷ 0x22 ∷ 0 ∷ 0x22 ∷ 0 ∷ 0x23 ∷ 0x22 ∷ 0
    ∷ 0x22 ∷ 0 ∷ 0x10 ∷ 2 ∷ 0 ∷ [])
    ≡ line 2 4 51
unfolding read
many-32 = refl

-- END inside an expression is foreign
end-inside : read (0x10 ∷ 0 ∷ 0x11 ∷ 1 ∷ 0x15 ∷ 0x28 ∷ 0 ∷ []) ≡ line 2 2 6
unfolding read
end-inside = refl

-- a CONST cut in its value
const-cut : read (0x10 ∷ 0 ∷ 0x11 ∷ 1 ∷ 0x15 ∷ 0x28 ∷ 0x20 ∷ 0 ∷ 0 ∷ []) ≡ line 2 1 6
unfolding read
const-cut = refl

-- the ninth TIED is surplus whatever its variable
tied-9 : read (0x16 ∷ 1 ∷ 0x16 ∷ 1 ∷ 0x16 ∷ 1 ∷ 0x16 ∷ 1 ∷ 0x16 ∷ 1 ∷ 0x16 ∷ 1 ∷ 0x16 ∷ 1 ∷ 0x16 ∷ 1 ∷ 0x16 ∷ 9 ∷ 0x10 ∷ 0 ∷ 0 ∷ []) ≡ line 2 4 16
unfolding read
tied-9 = refl

-- no path leads to an unreachable state: nothing is unbound there
unreachable : read (0x10 ∷ 0 ∷ 0x11 ∷ 2 ∷ 0x10 ∷ 0 ∷ 0x11 ∷ 2 ∷ 0x13 ∷ 0 ∷ 0 ∷ 0 ∷ 0x10 ∷ 2 ∷ 0 ∷ []) ≡ line 0 0 0
unfolding read
unreachable = refl

-- every path through the loop binds the variable first
loop-bound : read (0x10 ∷ 0 ∷ 0x11 ∷ 1 ∷ 0x14 ∷ 0 ∷ 0 ∷ 0x10 ∷ 0 ∷ 0x11 ∷ 1 ∷ 0x11 ∷ 2 ∷ 0x13 ∷ 0 ∷ 0 ∷ 0 ∷ 0x10 ∷ 2 ∷ 0 ∷ []) ≡ line 0 0 0
unfolding read
loop-bound = refl

-- a step around the loop that does not bind: unbound behind it
loop-unbound : read (0x10 ∷ 0 ∷ 0x11 ∷ 1 ∷ 0x14 ∷ 0 ∷ 0 ∷ 0x11 ∷ 1 ∷ 0x10 ∷ 0 ∷ 0x11 ∷ 1 ∷ 0x11 ∷ 2 ∷ 0x13 ∷ 0 ∷ 0 ∷ 0 ∷ 0x10 ∷ 2 ∷ 0 ∷ []) ≡ line 2 8 15
unfolding read
loop-unbound = refl

-- bound on one path and not on another, whichever stands first: unbound
bound-on-one : read (0x10 ∷ 0 ∷ 0x11 ∷ 1 ∷ 0x11 ∷ 1 ∷ 0x14 ∷ 0 ∷ 0 ∷ 0x10 ∷ 0 ∷ 0x11 ∷ 2 ∷ 0x13 ∷ 0 ∷ 0 ∷ 0 ∷ 0x10 ∷ 2 ∷ 0 ∷ []) ≡ line 2 8 13
unfolding read
bound-on-one = refl

-- at a VAR the step's own BIND counts
own-bind : read (0x10 ∷ 0 ∷ 0x11 ∷ 1 ∷ 0x14 ∷ 0 ∷ 0 ∷ 0x15 ∷ 0x21 ∷ 0 ∷ 0x10 ∷ 2 ∷ 0 ∷ []) ≡ line 0 0 0
unfolding read
own-bind = refl

-- at a TESTV it does not
own-bind-testv : read (0x10 ∷ 0 ∷ 0x11 ∷ 1 ∷ 0x14 ∷ 0 ∷ 0 ∷ 0x13 ∷ 0 ∷ 0 ∷ 0 ∷ 0x10 ∷ 2 ∷ 0 ∷ []) ≡ line 2 8 7
unfolding read
own-bind-testv = refl

-- a second GUARD is surplus
guard-twice : read (0x10 ∷ 0 ∷ 0x11 ∷ 1 ∷ 0x15 ∷ 0x20 ∷ 0 ∷ 0 ∷ 0 ∷ 1 ∷ 0x15 ∷ 0x20 ∷ 0 ∷ 0 ∷ 0 ∷ 1 ∷ 0x10 ∷ 2 ∷ 0 ∷ []) ≡ line 2 4 10
unfolding read
guard-twice = refl

-- a clause behind a GUARD is foreign, even as the ninth
clause-behind : read
    (0x10 ∷ 0 ∷ 0x11 ∷ 1 ∷ 0x14 ∷ 0 ∷ 0 ∷ 0x14 ∷ 0 ∷ 0 ∷ 0x14 ∷ 0 ∷ 0 ∷ 0x14 ∷ 0 ∷ 0 ∷ 0x14 ∷ 0 ∷ 0 ∷ 0x14 ∷ 0 ∷ 0 ∷ 0x14 ∷ 0 ∷ 0 ∷ 0x14 ∷ 0 ∷ 0 ∷ 0x15 ∷ 0x20
    ∷ 0 ∷ 0 ∷ 0 ∷ 1 ∷ 0x14 ∷ 0 ∷ 0 ∷ 0x10 ∷ 2 ∷ 0 ∷ [])
    ≡ line 2 2 34
unfolding read
clause-behind = refl

-- a step gathers into each of the four lists, and a guard reads them after it
gather-lists : read
    (0x10 ∷ 0 ∷ 0x11 ∷ 1 ∷ 0x17 ∷ 0 ∷ 8 ∷ 0x17 ∷ 1 ∷ 9 ∷ 0x17 ∷ 0 ∷ 10 ∷ 0x17 ∷ 1 ∷ 11 ∷ 0x15 ∷ 0x26 ∷ 0x2C ∷ 8 ∷ 0x23 ∷ 0x2D ∷ 9 ∷ 0x2E ∷ 11
    ∷ 0x10 ∷ 2 ∷ 0 ∷ [])
    ≡ line 0 0 0
unfolding read
gather-lists = refl

-- a second GATHER into the same list is twice, at that GATHER
gather-again : read (0x10 ∷ 0 ∷ 0x11 ∷ 1 ∷ 0x17 ∷ 0 ∷ 8 ∷ 0x17 ∷ 1 ∷ 8 ∷ 0x10 ∷ 2 ∷ 0 ∷ []) ≡ line 2 12 7
unfolding read
gather-again = refl

-- twice comes before a field that does not exist
gather-again-value : read (0x10 ∷ 0 ∷ 0x11 ∷ 1 ∷ 0x17 ∷ 0 ∷ 8 ∷ 0x17 ∷ 9 ∷ 8 ∷ 0x10 ∷ 2 ∷ 0 ∷ []) ≡ line 2 12 7
unfolding read
gather-again-value = refl

-- cut short comes before twice
gather-again-cut : read (0x10 ∷ 0 ∷ 0x11 ∷ 1 ∷ 0x17 ∷ 0 ∷ 8 ∷ 0x17 ∷ 0 ∷ []) ≡ line 2 1 7
unfolding read
gather-again-cut = refl

-- the ninth clause is surplus before twice
gather-ninth : read
    (0x10 ∷ 0 ∷ 0x11 ∷ 1 ∷ 0x17 ∷ 0 ∷ 8 ∷ 0x17 ∷ 0 ∷ 9 ∷ 0x17 ∷ 0 ∷ 10 ∷ 0x17 ∷ 0 ∷ 11 ∷ 0x14 ∷ 0 ∷ 0 ∷ 0x14 ∷ 0 ∷ 0 ∷ 0x14 ∷ 0 ∷ 0 ∷ 0x14 ∷ 0
    ∷ 0 ∷ 0x17 ∷ 0 ∷ 8 ∷ 0x10 ∷ 2 ∷ 0 ∷ [])
    ≡ line 2 4 28
unfolding read
gather-ninth = refl

-- a GATHER behind its step's GUARD is foreign
gather-behind : read (0x10 ∷ 0 ∷ 0x11 ∷ 1 ∷ 0x17 ∷ 0 ∷ 8 ∷ 0x15 ∷ 0x2D ∷ 8 ∷ 0x17 ∷ 0 ∷ 8 ∷ 0x10 ∷ 2 ∷ 0 ∷ []) ≡ line 2 2 10
unfolding read
gather-behind = refl

-- and one behind no STEP
gather-first : read (0x10 ∷ 0 ∷ 0x17 ∷ 0 ∷ 8 ∷ 0 ∷ []) ≡ line 2 2 2
unfolding read
gather-first = refl

-- another step may gather into the same list
gather-other-step : read (0x10 ∷ 0 ∷ 0x11 ∷ 1 ∷ 0x17 ∷ 0 ∷ 8 ∷ 0x11 ∷ 1 ∷ 0x17 ∷ 0 ∷ 8 ∷ 0x10 ∷ 2 ∷ 0 ∷ []) ≡ line 0 0 0
unfolding read
gather-other-step = refl

-- no variable below 8 is a list: 3, not 12
gather-0-behind-8 : read (0x10 ∷ 0 ∷ 0x11 ∷ 1 ∷ 0x17 ∷ 0 ∷ 8 ∷ 0x17 ∷ 0 ∷ 0 ∷ 0x10 ∷ 2 ∷ 0 ∷ []) ≡ line 2 3 7
unfolding read
gather-0-behind-8 = refl

-- nor is 12
gather-12 : read (0x10 ∷ 0 ∷ 0x11 ∷ 1 ∷ 0x17 ∷ 0 ∷ 12 ∷ 0x10 ∷ 2 ∷ 0 ∷ []) ≡ line 2 3 4
unfolding read
gather-12 = refl

-- a field that does not exist
gather-field : read (0x10 ∷ 0 ∷ 0x11 ∷ 1 ∷ 0x17 ∷ 2 ∷ 8 ∷ 0x10 ∷ 2 ∷ 0 ∷ []) ≡ line 2 3 4
unfolding read
gather-field = refl

-- a list is no variable of a VAR, BIND, TESTV or TIED
var-8 : read (0x10 ∷ 0 ∷ 0x11 ∷ 1 ∷ 0x15 ∷ 0x21 ∷ 8 ∷ 0x10 ∷ 2 ∷ 0 ∷ []) ≡ line 2 3 5
unfolding read
var-8 = refl

bind-8 : read (0x10 ∷ 0 ∷ 0x11 ∷ 1 ∷ 0x14 ∷ 0 ∷ 8 ∷ 0x10 ∷ 2 ∷ 0 ∷ []) ≡ line 2 3 4
unfolding read
bind-8 = refl

testv-8 : read (0x10 ∷ 0 ∷ 0x11 ∷ 1 ∷ 0x13 ∷ 0 ∷ 0 ∷ 8 ∷ 0x10 ∷ 2 ∷ 0 ∷ []) ≡ line 2 3 4
unfolding read
testv-8 = refl

tied-8 : read (0x16 ∷ 8 ∷ 0x10 ∷ 0 ∷ 0 ∷ []) ≡ line 2 3 0
unfolding read
tied-8 = refl

-- a variable is no list of a SUM, LENGTH or DIFFERENT
sum-7 : read (0x10 ∷ 0 ∷ 0x11 ∷ 1 ∷ 0x15 ∷ 0x2C ∷ 7 ∷ 0x10 ∷ 2 ∷ 0 ∷ []) ≡ line 2 3 5
unfolding read
sum-7 = refl

length-12 : read (0x10 ∷ 0 ∷ 0x11 ∷ 1 ∷ 0x15 ∷ 0x2D ∷ 12 ∷ 0x10 ∷ 2 ∷ 0 ∷ []) ≡ line 2 3 5
unfolding read
length-12 = refl

different-0 : read (0x10 ∷ 0 ∷ 0x11 ∷ 1 ∷ 0x15 ∷ 0x2E ∷ 0 ∷ 0x10 ∷ 2 ∷ 0 ∷ []) ≡ line 2 3 5
unfolding read
different-0 = refl

-- cut short comes before that
sum-cut : read (0x10 ∷ 0 ∷ 0x11 ∷ 1 ∷ 0x15 ∷ 0x2C ∷ []) ≡ line 2 1 5
unfolding read
sum-cut = refl

-- depth 9 is surplus for them too
list-deep-9 : read (0x10 ∷ 0 ∷ 0x11 ∷ 1 ∷ 0x15 ∷ 0x28 ∷ 0x28 ∷ 0x28 ∷ 0x28 ∷ 0x28 ∷ 0x28 ∷ 0x28 ∷ 0x28 ∷ 0x2C ∷ 8 ∷ 0x10 ∷ 2 ∷ 0 ∷ []) ≡ line 2 4 13
unfolding read
list-deep-9 = refl

-- leftover comes before an absent state
leftover-first : read (0x10 ∷ 0 ∷ 0x11 ∷ 5 ∷ 0 ∷ 7 ∷ []) ≡ line 2 5 5
unfolding read
leftover-first = refl

-- a COUNT that names an absent state
absent-count : read (0x10 ∷ 0 ∷ 0x11 ∷ 0 ∷ 0x15 ∷ 0x22 ∷ 3 ∷ 0 ∷ []) ≡ line 2 13 5
unfolding read
absent-count = refl

-- one that no file could declare
absent-255 : read (0x10 ∷ 0 ∷ 0x11 ∷ 0 ∷ 0x15 ∷ 0x22 ∷ 255 ∷ 0 ∷ []) ≡ line 2 13 5
unfolding read
absent-255 = refl

-- a STEP, in a state that no path reaches, before a dead start
absent-target : read (0x10 ∷ 2 ∷ 0x10 ∷ 0 ∷ 0x11 ∷ 2 ∷ 0 ∷ []) ≡ line 2 13 4
unfolding read
absent-target = refl

-- the lowest offset decides: a COUNT before the STEP behind it, also before an unbound variable
absent-first : read (0x10 ∷ 0 ∷ 0x11 ∷ 0 ∷ 0x15 ∷ 0x23 ∷ 0x21 ∷ 0 ∷ 0x22 ∷ 1 ∷ 0x11 ∷ 9 ∷ 0 ∷ []) ≡ line 2 13 8
unfolding read
absent-first = refl

-- a dead start is at place 0, also behind TIEDs
dead-start : read (0x16 ∷ 0 ∷ 0x10 ∷ 2 ∷ 0 ∷ []) ≡ line 2 7 0
unfolding read
dead-start = refl

-- cut short comes before a value that does not exist
cut-first : read (0x10 ∷ 0 ∷ 0x11 ∷ 1 ∷ 0x12 ∷ 9 ∷ []) ≡ line 2 1 4
unfolding read
cut-first = refl

-- an empty file
empty : read ([]) ≡ line 2 1 0
unfolding read
empty = refl

-- END before the first STATE is foreign
end-first : read (0 ∷ []) ≡ line 2 2 0
unfolding read
end-first = refl
