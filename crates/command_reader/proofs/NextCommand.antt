-- The next command on bytes alone is the definition's.
use Prim.Native.Nat.{ℕ, suc, ◌+◌, ◌-◌, ◌<◌}
use mathlib.Core.Path.{◌≡◌, refl, ap}
use mathlib.Core.Bool.{Bool, true, false, cond, ◌&&◌}
use mathlib.Core.List.{List, [], ◌∷◌}
use Rattle.std.specs.Prelude.{Result, Ok, Err}
use native.Mathlib.Numerals.{one-add}
use native.Mathlib.Omega.{arith}
use borrow.Author.Tests.{ltb-true, ne_eqb}
use lib.Dec.{ltb}
use lib.ListN.{length, get_or}
use Rattle.base.specs.Value.{value_at}
use Rattle.refusal.specs.declared.File.TheVariants.{Formula as InFormula}
use Rattle.refusal.specs.declared.Refusal.{Refusal}
use Rattle.refusal.specs.declared.Refusal.TheVariants.{CutShort, Foreign, Value, Surplus, Twice}
use Rattle.command_reader.specs.declared.Command.{Command as Kept}
use Rattle.command_reader.specs.declared.Command.TheVariants.{State, Gather}
use Rattle.command_reader.specs.declared.Taken.{Taken}
use Rattle.formula.specs.Formula.{TEST, TESTV, BIND, GATHER}
use Rattle.formula.specs.Encode.{Command, TIED, STATE, STEP, CLAUSE}
use Rattle.formula.specs.declared.Summary.{Summary}
use Rattle.formula.specs.declared.Opcode.{Opcode}
use Rattle.formula.specs.declared.Opcode.TheVariants.{End as end-op, State as state-op, Step as step_op, Test as test-op, Testv as testv-op}
use Rattle.formula.specs.declared.Opcode.TheVariants.{Bind as bind-op, Guard as guard-op, Tied as tied-op, Gather as gather-op, Other as other-op}
use Rattle.formula.specs.Read.{opcode, allowed, room, operator_of, kind_of, ExprNext, expression, failed, read_expr, Next, command, bad, operands}
use Rattle.formula.specs.Read.{is_list, guard_of, again, operands_of, next}
use Rattle.expression_reader.specs.inner.Prefix.{shape}
use Rattle.command_reader.specs.inner.Take.{command_shape, guard_noted, NextEnd, breaks, taken_end, next_shape, fixed_at, state_at, step_at, tied_at}
use Rattle.command_reader.specs.inner.Take.{test_at, testv_at, bind_at, gather_at, guard_at, taken_at, begun, next_at}
use Rattle.formula.proofs.Commands.{kind-back}
use Rattle.expression_reader.proofs.Operands.{ltb-suc, suc-eqb}

module _ (st : ℕ) (own : List Bool) (at : ℕ) (places : List ℕ) where
  -- the tests before a command's own are the same
  tested : (t u : Bool) (x : Next) (y : NextEnd) (p q : Refusal) → next_shape st own at places x ≡ y
      → next_shape st own at places (cond t (cond u x (bad p)) (bad q)) ≡ cond t (cond u y (breaks p)) (breaks q)
  tested true true x y p q h = h
  tested true false x y p q h = refl
  tested false u x y p q h = refl

  fixed-by : (t : Bool) (w : ℕ) (exist : Bool) (c : Command) (k : Kept) → guard_noted st own at places c ≡ places → (exist ≡ true → command_shape c ≡ k)
      → next_shape st own at places (cond t (bad (CutShort InFormula at)) (cond exist (command c (1 + w)) (bad (Value InFormula at)))) ≡ taken_end
      (cond t (Err (CutShort InFormula at)) (cond exist (Ok (record { command = k; used = suc w })) (Err (Value InFormula at)))) places
  fixed-by true w exist c k g h = refl
  fixed-by false w true c k g h = rw (h refl, g, one-add)
  fixed-by false w false c k g h = refl

  -- a command of a fixed width
  fixed : (b : ℕ) (ops : List ℕ) (w : ℕ) (exist : Bool) (c : Command) (k : Kept) → guard_noted st own at places c ≡ places
      → (exist ≡ true → command_shape c ≡ k)
      → next_shape st own at places (operands at ops w exist c) ≡ taken_end (fixed_at (b ∷ ops) at (suc w) exist k) places
  unfolding fixed_at
  fixed b ops w exist c k g h = rw (ltb-suc (length ops) w) (fixed-by (ltb (length ops) w) w exist c k g h)

  -- a GATHER: the tests before its operands are the same
  twice-by : (t u : Bool) (x : Next) (y : Result Taken Refusal) → next_shape st own at places x ≡ taken_end y places
      → next_shape st own at places (cond t (bad (CutShort InFormula at)) (cond u (bad (Twice at)) x))
      ≡ taken_end (cond t (Err (CutShort InFormula at)) (cond u (Err (Twice at)) y)) places
  twice-by true u x y h = refl
  twice-by false true x y h = refl
  twice-by false false x y h = h

  guard-is : (x : ExprNext) → next_shape st own at places (guard_of x) ≡ Rattle.command_reader.specs.inner.Take.guard_of (shape st own (at + 1) places x)
  guard-is (expression e u m) = refl
  guard-is (failed r) = refl

  taken_is : (seen : List Bool) (fields b : ℕ) (ops : List ℕ) (o : Opcode)
      → next_shape st own at places (operands_of fields seen at ops o) ≡ taken_at st own seen fields (b ∷ ops) at places o
  taken_is seen fields b ops end-op = refl
  taken_is seen fields b ops state-op =
      fixed b ops 1 (ltb (get_or ops 0 0) 4) (STATE (kind_of (get_or ops 0 0))) (State (get_or ops 0 0)) refl
      (λ e. ap State (kind-back (get_or ops 0 0) (ltb-true (get_or ops 0 0) 4 e)))
  taken_is seen fields b ops step_op = fixed b ops 1 true (STEP (get_or ops 0 0)) _ refl (λ e. refl)
  taken_is seen fields b ops test-op =
      fixed b ops 6 (ltb (get_or ops 0 0) fields && ltb (get_or ops 1 0) 6) (CLAUSE (TEST (get_or ops 0 0) (operator_of (get_or ops 1 0)) (value_at ops 2))) _
      refl (λ e. refl)
  taken_is seen fields b ops testv-op =
      fixed b ops 3 (ltb (get_or ops 0 0) fields && ltb (get_or ops 1 0) 6 && ltb (get_or ops 2 0) 8)
      (CLAUSE (TESTV (get_or ops 0 0) (operator_of (get_or ops 1 0)) (get_or ops 2 0))) _ refl (λ e. refl)
  taken_is seen fields b ops bind-op =
      fixed b ops 2 (ltb (get_or ops 0 0) fields && ltb (get_or ops 1 0) 8) (CLAUSE (BIND (get_or ops 0 0) (get_or ops 1 0))) _ refl (λ e. refl)
  taken_is seen fields b ops guard-op = guard-is (read_expr 8 31 (at + 1) ops)
  taken_is seen fields b ops tied-op = fixed b ops 1 (ltb (get_or ops 0 0) 8) (TIED (get_or ops 0 0)) _ refl (λ e. refl)
  taken_is seen fields b ops gather-op =
      let exist = ltb (get_or ops 0 0) fields && is_list (get_or ops 1 0) in
      let v = get_or ops 1 0 - 8 in
      rw (ltb-suc (length ops) 2)
      (twice-by (ltb (length ops) 2) (again seen (get_or ops 1 0)) (operands at ops 2 exist (CLAUSE (GATHER (get_or ops 0 0) v)))
      (fixed_at (b ∷ ops) at 3 exist (Gather v)) (fixed b ops 2 exist (CLAUSE (GATHER (get_or ops 0 0) v)) _ refl (λ e. refl)))
  taken_is seen fields b ops other-op = refl

-- the next command on bytes alone is the definition's
pub next_is : (own : List Bool) (at : ℕ) (places : List ℕ) (fields : ℕ) (s : Summary) (bs : List ℕ)
    → next_shape (s.states - 1) own at places (next fields s at bs) ≡ next_at s own fields bs at places
unfolding next next_at
next_is own at places fields s [] = refl
next_is own at places fields s (b ∷ ops) =
    let st = s.states - 1 in
    let o = opcode b in
    let taken = taken_at st own s.gathered fields (b ∷ ops) at places o in
    rw (suc-eqb (length ops))
    (tested st own at places (allowed s o) (room s o) (operands_of fields s.gathered at ops o) taken (Surplus InFormula at) (Foreign InFormula at)
    (taken_is st own at places s.gathered fields b ops o))

-- the same where a command begins with a byte that names it
pub next_op : (own : List Bool) (at : ℕ) (places : List ℕ) (fields : ℕ) (s : Summary) (bs : List ℕ) (op : Opcode) (b : ℕ)
    → (0 < length bs) × ((d : ℕ) → b ≡ get_or bs 0 d) → op ≡ opcode b
    → next_shape (s.states - 1) own at places (next fields s at bs) ≡ begun s own fields bs at places op
unfolding next_at
next_op own at places fields s bs op b h e =
    rw (next_is own at places fields s bs, ne_eqb (length bs) 0 (λ z. omega (arith, h.0)), ← (h.1 0), ← e)
