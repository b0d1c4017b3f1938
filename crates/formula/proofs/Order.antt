-- "The first bad command decides; within one the order is 2, 4, 1, 3", 12 "after 4 and 1 and before 3". "After END: 5"; then 13 'absent state', "where 3
-- stood after 5"; "then 7; then 8": each refusal, whatever else is wrong that comes later in this order.
use Prim.Native.Nat.{ℕ, zero, suc, ◌+◌, ◌-◌, ◌<◌, ◌≤◌}
use mathlib.Core.Path.{◌≡◌, refl, sym, subst}
use mathlib.Core.Logic.{◌⊎◌, inl, inr}
use mathlib.Core.Bool.{Bool, true, false, ◌&&◌}
use mathlib.Core.List.{List, [], ◌∷◌}
use mathlib.Core.Option.{none, some}
use native.Mathlib.Omega.{arith}
use borrow.Author.Tests.{ltb-true, ltb-false, lt-ltb, le-ltb}
use lib.Dec.{ltb}
use lib.ListN.{length, get_or}
use Rattle.base.proofs.Tests.{cond-holds}
use Rattle.refusal.specs.declared.File.TheVariants.{Formula as InFormula}
use Rattle.refusal.specs.declared.Refusal.TheVariants.{CutShort, Foreign, Value, Surplus, Leftover, DeadStart, Unbound as UnboundAt, Twice, AbsentState}
use Rattle.formula.specs.Formula.{GATHER, Formula}
use Rattle.formula.specs.Encode.{Command, CLAUSE, commands}
use Rattle.formula.specs.Unbound.{is_unbound}
use Rattle.formula.specs.Correct.{dead_start}
use Rattle.formula.specs.declared.Summary.{Summary}
use Rattle.formula.specs.declared.Opcode.TheVariants.{Gather as gather-op}
use Rattle.formula.specs.Read.{accepted, refused, opcode, allowed, room, failed, ExprOpcode, const-op, var-op, count-op, list_op, unary, binary}
use Rattle.formula.specs.Read.{ternary, foreign_op, expr_opcode, over_of, over, is_list, expr_with, read_expr, Next, command, bad, operands, again}
use Rattle.formula.specs.Read.{operands_of, next}
use Rattle.formula.specs.Read.{first_absent, first_unbound, judge, after_end}

-- the command of byte b, with the bytes `ops` behind it
module _ (fields : ℕ) (s : Summary) (at b : ℕ) (ops : List ℕ) where
  -- 2: one that is not allowed there is foreign
  pub foreign-first : allowed s (opcode b) ≡ false → next fields s at (b ∷ ops) ≡ bad (Foreign InFormula at)
  unfolding next
  foreign-first a = rw a

  -- 4: one that is allowed there, but over a stated count, is surplus
  pub then-surplus : allowed s (opcode b) ≡ true → room s (opcode b) ≡ false → next fields s at (b ∷ ops) ≡ bad (Surplus InFormula at)
  unfolding next
  then-surplus a r = rw (a, r)

  -- where there is room too, its operands decide
  pub then-operands : allowed s (opcode b) ≡ true → room s (opcode b) ≡ true → next fields s at (b ∷ ops) ≡ operands_of fields s.gathered at ops (opcode b)
  unfolding next
  then-operands a r = rw (a, r)

  -- the three together: what holds of each answer holds of the next command
  pub by_order : (P : Next → Type 0) → P (bad (Foreign InFormula at)) → P (bad (Surplus InFormula at))
      → (allowed s (opcode b) ≡ true → room s (opcode b) ≡ true → P (operands_of fields s.gathered at ops (opcode b)))
      → P (next fields s at (b ∷ ops))
  by_order P f g h = go (allowed s (opcode b)) (room s (opcode b)) refl refl
    where
      go : (a r : Bool) → allowed s (opcode b) ≡ a → room s (opcode b) ≡ r → P (next fields s at (b ∷ ops))
      go false r x y = subst P (sym (foreign-first x)) f
      go true false x y = subst P (sym (then-surplus x y)) g
      go true true x y = subst P (sym (then-operands x y)) (h x y)

-- a command's operands of fixed width, and whether they exist
module _ (at : ℕ) (ops : List ℕ) (width : ℕ) (exist : Bool) (c : Command) where
  -- 1: operands that run past the end
  pub then-cut-short : length ops < width → operands at ops width exist c ≡ bad (CutShort InFormula at)
  then-cut-short h = rw (lt-ltb (length ops) width h)

  -- 3: all there, but one does not exist
  pub then-value : width ≤ length ops → exist ≡ false → operands at ops width exist c ≡ bad (Value InFormula at)
  then-value h e = rw (le-ltb (length ops) width h, e)

  -- nothing is wrong: the command is taken
  pub then-taken : width ≤ length ops → exist ≡ true → operands at ops width exist c ≡ command c (1 + width)
  then-taken h e = rw (le-ltb (length ops) width h, e)

  -- the three together, as above
  pub by-operands : (P : Next → Type 0) → P (bad (CutShort InFormula at)) → P (bad (Value InFormula at))
      → (width ≤ length ops → exist ≡ true → P (command c (1 + width))) → P (operands at ops width exist c)
  by-operands P f g h = go (ltb (length ops) width) exist refl refl
    where
      go : (k e : Bool) → ltb (length ops) width ≡ k → exist ≡ e → P (operands at ops width exist c)
      go true e x y = subst P (sym (then-cut-short (ltb-true (length ops) width x))) f
      go false false x y = subst P (sym (then-value (ltb-false (length ops) width x) y)) g
      go false true x y =
          let k = ltb-false (length ops) width x in
          subst P (sym (then-taken k y)) (h k y)

-- a GATHER, where `seen` marks the lists that its step gathers into
module _ (fields : ℕ) (seen : List Bool) (at : ℕ) (ops : List ℕ) where
  -- the command, if its operands exist
  abbrev pub gather_of : Next
  gather_of = operands at ops 2 (ltb (get_or ops 0 0) fields && is_list (get_or ops 1 0)) (CLAUSE (GATHER (get_or ops 0 0) (get_or ops 1 0 - 8)))

  -- 1 comes first
  pub gather-cut-short : length ops < 2 → operands_of fields seen at ops gather-op ≡ bad (CutShort InFormula at)
  gather-cut-short h = rw (lt-ltb (length ops) 2 h)

  -- 12: its step gathers into that list already, whether or not the field exists
  pub then-twice : 2 ≤ length ops → again seen (get_or ops 1 0) ≡ true → operands_of fields seen at ops gather-op ≡ bad (Twice at)
  then-twice h e = rw (le-ltb (length ops) 2 h, e)

  -- then 3, or nothing is wrong
  pub then-once : again seen (get_or ops 1 0) ≡ false → operands_of fields seen at ops gather-op ≡ gather_of
  then-once e = go (ltb (length ops) 2) refl
    where
      go : (b : Bool) → ltb (length ops) 2 ≡ b → operands_of fields seen at ops gather-op ≡ gather_of
      go true k = rw k
      go false k = rw (k, e)

  -- the three together, as above
  pub by-gather : (P : Next → Type 0) → P (bad (CutShort InFormula at)) → P (bad (Twice at)) → (again seen (get_or ops 1 0) ≡ false → P gather_of)
      → P (operands_of fields seen at ops gather-op)
  by-gather P f g h = cond-holds P (ltb (length ops) 2) _ _ (λ k. f) (λ k. cond-holds P (again seen (get_or ops 1 0)) _ _ (λ e. g) h)

-- 2 within an expression: what begins no expression is foreign, also one over the depth or the count
pub expr-foreign-first : (d left at b : ℕ) (ops : List ℕ) → expr_opcode b ≡ foreign_op → read_expr d left at (b ∷ ops) ≡ failed (Foreign InFormula at)
unfolding read_expr expr_with over
expr-foreign-first zero left at b ops e = rw e
expr-foreign-first (suc d) zero at b ops e = rw e
expr-foreign-first (suc d) (suc left) at b ops e = rw e

-- 4 within an expression: what begins one, over the depth or the count, is surplus
over-surplus : (at : ℕ) (o : ExprOpcode) → ¬ (o ≡ foreign_op) → over_of at o ≡ failed (Surplus InFormula at)
over-surplus at const-op n = refl
over-surplus at var-op n = refl
over-surplus at count-op n = refl
over-surplus at (list_op mk) n = refl
over-surplus at (unary mk) n = refl
over-surplus at (binary mk) n = refl
over-surplus at (ternary mk) n = refl
over-surplus at foreign_op n = absurd (n refl)

pub expr-then-surplus : (d left at b : ℕ) (ops : List ℕ) → ¬ (expr_opcode b ≡ foreign_op) → (d ≡ 0) ⊎ (left ≡ 0)
    → read_expr d left at (b ∷ ops) ≡ failed (Surplus InFormula at)
unfolding read_expr expr_with over
expr-then-surplus zero left at b ops n h = over-surplus at (expr_opcode b) n
expr-then-surplus (suc d) zero at b ops n h = over-surplus at (expr_opcode b) n
expr-then-surplus (suc d) (suc left) at b ops n (inl h) = absurd (omega arith)
expr-then-surplus (suc d) (suc left) at b ops n (inr h) = absurd (omega arith)

-- the bytes behind END, which begin at `at`
module _ (f : Formula) (at : ℕ) where
  -- 5: "bytes after END; the first of them"
  pub leftover-first : (b : ℕ) (bs : List ℕ) → after_end f at (b ∷ bs) ≡ refused (Leftover InFormula at)
  unfolding after_end
  leftover-first b bs = refl

  -- 13: "the first STEP or COUNT naming an absent state"
  pub then-absent : (p : ℕ) → first_absent (length f.states) 0 (commands f) ≡ some p → after_end f at [] ≡ refused (AbsentState p)
  unfolding after_end judge
  then-absent p a = rw a

  -- 7: "state 0 accepts or rejects"
  pub then-dead-start : first_absent (length f.states) 0 (commands f) ≡ none → dead_start f.states ≡ true → after_end f at [] ≡ refused DeadStart
  unfolding after_end judge
  then-dead-start a d = rw (a, d)

  -- 8: "a TESTV or VAR as above, the first in the file"
  pub then-unbound : (p : ℕ) → first_absent (length f.states) 0 (commands f) ≡ none → dead_start f.states ≡ false
      → first_unbound (is_unbound f) 0 [] 0 (commands f) ≡ some p → after_end f at [] ≡ refused (UnboundAt p)
  unfolding after_end judge
  then-unbound p a d u = rw (a, d, u)

  -- nothing is wrong: the formula is accepted
  pub then-accepted : first_absent (length f.states) 0 (commands f) ≡ none → dead_start f.states ≡ false
      → first_unbound (is_unbound f) 0 [] 0 (commands f) ≡ none → after_end f at [] ≡ accepted f
  unfolding after_end judge
  then-accepted a d u = rw (a, d, u)
