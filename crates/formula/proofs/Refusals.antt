-- What a formula is refused with: a command's refusal, or one of 5, 13, 7 and 8 behind END, of the formula, at a place in the file or at its end.
use Prim.Native.Nat.{ℕ, zero, suc, ◌+◌, ◌-◌, ◌≤◌}
use mathlib.Core.Path.{◌≡◌, refl, ap, subst, ◌∙◌}
use mathlib.Core.Bool.{Bool, true, false, not}
use mathlib.Core.List.{List, [], ◌∷◌, ◌++◌, map, flat_map}
use mathlib.Core.Option.{Option, none, some}
use native.Mathlib.Omega.{arith}
use lib.Dec.{ltb}
use lib.ListN.{length, drop, length-append, length-drop}
use Rattle.base.proofs.Tests.{cond-holds}
use Rattle.base.proofs.Lists.{flat_map-append}
use Rattle.refusal.specs.declared.File.TheVariants.{Formula as InFormula}
use Rattle.refusal.specs.declared.Refusal.{Refusal}
use Rattle.refusal.specs.declared.Refusal.TheVariants.{Leftover, DeadStart, Unbound as UnboundAt, AbsentState}
use Rattle.formula.specs.Formula.{Leaf, Expr, Clause, TEST, TESTV, BIND, GATHER, Formula}
use Rattle.formula.specs.Encode.{Command, TIED, STATE, STEP, CLAUSE, GUARD, guard_commands, step_commands, state_commands, commands, encode_expr}
use Rattle.formula.specs.Encode.{encode_command}
use Rattle.formula.specs.Absent.{LeafAt}
use Rattle.formula.specs.Unbound.{is_unbound}
use Rattle.formula.specs.Correct.{dead_start}
use Rattle.formula.specs.declared.Summary.{Summary}
use Rattle.formula.specs.Read.{Reading, accepted, refused, start, advance}
use Rattle.formula.specs.Read.{Next, command, end, bad, next, Assembly}
use Rattle.formula.specs.Read.{in_front, assembly, assemble, or_else, when, first_leaf, absent_leaf, absent_in, first_absent, seen_after, own_after}
use Rattle.formula.specs.Read.{unbound_leaf, unbound_in, first_unbound, refused_at, judge, after_end, follow, read_from, read_formula}
use Rattle.formula.proofs.CommandRefusals.{CommandRefusal, cut_short, Tells, next-tells}
use Rattle.formula.proofs.Leaves.{First, leaf-inside, leaf_first}
use Rattle.formula.proofs.Reading.{encode_snoc}

-- a refusal of a formula with n bytes: of one of its commands, or behind END
pub data FormulaRefusal (n : ℕ) : Refusal → Type 0 where
  of-command : {r : Refusal} → CommandRefusal n r → FormulaRefusal n r
  leftover : {p : ℕ} → p ≤ n → FormulaRefusal n (Leftover InFormula p)
  absent-state : {p : ℕ} → p ≤ n → FormulaRefusal n (AbsentState p)
  dead-start : FormulaRefusal n DeadStart
  unbound : {p : ℕ} → p ≤ n → FormulaRefusal n (UnboundAt p)

-- behind END, the place that is found, if there is one, is at most n
data Within (n : ℕ) : Option ℕ → Type 0 where
  nowhere : Within n none
  place : {p : ℕ} → p ≤ n → Within n (some p)

else-within : {n : ℕ} {x y : Option ℕ} → Within n x → Within n y → Within n (or_else x y)
else-within nowhere k = k
else-within (place h) k = place h

when-within : (n : ℕ) (t : Bool) (at : ℕ) → at ≤ n → Within n (when t at)
when-within n true at h = place h
when-within n false at h = nowhere

leaf-within : (n : ℕ) (p : Leaf → Bool) (at : ℕ) (e : Expr) → at + length (encode_expr e) ≤ n → Within n (first_leaf p at e)
leaf-within n p at e h = go (first_leaf p at e) (leaf_first p (λ l. p l ≡ false) (λ l q. q) (λ l q. q) at e)
  where
    go : (o : Option ℕ) → First (LeafAt (λ l. ¬ (p l ≡ false)) at e) o → Within n o
    go none f = nowhere
    go (some k) f = let i = (leaf-inside (λ l. ¬ (p l ≡ false)) k at e f.0).1 in place {p = k} (omega arith)

-- the bytes of commands
abbrev bytes_in : List Command → ℕ
bytes_in cs = length (flat_map encode_command cs)

bytes-cons : (c : Command) (cs : List Command) → bytes_in (c ∷ cs) ≡ length (encode_command c) + bytes_in cs
unfolding flat_map
bytes-cons c cs = length-append (encode_command c) (flat_map encode_command cs)

bytes-append : (cs ds : List Command) → bytes_in (cs ++ ds) ≡ bytes_in cs + bytes_in ds
bytes-append cs ds = ap length (flat_map-append encode_command cs ds) ∙ length-append (flat_map encode_command cs) (flat_map encode_command ds)

bytes-snoc : (cs : List Command) (c : Command) → bytes_in (cs ++ (c ∷ [])) ≡ bytes_in cs + length (encode_command c)
bytes-snoc cs c = ap length (encode_snoc cs c) ∙ length-append (flat_map encode_command cs) (encode_command c)

absent-within : (n states at : ℕ) (c : Command) → at + length (encode_command c) ≤ n → Within n (absent_in states at c)
unfolding encode_command
absent-within n states at (TIED v) h = nowhere
absent-within n states at (STATE k) h = nowhere
absent-within n states at (STEP t) h = when-within n (not (ltb t states)) at (omega arith)
absent-within n states at (CLAUSE c) h = nowhere
absent-within n states at (GUARD e) h = leaf-within n (absent_leaf states) (at + 1) e (omega arith)

first-absent-within : (n states at : ℕ) (cs : List Command) → at + bytes_in cs ≤ n → Within n (first_absent states at cs)
unfolding first_absent
first-absent-within n states at [] h = nowhere
first-absent-within n states at (c ∷ cs) h =
    let k = bytes-cons c cs in
    else-within (absent-within n states at c (omega arith)) (first-absent-within n states (at + length (encode_command c)) cs (omega arith))

module _ (n : ℕ) (open_at : ℕ → ℕ → Bool) where
  unbound-within : (seen : ℕ) (own : List Clause) (at : ℕ) (c : Command) → at + length (encode_command c) ≤ n → Within n (unbound_in open_at seen own at c)
  unfolding encode_command
  unbound-within seen own at (TIED v) h = nowhere
  unbound-within seen own at (STATE k) h = nowhere
  unbound-within seen own at (STEP t) h = nowhere
  unbound-within seen own at (CLAUSE (TEST f o x)) h = nowhere
  unbound-within seen own at (CLAUSE (TESTV f o v)) h = when-within n (open_at v (seen - 1)) at (omega arith)
  unbound-within seen own at (CLAUSE (BIND f v)) h = nowhere
  unbound-within seen own at (CLAUSE (GATHER f v)) h = nowhere
  unbound-within seen own at (GUARD e) h = leaf-within n (unbound_leaf open_at seen own) (at + 1) e (omega arith)

  first-unbound-within : (seen : ℕ) (own : List Clause) (at : ℕ) (cs : List Command) → at + bytes_in cs ≤ n → Within n (first_unbound open_at seen own at cs)
  unfolding first_unbound
  first-unbound-within seen own at [] h = nowhere
  first-unbound-within seen own at (c ∷ cs) h =
      let k = bytes-cons c cs in
      else-within (unbound-within seen own at c (omega arith))
      (first-unbound-within (seen_after seen c) (own_after own c) (at + length (encode_command c)) cs (omega arith))

-- the bytes of all that is assembled
weight : Assembly → ℕ
weight g =
    bytes_in (map TIED g.tied) +
    (bytes_in (map CLAUSE g.clauses) +
    (bytes_in (guard_commands g.guard) + (bytes_in (flat_map step_commands g.steps) + bytes_in (flat_map state_commands g.states))))

-- a command adds no more than its own bytes
front-weight : (c : Command) (g : Assembly) → weight (in_front c g) ≤ length (encode_command c) + weight g
unfolding weight flat_map guard_commands step_commands state_commands
front-weight (TIED v) g = omega (arith, bytes-cons (TIED v) (map TIED g.tied))
front-weight (STATE k) g =
    let ts = flat_map step_commands g.steps in
    omega (arith, bytes-append (STATE k ∷ ts) (flat_map state_commands g.states), bytes-cons (STATE k) ts)
front-weight (STEP t) g =
    let cs = map CLAUSE g.clauses in
    let o = guard_commands g.guard in
    omega (arith, bytes-append (STEP t ∷ (cs ++ o)) (flat_map step_commands g.steps), bytes-cons (STEP t) (cs ++ o), bytes-append cs o)
front-weight (CLAUSE c) g = omega (arith, bytes-cons (CLAUSE c) (map CLAUSE g.clauses))
front-weight (GUARD e) g = omega (arith, bytes-cons (GUARD e) [])

assembly-weight : (cs : List Command) → weight (assembly cs) ≤ bytes_in cs
unfolding weight assembly flat_map guard_commands
assembly-weight [] = omega arith
assembly-weight (c ∷ cs) = omega (arith, bytes-cons c cs, front-weight c (assembly cs), assembly-weight cs)

-- the formula of some commands has no more bytes than they have
assembled-short : (cs : List Command) → bytes_in (commands (assemble cs)) ≤ bytes_in cs
unfolding weight assemble commands
assembled-short cs =
    let g = assembly cs in
    omega (arith, assembly-weight cs, bytes-append (map TIED g.tied) (flat_map state_commands g.states))

-- READING, in a file of n bytes
module _ (n : ℕ) where
  abbrev Answers : Reading → Type 0
  Answers (accepted f) = Unit {0}
  Answers (refused r) = FormulaRefusal n r

  refused-answers : {o : Option ℕ} (r : ℕ → Refusal) (x : Reading) → Within n o → ((p : ℕ) → p ≤ n → FormulaRefusal n (r p)) → Answers x
      → Answers (refused_at o r x)
  refused-answers r x nowhere f k = k
  refused-answers r x (place {p} h) f k = f p h

  judge-answers : (f : Formula) → bytes_in (commands f) ≤ n → Answers (judge f)
  unfolding judge
  judge-answers f h =
      refused-answers AbsentState _ (first-absent-within n (length f.states) 0 (commands f) (omega arith)) (λ p k. absent-state k)
      (cond-holds Answers (dead_start f.states) _ _ (λ e. dead-start)
      (λ e. refused-answers UnboundAt _ (first-unbound-within n (is_unbound f) 0 [] 0 (commands f) (omega arith)) (λ p k. unbound k) tt))

  end-answers : (f : Formula) (at : ℕ) (bs : List ℕ) → bytes_in (commands f) ≤ n → at + length bs ≡ n → Answers (after_end f at bs)
  unfolding after_end
  end-answers f at [] h k = judge-answers f h
  end-answers f at (b ∷ bs) h k = leftover {p = at} (omega arith)

  -- the commands read so far have the bytes before `at`
  follow-answers : (go_on : Summary → List Command → ℕ → List ℕ → Reading)
      → ((s : Summary) (cs : List Command) (at : ℕ) (bs : List ℕ) → bytes_in cs ≡ at → at + length bs ≡ n → Answers (go_on s cs at bs))
      → (s : Summary) (cs : List Command) (at : ℕ) (bs : List ℕ) → bytes_in cs ≡ at → at + length bs ≡ n → (x : Next) → Tells n bs x
      → Answers (follow go_on s cs at bs x)
  follow-answers go_on f s cs at bs h k (command c u) t =
      f (advance s c) (cs ++ (c ∷ [])) (at + u) (drop u bs) (omega (arith, bytes-snoc cs c, t.0)) (omega (arith, length-drop u bs, t.1))
  follow-answers go_on f s cs at bs h k end t =
      end-answers (assemble cs) (at + 1) (drop 1 bs) (omega (arith, assembled-short cs)) (omega (arith, length-drop 1 bs))
  follow-answers go_on f s cs at bs h k (bad r) t = of-command t

  from-answers : (fuel fields : ℕ) (s : Summary) (cs : List Command) (at : ℕ) (bs : List ℕ) → bytes_in cs ≡ at → at + length bs ≡ n
      → Answers (read_from fuel fields s cs at bs)
  unfolding read_from
  from-answers zero fields s cs at bs h k = of-command (cut_short {p = at} (omega arith))
  from-answers (suc fuel) fields s cs at bs h k =
      follow-answers (read_from fuel fields) (from-answers fuel fields) s cs at bs h k (next fields s at bs) (next-tells n fields s at bs k)

-- Whatever a formula is refused with is a refusal of a formula of its length.
pub formula-refusal : (fields : ℕ) (l : List ℕ) (r : Refusal) → read_formula fields l ≡ refused r → FormulaRefusal (length l) r
unfolding read_formula flat_map
formula-refusal fields l r e = subst (Answers (length l)) e (from-answers (length l) (suc (length l)) fields start [] 0 l refl (omega arith))
