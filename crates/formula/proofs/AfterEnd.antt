-- The checks after END: no STEP or COUNT names an absent state exactly when every named state is declared, and no TESTV or VAR is found unbound
-- exactly when none is by the paths.
use Prim.Native.Nat.{ℕ, suc, ◌+◌, ◌-◌, ◌<◌, ◌≤◌}
use mathlib.Core.Path.{◌≡◌, refl, sym, subst, ◌∙◌}
use mathlib.Core.Bool.{Bool, true, false, not, ◌&&◌, true≢false}
use mathlib.Core.List.{List, [], ◌∷◌, ◌++◌, map, flat_map, append_assoc, append-nil}
use mathlib.Core.Option.{Option, none, some, some-ne-none}
use native.Mathlib.Omega.{arith}
use borrow.Author.Tests.{ltb-true, lt-ltb, not-false}
use lib.Dec.{ltb}
use lib.ListN.{length}
use lib.Seq.{append_snoc}
use Rattle.base.specs.Lists.{All}
use Rattle.formula.specs.Formula.{Leaf, CONST, VAR, COUNT, SUM, LENGTH, DIFFERENT, Expr, LEAF, ADD, SUB, LESS, ATMOST, EQUAL, NOT, AND, OR, IF}
use Rattle.formula.specs.Formula.{Clause, TEST, TESTV, BIND, GATHER, Step, State, Formula}
use Rattle.formula.specs.Encode.{Command, TIED, STATE, STEP, CLAUSE, GUARD, guard_commands, step_commands, state_commands, commands, encode_expr}
use Rattle.formula.specs.Encode.{encode_command}
use Rattle.formula.specs.Unbound.{binds, Unbound, is_unbound}
use Rattle.formula.specs.Correct.{Leaves, LeafDeclared, Declared, LeafBound, ClauseBound, GuardBound, StepBound, AllBound}
use Rattle.formula.specs.Read.{or_else, when, first_leaf, absent_leaf, absent_in, first_absent, unbound_leaf, unbound_in, first_unbound}
use Rattle.formula.proofs.Basics.{leaves_map}
use Rattle.formula.proofs.Closure.{unbound-path, path-unbound}

-- neither of two places is there exactly when none is
else-left : (p q : Option ℕ) → or_else p q ≡ none → p ≡ none
else-left none q e = refl
else-left (some p) q e = e

else-right : (p q : Option ℕ) → or_else p q ≡ none → q ≡ none
else-right none q e = e
else-right (some p) q e = absurd (some-ne-none p e)

else-none : (p q : Option ℕ) → p ≡ none → q ≡ none → or_else p q ≡ none
else-none none q e f = f
else-none (some p) q e f = e

when-none : (b : Bool) (at : ℕ) → when b at ≡ none → b ≡ false
when-none true at e = absurd (some-ne-none at e)
when-none false at e = refl

when_false : (b : Bool) (at : ℕ) → b ≡ false → when b at ≡ none
when_false b at e = rw e

-- no leaf is bad
abbrev Good : (Leaf → Bool) → Expr → Type 0
Good p e = Leaves (λ l. p l ≡ false) e

two_good : (p : Leaf → Bool) (at k : ℕ) (a b : Expr) → (first_leaf p (at + 1) a ≡ none → Good p a) → (first_leaf p k b ≡ none → Good p b)
    → or_else (first_leaf p (at + 1) a) (first_leaf p k b) ≡ none → Good p a × Good p b
two_good p at k a b f g e = (f (else-left (first_leaf p (at + 1) a) (first_leaf p k b) e), g (else-right (first_leaf p (at + 1) a) (first_leaf p k b) e))

leaf-good : (p : Leaf → Bool) (at : ℕ) (e : Expr) → first_leaf p at e ≡ none → Good p e
unfolding first_leaf
leaf-good p at (LEAF l) e = when-none (p l) at e
leaf-good p at (NOT a) e = leaf-good p (at + 1) a e
leaf-good p at (ADD a b) e = two_good p at (at + 1 + length (encode_expr a)) a b (leaf-good p (at + 1) a) (leaf-good p (at + 1 + length (encode_expr a)) b) e
leaf-good p at (SUB a b) e = two_good p at (at + 1 + length (encode_expr a)) a b (leaf-good p (at + 1) a) (leaf-good p (at + 1 + length (encode_expr a)) b) e
leaf-good p at (LESS a b) e = two_good p at (at + 1 + length (encode_expr a)) a b (leaf-good p (at + 1) a) (leaf-good p (at + 1 + length (encode_expr a)) b) e
leaf-good p at (ATMOST a b) e = two_good p at (at + 1 + length (encode_expr a)) a b (leaf-good p (at + 1) a) (leaf-good p (at + 1 + length (encode_expr a)) b) e
leaf-good p at (EQUAL a b) e = two_good p at (at + 1 + length (encode_expr a)) a b (leaf-good p (at + 1) a) (leaf-good p (at + 1 + length (encode_expr a)) b) e
leaf-good p at (AND a b) e = two_good p at (at + 1 + length (encode_expr a)) a b (leaf-good p (at + 1) a) (leaf-good p (at + 1 + length (encode_expr a)) b) e
leaf-good p at (OR a b) e = two_good p at (at + 1 + length (encode_expr a)) a b (leaf-good p (at + 1) a) (leaf-good p (at + 1 + length (encode_expr a)) b) e
leaf-good p at (IF c a b) e =
    let x = first_leaf p (at + 1) c in
    let y = first_leaf p (at + 1 + length (encode_expr c)) a in
    let z = first_leaf p (at + 1 + length (encode_expr c) + length (encode_expr a)) b in
    let r = else-right x (or_else y z) e in (
      leaf-good p (at + 1) c (else-left x (or_else y z) e),
      leaf-good p (at + 1 + length (encode_expr c)) a (else-left y z r),
      leaf-good p (at + 1 + length (encode_expr c) + length (encode_expr a)) b (else-right y z r),
    )

leaf-none : (p : Leaf → Bool) (at : ℕ) (e : Expr) → Good p e → first_leaf p at e ≡ none
unfolding first_leaf
leaf-none p at (LEAF l) g = when_false (p l) at g
leaf-none p at (NOT a) g = leaf-none p (at + 1) a g
leaf-none p at (ADD a b) g = else-none _ _ (leaf-none p (at + 1) a g.0) (leaf-none p (at + 1 + length (encode_expr a)) b g.1)
leaf-none p at (SUB a b) g = else-none _ _ (leaf-none p (at + 1) a g.0) (leaf-none p (at + 1 + length (encode_expr a)) b g.1)
leaf-none p at (LESS a b) g = else-none _ _ (leaf-none p (at + 1) a g.0) (leaf-none p (at + 1 + length (encode_expr a)) b g.1)
leaf-none p at (ATMOST a b) g = else-none _ _ (leaf-none p (at + 1) a g.0) (leaf-none p (at + 1 + length (encode_expr a)) b g.1)
leaf-none p at (EQUAL a b) g = else-none _ _ (leaf-none p (at + 1) a g.0) (leaf-none p (at + 1 + length (encode_expr a)) b g.1)
leaf-none p at (AND a b) g = else-none _ _ (leaf-none p (at + 1) a g.0) (leaf-none p (at + 1 + length (encode_expr a)) b g.1)
leaf-none p at (OR a b) g = else-none _ _ (leaf-none p (at + 1) a g.0) (leaf-none p (at + 1 + length (encode_expr a)) b g.1)
leaf-none p at (IF c a b) g =
    else-none _ _ (leaf-none p (at + 1) c g.0)
    (else-none _ _ (leaf-none p (at + 1 + length (encode_expr c)) a g.1)
    (leaf-none p (at + 1 + length (encode_expr c) + length (encode_expr a)) b g.2))

-- nothing absent in one leaf, and in one command
pub absent-leaf : (n : ℕ) (l : Leaf) → absent_leaf n l ≡ false → LeafDeclared n l
absent-leaf n (CONST x) e = tt
absent-leaf n (VAR v) e = tt
absent-leaf n (COUNT s) e = ltb-true s n (not-false (ltb s n) e)
absent-leaf n (SUM v) e = tt
absent-leaf n (LENGTH v) e = tt
absent-leaf n (DIFFERENT v) e = tt

pub declared-leaf : (n : ℕ) (l : Leaf) → LeafDeclared n l → absent_leaf n l ≡ false
declared-leaf n (CONST x) d = refl
declared-leaf n (VAR v) d = refl
declared-leaf n (COUNT s) d = rw (lt-ltb s n d)
declared-leaf n (SUM v) d = refl
declared-leaf n (LENGTH v) d = refl
declared-leaf n (DIFFERENT v) d = refl

absent-in : (n at : ℕ) (c : Command) → absent_in n at c ≡ none → Declared n c
absent-in n at (TIED v) e = tt
absent-in n at (STATE k) e = tt
absent-in n at (STEP t) e = ltb-true t n (not-false (ltb t n) (when-none (not (ltb t n)) at e))
absent-in n at (CLAUSE c) e = tt
absent-in n at (GUARD x) e = leaves_map (λ l. absent_leaf n l ≡ false) (LeafDeclared n) (absent-leaf n) x (leaf-good (absent_leaf n) (at + 1) x e)

in-declared : (n at : ℕ) (c : Command) → Declared n c → absent_in n at c ≡ none
in-declared n at (TIED v) d = refl
in-declared n at (STATE k) d = refl
in-declared n at (STEP t) d = rw (lt-ltb t n d)
in-declared n at (CLAUSE c) d = refl
in-declared n at (GUARD x) d = leaf-none (absent_leaf n) (at + 1) x (leaves_map (LeafDeclared n) (λ l. absent_leaf n l ≡ false) (declared-leaf n) x d)

-- no absent state is found exactly when every named state is declared
pub none-absent : (n at : ℕ) (cs : List Command) → first_absent n at cs ≡ none → All (Declared n) cs
unfolding first_absent
none-absent n at [] e = tt
none-absent n at (c ∷ cs) e =
    let r = first_absent n (at + length (encode_command c)) cs in
    (absent-in n at c (else-left (absent_in n at c) r e), none-absent n (at + length (encode_command c)) cs (else-right (absent_in n at c) r e))

pub declared-none : (n at : ℕ) (cs : List Command) → All (Declared n) cs → first_absent n at cs ≡ none
unfolding first_absent
declared-none n at [] d = refl
declared-none n at (c ∷ cs) d =
    else-none (absent_in n at c) (first_absent n (at + length (encode_command c)) cs) (in-declared n at c d.0)
    (declared-none n (at + length (encode_command c)) cs d.1)

-- the marks decide what is unbound
marks-no : (f : Formula) (v s : ℕ) → length f.states ≤ 16 → s < 16 → is_unbound f v s ≡ false → ¬ Unbound f v s
marks-no f v s few k e u = true≢false (sym (path-unbound f v s few k u) ∙ e)

marks-false : (f : Formula) (v s : ℕ) → ¬ Unbound f v s → is_unbound f v s ≡ false
marks-false f v s h = go (is_unbound f v s) refl
  where
    go : (b : Bool) → is_unbound f v s ≡ b → b ≡ false
    go true e = absurd (h (unbound-path f v s e))
    go false e = refl

and-not : (a b : Bool) → a && not b ≡ false → b ≡ false → a ≡ false
and-not true b e h = absurd (true≢false (rw h at e))
and-not false b e h = refl

not-and : (a b : Bool) → (b ≡ false → a ≡ false) → a && not b ≡ false
not-and true true h = refl
not-and true false h = h refl
not-and false b h = refl

-- a leaf behind the clauses own, in state s
unbound-leaf : (f : Formula) (s : ℕ) (own : List Clause) (l : Leaf) → length f.states ≤ 16 → s < 16
    → unbound_leaf (is_unbound f) (suc s) own l ≡ false → LeafBound f s own l
unbound-leaf f s own (CONST x) few h e = tt
unbound-leaf f s own (VAR v) few h e =
    let d : suc s - 1 ≡ s = omega arith in
    λ r. marks-no f v s few h (subst (λ j. is_unbound f v j ≡ false) d (and-not (is_unbound f v (suc s - 1)) (binds v own) e r))
unbound-leaf f s own (COUNT t) few h e = tt
unbound-leaf f s own (SUM v) few h e = tt
unbound-leaf f s own (LENGTH v) few h e = tt
unbound-leaf f s own (DIFFERENT v) few h e = tt

bound-leaf : (f : Formula) (s : ℕ) (own : List Clause) (l : Leaf) → LeafBound f s own l → unbound_leaf (is_unbound f) (suc s) own l ≡ false
bound-leaf f s own (CONST x) b = refl
bound-leaf f s own (VAR v) b =
    let d : suc s - 1 ≡ s = omega arith in
    not-and (is_unbound f v (suc s - 1)) (binds v own) (λ r. subst (λ j. is_unbound f v j ≡ false) (sym d) (marks-false f v s (b r)))
bound-leaf f s own (COUNT t) b = refl
bound-leaf f s own (SUM v) b = refl
bound-leaf f s own (LENGTH v) b = refl
bound-leaf f s own (DIFFERENT v) b = refl

-- nothing unbound is found in the commands cs, from some offset and with some clauses before
record Free (f : Formula) (seen : ℕ) (cs : List Command) : Type 0 where
  own : List Clause
  at : ℕ
  free : first_unbound (is_unbound f) seen own at cs ≡ none

module _ (f : Formula) (few : length f.states ≤ 16) where
  free-clauses : (xs : List Clause) (s : ℕ) (own : List Clause) (at : ℕ) (cs : List Command) → s < 16
      → first_unbound (is_unbound f) (suc s) own at (map CLAUSE xs ++ cs) ≡ none
      → All (ClauseBound f s) xs × ((k : ℕ) × (first_unbound (is_unbound f) (suc s) (own ++ xs) k cs ≡ none))
  unfolding first_unbound
  free-clauses [] s own at cs h e = (tt, (at, rw (append-nil own) e))
  free-clauses (x ∷ xs) s own at cs h e =
      let n = at + length (encode_command (CLAUSE x)) in
      let p = unbound_in (is_unbound f) (suc s) own at (CLAUSE x) in
      let q = first_unbound (is_unbound f) (suc s) (own ++ (x ∷ [])) n (map CLAUSE xs ++ cs) in
      let i = free-clauses xs s (own ++ (x ∷ [])) n cs h (else-right p q e) in
      ((first x (else-left p q e), i.0), (i.1.0, rw (append_snoc own x xs) at i.1.1))
    where
      first : (c : Clause) → unbound_in (is_unbound f) (suc s) own at (CLAUSE c) ≡ none → ClauseBound f s c
      first (TEST g o y) z = tt
      first (TESTV g o v) z =
          let d : suc s - 1 ≡ s = omega arith in
          marks-no f v s few h (rw d at (when-none (is_unbound f v (suc s - 1)) at z))
      first (BIND g v) z = tt
      first (GATHER g v) z = tt

  free-guard : (o : Option Expr) (s : ℕ) (own : List Clause) (at : ℕ) (cs : List Command) → s < 16
      → first_unbound (is_unbound f) (suc s) own at (guard_commands o ++ cs) ≡ none → GuardBound f s own o × Free f (suc s) cs
  unfolding first_unbound guard_commands
  free-guard none s own at cs h e = (tt, record { own = own; at = at; free = e })
  free-guard (some x) s own at cs h e =
      let n = at + length (encode_command (GUARD x)) in
      let p = unbound_in (is_unbound f) (suc s) own at (GUARD x) in
      let q = first_unbound (is_unbound f) (suc s) own n cs in
      let un = unbound_leaf (is_unbound f) (suc s) own in
      let g : Good un x = leaf-good un (at + 1) x (else-left p q e) in
      (leaves_map (λ l. un l ≡ false) (LeafBound f s own) (λ l. unbound-leaf f s own l few h) x g, record { own = own; at = n; free = else-right p q e })

  free-steps : (xs : List Step) (s : ℕ) (own : List Clause) (at : ℕ) (cs : List Command) → s < 16
      → first_unbound (is_unbound f) (suc s) own at (flat_map step_commands xs ++ cs) ≡ none → All (StepBound f s) xs × Free f (suc s) cs
  unfolding first_unbound flat_map step_commands
  free-steps [] s own at cs h e = (tt, record { own = own; at = at; free = e })
  free-steps (x ∷ xs) s own at cs h e =
      let rest = flat_map step_commands xs ++ cs in
      let n = at + length (encode_command (STEP x.target)) in
      let z : first_unbound (is_unbound f) (suc s) [] n (map CLAUSE x.clauses ++ (guard_commands x.guard ++ rest)) ≡ none =
      rw (
        append_assoc (map CLAUSE x.clauses ++ guard_commands x.guard) (flat_map step_commands xs) cs,
        append_assoc (map CLAUSE x.clauses) (guard_commands x.guard) rest,
      )
      at e in
      let a = free-clauses x.clauses s [] n (guard_commands x.guard ++ rest) h z in
      let b = free-guard x.guard s x.clauses a.1.0 rest h a.1.1 in
      let c = free-steps xs s b.1.own b.1.at cs h b.1.free in
      ((record { clauses = a.0; guard = b.0 }, c.0), c.1)

  free-states : (xs : List State) (s : ℕ) (own : List Clause) (at : ℕ) → s + length xs ≤ 16
      → first_unbound (is_unbound f) s own at (flat_map state_commands xs) ≡ none → AllBound f s xs
  unfolding first_unbound flat_map state_commands
  free-states [] s own at h e = tt
  free-states (x ∷ xs) s own at h e =
      let a = free-steps x.steps s [] (at + length (encode_command (STATE x.kind))) (flat_map state_commands xs) (omega arith) e in
      (a.0, free-states xs (suc s) a.1.own a.1.at (omega arith) a.1.free)

  free-tied : (vs : List ℕ) (own : List Clause) (at : ℕ) (cs : List Command) → first_unbound (is_unbound f) 0 own at (map TIED vs ++ cs) ≡ none → Free f 0 cs
  unfolding first_unbound
  free-tied [] own at cs e = record { own = own; at = at; free = e }
  free-tied (v ∷ vs) own at cs e = free-tied vs own (at + length (encode_command (TIED v))) cs e

  -- nothing unbound is found: nothing is, by the paths
  pub none-unbound : first_unbound (is_unbound f) 0 [] 0 (commands f) ≡ none → AllBound f 0 f.states
  unfolding commands
  none-unbound e =
      let a = free-tied f.tied [] 0 (flat_map state_commands f.states) e in
      free-states f.states 0 a.own a.at (omega arith) a.free

module _ (f : Formula) where
  bound-clauses : (xs : List Clause) (s : ℕ) (own : List Clause) (at : ℕ) (cs : List Command) → All (ClauseBound f s) xs
      → ((k : ℕ) → first_unbound (is_unbound f) (suc s) (own ++ xs) k cs ≡ none)
      → first_unbound (is_unbound f) (suc s) own at (map CLAUSE xs ++ cs) ≡ none
  unfolding first_unbound
  bound-clauses [] s own at cs h c = rw (append-nil own) at (c at)
  bound-clauses (x ∷ xs) s own at cs h c =
      else-none (unbound_in (is_unbound f) (suc s) own at (CLAUSE x)) _ (first x h.0)
      (bound-clauses xs s (own ++ (x ∷ [])) (at + length (encode_command (CLAUSE x))) cs h.1 (λ k. rw (append_snoc own x xs) (c k)))
    where
      first : (y : Clause) → ClauseBound f s y → unbound_in (is_unbound f) (suc s) own at (CLAUSE y) ≡ none
      first (TEST g o z) b = refl
      first (TESTV g o v) b =
          let d : suc s - 1 ≡ s = omega arith in
          rw d (when_false (is_unbound f v s) at (marks-false f v s b))
      first (BIND g v) b = refl
      first (GATHER g v) b = refl

  bound-guard : (o : Option Expr) (s : ℕ) (own : List Clause) (at : ℕ) (cs : List Command) → GuardBound f s own o
      → ((k : ℕ) → first_unbound (is_unbound f) (suc s) own k cs ≡ none) → first_unbound (is_unbound f) (suc s) own at (guard_commands o ++ cs) ≡ none
  unfolding first_unbound guard_commands
  bound-guard none s own at cs h c = c at
  bound-guard (some x) s own at cs h c =
      let un = unbound_leaf (is_unbound f) (suc s) own in
      let g : Good un x = leaves_map (LeafBound f s own) (λ l. un l ≡ false) (bound-leaf f s own) x h in
      else-none (unbound_in (is_unbound f) (suc s) own at (GUARD x)) _ (leaf-none un (at + 1) x g) (c (at + length (encode_command (GUARD x))))

  bound-steps : (xs : List Step) (s : ℕ) (own : List Clause) (at : ℕ) (cs : List Command) → All (StepBound f s) xs
      → ((o : List Clause) (k : ℕ) → first_unbound (is_unbound f) (suc s) o k cs ≡ none)
      → first_unbound (is_unbound f) (suc s) own at (flat_map step_commands xs ++ cs) ≡ none
  unfolding first_unbound flat_map step_commands
  bound-steps [] s own at cs h c = c own at
  bound-steps (x ∷ xs) s own at cs h c =
      let rest = flat_map step_commands xs ++ cs in
      let n = at + length (encode_command (STEP x.target)) in
      rw (
        append_assoc (map CLAUSE x.clauses ++ guard_commands x.guard) (flat_map step_commands xs) cs,
        append_assoc (map CLAUSE x.clauses) (guard_commands x.guard) rest,
      )
      (bound-clauses x.clauses s [] n (guard_commands x.guard ++ rest) h.0.clauses
      (λ k. bound-guard x.guard s x.clauses k rest h.0.guard (λ j. bound-steps xs s x.clauses j cs h.1 c)))

  bound-states : (xs : List State) (s : ℕ) (own : List Clause) (at : ℕ) → AllBound f s xs
      → first_unbound (is_unbound f) s own at (flat_map state_commands xs) ≡ none
  unfolding first_unbound flat_map state_commands
  bound-states [] s own at h = refl
  bound-states (x ∷ xs) s own at h =
      bound-steps x.steps s [] (at + length (encode_command (STATE x.kind))) (flat_map state_commands xs) h.0
      (λ o k. bound-states xs (suc s) o k h.1)

  bound-tied : (vs : List ℕ) (own : List Clause) (at : ℕ) (cs : List Command) → ((k : ℕ) → first_unbound (is_unbound f) 0 own k cs ≡ none)
      → first_unbound (is_unbound f) 0 own at (map TIED vs ++ cs) ≡ none
  unfolding first_unbound
  bound-tied [] own at cs c = c at
  bound-tied (v ∷ vs) own at cs c = bound-tied vs own (at + length (encode_command (TIED v))) cs c

  -- nothing is unbound by the paths: nothing is found
  pub unbound-none : AllBound f 0 f.states → first_unbound (is_unbound f) 0 [] 0 (commands f) ≡ none
  unfolding commands
  unbound-none h = bound-tied f.tied [] 0 (flat_map state_commands f.states) (λ k. bound-states f.states 0 [] k h)
