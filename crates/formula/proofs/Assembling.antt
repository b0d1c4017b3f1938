-- Commands in a right order and formulas determine each other: assembling the commands of a formula gives it back, and the commands of what is
-- assembled are those that were read.
use Prim.Native.Nat.{ℕ, ◌<◌}
use mathlib.Core.Path.{◌≡◌, refl, sym, ap, ◌∙◌}
use mathlib.Core.Bool.{true, true≢false}
use mathlib.Core.List.{List, [], ◌∷◌, ◌++◌, map, flat_map, append_assoc, append-nil}
use mathlib.Core.Option.{Option, none, some}
use native.Mathlib.Omega.{arith}
use Rattle.formula.specs.Formula.{Expr, Clause, Step, State, Formula}
use Rattle.formula.specs.Encode.{Command, TIED, STATE, STEP, CLAUSE, GUARD, guard_commands, step_commands, state_commands, commands}
use Rattle.formula.specs.declared.Summary.{Summary}
use Rattle.formula.specs.Read.{start, advance, Assembly, in_front, assembly, assemble}
use Rattle.formula.proofs.Commands.{Fits}

-- each command fits behind those before it
abbrev pub Follows : Summary → List Command → Type 0
Follows s [] = Unit {0}
Follows s (c ∷ cs) = Fits s c × Follows (advance s c) cs

abbrev made : List Clause → Option Expr → List Step → List State → List ℕ → Assembly
made cs g ts ss vs = record { clauses = cs; guard = g; steps = ts; states = ss; tied = vs }

assembly-clauses : (xs : List Clause) (cs : List Command) (ys : List Clause) (g : Option Expr) (ts : List Step) (ss : List State) (vs : List ℕ)
    → assembly cs ≡ made ys g ts ss vs → assembly (map CLAUSE xs ++ cs) ≡ made (xs ++ ys) g ts ss vs
unfolding assembly
assembly-clauses [] cs ys g ts ss vs e = e
assembly-clauses (x ∷ xs) cs ys g ts ss vs e = ap (in_front (CLAUSE x)) (assembly-clauses xs cs ys g ts ss vs e)

assembly-guard : (o : Option Expr) (cs : List Command) (ts : List Step) (ss : List State) (vs : List ℕ) → assembly cs ≡ made [] none ts ss vs
    → assembly (guard_commands o ++ cs) ≡ made [] o ts ss vs
unfolding assembly guard_commands
assembly-guard none cs ts ss vs e = e
assembly-guard (some x) cs ts ss vs e = ap (in_front (GUARD x)) e

assembly-steps : (xs : List Step) (cs : List Command) (ts : List Step) (ss : List State) (vs : List ℕ) → assembly cs ≡ made [] none ts ss vs
    → assembly (flat_map step_commands xs ++ cs) ≡ made [] none (xs ++ ts) ss vs
unfolding assembly flat_map step_commands
assembly-steps [] cs ts ss vs e = e
assembly-steps (x ∷ xs) cs ts ss vs e =
    let rest = flat_map step_commands xs ++ cs in
    let a : assembly (map CLAUSE x.clauses ++ (guard_commands x.guard ++ rest)) ≡ made (x.clauses ++ []) x.guard (xs ++ ts) ss vs =
    assembly-clauses x.clauses (guard_commands x.guard ++ rest) [] x.guard (xs ++ ts) ss vs
    (assembly-guard x.guard rest (xs ++ ts) ss vs (assembly-steps xs cs ts ss vs e)) in
    let b : assembly (map CLAUSE x.clauses ++ (guard_commands x.guard ++ rest)) ≡ made x.clauses x.guard (xs ++ ts) ss vs =
    rw (append-nil x.clauses) at a in
    rw (
      append_assoc (map CLAUSE x.clauses ++ guard_commands x.guard) (flat_map step_commands xs) cs,
      append_assoc (map CLAUSE x.clauses) (guard_commands x.guard) rest,
    )
    (ap (in_front (STEP x.target)) b)

assembly-states : (xs : List State) → assembly (flat_map state_commands xs) ≡ made [] none [] xs []
unfolding assembly flat_map state_commands
assembly-states [] = refl
assembly-states (x ∷ xs) =
    let a : assembly (flat_map step_commands x.steps ++ flat_map state_commands xs) ≡ made [] none (x.steps ++ []) xs [] =
    assembly-steps x.steps (flat_map state_commands xs) [] xs [] (assembly-states xs) in
    let b : assembly (flat_map step_commands x.steps ++ flat_map state_commands xs) ≡ made [] none x.steps xs [] = rw (append-nil x.steps) at a in
    ap (in_front (STATE x.kind)) b

assembly-tied : (vs : List ℕ) (xs : List State) → assembly (map TIED vs ++ flat_map state_commands xs) ≡ made [] none [] xs vs
unfolding assembly
assembly-tied [] xs = assembly-states xs
assembly-tied (v ∷ vs) xs = ap (in_front (TIED v)) (assembly-tied vs xs)

-- the commands of a formula give it back
pub assemble-commands : (f : Formula) → assemble (commands f) ≡ f
unfolding assemble commands
assemble-commands f = ap (λ (g : Assembly). record { tied = g.tied; states = g.states }) (assembly-tied f.tied f.states)

-- the commands of what was assembled
disassemble : Assembly → List Command
disassemble g =
    map TIED g.tied ++
    (map CLAUSE g.clauses ++ (guard_commands g.guard ++ (flat_map step_commands g.steps ++ flat_map state_commands g.states)))

-- what commands can stand at once behind a summary
record Shape (s : Summary) (g : Assembly) : Type 0 where
  tied : 0 < s.states → g.tied ≡ []
  no-clause : s.steps ≡ 0 → g.clauses ≡ []
  no-guard : s.steps ≡ 0 → g.guard ≡ none
  after-clause : s.guarded ≡ true → g.clauses ≡ []
  after-guard : s.guarded ≡ true → g.guard ≡ none
  no_step : s.states ≡ 0 → g.steps ≡ []

none_left : {A : Type 0} (n : ℕ) → 0 < n → n ≡ 0 → A
none_left n h e = absurd (native.Mathlib.Nat.not-suc-le-zero (rw e at h))

shape : (s : Summary) (cs : List Command) → Follows s cs → Shape s (assembly cs)
unfolding assembly
shape s [] h = record { tied = λ p. refl; no-clause = λ p. refl; no-guard = λ p. refl; after-clause = λ p. refl; after-guard = λ p. refl; no_step = λ p. refl }
shape s (TIED v ∷ cs) h =
    let i = shape (advance s (TIED v)) cs h.1 in
    record {
      tied = λ p. none_left s.states p h.0.0;
      no-clause = i.no-clause;
      no-guard = i.no-guard;
      after-clause = i.after-clause;
      after-guard = i.after-guard;
      no_step = i.no_step;
    }
shape s (STATE k ∷ cs) h =
    let i = shape (advance s (STATE k)) cs h.1 in
    record {
      tied = λ p. i.tied (omega arith);
      no-clause = λ p. refl;
      no-guard = λ p. refl;
      after-clause = λ p. refl;
      after-guard = λ p. refl;
      no_step = λ p. refl;
    }
shape s (STEP t ∷ cs) h =
    let i = shape (advance s (STEP t)) cs h.1 in
    record {
      tied = i.tied;
      no-clause = λ p. refl;
      no-guard = λ p. refl;
      after-clause = λ p. refl;
      after-guard = λ p. refl;
      no_step = λ p. none_left s.states h.0.0 p;
    }
shape s (CLAUSE c ∷ cs) h =
    let i = shape (advance s (CLAUSE c)) cs h.1 in
    record {
      tied = i.tied;
      no-clause = λ p. none_left s.steps h.0.0 p;
      no-guard = λ p. none_left s.steps h.0.0 p;
      after-clause = λ p. absurd (true≢false (sym p ∙ h.0.1));
      after-guard = λ p. absurd (true≢false (sym p ∙ h.0.1));
      no_step = i.no_step;
    }
shape s (GUARD e ∷ cs) h =
    let i = shape (advance s (GUARD e)) cs h.1 in
    record {
      tied = i.tied;
      no-clause = λ p. none_left s.steps h.0.0 p;
      no-guard = λ p. none_left s.steps h.0.0 p;
      after-clause = λ p. absurd (true≢false (sym p ∙ h.0.1));
      after-guard = λ p. absurd (true≢false (sym p ∙ h.0.1));
      no_step = i.no_step;
    }

disassemble-state : (k : _) (g : Assembly) → g.tied ≡ [] → g.clauses ≡ [] → g.guard ≡ none → disassemble (in_front (STATE k) g) ≡ STATE k ∷ disassemble g
unfolding disassemble guard_commands flat_map state_commands
disassemble-state k g e c o = rw (e, c, o)

disassemble-step : (t : ℕ) (g : Assembly) → g.tied ≡ [] → disassemble (in_front (STEP t) g) ≡ STEP t ∷ disassemble g
unfolding disassemble guard_commands flat_map step_commands
disassemble-step t g e =
    rw (
      e,
      append_assoc (map CLAUSE g.clauses ++ guard_commands g.guard) (flat_map step_commands g.steps) (flat_map state_commands g.states),
      append_assoc (map CLAUSE g.clauses) (guard_commands g.guard) (flat_map step_commands g.steps ++ flat_map state_commands g.states),
    )

disassemble-clause : (c : Clause) (g : Assembly) → g.tied ≡ [] → disassemble (in_front (CLAUSE c) g) ≡ CLAUSE c ∷ disassemble g
unfolding disassemble
disassemble-clause c g e = rw e

disassemble-guard : (x : Expr) (g : Assembly) → g.tied ≡ [] → g.clauses ≡ [] → g.guard ≡ none → disassemble (in_front (GUARD x) g) ≡ GUARD x ∷ disassemble g
unfolding disassemble guard_commands
disassemble-guard x g e c o = rw (e, c, o)

-- the commands of what was assembled are those that were read
disassembled : (s : Summary) (cs : List Command) → (0 < s.steps → 0 < s.states) → Follows s cs → disassemble (assembly cs) ≡ cs
unfolding assembly disassemble guard_commands flat_map
disassembled s [] p h = refl
disassembled s (TIED v ∷ cs) p h = ap (λ r. TIED v ∷ r) (disassembled (advance s (TIED v)) cs p h.1)
disassembled s (STATE k ∷ cs) p h =
    let i = shape (advance s (STATE k)) cs h.1 in
    disassemble-state k (assembly cs) (i.tied (omega arith)) (i.no-clause refl) (i.no-guard refl)
    ∙ ap (λ r. STATE k ∷ r) (disassembled (advance s (STATE k)) cs (λ q. omega arith) h.1)
disassembled s (STEP t ∷ cs) p h =
    let i = shape (advance s (STEP t)) cs h.1 in
    disassemble-step t (assembly cs) (i.tied h.0.0) ∙ ap (λ r. STEP t ∷ r) (disassembled (advance s (STEP t)) cs (λ q. h.0.0) h.1)
disassembled s (CLAUSE c ∷ cs) p h =
    let i = shape (advance s (CLAUSE c)) cs h.1 in
    disassemble-clause c (assembly cs) (i.tied (p h.0.0)) ∙ ap (λ r. CLAUSE c ∷ r) (disassembled (advance s (CLAUSE c)) cs p h.1)
disassembled s (GUARD e ∷ cs) p h =
    let i = shape (advance s (GUARD e)) cs h.1 in
    disassemble-guard e (assembly cs) (i.tied (p h.0.0)) (i.after-clause refl) (i.after-guard refl)
    ∙ ap (λ r. GUARD e ∷ r) (disassembled (advance s (GUARD e)) cs p h.1)

top : (g : Assembly) → g.clauses ≡ [] → g.guard ≡ none → g.steps ≡ [] → disassemble g ≡ commands (record { tied = g.tied; states = g.states })
unfolding disassemble commands guard_commands flat_map
top g c o t = rw (c, o, t)

pub commands-assemble : (cs : List Command) → Follows start cs → commands (assemble cs) ≡ cs
unfolding assemble start
commands-assemble cs h =
    let i = shape start cs h in
    sym (top (assembly cs) (i.no-clause refl) (i.no-guard refl) (i.no_step refl)) ∙ disassembled start cs (λ q. q) h
