-- The counts of a correct formula are what each command meets in file order: all commands fit, one behind the other, exactly when the counts are kept.
use Prim.Native.Nat.{ℕ, suc, ◌+◌, ◌<◌, ◌≤◌}
use mathlib.Core.Path.{◌≡◌, refl, sym, ◌∙◌}
use mathlib.Core.Bool.{Bool, true, false, true≢false}
use mathlib.Core.List.{List, [], ◌∷◌, ◌++◌, map, flat_map, append_assoc}
use mathlib.Core.Option.{Option, none, some}
use native.Mathlib.Omega.{arith}
use lib.ListN.{length}
use Rattle.base.specs.Lists.{All}
use Rattle.formula.specs.Formula.{Expr, Clause, Step, State, Formula}
use Rattle.formula.specs.Encode.{Command, TIED, STATE, STEP, CLAUSE, GUARD, guard_commands, step_commands, state_commands, commands}
use Rattle.formula.specs.Correct.{is_final, GuardFits, Once, StepFits, StateFits}
use Rattle.formula.specs.declared.Summary.{Summary}
use Rattle.formula.specs.Read.{start, advance}
use Rattle.formula.proofs.Assembling.{Follows}

-- the counts of a formula, apart from what exists
pub record Counts (f : Formula) : Type 0 where
  pub tied : length f.tied ≤ 8
  pub states : length f.states ≤ 16
  pub each : All StateFits f.states

-- the same state and number of steps
pub record Same (s t : Summary) : Type 0 where
  pub states : t.states ≡ s.states
  pub closed : t.closed ≡ s.closed
  pub steps : t.steps ≡ s.steps

same : (s : Summary) → Same s s
same s = record { states = refl; closed = refl; steps = refl }

fit-clauses : (xs : List Clause) (s : Summary) (cs : List Command) → 0 < s.steps → s.guarded ≡ false → s.clauses + length xs ≤ 8
    → Once s.gathered xs → ((t : Summary) → Same s t → t.guarded ≡ false → Follows t cs) → Follows s (map CLAUSE xs ++ cs)
fit-clauses [] s cs h g k o c = c s (same s) g
fit-clauses (x ∷ xs) s cs h g k o c = (
  (h, g, omega arith, o.0),
  fit-clauses xs (advance s (CLAUSE x)) cs h g (omega arith) o.1
      (λ t e q. c t (record { states = e.states; closed = e.closed; steps = e.steps }) q),
)

fit-guard : (o : Option Expr) (s : Summary) (cs : List Command) → 0 < s.steps → s.guarded ≡ false → GuardFits o
    → ((t : Summary) → Same s t → Follows t cs) → Follows s (guard_commands o ++ cs)
unfolding guard_commands
fit-guard none s cs h g k c = c s (same s)
fit-guard (some e) s cs h g k c = ((h, g, k.0, k.1), c (advance s (GUARD e)) (record { states = refl; closed = refl; steps = refl }))

fit-steps : (xs : List Step) (s : Summary) (cs : List Command) → 0 < s.states → s.closed ≡ false → s.steps + length xs ≤ 8 → All StepFits xs
    → ((t : Summary) → t.states ≡ s.states → Follows t cs) → Follows s (flat_map step_commands xs ++ cs)
unfolding flat_map step_commands
fit-steps [] s cs h l k a c = c s refl
fit-steps (x ∷ xs) s cs h l k a c =
    let rest = flat_map step_commands xs ++ cs in
    let s₁ = advance s (STEP x.target) in
    rw (
      append_assoc (map CLAUSE x.clauses ++ guard_commands x.guard) (flat_map step_commands xs) cs,
      append_assoc (map CLAUSE x.clauses) (guard_commands x.guard) rest,
    ) (
      (h, l, omega arith),
      fit-clauses x.clauses s₁ (guard_commands x.guard ++ rest) (omega arith) refl (let b = a.0.clauses in omega arith)
          a.0.once
          (λ t e q.
          fit-guard x.guard t rest (let b = e.steps in omega arith) q a.0.guard
          (λ u i.
          fit-steps xs u cs (let b = i.states in let d = e.states in omega arith) (i.closed ∙ (e.closed ∙ l))
          (let b = i.steps in let d = e.steps in omega arith) a.1 (λ w z. c w (z ∙ (i.states ∙ e.states))))),
    )

fit-state : (x : State) (s : Summary) (cs : List Command) → StateFits x → ((t : Summary) → t.states ≡ suc s.states → Follows t cs) → (b : Bool)
    → is_final x.kind ≡ b → Follows (advance s (STATE x.kind)) (flat_map step_commands x.steps ++ cs)
unfolding flat_map
fit-state x s cs a c true e = rw (a.closed e) (c (advance s (STATE x.kind)) refl)
fit-state x s cs a c false e = fit-steps x.steps (advance s (STATE x.kind)) cs (omega arith) e (let b = a.steps in omega arith) a.each c

fit-states : (xs : List State) (s : Summary) → s.states + length xs ≤ 16 → All StateFits xs → Follows s (flat_map state_commands xs)
unfolding flat_map state_commands
fit-states [] s k a = tt
fit-states (x ∷ xs) s k a =
    (omega arith, fit-state x s (flat_map state_commands xs) a.0 (λ t e. fit-states xs t (omega arith) a.1) (is_final x.kind) refl)

fit-tied : (vs : List ℕ) (s : Summary) (cs : List Command) → s.states ≡ 0 → s.tied + length vs ≤ 8 → ((t : Summary) → t.states ≡ 0 → Follows t cs)
    → Follows s (map TIED vs ++ cs)
fit-tied [] s cs h k c = c s h
fit-tied (v ∷ vs) s cs h k c = ((h, omega arith), fit-tied vs (advance s (TIED v)) cs h (omega arith) c)

-- the commands of a formula that keeps the counts follow each other rightly
pub counts-follow : (f : Formula) → Counts f → Follows start (commands f)
unfolding commands start
counts-follow f h =
    let a = h.tied in
    let b = h.states in
    fit-tied f.tied start (flat_map state_commands f.states) refl (omega arith) (λ t e. fit-states f.states t (omega arith) h.each)

-- what stands behind clauses, a guard, steps, TIEDs
record AfterClauses (s : Summary) (xs : List Clause) (cs : List Command) : Type 0 where
  most : s.clauses + length xs ≤ 8
  once : Once s.gathered xs
  after : Summary
  same : Same s after
  follows : Follows after cs

record AfterGuard (s : Summary) (o : Option Expr) (cs : List Command) : Type 0 where
  fits : GuardFits o
  after : Summary
  same : Same s after
  follows : Follows after cs

record AfterSteps (s : Summary) (xs : List Step) (cs : List Command) : Type 0 where
  most : s.steps + length xs ≤ 8
  each : All StepFits xs
  closed : s.closed ≡ true → xs ≡ []
  after : Summary
  states : after.states ≡ s.states
  follows : Follows after cs

record AfterTied (s : Summary) (n : ℕ) (cs : List Command) : Type 0 where
  most : s.tied + n ≤ 8
  after : Summary
  states : after.states ≡ s.states
  follows : Follows after cs

count-clauses : (xs : List Clause) (s : Summary) (cs : List Command) → s.clauses ≤ 8 → Follows s (map CLAUSE xs ++ cs) → AfterClauses s xs cs
count-clauses [] s cs k h = record { most = omega arith; once = tt; after = s; same = same s; follows = h }
count-clauses (x ∷ xs) s cs k h =
    let l = h.0.2 in
    let i = count-clauses xs (advance s (CLAUSE x)) cs (omega arith) h.1 in
    let m = i.most in
    record {
      most = omega arith;
      once = (h.0.3, i.once);
      after = i.after;
      same = record { states = i.same.states; closed = i.same.closed; steps = i.same.steps };
      follows = i.follows;
    }

count-guard : (o : Option Expr) (s : Summary) (cs : List Command) → Follows s (guard_commands o ++ cs) → AfterGuard s o cs
unfolding guard_commands
count-guard none s cs h = record { fits = tt; after = s; same = same s; follows = h }
count-guard (some e) s cs h =
    record { fits = (h.0.2, h.0.3); after = advance s (GUARD e); same = record { states = refl; closed = refl; steps = refl }; follows = h.1 }

count-steps : (xs : List Step) (s : Summary) (cs : List Command) → s.steps ≤ 8 → Follows s (flat_map step_commands xs ++ cs) → AfterSteps s xs cs
unfolding flat_map step_commands
count-steps [] s cs k h = record { most = omega arith; each = tt; closed = λ e. refl; after = s; states = refl; follows = h }
count-steps (x ∷ xs) s cs k h =
    let rest = flat_map step_commands xs ++ cs in
    let l = h.0.2 in
    let g : Follows (advance s (STEP x.target)) (map CLAUSE x.clauses ++ (guard_commands x.guard ++ rest)) =
    rw (
      append_assoc (map CLAUSE x.clauses ++ guard_commands x.guard) (flat_map step_commands xs) cs,
      append_assoc (map CLAUSE x.clauses) (guard_commands x.guard) rest,
    )
    at h.1 in
    let a = count-clauses x.clauses (advance s (STEP x.target)) (guard_commands x.guard ++ rest) (omega arith) g in
    let b = count-guard x.guard a.after rest a.follows in
    let a₁ = a.same.steps in
    let b₁ = b.same.steps in
    let a₂ = a.most in
    let c = count-steps xs b.after cs (omega arith) b.follows in
    let c₁ = c.most in
    let a₃ = a.same.states in
    let b₃ = b.same.states in
    let c₃ = c.states in
    record {
      most = omega arith;
      each = (record { clauses = omega arith; once = a.once; guard = b.fits }, c.each);
      closed = λ e. absurd (true≢false (sym e ∙ h.0.1));
      after = c.after;
      states = omega arith;
      follows = c.follows;
    }

count-states : (xs : List State) (s : Summary) → s.states ≤ 16 → Follows s (flat_map state_commands xs) → (s.states + length xs ≤ 16) × All StateFits xs
unfolding flat_map state_commands
count-states [] s k h = (omega arith, tt)
count-states (x ∷ xs) s k h =
    let l = h.0 in
    let a = count-steps x.steps (advance s (STATE x.kind)) (flat_map state_commands xs) (omega arith) h.1 in
    let a₁ = a.states in
    let a₂ = a.most in
    let i = count-states xs a.after (omega arith) a.follows in
    let i₁ = i.0 in
    (omega arith, (record { steps = omega arith; closed = a.closed; each = a.each }, i.1))

count-tied : (vs : List ℕ) (s : Summary) (cs : List Command) → s.tied ≤ 8 → Follows s (map TIED vs ++ cs) → AfterTied s (length vs) cs
count-tied [] s cs k h = record { most = omega arith; after = s; states = refl; follows = h }
count-tied (v ∷ vs) s cs k h =
    let l = h.0.1 in
    let i = count-tied vs (advance s (TIED v)) cs (omega arith) h.1 in
    let m = i.most in
    record { most = omega arith; after = i.after; states = i.states; follows = i.follows }

-- a formula whose commands follow each other rightly keeps the counts
pub follow-counts : (f : Formula) → Follows start (commands f) → Counts f
unfolding commands start
follow-counts f h =
    let a = count-tied f.tied start (flat_map state_commands f.states) (omega arith) h in
    let a₁ = a.most in
    let a₂ = a.states in
    let b = count-states f.states a.after (omega arith) a.follows in
    let b₁ = b.0 in
    record { tied = omega arith; states = omega arith; each = b.1 }
