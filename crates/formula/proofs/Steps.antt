-- What holds of a step of a correct formula: where it stands, what it names exists, its counts are kept.
use Prim.Native.Nat.{ℕ, zero, suc, ◌<◌}
use mathlib.Core.Path.{◌≡◌, refl, subst}
use mathlib.Core.Bool.{Bool, true, false}
use mathlib.Core.List.{List, [], ◌∷◌, ◌++◌}
use mathlib.Core.Option.{some, none-ne-some, some-injective}
use native.Mathlib.Omega.{arith}
use lib.ListN.{length, get_or, get_elem?}
use Rattle.base.proofs.Lists.{All-at}
use Rattle.base.specs.Lists.{All}
use Rattle.formula.specs.Formula.{Step, State, Formula}
use Rattle.formula.specs.Encode.{step_commands}
use Rattle.formula.specs.Unbound.{steps_of}
use Rattle.formula.specs.Correct.{is_final, Exists, StepFits, StateFits, Correct}
use Rattle.formula.specs.Lookup.{step_at, kind_at, commands_before}
use Rattle.formula.proofs.Basics.{all_left, all_right}
use Rattle.formula.proofs.Closure.{no_state}
use Rattle.formula.proofs.Places.{commands_from, commands-split, state-there}

-- step k of state s is t, in a correct formula for a log with so many fields
pub record RightStep (fields : ℕ) (f : Formula) (s k : ℕ) (t : Step) : Type 0 where
  pub state : s < length f.states
  pub number : k < 8
  pub kind : is_final (kind_at f s) ≡ false
  pub fits : StepFits t
  pub exist : All (Exists fields) (step_commands t)

-- an element that a list has keeps what all its elements have
pub all-some : {A : Type 0} (P : A → Type 0) (xs : List A) (k : ℕ) (x : A) → get_elem? xs k ≡ some x → All P xs → P x × (k < length xs)
all-some P [] k x e a = absurd (none-ne-some x e)
all-some P (y ∷ ys) zero x e a = (subst P (some-injective y x e) a.0, omega arith)
all-some P (y ∷ ys) (suc k) x e a =
    let i = all-some P ys k x e a.1 in
    let j = i.1 in
    (i.0, omega arith)

-- a state with a step neither accepts nor rejects
has-step : (x : State) (k : ℕ) (t : Step) → StateFits x → get_elem? x.steps k ≡ some t → (b : Bool) → is_final x.kind ≡ b → b ≡ false
has-step x k t h e true q = absurd (none-ne-some t (subst (λ (xs : List Step). get_elem? xs k ≡ some t) (h.closed q) e))
has-step x k t h e false q = refl

-- a step of a correct formula is right
pub right-step : (fields : ℕ) (f : Formula) (s k : ℕ) (t : Step) → Correct fields f → step_at f s k ≡ some t → RightStep fields f s k t
unfolding step_at steps_of kind_at step_commands
right-step fields f s k t c e =
    let n = length f.states in
    let i : s < n = state-there f s k t e in
    let x = get_or f.states s no_state in
    let h : StateFits x = All-at StateFits f.states s no_state c.formed.each i in
    let p = all-some StepFits x.steps k t e h.each in
    let q = p.1 in
    let m = h.steps in
    let a : All (Exists fields) (commands_before f s k ++ (step_commands t ++ commands_from f s (suc k))) =
    subst (All (Exists fields)) (commands-split f s k t e) c.formed.values in
    record {
      state = i;
      number = omega arith;
      kind = has-step x k t h e (is_final x.kind) refl;
      fits = p.0;
      exist =
          all_left (Exists fields) (step_commands t) (commands_from f s (suc k))
          (all_right (Exists fields) (commands_before f s k) (step_commands t ++ commands_from f s (suc k)) a);
    }
