-- "for every state and step number, the offset of that STEP or that there is none": where a STEP begins, told by counting the commands before it.
use Rattle.std.specs.Prelude.{ℕ, suc, ◌<◌, ◌≡◌, length}
use mathlib.Core.List.{List, [], ◌∷◌, ◌++◌, flat_map}
use Rattle.formula.specs.Formula.{Formula}
use Rattle.formula.specs.Encode.{Command, TIED, STATE, STEP, CLAUSE, GUARD, commands, encode_command}

-- "STATE kind: the next state, from 0": the number of states after one more command, and after all of them
abbrev pub state_more : Command → ℕ → ℕ
state_more (TIED v) n = n
state_more (STATE k) n = suc n
state_more (STEP t) n = n
state_more (CLAUSE c) n = n
state_more (GUARD e) n = n

unfoldable pub states_after : ℕ → List Command → ℕ
states_after n [] = n
states_after n (c ∷ cs) = states_after (state_more c n) cs

-- "STEP target: the next step, from 0, of the state above it": the number of the last state's steps, likewise
abbrev pub step_more : Command → ℕ → ℕ
step_more (TIED v) n = n
step_more (STATE k) n = 0
step_more (STEP t) n = suc n
step_more (CLAUSE c) n = n
step_more (GUARD e) n = n

unfoldable pub steps_after : ℕ → List Command → ℕ
steps_after n [] = n
steps_after n (c ∷ cs) = steps_after (step_more c n) cs

-- step k of state s is the STEP with s + 1 STATEs before it and, behind the last of these, k STEPs; "the offset of the command's first byte" is p
pub record StepBegins (f : Formula) (s k p : ℕ) : Type 0 where
  pub before : List Command
  pub leads_to : ℕ
  pub behind : List Command
  pub stands : commands f ≡ before ++ (STEP leads_to ∷ behind)
  pub state : states_after 0 before ≡ suc s
  pub number : steps_after 0 before ≡ k
  pub offset : length (flat_map encode_command before) ≡ p

-- what an entry of the table says of step k of state s: the offset of that STEP, or 0, which is no STEP's offset, where there is none
pub data Located (f : Formula) (s k : ℕ) : ℕ → Type 0 where
  begins : (p : ℕ) → StepBegins f s k p → 0 < p → Located f s k p
  nowhere : ((p : ℕ) → StepBegins f s k p → ⊥) → Located f s k 0
