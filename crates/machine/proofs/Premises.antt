-- A correct log and a correct formula keep what the theory of runs asks of their machine.
use Prim.Native.Nat.{ℕ, ◌<◌}
use mathlib.Core.Path.{◌≡◌, refl}
use mathlib.Core.Bool.{false}
use mathlib.Core.List.{List, [], ◌∷◌, ◌++◌, map, flat_map}
use lib.ListN.{length, get_elem?}
use Rattle.base.specs.Lists.{All}
use Rattle.event_log.specs.Log.{Log}
use Rattle.event_log.specs.Correct as LogCorrect
use Rattle.formula.specs.Formula.{Formula, State, Step}
use Rattle.formula.specs.Encode.{TIED, CLAUSE, guard_commands, step_commands, state_commands, commands}
use Rattle.formula.specs.Correct as FormulaCorrect
use Rattle.formula.proofs.Basics.{all_right, all_left}
use Rattle.machine.specs.Configuration.{start}
use Rattle.machine.specs.Machine.{kind_is, final, machine}
use Rattle.machine.proofs.Machine.{Premises, laws}
use Rattle.runs.specs.inner.Laws.{Laws}

-- no STEP names an absent state
steps-declared : (states : ℕ) (ts : List Step) → All (FormulaCorrect.Declared states) (flat_map step_commands ts)
    → All (λ (t : Step). t.target < states) ts
unfolding flat_map step_commands
steps-declared states [] h = tt
steps-declared states (t ∷ ts) h = (
  h.0,
  steps-declared states ts
      (all_right (FormulaCorrect.Declared states) (map CLAUSE t.clauses ++ guard_commands t.guard) (flat_map step_commands ts) h.1),
)

targets-declared : (states : ℕ) (xs : List State) → All (FormulaCorrect.Declared states) (flat_map state_commands xs)
    → All (λ (s : State). All (λ (t : Step). t.target < states) s.steps) xs
unfolding flat_map state_commands
targets-declared states [] h = tt
targets-declared states (x ∷ xs) h = (
  steps-declared states x.steps
      (all_left (FormulaCorrect.Declared states) (flat_map step_commands x.steps) (flat_map state_commands xs) h.1),
  targets-declared states xs
      (all_right (FormulaCorrect.Declared states) (flat_map step_commands x.steps) (flat_map state_commands xs) h.1),
)

-- no dead start
open-first : (xs : List State) → FormulaCorrect.dead_start xs ≡ false → kind_is FormulaCorrect.is_final (get_elem? xs 0) ≡ false
open-first [] h = refl
open-first (x ∷ xs) h = h

module _ (g : Log) (fm : Formula) (log : LogCorrect.Recorded g) (formula : FormulaCorrect.Correct (length g.fields) fm) where
  open-start : final fm start ≡ false
  unfolding final start
  open-start = open-first fm.states formula.start

  pub premises : Premises g fm
  unfolding commands
  premises =
      record {
        recorded = log;
        some-state = formula.formed.nonempty;
        most-states = formula.formed.states;
        targets =
            targets-declared (length fm.states) fm.states
            (all_right (FormulaCorrect.Declared (length fm.states)) (map TIED fm.tied) (flat_map state_commands fm.states)
            formula.named);
        open-start = open-start;
      }

  -- the machine of a correct log and a correct formula keeps every law that the search is exact by
  unfoldable pub keeps : Laws (machine g fm)
  keeps = laws g fm premises
