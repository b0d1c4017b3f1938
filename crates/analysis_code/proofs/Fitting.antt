-- What a search names over a correct log and a correct formula fits a row; every tied variable exists.
use Prim.Native.Nat.{ℕ, ◌<◌, ◌≤◌}
use mathlib.Core.List.{List, [], ◌∷◌, map, flat_map}
use native.Mathlib.Omega.{arith}
use lib.ListN.{length}
use Rattle.base.specs.Lists.{All}
use Rattle.event_log.specs.Log.{Log}
use Rattle.event_log.specs.Correct as LogCorrect
use Rattle.formula.specs.Formula.{Formula}
use Rattle.formula.specs.Encode.{TIED, state_commands, commands}
use Rattle.formula.specs.Correct as FormulaCorrect
use Rattle.formula.specs.Correct.{Exists}
use Rattle.formula.proofs.Basics.{all_left}
use Rattle.runs.specs.inner.Demand.{Demand}
use Rattle.runs.specs.inner.Search.{search}
use Rattle.runs.specs.Answer.{Answer, found, absent, crowded}
use Rattle.runs.proofs.Meets.{search-meets}
use Rattle.machine.specs.inner.Valid.{Valid}
use Rattle.machine.specs.Machine.{machine}
use Rattle.machine.proofs.Premises.{premises, keeps}
use Rattle.search.proofs.Premises.{ends-valid}
use Rattle.search_code.specs.declared.Scope.{Scope}
use Rattle.search_code.specs.inner.Turn.{Given}
use Rattle.analysis_code.specs.inner.Starts.{Fitting}

-- every TIED names one of the 8 variables
tied-variables : (fields : ℕ) (ws : List ℕ) → All (Exists fields) (map TIED ws) → All (λ v. v < 8) ws
tied-variables fields [] h = tt
tied-variables fields (w ∷ ws) h = (h.0, tied-variables fields ws h.1)

pub tied-exist : (g : Log) (fm : Formula) → FormulaCorrect.Correct (length g.fields) fm → All (λ v. v < 8) fm.tied
unfolding commands
tied-exist g fm ok =
    tied-variables (length g.fields) fm.tied
    (all_left (Exists (length g.fields)) (map TIED fm.tied) (flat_map state_commands fm.states) ok.formed.values)

module _ (g : Log) (fm : Formula) (log : LogCorrect.Recorded g) (formula : FormulaCorrect.Correct (length g.fields) fm) where
  demand-fits : (slots i : ℕ) (a : Answer (machine g fm)) → Demand (machine g fm) slots i a → Fitting g fm a
  demand-fits slots i (found c t width) d =
      let v : Valid (length fm.states) c = ends-valid g fm (premises g fm log formula) c i t d.run.path.follows in
      record { short = d.run.path.most; held_8 = v.held_8; values_8 = v.values_8 }
  demand-fits slots i (absent width) d = tt
  demand-fits slots i (crowded n) d = tt

  search-fits : (slots i : ℕ) → i ≤ length g.events → Fitting g fm (search (machine g fm) slots i)
  search-fits slots i h = demand-fits slots i (search (machine g fm) slots i) (search-meets (machine g fm) (keeps g fm log formula) slots i h)

-- the same, from what the readers hand on
pub given-fits : (g : Log) (fm : Formula) (l places f table : List ℕ) (scope : Scope) → Given g fm l places f table scope → (start : ℕ) → start < scope.events
    → Fitting g fm (search (machine g fm) scope.slots start)
given-fits g fm l places f table scope given start h =
    search-fits g fm given.setting.log given.setting.formula scope.slots start (omega (arith, given.events_are))
