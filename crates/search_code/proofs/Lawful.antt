-- A correct log and a correct formula keep what the theory of runs asks of their machine, so that the list of threads gives the search's answer.
use Prim.Native.Nat.{ℕ, ◌≤◌}
use mathlib.Core.Path.{◌≡◌}
use lib.ListN.{length}
use Rattle.event_log.specs.Log.{Log}
use Rattle.event_log.specs.Correct as LogCorrect
use Rattle.formula.specs.Formula.{Formula}
use Rattle.formula.specs.Correct as FormulaCorrect
use Rattle.runs.specs.inner.Search.{search}
use Rattle.runs.specs.inner.Settle.{swift}
use Rattle.runs.proofs.Settle.{swift-search}
use Rattle.machine.specs.Machine.{machine}
use Rattle.machine.proofs.Premises.{keeps}

module _ (g : Log) (fm : Formula) (log : LogCorrect.Recorded g) (formula : FormulaCorrect.Correct (length g.fields) fm) where
  -- the list of threads gives the search's answer
  pub swift-gives : (slots i : ℕ) → i ≤ length g.events → swift (machine g fm) slots i ≡ search (machine g fm) slots i
  swift-gives slots i h = swift-search (machine g fm) (keeps g fm log formula) slots i h
