-- The least over a thread's moves: what the steps left make of the best so far is the whole.
use Prim.Native.Nat.{◌-◌}
use mathlib.Core.Path.{◌≡◌}
use Rattle.event_log.specs.Log.{Log}
use Rattle.formula.specs.Formula.{Formula}
use Rattle.runs.specs.inner.Lists.{keep}
use Rattle.runs.specs.inner.Search as Runs
use Rattle.machine.specs.Machine.{machine}
use Rattle.threads.specs.inner.Calls.{Going}
use Rattle.threads.specs.inner.Event.{best_of, BestFits}
use Rattle.threads.specs.inner.Setting.{Stands, thread}
use Rattle.threads.proofs.scene.Scene.ending_of.Given as goal

abbrev pub invariant-loop-k : goal.invariant-loop-k
invariant-loop-k l =
    (g : Log) (fm : Formula) → Stands g fm l.self → Going g fm l.t → BestFits g fm l.initial.best
    → (Runs.least_from (machine g fm) (best_of g fm l.initial.best)
    (keep (Runs.ended (machine g fm)) (Runs.firing (machine g fm) (thread g fm l.t) l.self.moment.number l.initial.k (l.k-end - l.initial.k)))
    ≡ Runs.least_from (machine g fm) (best_of g fm l.best)
    (keep (Runs.ended (machine g fm)) (Runs.firing (machine g fm) (thread g fm l.t) l.self.moment.number l.k (l.k-end - l.k))))
    × BestFits g fm l.best
