-- The least over the threads that wait: what those left make of the best so far is the whole.
use mathlib.Core.Path.{◌≡◌}
use lib.ListN.{drop}
use Rattle.event_log.specs.Log.{Log}
use Rattle.formula.specs.Formula.{Formula}
use Rattle.runs.specs.inner.Search as Runs
use Rattle.machine.specs.Machine.{machine}
use Rattle.threads.specs.inner.Event.{best_of, BestFits, waiting_in, Kept}
use Rattle.threads.specs.inner.Setting.{Stands}
use Rattle.threads.proofs.scene.Scene.ending.Given as goal

abbrev pub invariant-loop-j : goal.invariant-loop-j
invariant-loop-j l =
    (g : Log) (fm : Formula) → Stands g fm l.self → Kept g fm l.seats.half l.seats.count l.work
    → (Runs.least (machine g fm) (Runs.endings (machine g fm) l.self.moment.number (waiting_in g fm l.seats.half l.seats.count l.work))
    ≡ Runs.least_from (machine g fm) (best_of g fm l.best)
    (Runs.endings (machine g fm) l.self.moment.number (drop l.j (waiting_in g fm l.seats.half l.seats.count l.work))))
    × BestFits g fm l.best
