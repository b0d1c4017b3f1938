-- The threads one by one.
use Rattle.event_log.specs.Log.{Log}
use Rattle.formula.specs.Formula.{Formula}
use Rattle.threads.specs.inner.Calls.{Sifts, Sifting}
use Rattle.threads.specs.inner.Event.{Kept, NoneEnds}
use Rattle.threads.specs.inner.Setting.{Stands}
use Rattle.threads.proofs.scene.Scene.sift.Given as goal

abbrev pub invariant-loop-j : goal.invariant-loop-j
invariant-loop-j l =
    Sifts l.seats l.initial.work l.j l.sifted l.work
    × ((g : Log) (fm : Formula) → Stands g fm l.self → Kept g fm l.seats.half l.seats.count l.initial.work
    → NoneEnds g fm l.self.moment.number l.seats.half l.seats.count l.initial.work
    → Sifting g fm l.self.moment.number l.seats l.initial.work l.j l.sifted l.work)
