-- The moves one by one: what is left to insert gives the whole, and the words of the other half stay.
use Prim.Native.Nat.{◌-◌}
use Rattle.std.specs.Prelude.{Some}
use Rattle.event_log.specs.Log.{Log}
use Rattle.formula.specs.Formula.{Formula}
use Rattle.runs.specs.inner.Threads.{insert_within}
use Rattle.runs.specs.inner.Search as Runs
use Rattle.machine.specs.Machine.{machine}
use Rattle.threads.specs.inner.Calls.{Going, Grown, offered}
use Rattle.threads.specs.inner.Event.{waiting_in, Kept}
use Rattle.threads.specs.inner.Setting.{Stands, thread}
use Rattle.threads.proofs.Waiting.{Left}
use Rattle.threads.proofs.scene.Scene.offer_moves.Given as goal

abbrev pub invariant-loop-k : goal.invariant-loop-k
invariant-loop-k l =
    Grown l.seats.half l.seats.slots l.initial.work l.work (Some l.count)
    × ((g : Log) (fm : Formula) → Stands g fm l.self → Kept g fm l.seats.half l.seats.count l.initial.work → Going g fm l.t
    → Left g fm l.seats.half l.seats.slots
    (insert_within (machine g fm) l.seats.slots (waiting_in g fm l.seats.half l.seats.count l.initial.work)
    (offered g fm l.self.moment.number (Runs.firing (machine g fm) (thread g fm l.t) l.self.moment.number l.initial.k (l.k-end - l.initial.k))))
    (offered g fm l.self.moment.number (Runs.firing (machine g fm) (thread g fm l.t) l.self.moment.number l.k (l.k-end - l.k))) l.work l.count)
