-- The threads of the other half one by one: what is left to insert gives the whole, and the list they stand in stays.
use Prim.Native.Nat.{◌-◌}
use lib.ListN.{drop}
use Rattle.std.specs.Prelude.{Some}
use Rattle.event_log.specs.Log.{Log}
use Rattle.formula.specs.Formula.{Formula}
use Rattle.runs.specs.inner.Threads.{insert_within}
use Rattle.machine.specs.Machine.{machine}
use Rattle.threads.specs.inner.Calls.{Grown}
use Rattle.threads.specs.inner.Event.{waiting_in, Kept}
use Rattle.threads.specs.inner.Setting.{Stands}
use Rattle.threads.proofs.Waiting.{Left}
use Rattle.threads.proofs.scene.Scene.merge.Given as goal

abbrev pub invariant-loop-i : goal.invariant-loop-i
invariant-loop-i l =
    Grown l.seats.half l.seats.slots l.initial.work l.work (Some l.count)
    × ((g : Log) (fm : Formula) → Stands g fm l.self → Kept g fm l.seats.half l.seats.count l.initial.work
    → Kept g fm (1 - l.seats.half) l.more l.initial.work
    → Left g fm l.seats.half l.seats.slots
    (insert_within (machine g fm) l.seats.slots (waiting_in g fm l.seats.half l.seats.count l.initial.work)
    (waiting_in g fm (1 - l.seats.half) l.more l.initial.work))
    (drop l.i (waiting_in g fm (1 - l.seats.half) l.more l.initial.work)) l.work l.count)
