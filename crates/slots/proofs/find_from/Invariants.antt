-- `slots::find_from` meets its contract: before the slot no thread's words hold the configuration's.
use Rattle.slots.specs.inner.Words.{Differ}
use Rattle.slots.proofs.find_from.Given as goal

abbrev pub invariant-loop-slot : goal.invariant-loop-slot
invariant-loop-slot l = Differ l.half l.from l.slot l.c l.work
