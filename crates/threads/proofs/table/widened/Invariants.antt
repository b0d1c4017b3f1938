-- `widened` meets its contract: after i turns the first i entries of each part are copied.
use Rattle.threads.proofs.Marking.{Copied}
use Rattle.threads.proofs.table.widened.Given as goal

abbrev pub invariant-loop-i : goal.invariant-loop-i
invariant-loop-i l = Copied l.steps l.table l.i
