-- `formula_code::scan_file` meets its contract: the loop keeps what was read, with enough fuel for the rest.
use Rattle.std.proofs.Common.{◌-◌, length}
use Rattle.formula_code.proofs.FileWalk.{SoFar}
use Rattle.formula_code.proofs.scan_file.Given as goal

abbrev pub invariant-loop-taken : goal.invariant-loop-taken
invariant-loop-taken l = SoFar l.fields l.l l.d

abbrev pub decreases-loop-taken : goal.decreases-loop-taken
decreases-loop-taken l = length l.l - l.d.at
