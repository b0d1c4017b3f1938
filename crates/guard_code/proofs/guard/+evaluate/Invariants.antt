-- `guard::evaluate` and `guard::operand` end: by the depth, and of one depth an operand is above the command that stands there.
use Rattle.std.proofs.Common.{◌+◌, ◌*◌}
use Rattle.guard_code.proofs.guard.+evaluate.Given as goal

abbrev pub decreases-evaluate : goal.decreases-evaluate
decreases-evaluate l = 2 * l.depth

abbrev pub decreases-operand : goal.decreases-operand
decreases-operand l = 1 + 2 * l.depth
