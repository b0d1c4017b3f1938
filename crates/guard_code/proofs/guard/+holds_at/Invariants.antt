-- `guard::holds_at` ends by the depth.
use Rattle.guard_code.proofs.guard.+holds_at.Given as goal

abbrev pub decreases-holds_at : goal.decreases-holds_at
decreases-holds_at l = l.depth
