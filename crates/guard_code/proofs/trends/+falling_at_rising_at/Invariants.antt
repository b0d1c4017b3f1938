-- `trends::rising_at` and `trends::falling_at` end by the depth.
use Rattle.guard_code.proofs.trends.+falling_at_rising_at.Given as goal

abbrev pub decreases-falling_at : goal.decreases-falling_at
decreases-falling_at l = l.depth

abbrev pub decreases-rising_at : goal.decreases-rising_at
decreases-rising_at l = l.depth
