-- `trends::guard_falls` meets its contract: the guard is lent as the part behind its command.
use mathlib.Core.Path.{◌∙◌}
use borrow.Author.Tests.{ne_eqb}
use Rattle.guard_code.proofs.TrendOnBytes.{falls-read, falls-none}
use Rattle.guard_code.proofs.trends.guard_falls.Goals as goal

pub returns-then-byte_at-eq-GUARD : goal.returns-then-byte_at-eq-GUARD
returns-then-byte_at-eq-GUARD c = falls-read _ _ _ _ c.byte_at.ensures.0 c.if-byte_at-eq-GUARD.true c.falling_at.ensures.judged

pub returns-else-byte_at-eq-GUARD : goal.returns-else-byte_at-eq-GUARD
returns-else-byte_at-eq-GUARD c = ne_eqb _ 0x15 c.if-byte_at-eq-GUARD.false ∙ falls-none _ _ _ _ c.byte_at.ensures.0 c.if-byte_at-eq-GUARD.false
