-- `base::value_inside` meets its contract: the four bytes, the highest first.
use Rattle.std.proofs.Common.{arith}
use Rattle.base.specs.Value.{value_at}
use Rattle.base.proofs.value_inside.Goals as goal

pub returns : goal.returns
unfolding value_at
returns c = omega (arith, c.from_be_bytes.ensures)
