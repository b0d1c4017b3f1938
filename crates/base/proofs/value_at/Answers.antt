-- `base::value_at` meets its contract: all four bytes inside, past the end, or byte by byte.
use Rattle.std.proofs.Common.{sym, arith}
use Rattle.base.specs.Value.{value_at}
use Rattle.base.proofs.Values.{value-past}
use Rattle.base.proofs.value_at.Goals as goal

pub returns-then-b-at : goal.returns-then-b-at
returns-then-b-at c = sym (value-past _ _ c.if-b-at.true)

pub returns : goal.returns
unfolding value_at
returns c = omega (arith, c.from_be_bytes.ensures, c.get_or.ensures, c.get_or-2.ensures, c.get_or-3.ensures)
