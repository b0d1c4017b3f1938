-- `search_code::slots_of` meets its contract.
use Rattle.std.proofs.Common.{arith}
use Rattle.search.specs.Search.{slots_of}
use Rattle.search_code.proofs.slots_of.Goals as goal

pub returns : goal.returns
unfolding slots_of
returns c = omega arith
