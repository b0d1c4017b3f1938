-- `search_code::no_run` meets its contract.
use Rattle.std.proofs.Common.{refl}
use Rattle.base.specs.Lists.{pad}
use Rattle.search_code.proofs.no_run.Goals as goal

pub returns : goal.returns
unfolding pad
returns c = refl
