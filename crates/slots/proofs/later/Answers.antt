-- `slots::later` meets its contract: the trails' words compared are the trails compared.
use Rattle.std.proofs.Common.{◌∙◌, ap, rules}
use Rattle.slots.proofs.Trails.{later-is}
use Rattle.slots.specs.inner.Threads.{comes_after}
use Rattle.slots.proofs.later.Goals as goal

pub returns : goal.returns
returns c = c.comes_after.ensures ∙ ap comes_after (later-is c.args.a c.args.b (search rules) (search rules) _ _ c.capped.ensures c.capped-2.ensures)
