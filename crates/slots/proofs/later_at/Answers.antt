-- `slots::later_at` meets its contract: the words of a half's trail, compared where they stand, are its thread's trail compared.
use Rattle.std.proofs.Common.{◌∙◌, ◌+◌, ◌-◌, ap, arith, rules}
use Rattle.slots.specs.inner.Threads.{comes_after}
use Rattle.slots.proofs.Slots.{later-there}
use Rattle.slots.proofs.later_at.Goals as goal

pub returns : goal.returns
returns c =
    let k = c.capped.result in
    c.comes_after.ensures
    ∙ ap comes_after
    (later-there c.args.part.now c.args.b.now (46 + k - 46) k c.capped-2.result (omega arith) c.requires (search rules) c.capped.ensures c.capped-2.ensures)
