-- `slots::load_slot` meets its contract: the half's thread is the slot's.
use Rattle.std.proofs.Common.{◌∙◌}
use Rattle.slots.proofs.Slots.{half-thread}
use Rattle.slots.proofs.load_slot.Goals as goal

pub returns : goal.returns
returns c = c.load.ensures ∙ half-thread c.args.work.now _ _ c.half_of.ensures.words
