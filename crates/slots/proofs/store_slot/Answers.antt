-- `slots::store_slot` meets its contract: the part put back is the slot's words.
use Rattle.std.proofs.Common.{refl, arith, rules}
use Rattle.slots.proofs.Words.{stored-part}
use Rattle.slots.proofs.store_slot.Goals as goal

pub returns : goal.returns
returns c =
    stored-part c.args.work.now c.store.new.part c.args.t _ _ _ (search rules) c.offset-at.ensures refl (omega arith) c.store.ensures
