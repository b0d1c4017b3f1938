-- `slots::load` meets its contract, field by field.
use Rattle.std.proofs.Common.{refl}
use Rattle.slots.proofs.Words.{threads-equal}
use Rattle.slots.specs.inner.Words.{thread_of}
use Rattle.slots.proofs.load.Goals as goal

pub returns : goal.returns
unfolding thread_of
returns c =
    threads-equal _ _ _ _ _ _ _ _ _ _ _ _ _ _ refl c.held_in.ensures c.words_at.ensures c.words_at-2.ensures c.words_at-3.ensures refl
    c.words_at-4.ensures
