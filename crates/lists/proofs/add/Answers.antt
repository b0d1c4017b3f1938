-- `lists::add` meets its contract: by the list and its room.
use borrow.Author.Tests.{lt-ltb, le-ltb}
use Rattle.lists.specs.inner.Words.{add_in}
use Rattle.lists.proofs.add.Goals as goal
use Rattle.lists.proofs.add.Goals.{else-v-lt4-via-then-v-lt4+else-lists-v-lt32, else-v-lt4-via-else-v-lt4}

pub returns-then-lists-v-lt32 : goal.returns-then-lists-v-lt32
unfolding add_in
returns-then-lists-v-lt32 c = rw (lt-ltb _ _ c.if-v-lt4.true, lt-ltb _ _ c.if-lists-v-lt32.true)

pub returns-else-v-lt4 : goal.returns-else-v-lt4
unfolding add_in
returns-else-v-lt4 c = elim c.else-v-lt4.branch [
  | else-v-lt4-via-then-v-lt4+else-lists-v-lt32 w ↦ rw (lt-ltb _ _ w.if-v-lt4.true, le-ltb _ _ w.if-lists-v-lt32.false)
  | else-v-lt4-via-else-v-lt4 w ↦ rw (le-ltb _ _ w.if-v-lt4.false)
]
