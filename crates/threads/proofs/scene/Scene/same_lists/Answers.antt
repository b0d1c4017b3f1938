-- `same_lists` meets its contract: neither has gathered, or the lists are read back.
use Rattle.threads.proofs.Lists.{same-nothing}
use Rattle.threads.proofs.scene.Scene.same_lists.Goals as goal

pub returns-then-is_empty-2 : goal.returns-then-is_empty-2
returns-then-is_empty-2 c =
    let a = c.args in
    λ g fm stands v w e.
    same-nothing g fm a.a.now a.b.now v w (c.is_empty.ensures c.if-is_empty.true) (c.is_empty-then-is_empty.ensures c.if-is_empty-2.true)
