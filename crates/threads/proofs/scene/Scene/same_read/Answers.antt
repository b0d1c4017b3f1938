-- `same_read` meets its contract: the words are the same exactly when the lists are.
use mathlib.Core.Path.{◌∙◌}
use Rattle.machine.specs.inner.Along.{gathered}
use Rattle.slots.specs.inner.Threads.{trail_of}
use Rattle.lists.proofs.Holding.{same_lists}
use Rattle.threads.proofs.scene.Scene.same_read.Goals as goal

pub returns : goal.returns
returns c =
    let x = c.args in
    let p = c.lists_at in
    let q = c.lists_at-2 in
    λ g fm stands v w e.
    c.same_words.ensures
    ∙ same_lists (gathered g fm (trail_of x.a.now)) (gathered g fm (trail_of x.b.now)) p.result q.result (p.ensures g fm stands v)
    (q.ensures g fm stands w)
