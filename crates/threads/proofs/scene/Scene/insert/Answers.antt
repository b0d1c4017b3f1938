-- `insert` meets its contract: the place found is that of the test.
use Rattle.threads.proofs.Waiting.{insert-by}
use Rattle.threads.proofs.scene.Scene.insert.Goals as goal

pub returns : goal.returns
returns c =
    let a = c.args in
    insert-by a.self.now a.seats a.b.now a.work.now c.insert_at.new.work c.find-at.result c.insert_at.result c.requires.1 c.find-at.ensures
    c.insert_at.ensures
