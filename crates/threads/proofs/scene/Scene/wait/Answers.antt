-- A thread waits where some step of its state is not expired.
use mathlib.Core.Path.{sym, ◌∙◌}
use Rattle.threads.proofs.Waiting.{grown-same, wait-in, wait-out}
use Rattle.threads.proofs.scene.Scene.wait.Goals as goal

pub returns-then-hopeful_at : goal.returns-then-hopeful_at
returns-then-hopeful_at c =
    let a = c.args in
    let z = a.seats in
    let x = c.insert in (
      x.ensures.0,
      λ g fm s k go.
          let e = sym c.if-hopeful_at.true ∙ c.hopeful_at.ensures g fm s go.fit in
          wait-in g fm z.half z.slots a.self.now.moment.number z.count a.b.now a.work.now x.new.work x.result e (x.ensures.1 g fm s k go),
    )

pub returns-else-hopeful_at : goal.returns-else-hopeful_at
returns-else-hopeful_at c =
    let a = c.args in
    let w = a.work.now in
    let z = a.seats in (
      grown-same z.half z.slots z.count w c.requires.2,
      λ g fm s k go. wait-out g fm z.half z.slots a.self.now.moment.number z.count a.b.now w k
          (sym c.if-hopeful_at.false ∙ c.hopeful_at.ensures g fm s go.fit),
    )
