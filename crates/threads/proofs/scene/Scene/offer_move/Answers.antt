-- What a step leaves is offered; a step that ends runs or does not fire leaves nothing.
use mathlib.Core.Path.{refl, ap, ◌∙◌}
use Rattle.runs.specs.inner.Lists.{keep}
use Rattle.threads.specs.inner.Event.{waiting_in}
use Rattle.threads.specs.inner.Calls.{offered}
use Rattle.threads.proofs.Waiting.{grown-same, within_none, within-as, move-silent, move-fires, offered-past}
use Rattle.threads.proofs.scene.Scene.offer_move.Goals as goal

pub returns-then-ends_by : goal.returns-then-ends_by
returns-then-ends_by c =
    let a = c.args in
    let w = a.work.now in
    let z = a.seats in
    let p = c.requires in (
      grown-same z.half z.slots z.count w p.0.2,
      λ g fm s k go.
          let e = offered-past g fm a.t.now a.self.now.moment.number a.k
          (λ d e. c.ends_by.ensures g fm s p.1 a.t.now refl go.fit d e ∙ c.if-ends_by.true) in
          within_none g fm z.half z.slots z.count w _ e k,
    )

pub returns-in-Some : goal.returns-in-Some
returns-in-Some c =
    let a = c.args in
    let w = a.work.now in
    let z = a.seats in
    let n = a.self.now.moment.number in
    let x = c.offer in (
      x.ensures.0,
      λ g fm s k go.
          let f = move-fires g fm a.t.now n a.k c.in-Some.b (c.in-Some.ensures g fm s go) in
          within-as g fm z.half z.slots (waiting_in g fm z.half z.count w) _ _ x.new.work x.result (ap (offered g fm n) f.0)
          (x.ensures.1 g fm s k f.1),
    )

pub returns-in-None : goal.returns-in-None
unfolding keep
returns-in-None c =
    let a = c.args in
    let w = a.work.now in
    let z = a.seats in
    let n = a.self.now.moment.number in (
      grown-same z.half z.slots z.count w c.requires.0.2,
      λ g fm s k go.
          let e = move-silent g fm a.t.now n a.k (c.in-None.ensures g fm s go) in
          within_none g fm z.half z.slots z.count w _ (ap (offered g fm n) e) k,
    )
