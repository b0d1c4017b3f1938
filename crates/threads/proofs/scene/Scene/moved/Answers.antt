-- A step that fires is added to the trail.
use Rattle.threads.proofs.Steps.{moved-fires}
use Rattle.threads.proofs.scene.Scene.moved.Goals as goal

pub returns-then-next-lt32 : goal.returns-then-next-lt32
returns-then-next-lt32 c =
    let s = c.args.self.now in
    λ g fm stands go.
    moved-fires g fm _ _ s.rules stands.setting c.args.t.now go s.moment.number c.args.k stands.loads.there c.in_ok-next.next c.with_step.result
    (c.in_ok-next.ensures g fm stands go.fit c.requires) c.with_step.ensures
