-- What moved is inserted into what stays.
use mathlib.Core.Path.{◌∙◌}
use Rattle.threads.proofs.Sifting.{settled-merged}
use Rattle.threads.proofs.scene.Scene.settle.Goals as goal

pub returns-in_err-sifted : goal.returns-in_err-sifted
returns-in_err-sifted c =
    let y = c.in_err-sifted.ensures in
    rw c.from_residual.ensures (record { settled_is = λ g fm s k q. y.2 g fm s k q; upper_bound = (tt, y.1) })

pub returns : goal.returns
returns c =
    let a = c.args in
    let x = c.sift in
    let y = c.merge in
    let r = c.in_ok-sifted.ensures in
    record {
      settled_is = λ g fm s k q. settled-merged g fm a.self.now.moment.number a.seats a.work.now x.new.work y.new.work c.in_ok-sifted.sifted y.result
          (r.2 g fm s k q) (λ p o. y.ensures.1 g fm s p o);
      upper_bound = (y.ensures.0.most, y.ensures.0.sized ∙ r.1);
    }
