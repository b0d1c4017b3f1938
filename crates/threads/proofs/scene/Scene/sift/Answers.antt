-- The threads one by one.
use mathlib.Core.Path.{◌∙◌, ap, sym}
use mathlib.Core.List.{[]}
use native.Mathlib.Omega.{arith}
use Rattle.runs.specs.inner.Threads.{insert_within}
use Rattle.runs.specs.inner.Settle.{stayers, movers}
use Rattle.machine.specs.Machine.{machine}
use Rattle.threads.proofs.Sifting.{sifts-start, sifting-start, all-sifted}
use Rattle.threads.proofs.scene.Scene.sift.Goals as goal

pub loop-j-init : goal.loop-j-init
loop-j-init c =
    let a = c.args in
    (sifts-start a.seats a.work.now, λ g fm s k q. sifting-start g fm a.self.now.moment.number a.seats a.work.now)

pub sift_one-requires : goal.sift_one-requires
sift_one-requires c =
    let i = c.loop-j.invariant.0 in
    omega (arith, i.sized, i.front, i.room, c.requires, c.loop-j-test.true)

pub returns-in_err-sifted : goal.returns-in_err-sifted
returns-in_err-sifted c =
    let w = c.args.work.now in
    let l = c.loop-j in
    let y = c.in_err-sifted.ensures in
    rw c.from_residual.ensures (
      tt,
      y.0 ∙ l.invariant.0.sized,
      λ g fm s k q. y.2 w l.invariant.0 g fm s k q (l.invariant.1 g fm s k q),
    )

pub loop-j-preserved : goal.loop-j-preserved
loop-j-preserved c =
    let w = c.args.work.now in
    let l = c.loop-j in
    let y = c.in_ok-sifted.ensures in
    (y.1 w l.invariant.0, λ g fm s k q. y.2 w l.invariant.0 g fm s k q (l.invariant.1 g fm s k q))

pub returns : goal.returns
returns c =
    let a = c.args in
    let w = a.work.now in
    let z = a.seats in
    let n = a.self.now.moment.number in
    let l = c.loop-j in
    let i = l.invariant.0 in (
      (omega (arith, i.front, i.seen), i.room),
      i.sized,
      λ g fm s k q.
          let v = l.invariant.1 g fm s k q in
          let all = all-sifted g fm n z w l.j c.loop-j-test.false in (
            ap (λ ths. insert_within (machine g fm) z.slots [] (movers (machine g fm) n ths)) (sym all) ∙ v.moved_are,
            v.moved_kept,
            v.stayed_are ∙ ap (stayers (machine g fm) n) all,
            v.stayed_kept,
          ),
    )
