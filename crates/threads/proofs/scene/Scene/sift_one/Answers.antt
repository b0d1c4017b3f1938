-- One thread: it idles, or its moves need one more slot, or they fit and it stays or not.
use Prim.Native.Nat.{◌≤◌}
use mathlib.Core.Path.{refl, ◌∙◌, sym}
use mathlib.Core.Bool.{true, false}
use native.Mathlib.Omega.{arith}
use Rattle.threads.proofs.Choices.{open-lowest}
use Rattle.threads.proofs.Taking.{taken-number}
use Rattle.threads.proofs.Sifting.{sifts-next, sifting-next, sifting-stopped, idle-sifts, idle-sifting}
use Rattle.threads.proofs.Listed.{kept_at, thread-stays, ends-none}
use Rattle.threads.proofs.scene.Scene.sift_one.Goals as goal

pub returns-then-idles : goal.returns-then-idles
returns-then-idles c =
    let a = c.args in
    let m = a.self.now in
    let w = a.work.now in
    let z = a.seats in
    let p = c.requires in
    let two = p.0.1 in
    let most = p.0.2 in
    let idle = c.idles.ensures c.if-idles.true in
    let front : a.j ≤ a.done.stayed = omega (arith, c.if-done-j.true) in (
      refl,
      λ before s. idle-sifts m.formula.now m.table.now m.rules m.moment z before a.j a.done w two most s p.3 front idle,
      λ before s g fm stands kept quiet v.
          idle-sifting m.formula.now m.table.now m.rules m.moment z before a.j a.done w two most s p.3 front idle m.log.now m.places.now g fm stands
          kept v,
    )

pub choice_of-choice-requires-clause-number : goal.choice_of-choice-requires-clause-number
choice_of-choice-requires-clause-number c = taken-number c.args.self.now c.load_slot-t.result false

pub returns-in_err-moved : goal.returns-in_err-moved
returns-in_err-moved c =
    let a = c.args in
    let n = a.self.now.moment.number in
    let z = a.seats in
    let p = c.requires in
    let t = c.load_slot-t.result in
    let x = c.offer_moves in
    let y = c.in_err-moved.ensures in
    rw c.from_residual.ensures (
      y.0.sized,
      λ before s. tt,
      λ before s g fm stands kept quiet v.
          let e = c.load_slot-t.ensures ∙ s.behind a.j (omega arith) p.3 in
          let go = kept_at g fm z.half z.count before a.j t kept p.3 e in
          sifting-stopped g fm n z before a.j a.done a.work.now v t p.3 e c.choice_of-choice.result
          (c.choice_of-choice.ensures.1 true (open-lowest a.self.now t) g fm stands go.fit (λ o. ends-none g fm z.half z.count before a.j t p.3 e n quiet)) x.new.work
          (y.1 g fm stands v.moved_kept go),
    )

pub remain-stayed-requires : goal.remain-stayed-requires
remain-stayed-requires c =
    let a = c.args in
    let z = a.seats in
    let p = c.requires in
    let x = c.offer_moves in
    let y = c.in_ok-moved.ensures in
    let same = thread-stays z.half z.slots z.count a.work.now x.new.work _ a.j _ p.0.1 p.0.2 y.0 p.3 refl in (
      omega (arith, y.0.sized, p.0, p.1, p.3),
      p.1,
      omega (arith, p.0.2, p.3),
      c.load_slot-t.ensures ∙ sym same,
    )

pub returns : goal.returns
returns c =
    let a = c.args in
    let n = a.self.now.moment.number in
    let z = a.seats in
    let p = c.requires in
    let t = c.load_slot-t.result in
    let x = c.offer_moves in
    let r = c.in_ok-moved.moved in
    let o = c.in_ok-moved.ensures in
    let y = c.remain-stayed in (
      y.ensures.0.sized ∙ o.0.sized,
      λ before s. sifts-next z before a.j a.done a.work.now x.new.work y.new.work t r y.result p.0.1 p.0.2 s p.3 o.0 y.ensures.0,
      λ before s g fm stands kept quiet v.
          let e = c.load_slot-t.ensures ∙ s.behind a.j (omega arith) p.3 in
          let go = kept_at g fm z.half z.count before a.j t kept p.3 e in
          sifting-next g fm n z before a.j a.done a.work.now v t p.3 e c.choice_of-choice.result
          (c.choice_of-choice.ensures.1 true (open-lowest a.self.now t) g fm stands go.fit (λ q. ends-none g fm z.half z.count before a.j t p.3 e n quiet)) x.new.work y.new.work r
          y.result p.0.1 (omega (arith, p.0.2, p.1, p.3)) go o.0 (o.1 g fm stands v.moved_kept go) y.ensures.0 (y.ensures.1 g fm stands go),
    )
