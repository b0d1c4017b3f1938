-- The moves one by one: what is left to insert gives the whole, and the words of the other half stay.
use Prim.Native.Nat.{ℕ, ◌-◌, ◌+◌}
use mathlib.Core.List.{List}
use mathlib.Core.Path.{refl}
use native.Mathlib.Omega.{arith}
use Rattle.runs.specs.inner.Threads.{insert_within}
use Rattle.runs.specs.inner.Search as Runs
use Rattle.machine.specs.Machine.{machine}
use Rattle.threads.specs.inner.Calls.{offered, move_by}
use Rattle.threads.specs.inner.Event.{waiting_in}
use Rattle.threads.specs.inner.Setting.{thread}
use Rattle.threads.proofs.Waiting.{left-next, left-stopped, left-none, left_as, offers-next, offers-past, offers-done, grown-same, grown-then}
use Rattle.threads.proofs.scene.Scene.offer_moves.Goals as goal
use Rattle.threads.proofs.scene.Scene.offer_moves.Goals.{then-may+in_ok-count, else-may}

pub loop-k-init : goal.loop-k-init
loop-k-init c =
    let a = c.args in
    let z = a.seats in
    (grown-same z.half z.slots z.count a.work.now c.requires.0.2, λ g fm s k go. record { is = refl; kept = k })

pub offer_move-requires : goal.offer_move-requires
offer_move-requires c = omega (arith, c.loop-k.invariant.0.sized, c.loop-k.invariant.0.most, c.requires, c.loop-k-test.true)

pub returns-in_err-count : goal.returns-in_err-count
returns-in_err-count c =
    let a = c.args in
    let w = a.work.now in
    let z = a.seats in
    let t = a.t.now in
    let n = a.self.now.moment.number in
    let l = c.loop-k in
    let x = c.offer_move in
    let y = c.in_err-count.ensures in
    rw c.from_residual.ensures (
      grown-then z.half z.slots w l.work x.new.work _ _ l.invariant.0 y.0,
      λ g fm s k go.
          let firing : ℕ → List (Runs.Thread (machine g fm)) = λ i. offered g fm n (Runs.firing (machine g fm) (thread g fm t) n i (a.choice.to - i)) in
          let v = l.invariant.1 g fm s k go in
          let whole = insert_within (machine g fm) z.slots (waiting_in g fm z.half z.count w) (firing a.choice.from) in
          left-stopped g fm z.half z.slots whole (offered g fm n (move_by g fm t n l.k)) (firing (l.k + 1)) l.work x.new.work l.count
          (left_as g fm z.half z.slots whole _ _ l.work l.count (offers-next g fm t n l.k a.choice.to c.loop-k-test.true) v)
          (y.1 g fm s v.kept go),
    )

pub loop-k-preserved : goal.loop-k-preserved
loop-k-preserved c =
    let a = c.args in
    let w = a.work.now in
    let z = a.seats in
    let t = a.t.now in
    let n = a.self.now.moment.number in
    let l = c.loop-k in
    elim c.if-may.branch [
      | then-may+in_ok-count q ↦
          let x = q.offer_move in
          let y = q.in_ok-count.ensures in
          rw (q.work-is, q.count-is) (
            grown-then z.half z.slots w l.work x.new.work _ _ l.invariant.0 y.0,
            λ g fm s k go.
                let firing : ℕ → List (Runs.Thread (machine g fm)) = λ i. offered g fm n (Runs.firing (machine g fm) (thread g fm t) n i (a.choice.to - i)) in
                let v = l.invariant.1 g fm s k go in
                let whole = insert_within (machine g fm) z.slots (waiting_in g fm z.half z.count w) (firing a.choice.from) in
                left-next g fm z.half z.slots whole (offered g fm n (move_by g fm t n l.k)) (firing (l.k + 1)) l.work x.new.work l.count
                (left_as g fm z.half z.slots whole _ _ l.work l.count (offers-next g fm t n l.k a.choice.to c.loop-k-test.true) v) q.in_ok-count.count
                (y.1 g fm s v.kept go),
          )
      | else-may q ↦
          rw (q.work-is, q.count-is) (
            l.invariant.0,
            λ g fm s k go.
                let firing : ℕ → List (Runs.Thread (machine g fm)) = λ i. offered g fm n (Runs.firing (machine g fm) (thread g fm t) n i (a.choice.to - i)) in
                let whole = insert_within (machine g fm) z.slots (waiting_in g fm z.half z.count w) (firing a.choice.from) in
                left_as g fm z.half z.slots whole (firing l.k) (firing (l.k + 1)) l.work l.count
                (offers-past g fm t n l.k a.choice.to c.loop-k-test.true
                (c.may.ensures.0 q.if-may.false (omega (arith, c.loop-k-test.true, c.requires)) g fm s t refl refl refl go.fit))
                (l.invariant.1 g fm s k go),
          )
    ]

pub returns : goal.returns
returns c =
    let a = c.args in
    let z = a.seats in
    let l = c.loop-k in (
      l.invariant.0,
      λ g fm s k go. left-none g fm z.half z.slots _ _ l.work l.count
          (offers-done g fm a.t.now a.self.now.moment.number l.k a.choice.to c.loop-k-test.false) (l.invariant.1 g fm s k go),
    )
