-- The threads of the other half one by one: what is left to insert gives the whole, and the list they stand in stays.
use Prim.Native.Nat.{◌-◌, ◌+◌}
use mathlib.Core.Path.{◌≡◌, refl, sym, subst}
use mathlib.Core.List.{[], ◌∷◌}
use native.Mathlib.Omega.{arith}
use lib.ListN.{drop}
use Rattle.std.specs.Prelude.{Some}
use Rattle.runs.specs.inner.Threads.{insert_within}
use Rattle.machine.specs.Machine.{machine}
use Rattle.threads.specs.inner.Calls.{Grown}
use Rattle.threads.specs.inner.Event.{waiting_in}
use Rattle.threads.specs.inner.Setting.{thread}
use Rattle.threads.proofs.Waiting.{left-next, left-stopped, left-none, left_as, grown-same, grown-then}
use Rattle.threads.proofs.Listed.{kept_at, thread-stays, waiting-next, waiting-done}
use Rattle.threads.proofs.scene.Scene.merge.Goals as goal

pub loop-i-init : goal.loop-i-init
loop-i-init c =
    let z = c.args.seats in
    (grown-same z.half z.slots z.count c.args.work.now c.requires.0.2, λ g fm s k o. record { is = refl; kept = k })

pub load_slot-b-requires : goal.load_slot-b-requires
load_slot-b-requires c = omega (arith, c.loop-i.invariant.0.sized, c.requires, c.loop-i-test.true)

pub insert-requires : goal.insert-requires
insert-requires c = omega (arith, c.loop-i.invariant.0.sized, c.loop-i.invariant.0.most, c.requires)

pub returns-in_err-count : goal.returns-in_err-count
returns-in_err-count c =
    let a = c.args in
    let w = a.work.now in
    let z = a.seats in
    let l = c.loop-i in
    let x = c.insert in
    let y = c.in_err-count.ensures in
    let b = c.load_slot-b.result in
    let h = c.loop-i-test.true in
    let two : 1 - (1 - z.half) ≡ z.half = omega arith in
    let grown = subst (λ i. Grown i z.slots w l.work (Some l.count)) (sym two) l.invariant.0 in
    let e = thread-stays (1 - z.half) z.slots a.more w l.work _ l.i b (omega arith) c.requires.1 grown h c.load_slot-b.ensures in
    rw c.from_residual.ensures (
      grown-then z.half z.slots w l.work x.new.work _ _ l.invariant.0 y.0,
      λ g fm s k o.
          let v = l.invariant.1 g fm s k o in
          let whole = insert_within (machine g fm) z.slots (waiting_in g fm z.half z.count w) (waiting_in g fm (1 - z.half) a.more w) in
          left-stopped g fm z.half z.slots whole (thread g fm b ∷ []) (drop (l.i + 1) (waiting_in g fm (1 - z.half) a.more w)) l.work x.new.work l.count
          (left_as g fm z.half z.slots whole _ _ l.work l.count (waiting-next g fm (1 - z.half) a.more w l.i b h e) v)
          (y.1 g fm s v.kept (kept_at g fm (1 - z.half) a.more w l.i b o h e)),
    )

pub loop-i-preserved : goal.loop-i-preserved
loop-i-preserved c =
    let a = c.args in
    let w = a.work.now in
    let z = a.seats in
    let l = c.loop-i in
    let x = c.insert in
    let y = c.in_ok-count.ensures in
    let b = c.load_slot-b.result in
    let h = c.loop-i-test.true in
    let two : 1 - (1 - z.half) ≡ z.half = omega arith in
    let grown = subst (λ i. Grown i z.slots w l.work (Some l.count)) (sym two) l.invariant.0 in
    let e = thread-stays (1 - z.half) z.slots a.more w l.work _ l.i b (omega arith) c.requires.1 grown h c.load_slot-b.ensures in (
      grown-then z.half z.slots w l.work x.new.work _ _ l.invariant.0 y.0,
      λ g fm s k o.
          let v = l.invariant.1 g fm s k o in
          let whole = insert_within (machine g fm) z.slots (waiting_in g fm z.half z.count w) (waiting_in g fm (1 - z.half) a.more w) in
          left-next g fm z.half z.slots whole (thread g fm b ∷ []) (drop (l.i + 1) (waiting_in g fm (1 - z.half) a.more w)) l.work x.new.work l.count
          (left_as g fm z.half z.slots whole _ _ l.work l.count (waiting-next g fm (1 - z.half) a.more w l.i b h e) v) c.in_ok-count.count
          (y.1 g fm s v.kept (kept_at g fm (1 - z.half) a.more w l.i b o h e)),
    )

pub returns : goal.returns
returns c =
    let a = c.args in
    let z = a.seats in
    let l = c.loop-i in (
      l.invariant.0,
      λ g fm s k o. left-none g fm z.half z.slots _ _ l.work l.count (waiting-done g fm (1 - z.half) a.more a.work.now l.i c.loop-i-test.false)
          (l.invariant.1 g fm s k o),
    )
