-- `find` meets its contract: no thread before `from` stands for b's configuration, and the j-th has its words.
use mathlib.Core.Path.{◌≡◌, ◌∙◌}
use mathlib.Core.Bool.{false}
use native.Mathlib.Omega.{arith}
use Rattle.slots.specs.inner.Words.{thread_at, place}
use Rattle.slots.proofs.ByPlace.{position-some, position-none}
use Rattle.threads.specs.inner.Calls.{same_as}
use Rattle.threads.proofs.Below.{below_next}
use Rattle.threads.proofs.Inserting.{missed_more, same-by-lists}
use Rattle.threads.proofs.scene.Scene.find.Goals as goal

pub returns-then-same_lists : goal.returns-then-same_lists
returns-then-same_lists c =
    let a = c.args in
    let b = a.b.now in
    let z = a.seats in
    let l = c.loop-j in
    let j = c.in-Some.j in
    let e = c.in-Some.ensures in
    λ g fm s k w.
    position-some (same_as g fm b) z.half z.count a.work.now j e.inside
    (missed_more g fm z.half z.count a.work.now k b w l.from j (omega (arith, e.inside)) (l.invariant.1 g fm s k w) e.missed)
    (same-by-lists g fm z.half z.count a.work.now k b w j c.load_slot-a.result c.same_lists.result e.inside c.load_slot-a.ensures e.here
    (c.same_lists.ensures g fm s) ∙ c.if-same_lists.true)

pub loop-j-preserved : goal.loop-j-preserved
loop-j-preserved c =
    let a = c.args in
    let b = a.b.now in
    let z = a.seats in
    let l = c.loop-j in
    let j = c.in-Some.j in
    let e = c.in-Some.ensures in (
      omega (arith, e.inside),
      λ g fm s k w i h.
          below_next (λ i. same_as g fm b (thread_at a.work.now (place z.half i)) ≡ false) j
          (λ i. missed_more g fm z.half z.count a.work.now k b w l.from j (omega (arith, e.inside)) (l.invariant.1 g fm s k w) e.missed i (omega arith))
          (same-by-lists g fm z.half z.count a.work.now k b w j c.load_slot-a.result c.same_lists.result e.inside c.load_slot-a.ensures e.here
          (c.same_lists.ensures g fm s) ∙ c.if-same_lists.false) i,
    )

pub returns : goal.returns
returns c =
    let a = c.args in
    let b = a.b.now in
    let z = a.seats in
    let l = c.loop-j in
    λ g fm s k w.
    position-none (same_as g fm b) z.half z.count a.work.now
    (missed_more g fm z.half z.count a.work.now k b w l.from z.count (omega arith) (l.invariant.1 g fm s k w) c.in_default.ensures)
