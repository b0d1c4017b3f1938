-- The least over the threads that wait: what those left make of the best so far is the whole.
use mathlib.Core.Path.{refl}
use Rattle.runs.specs.inner.Search as Runs
use Rattle.machine.specs.Machine.{machine}
use Rattle.slots.specs.inner.Words.{thread_at, place}
use Rattle.threads.specs.inner.Setting.{thread}
use Rattle.threads.specs.inner.Calls.{Improved}
use Rattle.threads.proofs.Endings.{improved-nothing, ending-next, ending-done}
use Rattle.threads.proofs.Listed.{kept_at}
use Rattle.threads.proofs.scene.Scene.ending.Goals as goal
use Rattle.threads.proofs.scene.Scene.ending.Goals.{then-may_end, else-may_end}

pub loop-j-init : goal.loop-j-init
unfolding Runs.least
loop-j-init c = λ g fm s k. (refl, tt)

pub loop-j-preserved : goal.loop-j-preserved
loop-j-preserved c =
    let a = c.args in
    let w = a.work.now in
    let z = a.seats in
    let n = a.self.now.moment.number in
    let l = c.loop-j in
    let t = thread_at w (place z.half l.j) in
    let h = c.loop-j-test.true in
    let best = c.if-may_end.best in
    λ g fm s k.
    let v = l.invariant g fm s k in
    let go = kept_at g fm z.half z.count w l.j t k h refl in
    let i : Improved g fm l.best (Runs.moves (machine g fm) n (thread g fm t)) best = elim c.if-may_end.branch [
      | then-may_end q ↦ rw q.best-is (q.ending_at.ensures g fm s go v.1)
      | else-may_end q ↦ rw q.best-is (improved-nothing g fm l.best v.1 t n (c.may_end.ensures q.if-may_end.false g fm s go.fit))
    ] in
    (ending-next g fm n z.half z.count w l.j _ l.best v.0 t best h refl i, i.fits)

pub returns : goal.returns
returns c =
    let a = c.args in
    let z = a.seats in
    let l = c.loop-j in
    λ g fm s k.
    let v = l.invariant g fm s k in
    (ending-done g fm a.self.now.moment.number z.half z.count a.work.now l.j _ l.best v.0 c.loop-j-test.false, v.1)
