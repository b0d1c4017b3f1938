-- The least over a thread's moves: what the steps left make of the best so far is the whole.
use Prim.Native.Nat.{◌-◌}
use mathlib.Core.Path.{refl, sym, subst}
use mathlib.Core.Bool.{false, false≢true}
use native.Mathlib.Omega.{arith}
use Rattle.runs.specs.inner.Search as Runs
use Rattle.machine.specs.Machine.{machine}
use Rattle.threads.specs.inner.Calls.{Improved}
use Rattle.threads.specs.inner.Setting.{thread}
use Rattle.threads.proofs.Endings.{improved-next, improved-done}
use Rattle.threads.proofs.scene.Scene.ending_of.Goals as goal

pub loop-k-init : goal.loop-k-init
loop-k-init c = λ g fm s go ok. (refl, ok)

pub choice_of-choice-requires-clause-number : goal.choice_of-choice-requires-clause-number
choice_of-choice-requires-clause-number c = λ r p. p.0

pub better-requires : goal.better-requires
better-requires c = omega (arith, c.choice_of-choice.ensures.0)

pub loop-k-preserved : goal.loop-k-preserved
loop-k-preserved c =
    let a = c.args in
    let n = a.self.now.moment.number in
    let t = a.t.now in
    let l = c.loop-k in
    let r = c.choice_of-choice.result in
    λ g fm s go ok.
    let v = l.invariant g fm s go ok in
    let i = c.better.ensures g fm s go v.1 in
    let xs = Runs.firing (machine g fm) (thread g fm t) n r.from (r.to - r.from) in
    (improved-next g fm l.best a.best.now c.better.new.best t n l.k r.to xs c.loop-k-test.true v.0 i, i.fits)

pub returns : goal.returns
returns c =
    let a = c.args in
    let n = a.self.now.moment.number in
    let t = a.t.now in
    let l = c.loop-k in
    let r = c.choice_of-choice.result in
    λ g fm s go ok.
    let v = l.invariant g fm s go ok in
    let m = c.choice_of-choice.ensures.1 false (λ k p g fm s h e o. p.1 g fm s h) g fm s go.fit (λ e. absurd (false≢true e)) in
    let xs = Runs.firing (machine g fm) (thread g fm t) n r.from (r.to - r.from) in
    subst (λ ys. Improved g fm a.best.now ys l.best) (sym m.moves_are)
    (improved-done g fm l.best a.best.now t n l.k r.to xs c.loop-k-test.false v.0 v.1)
