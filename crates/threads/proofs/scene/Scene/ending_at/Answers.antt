-- A thread no step of which ends a run on the event leaves the best so far.
use mathlib.Core.Path.{sym, subst, ◌∙◌}
use Rattle.slots.specs.declared.Thread.{Thread}
use Rattle.slots.specs.inner.Words.{thread_at, place}
use Rattle.threads.specs.inner.Calls.{EndsNothing, Going}
use Rattle.threads.proofs.Endings.{improved-nothing}
use Rattle.threads.proofs.Taking.{nothing-taken}
use Rattle.threads.proofs.scene.Scene.ending_at.Goals as goal

pub returns-then-is_some : goal.returns-then-is_some
returns-then-is_some c = rw c.load_slot-t.ensures at c.ending_of.ensures

pub returns-else-is_some : goal.returns-else-is_some
returns-else-is_some c =
    let a = c.args in
    let s = a.self.now in
    let e = c.load_slot-t.ensures in
    let x = c.first_taken in
    λ g fm stands go b. improved-nothing g fm a.best.now b (thread_at a.work.now (place a.seats.half a.j)) s.moment.number
    (subst (λ (t : Thread). EndsNothing g fm t s.moment.number) e
    (nothing-taken s c.load_slot-t.result x.result x.ensures (sym c.is_some.ensures ∙ c.if-is_some.false) g fm stands
    (subst (λ (t : Thread). Going g fm t) (sym e) go).fit))
