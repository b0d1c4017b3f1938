-- `slots::insert_at` meets its contract, by the place.
use Rattle.std.proofs.Common.{◌≡◌, ◌∙◌, ◌≤◌, ℕ, ap, sym, arith, rules, Some}
use Rattle.runs.specs.inner.Order.{order}
use Rattle.slots.specs.declared.Thread.{Thread}
use Rattle.slots.specs.inner.Threads.{comes_after, trail_of}
use Rattle.slots.proofs.Slots.{half-thread}
use Rattle.slots.proofs.ByPlace.{inserted-lesser, inserted-kept, inserted-more, inserted-none}
use Rattle.slots.proofs.insert_at.Goals as goal
use Rattle.slots.proofs.insert_at.Goals.{in_default-via-in-Some+else-at-count, in_default-via-in_default}

pub returns-then-later_at : goal.returns-then-later_at
returns-then-later_at c =
    let a = c.args in
    let p = c.requires in
    let e = ap (λ (t : Thread). comes_after (order (trail_of t) (trail_of a.b))) (half-thread a.work.now _ _ c.half_of.ensures.words) in
    inserted-lesser a.half a.count a.slots a.b (search rules) a.work.now p.0 p.1 p.2 a.at c.store_slot.new.work c.in-Some.at c.in-Some.is c.if-at-count.true
    (sym (c.later_at.ensures ∙ e) ∙ c.if-later_at.true) c.store_slot.ensures

pub returns-else-later_at : goal.returns-else-later_at
returns-else-later_at c =
    let a = c.args in
    let p = c.requires in
    let e = ap (λ (t : Thread). comes_after (order (trail_of t) (trail_of a.b))) (half-thread a.work.now _ _ c.half_of.ensures.words) in
    inserted-kept a.half a.count a.slots a.b (search rules) a.work.now p.0 p.1 p.2 a.at a.work.now c.in-Some.at c.in-Some.is c.if-at-count.true
    (sym (c.later_at.ensures ∙ e) ∙ c.if-later_at.false)

pub returns-in_default : goal.returns-in_default
returns-in_default c =
    let a = c.args in
    let p = c.requires in
    let away : (k : ℕ) → a.at ≡ Some k → a.count ≤ k = elim c.in_default.branch [
      | in_default-via-in-Some+else-at-count w ↦ λ k e.
          let q : w.in-Some.at ≡ k = cc in
          omega arith
      | in_default-via-in_default w ↦ λ k e. cc
    ] in
    inserted-more a.half a.count a.slots a.b (search rules) a.work.now p.0 p.1 p.2 a.at c.store_slot-in_default.new.work away c.if-count-slots.true
    c.store_slot-in_default.ensures

pub returns-in_default-2 : goal.returns-in_default-2
returns-in_default-2 c =
    let a = c.args in
    let p = c.requires in
    let away : (k : ℕ) → a.at ≡ Some k → a.count ≤ k = elim c.in_default.branch [
      | in_default-via-in-Some+else-at-count w ↦ λ k e.
          let q : w.in-Some.at ≡ k = cc in
          omega arith
      | in_default-via-in_default w ↦ λ k e. cc
    ] in
    inserted-none a.half a.count a.slots a.b (search rules) a.work.now p.0 p.1 p.2 a.at a.work.now away c.if-count-slots.false
