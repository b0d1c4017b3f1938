-- `slots::keep_slot` meets its contract: a thread behind dropped ones moves down.
use Rattle.slots.proofs.ByPlace.{kept-moved, kept-still, kept-as}
use borrow.Author.Rules.{rules}
use Rattle.slots.proofs.keep_slot.Goals as goal

pub returns-then-count-slot : goal.returns-then-count-slot
returns-then-count-slot c =
    let a = c.args in
    let p = c.requires in
    let x = c.store_slot in
    kept-as a.half a.count a.slot a.t a.work.now x.new.work x.ensures
    (kept-moved a.half a.count a.slot a.t (search rules) a.work.now p.0 p.1 c.if-count-slot.true)

pub returns-else-count-slot : goal.returns-else-count-slot
returns-else-count-slot c =
    let a = c.args in
    let p = c.requires in
    kept-still a.half a.count a.slot a.t a.work.now c.if-count-slot.false p.2 p.3
