-- `command_reader::next_command` meets its contract: the tests on the way are the definition's, in its order.
use Rattle.command_reader.proofs.NextCommand.{next_op}
use Rattle.command_reader.proofs.next_command.Goals as goal

pub returns-then-not-is_allowed : goal.returns-then-not-is_allowed
returns-then-not-is_allowed c =
    let a = c.args in
    let i = c.in-Some.ensures.item.3 in
    let e = next_op a.own a.part.at a.places.now a.fields a.s a.part.bytes.now _ _ i c.from-op.ensures in
    rw (e, ← c.is_allowed.ensures, c.if-not-is_allowed.true, c.foreign.ensures)

pub returns-then-not-has_room : goal.returns-then-not-has_room
returns-then-not-has_room c =
    let a = c.args in
    let i = c.in-Some.ensures.item.3 in
    let e = next_op a.own a.part.at a.places.now a.fields a.s a.part.bytes.now _ _ i c.from-op.ensures in
    rw (e, ← c.is_allowed.ensures, c.if-not-is_allowed.false, ← c.has_room.ensures, c.if-not-has_room.true, c.surplus.ensures)

pub returns : goal.returns
returns c =
    let a = c.args in
    let i = c.in-Some.ensures.item.3 in
    let e = next_op a.own a.part.at a.places.now a.fields a.s a.part.bytes.now _ _ i c.from-op.ensures in
    rw (e, ← c.is_allowed.ensures, c.if-not-is_allowed.false, ← c.has_room.ensures, c.if-not-has_room.false, ← c.saturating_sub.ensures) c.take_command.ensures
