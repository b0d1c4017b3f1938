-- `search_code::one_event` meets its contract.
use Rattle.search_code.proofs.Turns.{found_turn, crowded-turn, next-turn}
use Rattle.search_code.proofs.one_event.Goals as goal

pub returns-in-Some-clause-turn_is : goal.returns-in-Some-clause-turn_is
returns-in-Some-clause-turn_is c =
    let a = c.args in
    found_turn a.scene.now a.seats a.work.now a.work.now c.in-Some.least c.in-Some.ensures

pub returns-in-Some-settle-clause-turn_is : goal.returns-in-Some-settle-clause-turn_is
returns-in-Some-settle-clause-turn_is c =
    let a = c.args in
    next-turn a.scene.now a.seats a.work.now c.settle.new.work c.in-None.ensures c.in-Some-settle.more c.in-Some-settle.ensures.settled_is

pub returns-in-None-settle-clause-turn_is : goal.returns-in-None-settle-clause-turn_is
returns-in-None-settle-clause-turn_is c =
    let a = c.args in
    crowded-turn a.scene.now a.seats a.work.now c.settle.new.work c.in-None.ensures c.in-None-settle.ensures.settled_is
