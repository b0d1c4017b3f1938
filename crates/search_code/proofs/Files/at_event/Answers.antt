-- `search_code::Files::at_event` meets its contract: what the event alone says is told in its table, then it is the event.
use Rattle.threads.proofs.Marking.{wide-table, wide-steps}
use Rattle.search_code.proofs.Turns.{turn-of}
use Rattle.search_code.proofs.Files.at_event.Goals as goal

pub returns-clause-by_index : goal.returns-clause-by_index
returns-clause-by_index c steps w =
    let a = c.args in
    let f = a.self.now.formula.now in
    let rises = a.self.now.scope.rules.rises in
    let e = wide-steps f steps rises a.moment a.wide.now w _ (c.mark_states.ensures.1 (wide-table f steps rises a.moment a.wide.now w)) in
    turn-of a.self.now.log.now a.self.now.places.now f steps c.mark_states.new.table a.self.now.scope.rules a.moment a.seats a.work.now
    c.one_event.new.work c.one_event.result e c.one_event.ensures.turn_is
