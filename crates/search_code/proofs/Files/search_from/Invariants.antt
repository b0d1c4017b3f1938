-- `search_code::Files::search_from` meets its contract: before each event the waiting list and the largest width so far lead to the search's answer.
use Rattle.std.proofs.Common.{◌≡◌, ◌≤◌, length}
use Rattle.search_code.proofs.Turns.{Searching}
use Rattle.search_code.proofs.Files.search_from.Given as goal

abbrev pub invariant-loop-n : goal.invariant-loop-n
invariant-loop-n l =
    let s = l.self in record {
      count_fits : l.count ≤ s.scope.slots;
      width_fits : l.width ≤ s.scope.slots;
      long : length l.work ≡ length l.initial.work;
      searching : Searching s.log.now s.places.now s.formula.now s.steps.now s.scope l.start l.end l.initial.seen l.n 0 l.count l.width l.work l.seen;
    }
