-- `search_code::Files::seen_before` meets its contract: each turn carries the values over one event.
use Rattle.search_code.proofs.Turns.{seen_start, seen_next_lem}
use Rattle.search_code.proofs.Files.seen_before.Goals as goal

pub loop-n-init : goal.loop-n-init
loop-n-init c =
    let s = c.args.self.now in
    seen_start s.log.now s.places.now s.scope.rules.fields _ c.none_seen-seen.ensures

pub loop-n-preserved : goal.loop-n-preserved
loop-n-preserved c =
    let s = c.args.self.now in
    let l = c.loop-n in
    seen_next_lem s.log.now s.places.now s.scope.rules.fields l.n l.seen _ l.invariant c.seen_after-seen.ensures
