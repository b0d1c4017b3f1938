-- `search_code::Files::seen_before` meets its contract: each turn carries the values over one event.
use Rattle.std.proofs.Common.{◌≡◌}
use Rattle.search_code.specs.inner.Turn.{seen_to}
use Rattle.search_code.proofs.Files.seen_before.Given as goal

abbrev pub invariant-loop-n : goal.invariant-loop-n
invariant-loop-n l = l.seen ≡ seen_to l.self.log.now l.self.places.now l.self.scope.rules.fields l.n
