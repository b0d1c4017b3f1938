-- `search_code::Files::stretch_end` meets its contract: no event before n, from the start on, has a mark behind it.
use Rattle.std.proofs.Common.{◌≡◌}
use Rattle.search_code.specs.inner.Turn.{stretch_end}
use Rattle.search_code.proofs.Files.stretch_end.Given as goal

abbrev pub invariant-loop-n : goal.invariant-loop-n
invariant-loop-n l =
    let s = l.self in
    stretch_end s.log.now s.places.now s.scope l.start ≡ stretch_end s.log.now s.places.now s.scope l.n
