-- `search_code::named` meets its contract: after k turns the arrays hold the first k entries.
use Rattle.std.proofs.Common.{◌≡◌, ◌/◌, ◌%◌, take, map}
use Rattle.base.specs.Lists.{pad}
use Rattle.search_code.proofs.named.Given as goal

abbrev pub invariant-loop-k : goal.invariant-loop-k
invariant-loop-k l =
    (l.events ≡ pad 32 0 (map (λ w. w / 8) (take l.k l.t.trail))) × (l.numbers ≡ pad 32 0 (map (λ w. w % 8) (take l.k l.t.trail)))
