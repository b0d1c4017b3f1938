-- `base::bits_of` meets its contract: after k turns the array holds the lowest k bits, and the number is halved k times.
use Rattle.std.proofs.Common.{◌≡◌, ◌/◌, ◌^◌, false}
use Rattle.base.specs.Mask.{bits_of}
use Rattle.base.specs.Lists.{pad}
use Rattle.base.proofs.bits_of.Given as goal

abbrev pub invariant-loop-k : goal.invariant-loop-k
invariant-loop-k l = (l.rest ≡ l.number / 2 ^ l.k) × (l.bits ≡ pad 8 false (bits_of l.k l.number))
