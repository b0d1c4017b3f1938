-- `base::bits_of` meets its contract: after k turns the array holds the lowest k bits, and the number is halved k times.
use Rattle.std.proofs.Common.{◌≡◌, ◌/◌, ◌%◌, ◌^◌, refl, ap, eqb, arith}
use Rattle.base.specs.Mask.{bits_of}
use Rattle.base.specs.Lists.{pad}
use Rattle.base.proofs.Masks.{halve, bits-store}
use Rattle.base.proofs.bits_of.Goals as goal

pub loop-k-init : goal.loop-k-init
unfolding pad bits_of
loop-k-init c = (omega arith, refl)

pub loop-k-preserved : goal.loop-k-preserved
loop-k-preserved c =
    let i = c.loop-k in
    let b = c.args.number in
    let e : eqb (i.rest % 2) 1 ≡ eqb (b / 2 ^ i.k % 2) 1 = ap (λ x. eqb (x % 2) 1) i.invariant.0 in
    (halve b i.k i.rest i.invariant.0, bits-store i.k b _ i.bits (omega arith) e i.invariant.1)
