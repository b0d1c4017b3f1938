-- `base::mask_of` meets its contract: from the highest flag down to v the bits are those of the flags from v on.
use Rattle.std.proofs.Common.{◌≡◌, drop}
use Rattle.base.specs.Mask.{mask}
use Rattle.base.proofs.mask_of.Given as goal

abbrev pub invariant-loop-v : goal.invariant-loop-v
invariant-loop-v l = l.bits ≡ mask (drop l.v l.flags)
