-- `base::mask_of` meets its contract: from the highest flag down to v the bits are those of the flags from v on.
use Rattle.std.proofs.Common.{◌≡◌, ◌-◌, ◌≤◌, [], ap, sym, drop, length, get_or, false, length-drop, arith, rules}
use lib.ListN.{drop_of_length-le}
use Rattle.base.specs.Mask.{mask}
use Rattle.base.proofs.Masks.{mask_next, mask_below, bit-of-flag, bit-small}
use Rattle.base.proofs.mask_of.Goals as goal

pub loop-v-init : goal.loop-v-init
unfolding mask
loop-v-init c =
    let h : length c.args.flags ≡ 8 = search rules in
    let d : drop 8 c.args.flags ≡ [] = drop_of_length-le c.args.flags {i = 8} (omega arith) in
    sym (ap mask d)

pub overflow_mul-bits : goal.overflow_mul-bits
overflow_mul-bits c =
    let i = c.loop-v in
    let h : length c.args.flags ≡ 8 = search rules in
    let n : length (drop i.v c.args.flags) ≤ 8 = omega (arith, length-drop i.v c.args.flags) in
    let m = mask_below (drop i.v c.args.flags) 8 n in
    omega (arith, i.invariant)

pub overflow_add-bits : goal.overflow_add-bits
overflow_add-bits c =
    let i = c.loop-v in
    let h : length c.args.flags ≡ 8 = search rules in
    let n : length (drop i.v c.args.flags) ≤ 8 = omega (arith, length-drop i.v c.args.flags) in
    let m = mask_below (drop i.v c.args.flags) 8 n in
    omega (arith, i.invariant, c.from.ensures, bit-of-flag (get_or c.args.flags (i.v - 1) false), bit-small (get_or c.args.flags (i.v - 1) false))

pub loop-v-preserved : goal.loop-v-preserved
loop-v-preserved c =
    let i = c.loop-v in
    let h : length c.args.flags ≡ 8 = search rules in
    rw (c.from.ensures, bit-of-flag (get_or c.args.flags (i.v - 1) false), i.invariant) (mask_next c.args.flags i.v (i.v - 1) (omega arith) (omega arith))
