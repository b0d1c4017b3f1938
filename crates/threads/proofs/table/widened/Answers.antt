-- `widened` meets its contract: after i turns the first i entries of each part are copied.
use lib.ListN.{get_or}
use mathlib.Core.Path.{◌≡◌, refl, subst}
use native.Mathlib.Omega.{arith}
use Rattle.threads.proofs.Marking.{copied_next}
use Rattle.threads.proofs.table.widened.Goals as goal

pub loop-i-init : goal.loop-i-init
loop-i-init c = record {
  sized = refl;
  most = omega arith;
  first = λ i l. absurd (omega (arith, l));
  second = λ i l. absurd (omega (arith, l));
  third = λ i l. absurd (omega (arith, l));
}

pub loop-i-preserved : goal.loop-i-preserved
loop-i-preserved c =
    copied_next c.args.steps.now c.loop-i.table c.loop-i.i (get_or c.args.steps.now c.loop-i.i 0) (omega (arith, c.loop-i-test.true)) refl
    c.loop-i.invariant

pub returns : goal.returns
returns c =
    let v = c.loop-i.invariant in
    let l = c.loop-i-test.false in
    record {
      sized = v.sized;
      first = λ i h. subst (λ k. get_or c.loop-i.table k 0 ≡ get_or c.args.steps.now i 0) (omega arith)
          (v.first i (omega (arith, h, l)));
      second = λ i h. v.second i (omega (arith, h, l));
      third = λ i h. v.third i (omega (arith, h, l));
    }
