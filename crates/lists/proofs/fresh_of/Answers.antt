-- `lists::fresh_of` meets its contract: the marks before the i-th are told.
use Rattle.std.proofs.Common.{◌<◌, ◌≢◌, ◌∙◌, length, length-set, arith, get_or-set_other, get_or-set_same, below_more}
use Rattle.lists.proofs.fresh_of.Goals as goal

pub loop-i-preserved : goal.loop-i-preserved
loop-i-preserved c =
    let l = c.loop-i in (
      length-set l.fresh l.i c.is_new.result ∙ l.invariant.0,
      below_more _ _
          (λ j h.
          let ne : j ≢ l.i = omega arith in
          rw get_or-set_other (l.invariant.1 j h))
          (let lt : l.i < length l.fresh = omega arith in
          rw get_or-set_same c.is_new.ensures),
    )
