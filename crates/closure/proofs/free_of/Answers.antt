-- `closure::free_of` meets its contract: the marks of one variable after the other.
use Rattle.std.proofs.Common.{◌≡◌, length, sym, ap, ◌∙◌, arith, rules}
use Rattle.closure.specs.inner.Reach.{reach_of}
use Rattle.closure.proofs.Rounds.{stored}
use Rattle.closure.proofs.free_of.Goals as goal

pub loop-v-preserved : goal.loop-v-preserved
loop-v-preserved c =
    let size : length c.reach.result ≡ 16 = search rules in
    rw (c.copy_from_slice.ensures.after ∙ c.reach.ensures)
    (stored (reach_of c.args.edges.now) c.loop-v.v c.loop-v.free _ c.loop-v-test.true c.loop-v-test.array_long
    (ap length (sym c.reach.ensures) ∙ size) c.loop-v.invariant)

pub returns : goal.returns
returns c = record { is = λ v s h l. c.loop-v.invariant v s (omega arith) l }
