-- `closure::reach` meets its contract: a round that adds nothing is the last.
use Rattle.std.proofs.Common.{◌≡◌, ◌-◌, sym, refl, ◌∙◌, arith}
use Rattle.std.proofs.lemmas.Slice.Eq.{slice_eq-Decides}
use Rattle.std.specs.Cmp.{booleans_Decides}
use Rattle.closure.specs.inner.Reach.{reach_of, rounds}
use Rattle.closure.proofs.Rounds.{rounds-on, rounds-still}
use Rattle.closure.proofs.reach.Goals as goal

pub loop-n-init : goal.loop-n-init
unfolding reach_of
loop-n-init c = refl

pub returns-then-eq : goal.returns-then-eq
returns-then-eq c =
    let same = slice_eq-Decides booleans_Decides _ _ _ c.eq.ensures in
    let still = rounds-still (16 - c.loop-n._n) c.args.v c.args.edges.now c.loop-n.marks (sym c.round_of-next.ensures ∙ same.0 c.if-eq.true) in cc

pub loop-n-preserved : goal.loop-n-preserved
loop-n-preserved c =
    let e = rounds-on c.loop-n._n c.args.v c.args.edges.now c.loop-n.marks (omega arith) in cc

pub returns : goal.returns
unfolding rounds
returns c = let none : 16 - c.loop-n._n ≡ 0 = omega arith in sym (rw none at c.loop-n.invariant)
