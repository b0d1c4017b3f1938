-- `analysis_code::tied_alike` meets its contract: the tie rule holds if it holds from variable v on.
use Rattle.std.proofs.Common.{◌≡◌, sym, ◌∙◌, length, arith, rules, cond, true, false, get_or}
use Rattle.analysis_code.specs.inner.Starts.{named_of, share}
use Rattle.analysis_code.proofs.Ties.{alike_next, alike-not, alike_all}
use Rattle.analysis_code.proofs.tied_alike.Goals as goal
use Rattle.analysis_code.proofs.tied_alike.Goals.{else-tied-v-via-then-tied-v+else-not-shares, else-tied-v-via-else-tied-v}

pub returns-then-not-shares : goal.returns-then-not-shares
returns-then-not-shares c =
    let a = c.args in
    let h : length a.tied.now ≡ 8 = search rules in
    sym (alike-not a.tied.now (named_of a.a.now) (named_of a.b.now) c.loop-v.v _ c.loop-v.invariant (omega arith) c.if-tied-v.true (sym c.shares.ensures ∙ c.if-not-shares.true))

pub loop-v-preserved : goal.loop-v-preserved
loop-v-preserved c =
    let a = c.args in
    let h : length a.tied.now ≡ 8 = search rules in
    let k : cond (get_or a.tied.now c.loop-v.v false) (share (named_of a.a.now) (named_of a.b.now) c.loop-v.v) true ≡ true =
    elim c.else-tied-v.branch [ else-tied-v-via-then-tied-v+else-not-shares w ↦ rw (w.if-tied-v.true, ← w.shares.ensures) w.if-not-shares.false | else-tied-v-via-else-tied-v w ↦ rw w.if-tied-v.false ] in
    alike_next a.tied.now (named_of a.a.now) (named_of a.b.now) c.loop-v.v _ c.loop-v.invariant (omega arith) k

pub returns : goal.returns
returns c =
    let a = c.args in
    let h : length a.tied.now ≡ 8 = search rules in
    sym (alike_all a.tied.now (named_of a.a.now) (named_of a.b.now) c.loop-v.v _ c.loop-v.invariant (omega arith))
