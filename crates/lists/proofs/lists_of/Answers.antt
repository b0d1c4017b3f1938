-- `lists::lists_of` meets its contract: what is left of the trail gives the whole.
use Rattle.std.proofs.Common.{◌∙◌, sym, ap, take, replicate}
use Rattle.lists.specs.inner.Words.{read_back}
use Rattle.lists.proofs.Steps.{back-next, back_done}
use Rattle.lists.proofs.lists_of.Goals as goal

pub loop-word-preserved : goal.loop-word-preserved
loop-word-preserved c =
    let a = c.args in
    let l = c.loop-word in
    l.invariant
    ∙ back-next a.l.now a.places.now a.fields a.f.now a.table.now l.state l.lists (take c.min.result a.trail) l.word-index c.step_offset-at.result
    c.state_after-state.result c.gather_entry.new.lists c.loop-word-test.true c.step_offset-at.ensures c.gather_entry.ensures
    c.state_after-state.ensures

pub returns : goal.returns
returns c =
    let a = c.args in
    let l = c.loop-word in
    sym
    (l.invariant
    ∙ back_done a.l.now a.places.now a.fields a.f.now a.table.now l.state l.lists (take c.min.result a.trail) l.word-index c.loop-word-test.false)
    ∙ ap (λ n. read_back a.l.now a.places.now a.fields a.f.now a.table.now 0 (replicate 132 0) (take n a.trail)) c.min.ensures
