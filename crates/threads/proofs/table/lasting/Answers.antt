-- `lasting` meets its contract: after i turns every marked state has a step that never expires.
use mathlib.Core.Path.{sym, ◌∙◌}
use mathlib.Core.Bool.{false, false≢true}
use Rattle.base.proofs.Lists.{replicate-at}
use Rattle.threads.proofs.Lasting.{lasting-more}
use Rattle.threads.proofs.table.lasting.Goals as goal
use Rattle.threads.proofs.table.lasting.Goals.{then-lasts_at, else-lasts_at}

pub loop-i-init : goal.loop-i-init
loop-i-init c = λ s e. absurd (false≢true (sym (replicate-at 16 s false) ∙ e))

pub loop-i-preserved : goal.loop-i-preserved
loop-i-preserved c =
    let a = c.args in
    let l = c.loop-i in
    elim c.if-lasts_at.branch [
      | then-lasts_at q ↦ rw q.states-is (lasting-more a.f.now a.steps.now a.rises.now l.states l.i c.loop-i-test.true l.invariant
          (c.lasts_at.ensures q.if-lasts_at.true))
      | else-lasts_at q ↦ rw q.states-is l.invariant
    ]
