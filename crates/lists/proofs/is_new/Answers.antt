-- `lists::is_new` meets its contract: what is left of the list decides.
use Rattle.std.proofs.Common.{◌≡◌, ◌∙◌, ◌+◌, ◌-◌, ◌*◌, ap, sym, arith, get_or}
use mathlib.Core.Bool.{not}
use Rattle.lists.specs.inner.Words.{meets}
use Rattle.lists.proofs.Steps.{meets-next, meets-here, meets-end}
use Rattle.lists.proofs.is_new.Goals as goal

pub loop-i-init : goal.loop-i-init
loop-i-init c =
    let a = c.args in
    let n = get_or a.lists.now (128 + a.v) 0 in
    let e : a.v * 32 + n - a.v * 32 ≡ n = omega arith in
    ap (λ k. not (meets a.lists.now (a.v * 32) k a.x)) (sym e)

pub returns-then-get_or-x : goal.returns-then-get_or-x
returns-then-get_or-x c =
    let a = c.args in
    let l = c.loop-i in
    sym (l.invariant ∙ ap not (meets-here a.lists.now l.i (a.v * 32 + get_or a.lists.now (128 + a.v) 0) a.x (omega arith)
    (sym c.get_or.ensures ∙ c.if-get_or-x.true)))

pub loop-i-preserved : goal.loop-i-preserved
loop-i-preserved c =
    let a = c.args in
    let l = c.loop-i in
    l.invariant ∙ ap not (meets-next a.lists.now l.i (a.v * 32 + get_or a.lists.now (128 + a.v) 0) a.x (omega arith)
    (λ e. c.if-get_or-x.false (c.get_or.ensures ∙ e)))

pub returns : goal.returns
returns c =
    let a = c.args in
    let l = c.loop-i in
    sym (l.invariant ∙ ap not (meets-end a.lists.now l.i (a.v * 32 + get_or a.lists.now (128 + a.v) 0) a.x (omega arith)))
