-- `formula_code::read_formula` meets its contract: a refused walk, bytes behind END, or what was kept is judged.
use Rattle.std.proofs.Common.{◌∙◌}
use Rattle.std.proofs.lemmas.Result.{err_from_is_err_and}
use Rattle.base.proofs.Lists.{all-bytes}
use Rattle.closure.specs.inner.Reach.{Free}
use Rattle.formula_code.proofs.Edges.{kept}
use Rattle.formula_code.proofs.SameAnswer.{answer-refused, answer-leftover, answer-judged}
use Rattle.formula_code.proofs.read_formula.Goals as goal

pub returns-in_err-d : goal.returns-in_err-d
returns-in_err-d c =
    let b = all-bytes c.args.l.now (λ i. (c.type_inv.l i).fits) in
    let p = err_from_is_err_and c.from_residual.result c.from_residual.ensures.1 in
    rw (p.1, p.2) (answer-refused c.args.fields c.args.l.now b _ c.in_err-d.ensures)

pub returns-then-behind-l : goal.returns-then-behind-l
returns-then-behind-l c =
    let b = all-bytes c.args.l.now (λ i. (c.type_inv.l i).fits) in
    answer-leftover c.args.fields c.args.l.now b c.in_ok-d.d c.in_ok-d.ensures c.if-behind-l.true

pub returns : goal.returns
returns c =
    let b = all-bytes c.args.l.now (λ i. (c.type_inv.l i).fits) in
    let free : Free (kept c.in_ok-d.d) c.free_of-free.result = c.free_of-free.ensures in
    c.judge.ensures ∙ rw (c.lowest_of-absent.ensures, c.lowest_of.ensures)
    (answer-judged c.args.fields c.args.l.now b c.in_ok-d.d c.in_ok-d.ensures c.well_formed.0.0 c.if-behind-l.false c.free_of-free.result free)
