-- `analysis_code::RowRun::in_row` meets its contract: a row whose first word is 0 holds no run.
use Rattle.std.proofs.Common.{get_or, false, ◌∙◌}
use borrow.Author.Tests.{eq-eqb, ne_eqb}
use Rattle.base.specs.Mask.{bits_of}
use Rattle.base.proofs.Lists.{pad-whole}
use Rattle.base.proofs.Masks.{length-bits}
use Rattle.analysis_code.specs.inner.Starts.{run_if, run_in}
use Rattle.analysis_code.proofs.RowRun.in_row.Goals as goal

pub returns-then-row-eq0 : goal.returns-then-row-eq0
unfolding run_if
returns-then-row-eq0 c = rw (eq-eqb (get_or c.args.row.now 0 0) 0 c.if-row-eq0.true)

pub returns : goal.returns
unfolding run_if run_in
returns c =
    let bits = bits_of 8 (get_or c.args.row.now 3 0) in
    let held = c.bits_of.ensures ∙ pad-whole 8 false bits (length-bits 8 (get_or c.args.row.now 3 0)) in
    rw (ne_eqb (get_or c.args.row.now 0 0) 0 c.if-row-eq0.false, held, c.copy_from_slice.ensures.after)
