-- `analysis_code::end_at` meets its contract: the end is kept while a start stands before it.
use Rattle.std.proofs.Common.{arith}
use borrow.Author.Tests.{lt-ltb, le-ltb}
use Rattle.analysis_code.proofs.end_at.Goals as goal

pub returns-then-start-end : goal.returns-then-start-end
returns-then-start-end c =
    let a = c.args in
    (rw (lt-ltb a.start a.end (omega (arith, c.if-start-end.true))), c.requires.1)

pub returns-else-start-end : goal.returns-else-start-end
returns-else-start-end c = (rw (le-ltb _ _ c.if-start-end.false) c.stretch_end.ensures.0, c.stretch_end.ensures.1)
