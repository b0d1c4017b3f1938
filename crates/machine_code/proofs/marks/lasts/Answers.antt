-- `marks::lasts` meets its contract: no clause makes a walk past due, and no guard stands behind them.
use borrow.Author.Rules.{rules}
use Rattle.machine_code.proofs.FirstClause.{lasts-end}
use Rattle.machine_code.proofs.marks.lasts.Goals as goal

pub returns-in-Err : goal.returns-in-Err
returns-in-Err c =
    lasts-end _ c.args.f.now c.args.rises.now c.args.at c.in-Err.end _ (λ k p h. search rules) c.if-f-at.false c.in-Err.ensures c.byte_at.ensures.0
