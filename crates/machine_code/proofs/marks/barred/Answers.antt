-- `marks::barred` meets its contract: the clause that it finds keeps every walk from passing.
use borrow.Author.Rules.{rules}
use Rattle.machine_code.proofs.FirstClause.{barred-first}
use Rattle.machine_code.proofs.marks.barred.Goals as goal

pub returns : goal.returns
returns c = rw c.ok.ensures.value (barred-first _ _ _ _ _ (λ k p h. search rules) c.first.ensures)
