-- `marks::due` meets its contract: the clause that it finds makes every walk past due.
use borrow.Author.Rules.{rules}
use Rattle.machine_code.proofs.FirstClause.{due-first}
use Rattle.machine_code.proofs.marks.due.Goals as goal

pub returns : goal.returns
returns c = rw c.is_ok.ensures.value (due-first _ _ _ _ _ _ (λ k p h. search rules) c.first.ensures)
