-- `marks::bars` meets its contract: the clause that it finds keeps every walk of such a configuration from passing.
use borrow.Author.Rules.{rules}
use Rattle.machine_code.proofs.FirstClause.{bars-first}
use Rattle.machine_code.proofs.marks.bars.Goals as goal

pub returns : goal.returns
returns c = rw c.is_ok.ensures.value (bars-first _ _ _ _ _ _ _ (λ k p h. search rules) c.first.ensures)
