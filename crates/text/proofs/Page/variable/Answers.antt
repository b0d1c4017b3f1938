-- `text::Page::variable` meets its contract.
use native.Mathlib.Omega.{arith}
use Rattle.text.specs.Text.{ascii}
use Rattle.text.proofs.Growing.{further, same_page}
use Rattle.text.proofs.Parts.{held-text}
use borrow.Author.Rules.{rules}
use Rattle.text.proofs.Page.variable.Goals as goal

pub returns-then-held : goal.returns-then-held
unfolding ascii
returns-then-held c =
    let a = c.args in
    same_page (held-text a.held a.v a.value (search rules)) (omega arith)
    (further c.number.ensures (rw c.from.ensures at c.number-then-held.ensures))
