-- `text::Page::refusal` meets its contract: the word and the three numbers in a row.
use native.Mathlib.Omega.{arith}
use Rattle.text.specs.Text.{ascii}
use Rattle.text.proofs.Growing.{further, same_page}
use Rattle.text.proofs.Parts.{refused-text}
use Rattle.text.proofs.Page.refusal.Goals as goal

pub returns : goal.returns
unfolding ascii
returns c = same_page (refused-text c.args.t) (omega arith)
    (further (further (further c.number.ensures c.number-2.ensures) c.number-3.ensures) c.add.ensures)
