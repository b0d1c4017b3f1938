-- `text::Page::line` meets its contract: the parts of a line in a row.
use native.Mathlib.Omega.{arith}
use Rattle.text.specs.Text.{ascii, decimal}
use Rattle.text.proofs.Growing.{further, same_page}
use Rattle.text.proofs.Parts.{line-text}
use Rattle.text.proofs.Page.line.Goals as goal

pub returns : goal.returns
unfolding ascii decimal
returns c = same_page (line-text c.args.n c.args.row.now) (omega arith)
    (further (further (further c.digits.ensures c.word.ensures) c.details.ensures) c.add.ensures)
