-- `text::Page::spaced` meets its contract.
use Rattle.text.specs.Text.{ascii, spaced}
use Rattle.text.proofs.Page.spaced.Goals as goal

pub returns : goal.returns
unfolding ascii spaced
returns c = rw c.from.ensures at c.number.ensures
