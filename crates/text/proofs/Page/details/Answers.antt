-- `text::Page::details` meets its contract: unless none, the three parts stand in a row.
use native.Mathlib.Omega.{arith}
use Rattle.text.proofs.Growing.{unchanged, further, same_page}
use Rattle.text.proofs.Parts.{no-details, details-text}
use Rattle.text.proofs.Page.details.Goals as goal

pub returns-then-row-ne0 : goal.returns-then-row-ne0
returns-then-row-ne0 c = same_page (details-text c.args.row.now c.if-row-ne0.true) (omega arith)
    (further (further c.spaced.ensures c.spaced-then-row-ne0.ensures) c.variables.ensures)

pub returns-else-row-ne0 : goal.returns-else-row-ne0
returns-else-row-ne0 c = same_page (no-details c.args.row.now c.if-row-ne0.false) (omega arith) (unchanged c.args.self.now)
