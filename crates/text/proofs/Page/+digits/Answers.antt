-- `text::Page::digits` meets its contract: the last digit stands behind the others, which are one place fewer.
use native.Mathlib.Omega.{arith}
use Rattle.text.proofs.Growing.{further, same_page}
use Rattle.text.proofs.Parts.{no-digits, one-digit, last-digit}
use Rattle.text.proofs.Page.+digits.Goals as goal
use Rattle.text.proofs.Page.+digits.Goals.{then-n-ge10, else-n-ge10}

pub returns-then-places-eq0 : goal.returns-then-places-eq0
returns-then-places-eq0 t c = let a = c.args in no-digits a.self.now a.places a.n c.if-places-eq0.true

pub returns : goal.returns
returns t c =
    let a = c.args in
    elim c.if-n-ge10.branch [
      | then-n-ge10 w ↦ same_page (last-digit a.places a.n w.if-n-ge10.true (omega arith)) (omega arith) (further w.digits.ensures (rw w.self-is at c.add.ensures))
      | else-n-ge10 w ↦ same_page (one-digit a.places a.n w.if-n-ge10.false (omega arith)) (omega arith) (rw w.self-is at c.add.ensures)
    ]
