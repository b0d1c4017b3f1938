-- `text::Page::number` meets its contract: the places are enough for all of its digits.
use native.Mathlib.Omega.{arith}
use mathlib.Core.Path.{ap}
use mathlib.Core.List.{◌++◌}
use Rattle.text.proofs.Growing.{further, same_page}
use Rattle.text.proofs.Parts.{exact-digits}
use Rattle.text.proofs.Page.number.Goals as goal

pub returns : goal.returns
returns c =
    let e = exact-digits c.args.places c.args.n c.requires.n_bound.0 c.requires.n_bound.1 (omega arith) in
    same_page (ap (λ t. c.args.label.now ++ t) e) (omega arith) (further c.add.ensures c.digits.ensures)
