-- `text::Page::digits` meets its contract: each further call has one place fewer.
use Rattle.text.proofs.Page.+digits.Given as goal

abbrev pub decreases-digits : goal.decreases-digits
decreases-digits l = l.places
