-- `text::Page::variables` meets its contract: after v turns the first v variables stand behind the text.
use Prim.Native.Nat.{◌*◌}
use Rattle.text.specs.inner.Grows.{Grows}
use Rattle.text.specs.Text.{each, held}
use Rattle.text.proofs.Page.variables.Given as goal

abbrev pub invariant-loop-v : goal.invariant-loop-v
invariant-loop-v l = Grows (l.v * 14) l.initial.self l.self (each (held l.row) l.v 0)
