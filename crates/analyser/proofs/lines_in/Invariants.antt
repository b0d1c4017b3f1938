-- `analyser::lines_in` meets its contract: after n turns the first n lines stand there.
use Prim.Native.Nat.{◌*◌}
use Rattle.text.specs.inner.Adds.{Adds}
use Rattle.text.specs.Text.{each, line_in}
use Rattle.analyser.proofs.lines_in.Given as goal

abbrev pub invariant-loop-n : goal.invariant-loop-n
invariant-loop-n l = Adds (l.n * 256) l.initial.out 0 l.out l.at (each (line_in l.fn.rows) l.n 0)
