-- `text::Page::word` meets its contract: each verdict has its word.
use mathlib.Core.Path.{ap}
use mathlib.Core.List.{List}
use Prim.Native.Nat.{ℕ}
use denote.Bor.{Bor}
use native.Mathlib.Omega.{arith}
use Rattle.text.proofs.Parts.{known-word, rejected-word, worded}
use Rattle.text.specs.Text.{ascii, word}
use Rattle.text.proofs.Page.word.Goals as goal
use Rattle.text.proofs.Page.word.Goals.{in-0, in-1, in-2, in_default}

pub returns : goal.returns
unfolding ascii word
returns c =
    let v = c.args.verdict in
    let bytes = λ (b : Bor (List ℕ)). b.now in
    elim c.match-verdict.branch [
      | in-0 w ↦ worded v (ap bytes w.word-is) (omega arith) (known-word v 0 w.in-0.is) c.add.ensures
      | in-1 w ↦ worded v (ap bytes w.word-is) (omega arith) (known-word v 1 w.in-1.is) c.add.ensures
      | in-2 w ↦ worded v (ap bytes w.word-is) (omega arith) (known-word v 2 w.in-2.is) c.add.ensures
      | in_default w ↦ worded v (ap bytes w.word-is) (omega arith) (rejected-word v (omega arith) (omega arith) (omega arith)) c.add.ensures
    ]
