-- `analyser::refusal_in` meets its contract.
use native.Mathlib.Omega.{arith}
use Rattle.text.proofs.Growing.{same_text}
use Rattle.analyser.proofs.refusal_in.Goals as goal

pub returns : goal.returns
returns c = let w = c.refused_line-end.ensures in
    same_text w.line (omega (arith, w.fits, w.counts)) c.add.ensures
