-- `slots::steps_at` meets its contract: the number of steps is a half's word 45.
use Rattle.std.proofs.Common.{ap, ◌∙◌, get_or, drop, arith}
use lib.Seq.{get_or-drop, get_or-take}
use Rattle.slots.specs.inner.Words.{place}
use Rattle.slots.proofs.steps_at.Goals as goal

pub returns : goal.returns
returns c =
    ap (λ l. get_or l 45 0) c.half_of.ensures.words ∙ get_or-take 96 (drop (place c.args.half c.args.slot) c.args.work.now) 45 0 (omega arith) ∙ get_or-drop _ c.args.work.now 45 0
