-- `slots::bound_at` meets its contract: the held variables and their values stand in a half's words 1 to 16.
use Rattle.std.proofs.Common.{◌∙◌, ap, arith, map, take, drop}
use Rattle.slots.proofs.Parts.{part-take}
use Rattle.slots.specs.inner.Words.{is_set, thread_of}
use Rattle.slots.proofs.bound_at.Goals as goal

pub returns : goal.returns
unfolding thread_of
returns c =
    let w = c.half_of-part.ensures.words in (
      c.held_in.ensures ∙ ap (λ l. map is_set (take 8 (drop 1 l))) w ∙ ap (map is_set) (part-take 1 8 96 _ (omega arith)),
      c.words_at.ensures ∙ ap (λ l. take 8 (drop 9 l)) w ∙ part-take 9 8 96 _ (omega arith),
    )
