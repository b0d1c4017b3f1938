-- `slots::held_in` meets its contract: each flag is its word's.
use Rattle.std.proofs.Common.{◌∙◌, ap, map, false, rules, of_calls}
use Rattle.slots.specs.inner.Words.{is_set}
use Rattle.slots.proofs.Words.{mapped}
use Rattle.slots.proofs.held_in.Goals as goal

pub returns : goal.returns
returns c =
    mapped is_set c.words_at.result c.map.result 0 false (search rules)
    (λ i h.
    let z = (c.map.ensures.items.at i 0 false (search rules)).2.met in
    search of_calls)
    ∙ ap (map is_set) c.words_at.ensures
