-- `slots::store` meets its contract: each field stands behind those before it.
use Rattle.std.proofs.Common.{◌∙◌, refl, rules, of_calls}
use mathlib.Core.Bool.{false}
use Rattle.base.specs.Mask.{bit}
use Rattle.slots.proofs.Parts.{mid-put}
use Rattle.slots.proofs.Words.{stored, mapped}
use Rattle.slots.specs.inner.Threads.{Sized}
use Rattle.slots.proofs.store.Goals as goal

pub returns : goal.returns
returns c =
    let t = c.args.t in
    let s : Sized t = search rules in
    let f = mapped bit t.config.held c.map.result false 0 (search rules)
    (λ i h.
    let z = (c.map.ensures.items.at i false 0 (search rules)).2.met in
    search of_calls) in
    stored c.args.part.now t s c.copy_from_slice.new.self _ _ _ _ _ c.requires (c.copy_from_slice.ensures.after ∙ f)
    (mid-put 1 8 _ _ _ refl (search rules)) (mid-put 9 8 _ _ _ c.copy_from_slice-2.ensures.after s.values_8)
    (mid-put 17 16 _ _ _ c.copy_from_slice-3.ensures.after s.counters_16) (mid-put 33 12 _ _ _ c.copy_from_slice-4.ensures.after s.tallies_12)
    (mid-put 46 32 _ _ _ c.copy_from_slice-5.ensures.after s.trail_32)
