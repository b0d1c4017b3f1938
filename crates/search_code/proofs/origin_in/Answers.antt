-- `search_code::origin_in` meets its contract: the words of the start configuration are read back.
use mathlib.Core.Path.{◌≡◌, ap, ◌∙◌}
use Rattle.slots.specs.declared.Thread.{Thread}
use Rattle.slots.specs.inner.Threads.{origin_thread}
use Rattle.slots.specs.inner.Words.{put, place, words_of}
use Rattle.search_code.proofs.Loop.{origin-stored}
use Rattle.search_code.proofs.origin_in.Goals as goal

pub returns : goal.returns
returns c =
    let w = c.args.work.now in
    let x = c.store_slot in
    let e : x.new.work ≡ put w (place 0 0) (words_of origin_thread) = x.ensures ∙ ap (λ (t : Thread). put w (place 0 0) (words_of t)) c.origin.ensures in
    origin-stored w x.new.work c.requires e
