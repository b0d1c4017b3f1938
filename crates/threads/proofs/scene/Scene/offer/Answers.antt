-- A thread that has not ended, in at most 31 steps, waits where some step is not expired.
use mathlib.Core.Path.{◌≡◌, sym, ◌∙◌}
use mathlib.Core.List.{[], ◌∷◌}
use Rattle.threads.specs.inner.Event.{waiting_in}
use Rattle.threads.specs.inner.Calls.{offered}
use Rattle.threads.specs.inner.Setting.{thread}
use Rattle.threads.proofs.Waiting.{grown-same, within_none, within-as, offered-final, offered-long, offered-open}
use Rattle.threads.proofs.Words.{final-word}
use Rattle.threads.proofs.scene.Scene.offer.Goals as goal
use Rattle.threads.proofs.scene.Scene.offer.Goals.{then-is_final-via-then-is_final, then-is_final-via-else-is_final+then-b-ge32}

pub returns-then-is_final : goal.returns-then-is_final
returns-then-is_final c =
    let a = c.args in
    let z = a.seats in
    let m = a.self.now in
    let b = a.b.now in (
      grown-same z.half z.slots z.count a.work.now c.requires.2,
      λ g fm s k h.
          let e : offered g fm m.moment.number (thread g fm b ∷ []) ≡ [] = elim c.then-is_final.branch [
            | then-is_final-via-then-is_final q ↦ offered-final g fm m.moment.number b h
                (sym (final-word g fm _ _ m.rules s.setting b h) ∙ sym c.is_final.ensures ∙ q.if-is_final.true)
            | then-is_final-via-else-is_final+then-b-ge32 q ↦ offered-long g fm m.moment.number b h q.if-b-ge32.true
          ] in
          within_none g fm z.half z.slots z.count a.work.now _ e k,
    )

pub returns : goal.returns
returns c =
    let a = c.args in
    let z = a.seats in
    let m = a.self.now in
    let x = c.wait in (
      x.ensures.0,
      λ g fm s k h.
          let e = sym (final-word g fm _ _ m.rules s.setting a.b.now h) ∙ sym c.is_final.ensures ∙ c.if-is_final.false in
          let o = offered-open g fm m.moment.number a.b.now h e c.if-b-ge32.false in
          within-as g fm z.half z.slots (waiting_in g fm z.half z.count a.work.now) _ _ x.new.work x.result o
          (x.ensures.1 g fm s k (record { fit = h; short = c.if-b-ge32.false })),
    )
