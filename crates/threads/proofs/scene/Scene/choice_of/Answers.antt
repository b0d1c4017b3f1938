-- In a committed state the lowest step that fires; else every step.
use mathlib.Core.Path.{sym, ◌∙◌}
use native.Mathlib.Omega.{arith}
use Rattle.threads.proofs.Choices.{ordinary-choice, quiet-choice, lowest-choice}
use Rattle.threads.proofs.Words.{committed-word}
use Rattle.threads.proofs.scene.Scene.choice_of.Goals as goal

pub returns-then-not-is_committed : goal.returns-then-not-is_committed
returns-then-not-is_committed o c =
    let s = c.args.self.now in
    let t = c.args.t.now in (
      omega arith,
      λ endless found g fm stands h e. ordinary-choice g fm t s.moment.number h
          (sym (committed-word g fm _ _ s.rules stands.setting t h) ∙ sym c.is_committed.ensures ∙ c.if-not-is_committed.true),
    )

pub returns-in-Some : goal.returns-in-Some
returns-in-Some o c =
    let s = c.args.self.now in
    let t = c.args.t.now in
    let k = c.in-Some.k in
    let l = c.requires.number _ c.in-Some.ensures in (
      omega (arith, l),
      λ endless found g fm stands h e.
          let q = sym (committed-word g fm _ _ s.rules stands.setting t h) ∙ sym c.is_committed.ensures ∙ c.if-not-is_committed.false in
          lowest-choice g fm t s.moment.number h k q l (found _ c.in-Some.ensures g fm stands h q e),
    )

pub returns-in-None : goal.returns-in-None
returns-in-None o c =
    let s = c.args.self.now in
    let t = c.args.t.now in (
      omega arith,
      λ endless found g fm stands h e.
          let q = sym (committed-word g fm _ _ s.rules stands.setting t h) ∙ sym c.is_committed.ensures ∙ c.if-not-is_committed.false in
          quiet-choice g fm t s.moment.number h (found _ c.in-None.ensures g fm stands h q e),
    )
