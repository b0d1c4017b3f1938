-- `slots::compared` meets its contract: what is left of both trails decides.
use Rattle.std.proofs.Common.{◌∙◌, ap, sym, arith, length, map}
use mathlib.Core.Logic.{inl, inr}
use Rattle.runs.specs.inner.Order.{lex}
use Rattle.slots.proofs.Comparing.{keys-differ, keys-same, keys-end}
use Rattle.slots.proofs.compared.Goals as goal

pub returns-then-is_ne : goal.returns-then-is_ne
returns-then-is_ne g c =
    let s = c.in-Some.ensures.steps in
    let now = c.loop-x.x-iterator in
    let then = c.next.new.self in
    λ k h. keys-differ k now.a.rest.now now.b.rest.now (lex (map k c.args.a.now) (map k c.args.b.now)) (c.loop-x.invariant.3 k h)
    then.a.rest.now then.b.rest.now c.in-Some.x.now c.in-Some.y.now c.key.result c.key-in-loop-x.result c.cmp-order.result s.0 s.1
    (h _ _ c.key.ensures) (h _ _ c.key-in-loop-x.ensures) c.cmp-order.ensures
    (sym c.is_ne.ensures ∙ c.if-is_ne.true)

pub loop-x-preserved : goal.loop-x-preserved
loop-x-preserved g c =
    let s = c.in-Some.ensures.steps in
    let now = c.loop-x.x-iterator in
    let then = c.next.new.self in (
      (tt, tt),
      tt,
      omega (arith, c.loop-x.invariant.2, ap length s.0, ap length s.1),
      λ k h. keys-same k now.a.rest.now now.b.rest.now (lex (map k c.args.a.now) (map k c.args.b.now)) (c.loop-x.invariant.3 k h)
          then.a.rest.now then.b.rest.now c.in-Some.x.now c.in-Some.y.now c.key.result c.key-in-loop-x.result c.cmp-order.result s.0 s.1
          (h _ _ c.key.ensures) (h _ _ c.key-in-loop-x.ensures) c.cmp-order.ensures
          (sym c.is_ne.ensures ∙ c.if-is_ne.false),
    )

pub returns : goal.returns
returns g c =
    λ k h. c.cmp.ensures ∙ keys-end k _ _ _ (c.loop-x.invariant.3 k h) _ _ c.loop-x.invariant.2
    (elim c.in-None.ensures.steps [ inl p ↦ inl p.1.0 | inr p ↦ inr p.1.0 ])
