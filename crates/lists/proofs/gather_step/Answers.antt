-- `lists::gather_step` meets its contract: what is left of the clauses gives the whole.
use mathlib.Core.Path.{◌≡◌, sym, ap, ◌∙◌, subst}
use Prim.Native.Nat.{◌+◌}
use lib.ListN.{get_or}
use native.Mathlib.Omega.{arith}
use Rattle.machine_code.specs.inner.Bytes.{width_of}
use Rattle.machine_code.proofs.EventAlone.{width-most}
use Rattle.lists.specs.inner.Words.{gather_step}
use Rattle.lists.proofs.Steps.{Left, left-start, left-done, left_end, left-next}
use Rattle.lists.proofs.gather_step.Goals as goal

pub loop-place-init : goal.loop-place-init
loop-place-init c =
    let a = c.args in
    left-start a.f.now a.values.now a.at a.lists.now

pub returns-then-taken-eq0 : goal.returns-then-taken-eq0
returns-then-taken-eq0 c =
    let a = c.args in
    let l = c.loop-place in
    let e : width_of (get_or a.f.now l.place 0) ≡ 0 =
    sym (c.width-taken.ensures ∙ ap width_of c.from.ensures) ∙ c.if-taken-eq0.true in
    left-done a.f.now a.values.now (gather_step a.f.now a.values.now a.at a.lists.now) l.place _ l.invariant e

pub overflow_add-place-in-loop-place : goal.overflow_add-place-in-loop-place
overflow_add-place-in-loop-place c =
    let w = c.width-taken in
    omega (
      arith,
      width-most c.from.result w.result w.ensures,
      c.loop-place-test.true,
      c.well_formed,
    )

pub loop-place-preserved : goal.loop-place-preserved
loop-place-preserved c =
    let a = c.args in
    let l = c.loop-place in
    let w = c.width-taken in
    let f = a.f.now in
    let v = a.values.now in
    let e : w.result ≡ width_of (get_or f l.place 0) = w.ensures ∙ ap width_of c.from.ensures in
    subst (λ z. Left f v (gather_step f v a.at a.lists.now) (l.place + w.result) z) (sym c.gather.ensures)
    (left-next f v (gather_step f v a.at a.lists.now) l.place _ l.invariant w.result e c.if-taken-eq0.false
    c.loop-place-test.true)

pub returns : goal.returns
returns c =
    let a = c.args in
    let l = c.loop-place in
    left_end a.f.now a.values.now (gather_step a.f.now a.values.now a.at a.lists.now) l.place _ l.invariant c.loop-place-test.false
