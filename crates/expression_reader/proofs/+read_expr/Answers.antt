-- `expression_reader::read_expr` meets its contract: the loop keeps the front that was read, and each operand is one level less deep.
use Prim.Native.Nat.{◌<◌, ◌-◌, ◌+◌}
use mathlib.Core.Path.{◌≡◌, ◌∙◌, sym}
use native.Mathlib.Omega.{arith}
use lib.ListN.{length-drop}
use Rattle.std.proofs.lemmas.Result.{err_from_is_err_and}
use Rattle.expression_reader.proofs.Operands.{deeper, from-takes, from-head, complete-on, complete-all}
use Rattle.expression_reader.proofs.+read_expr.Goals as goal

pub returns-in_err-takes-clause-is : goal.returns-in_err-takes-clause-is
returns-in_err-takes-clause-is t c =
    let a = c.args in
    let p = err_from_is_err_and c.from_residual.result c.from_residual.ensures.1 in
    rw (p.1, p.2) (from-takes a.scope.state a.scope.own a.depth a.left a.part.at a.part.bytes.now a.places.now _ c.in_err-takes.ensures.is)

pub returns-in_err-used-clause-is : goal.returns-in_err-used-clause-is
returns-in_err-used-clause-is t c =
    let a = c.args in
    let p = err_from_is_err_and c.from_residual-in_err-used.result c.from_residual-in_err-used.ensures.1 in
    rw (p.1, p.2)
    (from-head a.scope.state a.scope.own a.depth a.left a.part.at a.part.bytes.now a.places.now _ _ c.in_ok-takes.ensures.is c.in_err-used.ensures.is)

pub returns-in_err-operand-clause-is : goal.returns-in_err-operand-clause-is
returns-in_err-operand-clause-is t c =
    let a = c.args in
    let l = c.loop in
    let n = c.operands-end.result in
    let more : 0 < n - l.counter = omega arith in
    let e = rw (c.behind.ensures.at, c.behind.ensures.bytes) at c.in_err-operand.ensures.is in
    let on = complete-on (deeper a.scope.state a.scope.own a.depth) (n - l.counter) a.part.at a.part.bytes.now l.whole l.places _ more e in
    let h = from-head a.scope.state a.scope.own a.depth a.left a.part.at a.part.bytes.now a.places.now _ _ c.in_ok-takes.ensures.is c.in_ok-used.ensures.is in
    let p = err_from_is_err_and c.from_residual-in_err-operand.result c.from_residual-in_err-operand.ensures.1 in
    rw (p.1, p.2) (sym on ∙ sym l.invariant.is ∙ (rw c.operands-end.ensures h))

pub loop-preserved : goal.loop-preserved
loop-preserved t c =
    let a = c.args in
    let l = c.loop in
    let n = c.operands-end.result in
    let more : 0 < n - l.counter = omega arith in
    let e = rw (c.behind.ensures.at, c.behind.ensures.bytes) at c.in_ok-operand.ensures.is in
    let on = complete-on (deeper a.scope.state a.scope.own a.depth) (n - l.counter) a.part.at a.part.bytes.now l.whole l.places _ more e in
    let i = rw c.behind.ensures.bytes at c.in_ok-operand.ensures.inside in
    let m : n - (l.counter + 1) ≡ n - l.counter - 1 = omega arith in
    record { inside = omega (arith, i, length-drop l.whole.used a.part.bytes.now, l.invariant.inside); is = rw m (l.invariant.is ∙ on) }

pub returns-clause-is : goal.returns-clause-is
returns-clause-is t c =
    let a = c.args in
    let l = c.loop in
    let n = c.operands-end.result in
    let none : n - l.counter ≡ 0 = omega (arith, c.loop-test.false) in
    let all = complete-all (deeper a.scope.state a.scope.own a.depth) (n - l.counter) a.part.at a.part.bytes.now l.whole l.places none in
    let h = from-head a.scope.state a.scope.own a.depth a.left a.part.at a.part.bytes.now a.places.now _ _ c.in_ok-takes.ensures.is c.in_ok-used.ensures.is in
    sym all ∙ sym l.invariant.is ∙ (rw c.operands-end.ensures h)
