-- `expression_reader::read_expr`: the loop keeps the front that was read, and each operand is one level less deep.
use Prim.Native.Nat.{◌-◌, ◌≤◌}
use mathlib.Core.Path.{◌≡◌}
use lib.ListN.{length}
use Rattle.expression_reader.proofs.Operands.{complete, deeper}
use Rattle.expression_reader.proofs.+read_expr.Given as goal

-- the depth that is still allowed falls with each call
abbrev pub decreases-read_expr : goal.decreases-read_expr
decreases-read_expr l = l.depth

-- the operands still to come complete what was read, as all of them complete the command
abbrev pub invariant-loop : goal.invariant-loop
invariant-loop l =
    let op = deeper l.scope.state l.scope.own l.depth in
    let bs = l.part.bytes.now in
    let at = l.part.at in
    record {
      inside : l.whole.used ≤ length bs;
      is : complete op l.end at bs l.initial.whole l.initial.places ≡ complete op (l.end - l.counter) at bs l.whole l.places;
    }
