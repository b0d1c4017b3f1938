-- `guard::guard_holds` meets its contract: the leaves' values are laid out, and the guard is lent as the part behind its command.
use mathlib.Core.Path.{refl}
use native.Mathlib.Omega.{arith}
use Rattle.guard_code.proofs.ReadingOnBytes.{laid-leaves, guard-read, guard_none}
use Rattle.guard_code.proofs.guard.guard_holds.Goals as goal

pub returns-then-command-eq-GUARD : goal.returns-then-command-eq-GUARD
returns-then-command-eq-GUARD c =
    let a = c.args in
    guard-read a.values a.counters a.tallies c.lay-then-command-eq-GUARD-2.new.leaves a.f.now a.at c.byte_at-command.ensures.0 c.if-command-eq-GUARD.true
    (laid-leaves a.values a.tallies a.counters _ (omega (arith, c.well_formed)) (omega (arith, c.well_formed)) (omega (arith, c.well_formed)) refl c.lay.ensures
    c.lay-then-command-eq-GUARD.ensures c.lay-then-command-eq-GUARD-2.ensures) c.holds_at.ensures

pub returns : goal.returns
returns c = guard_none _ _ _ c.byte_at-command.ensures.0 c.if-command-eq-GUARD.false
