-- `marks::first` meets its contract: every clause before the place is one that the test lets pass.
use Prim.Native.Nat.{ℕ, ◌+◌}
use mathlib.Core.Path.{◌≡◌, ap, ◌∙◌}
use mathlib.Core.Bool.{Bool, false}
use mathlib.Core.List.{List}
use native.Mathlib.Omega.{arith}
use lib.ListN.{get_or}
use Rattle.machine_code.specs.inner.Bytes.{width_of}
use Rattle.machine_code.specs.inner.Marks.{Passed, start, over}
use Rattle.machine_code.proofs.EventAlone.{width-most}
use Rattle.machine_code.proofs.marks.first.Goals as goal

passed-on : (test : ℕ → ℕ → Bool → Type 0) (f : List ℕ) (from place command taken : ℕ) (b : Bool) → Passed test f from place
    → command ≡ get_or f place 0 → taken ≡ width_of command → (taken ≡ 0 → ⊥) → test command place b → b ≡ false → Passed test f from (place + taken)
passed-on test f from place command taken b h e q n t z = rw (q, e) (over place h (λ w. n (q ∙ ap width_of e ∙ w)) (rw (← e, ← z) t))

pub loop-place-init : goal.loop-place-init
loop-place-init g c = (omega arith, start)

pub overflow_add-place-in-loop-place : goal.overflow_add-place-in-loop-place
overflow_add-place-in-loop-place g c =
    omega (arith, width-most c.from-command.result c.width-taken.result c.width-taken.ensures, c.well_formed)

pub loop-place-preserved : goal.loop-place-preserved
loop-place-preserved g c = (
  omega (arith, width-most c.from-command.result c.width-taken.result c.width-taken.ensures),
  passed-on _ _ _ _ _ _ _ c.loop-place.invariant.1 c.from-command.ensures c.width-taken.ensures c.if-taken-eq0.false
      c.picks.ensures c.if-picks.false,
)
