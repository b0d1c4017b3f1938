-- `ends_by` meets its contract: the byte behind the step's command is its target.
use Rattle.machine.specs.Machine.{final}
use native.Mathlib.Omega.{arith}
use Prim.Native.Nat.{◌+◌, ◌<◌}
use mathlib.Core.Path.{◌≡◌, ap, sym, ◌∙◌}
use lib.ListN.{length, get_or}
use lib.Dec.{leb}
use Rattle.machine_code.specs.inner.Bytes.{offset_of}
use Rattle.threads.proofs.Targets.{target-inside, target-final}
use Rattle.threads.proofs.scene.Scene.ends_by.Goals as goal

pub returns-then-at-self : goal.returns-then-at-self
returns-then-at-self c =
    let a = c.args in
    let s = a.self.now in
    let f = s.formula.now in
    let at = offset_of s.table.now a.state a.k in
    let kinds = s.rules.kinds in
    let e : c.is_final.result ≡ leb 2 (get_or kinds (get_or f (at + 1) 0) 0) = c.is_final.ensures
    ∙ ap (λ i. leb 2 (get_or kinds i 0)) (c.byte_at.ensures.0 ∙ ap (λ i. get_or f (i + 1) 0) c.step_offset-at.ensures) in
    λ g fm h b t i w d q.
    let x : leb 2 (get_or kinds (get_or f (at + 1) 0) 0) ≡ final fm d = rw i at (target-final g fm f s.table.now s.rules s.moment h t w a.k b d q) in
    sym (e ∙ x)

pub returns-else-at-self : goal.returns-else-at-self
returns-else-at-self c =
    let a = c.args in
    let s = a.self.now in
    let f = s.formula.now in
    λ g fm h b t i w d q.
    let at : offset_of s.table.now a.state a.k < length f = rw i at (target-inside g fm f s.table.now s.rules s.moment h t w a.k b d q) in
    absurd (omega (arith, at, c.step_offset-at.ensures, c.if-at-self.false))
