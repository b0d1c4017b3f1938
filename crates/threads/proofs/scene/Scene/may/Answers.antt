-- `may` meets its contract: a step that fires is in the event's table, leads where its byte says, and nothing held bars it.
use Prim.Native.Nat.{◌+◌, ◌<◌}
use mathlib.Core.Path.{◌≡◌, refl, ap, sym, subst, ◌∙◌}
use mathlib.Core.Bool.{Bool, true, false, not, beq, false≢true}
use native.Mathlib.Omega.{arith}
use lib.Dec.{leb}
use lib.ListN.{length, get_or}
use borrow.Author.Tests.{not-false}
use Rattle.runs.proofs.Least.{some≢none}
use Rattle.machine.specs.Machine.{final}
use Rattle.machine_code.specs.inner.Bytes.{offset_of, is_step}
use Rattle.threads.proofs.Lasting.{is-there}
use Rattle.threads.proofs.Tables.{fires-none, fires-barred}
use Rattle.threads.proofs.Targets.{target-inside, target-final}
use Rattle.threads.proofs.scene.Scene.may.Goals as goal
use Rattle.threads.proofs.scene.Scene.may.Goals.{then-at-eq0-via-then-at-eq0, then-at-eq0-via-else-at-eq0+then-self-at}

-- tests that differ
apart : (x y : Bool) → not (beq x y) ≡ true → x ≡ not y
apart true true e = absurd (false≢true e)
apart true false e = refl
apart false true e = refl
apart false false e = absurd (false≢true e)

pub returns-then-at-eq0 : goal.returns-then-at-eq0
returns-then-at-eq0 c =
    let a = c.args in
    let s = a.self.now in
    let f = s.formula.now in (
      λ e h g fm stands t i j p w d x.
          let at : offset_of s.table.now a.state a.k < length f = rw i at
          (target-inside g fm f s.table.now s.rules s.moment stands t w a.k h d x) in
          absurd (elim c.then-at-eq0.branch [
            | then-at-eq0-via-then-at-eq0 q ↦ some≢none (sym x ∙ fires-none g fm f s.table.now s.rules s.moment stands t w a.k h
                (ap (λ z. offset_of s.table.now z a.k) i ∙ sym c.step_offset-at.ensures ∙ q.if-at-eq0.true))
            | then-at-eq0-via-else-at-eq0+then-self-at q ↦ omega (arith, at, c.step_offset-at.ensures, q.if-self-at.true)
          ]),
      λ e. absurd (false≢true e),
    )

pub returns-then-kind-ends : goal.returns-then-kind-ends
returns-then-kind-ends c =
    let a = c.args in
    let s = a.self.now in
    let f = s.formula.now in
    let kinds = s.rules.kinds in
    let at = offset_of s.table.now a.state a.k in
    let kind : c.kind_of-kind.result ≡ get_or kinds (get_or f (at + 1) 0) 0 = c.kind_of-kind.ensures
    ∙ ap (λ i. get_or kinds i 0) (c.byte_at.ensures.0 ∙ ap (λ i. get_or f (i + 1) 0) c.step_offset-at.ensures) in (
      λ e h g fm stands t i j p w d x.
          let y : leb 2 (get_or kinds (get_or f (at + 1) 0) 0) ≡ final fm d = rw i at (target-final g fm f s.table.now s.rules s.moment stands t w a.k h d x) in
          sym y ∙ ap (leb 2) (sym kind) ∙ apart _ _ c.if-kind-ends.true,
      λ e. absurd (false≢true e),
    )

pub returns : goal.returns
returns c =
    let a = c.args in
    let s = a.self.now in
    let f = s.formula.now in
    let y = c.step_offset-at in (
      λ e h g fm stands t i j p w d x.
          absurd (some≢none (sym x ∙ fires-barred g fm f s.table.now s.rules s.moment stands t w a.k h y.result
          (y.ensures ∙ ap (λ z. offset_of s.table.now z a.k) (sym i))
          (λ fresh. c.bars.ensures (not-false _ e) fresh t.config j p))),
      λ e. subst (λ z. is_step f z ≡ true) y.ensures (is-there f y.result c.if-at-eq0.false c.if-self-at.false),
    )
