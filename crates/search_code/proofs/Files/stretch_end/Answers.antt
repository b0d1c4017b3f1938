-- `search_code::Files::stretch_end` meets its contract: no event before n, from the start on, has a mark behind it.
use Rattle.std.proofs.Common.{◌≡◌, ◌+◌, sym, ap, cond, arith, ◌∙◌}
use Rattle.event_log.specs.declared.Loaded.{Loaded}
use Rattle.event_log.specs.inner.Loading.{marked_at}
use Rattle.search_code.specs.inner.Turn.{stretch_end}
use Rattle.search_code.proofs.Turns.{end-next, end-over}
use Rattle.search_code.proofs.Files.stretch_end.Goals as goal

pub returns-then-mark_at : goal.returns-then-mark_at
returns-then-mark_at c =
    let s = c.args.self.now in
    let n = c.loop-n.n in
    let marked = sym (c.mark_at.ensures ∙ ap (λ (x : Loaded). marked_at s.log.now x.next) c.event_at-loaded.ensures) ∙ c.if-mark_at.true in
    let here = ap (λ b. cond b (n + 1) (stretch_end s.log.now s.places.now s.scope (n + 1))) marked in
    (sym (c.loop-n.invariant ∙ end-next s.log.now s.places.now s.scope n c.loop-n-test.true ∙ here), omega (arith, c.loop-n-test.true))

pub loop-n-preserved : goal.loop-n-preserved
loop-n-preserved c =
    let s = c.args.self.now in
    let n = c.loop-n.n in
    let marked = sym (c.mark_at.ensures ∙ ap (λ (x : Loaded). marked_at s.log.now x.next) c.event_at-loaded.ensures) ∙ c.if-mark_at.false in
    let on = ap (λ b. cond b (n + 1) (stretch_end s.log.now s.places.now s.scope (n + 1))) marked in
    c.loop-n.invariant ∙ end-next s.log.now s.places.now s.scope n c.loop-n-test.true ∙ on

pub returns : goal.returns
returns c =
    let s = c.args.self.now in
    let n = c.loop-n.n in
    let e : n ≡ s.scope.events = omega (arith, c.requires, c.loop-n.auto.n-end, c.loop-n-test.false) in
    (sym e ∙ end-over s.log.now s.places.now s.scope n c.loop-n-test.false ∙ sym c.loop-n.invariant, omega arith)
