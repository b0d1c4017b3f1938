-- `slots::comes_after` meets its contract: the step numbers decide where the events are equal.
use Rattle.std.proofs.Common.{◌∙◌, ◌/◌, ◌%◌, map, of_calls, rules}
use Rattle.runs.specs.inner.Order.{lex}
use Rattle.slots.proofs.Comparing.{first-then}
use Rattle.slots.specs.inner.Threads.{word_order}
use Rattle.slots.proofs.comes_after.Goals as goal

pub returns : goal.returns
unfolding word_order
returns c =
    c.is_gt.ensures
    ∙ first-then (lex (map (λ w. w / 8) c.args.a.now) (map (λ w. w / 8) c.args.b.now)) (lex (map (λ w. w % 8) c.args.a.now) (map (λ w. w % 8) c.args.b.now))
    c.compared-events.result c.then_with.result (c.compared-events.ensures (λ w. w / 8) (λ x y e. search of_calls))
    (λ e. rw e at c.then_with.ensures)
    (λ e.
    let z = rw e at c.then_with.ensures in
    search (rules, of_calls) depth 8)
    (λ e. rw e at c.then_with.ensures)
