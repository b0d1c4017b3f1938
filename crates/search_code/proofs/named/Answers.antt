-- `search_code::named` meets its contract: after k turns the arrays hold the first k entries.
use Rattle.std.proofs.Common.{◌≡◌, ◌/◌, ◌%◌, refl, rules, arith, length, ◌∙◌}
use Rattle.base.specs.Lists.{pad}
use Rattle.runs.specs.Run.{Entry}
use Rattle.search_code.proofs.Arrays.{store_entry, steps-are, entries-are}
use Rattle.search_code.proofs.named.Goals as goal

pub loop-k-init : goal.loop-k-init
unfolding pad
loop-k-init c = (refl, refl)

pub loop-k-preserved : goal.loop-k-preserved
loop-k-preserved c =
    let t = c.args.t.now in
    let k = c.loop-k in
    let h : length t.trail ≡ 32 = search rules in (
      store_entry (λ w. w / 8) t.trail k.events k.k (omega arith) (omega arith) k.invariant.0,
      store_entry (λ w. w % 8) t.trail k.numbers k.k (omega arith) (omega arith) k.invariant.1,
    )

pub returns : goal.returns
returns c =
    let t = c.args.t.now in
    let h : length t.trail ≡ 32 = search rules in
    let steps = c.capped-steps in
    let e : c.loop-k.k ≡ steps.result = omega arith in
    let es = entries-are t h (λ (x : Entry). x.event) steps.result c.loop-k.events steps.ensures (rw e at c.loop-k.invariant.0) in
    let ns = entries-are t h (λ (x : Entry). x.step) steps.result c.loop-k.numbers steps.ensures (rw e at c.loop-k.invariant.1) in
    λ j. record {
      verdict = c.verdict_at.ensures j;
      steps = (steps.ensures ∙ steps-are t h) j;
      events = es j;
      numbers = ns j;
      held = t.config.held;
      values = t.config.values;
      width = c.args.width;
    }
