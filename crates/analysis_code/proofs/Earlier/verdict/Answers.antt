-- `analysis_code::Earlier::verdict` meets its contract: rejected, subsumed by one of the rows, or an alert.
use Rattle.std.proofs.Common.{sym, ◌∙◌, true, false, length, rules, tests}
use Rattle.std.proofs.lemmas.Iterator.{YieldsList-from_slice}
use Rattle.std.proofs.lemmas.Iterator.Search.{any_from_yields_List}
use Rattle.analysis.specs.Rows.{subsumed, verdict}
use Rattle.analysis_code.specs.inner.Starts.{named_of, variables, run_if}
use Rattle.analysis_code.proofs.Subsuming.{any-row}
use Rattle.analysis_code.proofs.Earlier.verdict.Goals as goal

pub returns-then-not-run : goal.returns-then-not-run
unfolding verdict
returns-then-not-run c = rw c.if-not-run.true

pub returns-then-any : goal.returns-then-any
unfolding verdict
returns-then-any c =
    let s = c.args.self.now in
    let any = any_from_yields_List (λ ws. subsumed (variables s.tied.now) (length s.rows.now) (named_of c.args.run.now) (run_if ws)) _ _ true
    c.if-any.ensures.ran (YieldsList-from_slice s.rows.now cc) (λ x b q k. search (rules, tests)) in
    rw (sym (any ∙ any-row (variables s.tied.now) (length s.rows.now) (named_of c.args.run.now) s.rows.now), c.if-not-run.false)

pub returns-else-any : goal.returns-else-any
unfolding verdict
returns-else-any c =
    let s = c.args.self.now in
    let any = any_from_yields_List (λ ws. subsumed (variables s.tied.now) (length s.rows.now) (named_of c.args.run.now) (run_if ws)) _ _ false
    c.if-any.ensures.ran (YieldsList-from_slice s.rows.now cc) (λ x b q k. search (rules, tests)) in
    rw (sym (any ∙ any-row (variables s.tied.now) (length s.rows.now) (named_of c.args.run.now) s.rows.now), c.if-not-run.false)
