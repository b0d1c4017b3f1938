-- `analysis_code::Earlier::subsumes` meets its contract: a row without a run subsumes nothing; a run that ends before this start neither.
use Rattle.std.proofs.Common.{◌∙◌, length}
use borrow.Author.Tests.{le-leb, lt-leb}
use Rattle.analysis.specs.Rows.{subsumes}
use Rattle.analysis_code.specs.inner.Starts.{named_of, variables}
use Rattle.analysis_code.proofs.Subsuming.{by-none, by-run}
use Rattle.analysis_code.proofs.Earlier.subsumes.Goals as goal

pub returns-in_default : goal.returns-in_default
returns-in_default c =
    let a = c.args in
    by-none (variables a.self.now.tied.now) (length a.self.now.rows.now) (named_of a.run.now) a.row.now c.in_default.ensures

pub returns-then-self-earlier : goal.returns-then-self-earlier
unfolding subsumes
returns-then-self-earlier c =
    let a = c.args in
    let run = by-run (variables a.self.now.tied.now) (length a.self.now.rows.now) (named_of a.run.now) a.row.now (named_of c.in-Some.earlier) c.in-Some.ensures in
    c.tied_alike.ensures ∙ rw (le-leb (length a.self.now.rows.now) c.in-Some.earlier.last c.if-self-earlier.true) at run

pub returns-else-self-earlier : goal.returns-else-self-earlier
unfolding subsumes
returns-else-self-earlier c =
    let a = c.args in
    let run = by-run (variables a.self.now.tied.now) (length a.self.now.rows.now) (named_of a.run.now) a.row.now (named_of c.in-Some.earlier) c.in-Some.ensures in
    let b = lt-leb (length a.self.now.rows.now) c.in-Some.earlier.last c.if-self-earlier.false in
    rw b (rw b at run)
