-- `formula_code::scan_file` meets its contract: the loop keeps what was read, with enough fuel for the rest.
use Rattle.std.proofs.Common.{sym, subst, arith, length-drop}
use Rattle.std.proofs.lemmas.Result.{err_from_is_err_and}
use Rattle.base.proofs.Lists.{all-bytes}
use Rattle.formula_code.proofs.FileWalk.{SoFar, begin, Reads, reads, Goes, taken, ended, broke}
use Rattle.formula_code.proofs.scan_file.Goals as goal
use Rattle.formula_code.proofs.scan_file.Goals.{After-next_command, In-Some}

-- what was read stands next
read : (c : After-next_command) → Reads c.args.fields c.args.l.now c.loop-taken.d c.next_command.result c.next_command.new.places
read c =
    reads c.args.fields c.args.l.now c.loop-taken.d _ _ _ _ c.loop-taken.invariant c.behind.ensures.bytes c.behind.ensures.at c.next_command.ensures

-- a command was taken
gone : (c : In-Some) → Goes c.args.fields c.args.l.now c.loop-taken.d c.in-Some.taken c.next_command.new.places
gone c =
    let r = reads c.args.fields c.args.l.now c.loop-taken.d _ _ _ _ c.loop-taken.invariant c.behind.ensures.bytes c.behind.ensures.at c.next_command.ensures in
    taken c.args.fields c.args.l.now c.loop-taken.d _ _ _ _ r c.in_ok-taken.was c.in-Some.is

pub loop-taken-init : goal.loop-taken-init
loop-taken-init c =
    let a = c.args in
    subst (SoFar a.fields a.l.now) (sym c.empty-d.ensures) (begin a.fields a.l.now (all-bytes a.l.now (λ i. (c.type_inv.l i).fits)))

pub returns-in_err-taken : goal.returns-in_err-taken
returns-in_err-taken c =
    let p = err_from_is_err_and c.from_residual.result c.from_residual.ensures.1 in
    rw (p.1, p.2)
    (broke c.args.fields c.args.l.now c.loop-taken.d _ _ _ (read (goal.at.returns-in_err-taken c).After-next_command) c.in_err-taken.was)

pub keep-requires-clause-ready : goal.keep-requires-clause-ready
keep-requires-clause-ready c = (gone (goal.at.keep-requires-clause-ready c).In-Some).facts.ready

pub keep-requires-clause-fits : goal.keep-requires-clause-fits
keep-requires-clause-fits c =
    let g = gone (goal.at.keep-requires-clause-fits c).In-Some in
    omega (arith, g.facts.inside, length-drop c.loop-taken.d.at c.args.l.now, c.well_formed.0.0)

pub loop-taken-smaller : goal.loop-taken-smaller
loop-taken-smaller c =
    let g = gone (goal.at.loop-taken-smaller c).In-Some in
    rw c.keep.ensures (omega (arith, g.facts.some, g.facts.inside, length-drop c.loop-taken.d.at c.args.l.now))

pub loop-taken-preserved : goal.loop-taken-preserved
loop-taken-preserved c = rw c.keep.ensures (gone (goal.at.loop-taken-preserved c).In-Some).on

pub returns : goal.returns
returns c =
    ended c.args.fields c.args.l.now c.loop-taken.d _ _ _ (read (goal.at.returns c).After-next_command) c.in_ok-taken.was c.in_default.is
