-- `analysis_code::tied_alike` meets its contract: the tie rule holds if it holds from variable v on.
use Rattle.std.proofs.Common.{◌≡◌, drop}
use Rattle.analysis.specs.Rows.{tied_alike}
use Rattle.analysis_code.specs.inner.Starts.{named_of, variables_from, variables}
use Rattle.analysis_code.proofs.tied_alike.Given as goal

abbrev pub invariant-loop-v : goal.invariant-loop-v
invariant-loop-v l =
    tied_alike (variables l.tied) (named_of l.a) (named_of l.b) ≡ tied_alike (variables_from l.v (drop l.v l.tied)) (named_of l.a) (named_of l.b)
