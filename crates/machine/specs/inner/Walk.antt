-- What a walk over a step's clauses computes, front to back: the same as firing, each clause met once.
use Rattle.std.specs.Prelude.{Bool, true, ◌&&◌, List, [], ◌∷◌}
use Rattle.event_log.specs.Log.{Values}
use Rattle.formula.specs.Formula.{Clause}
use Rattle.machine.specs.Configuration.{Config}
use Rattle.machine.specs.Firing.{bind, passes}

-- c is the configuration before the step, d the one that the clauses met so far have bound
abbrev pub walk : Config → Config → Values → List Clause → Bool
walk c d e [] = true
walk c d e (k ∷ ks) = passes c (bind d e k) e k && walk c (bind d e k) e ks
