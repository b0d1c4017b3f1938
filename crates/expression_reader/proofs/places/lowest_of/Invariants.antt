-- `places::lowest_of` meets its contract: the lowest place so far and those from the key on make the lowest of all.
use Prim.Native.Nat.{◌-◌, ◌≤◌, min}
use mathlib.Core.Path.{◌≡◌}
use Rattle.expression_reader.specs.inner.Places.{nowhere, picked, lowest_from}
use Rattle.expression_reader.proofs.places.lowest_of.Given as goal

abbrev pub invariant-loop-key : goal.invariant-loop-key
invariant-loop-key l =
    let look = picked l.free l.from in
    (l.lowest ≤ nowhere) × (min l.lowest (lowest_from look l.places l.key (145 - l.key)) ≡ lowest_from look l.places 0 145)
