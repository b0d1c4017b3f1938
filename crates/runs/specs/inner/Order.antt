-- The order of runs that end on one event, computed.
use Rattle.std.specs.Prelude.{List, [], ◌∷◌}
use Prim.Native.Nat.{ℕ, compare, Ordering}
use Rattle.runs.specs.Run.{Trail}
use Rattle.runs.specs.Order.{events, numbers}

-- a first key decides; where it is equal, a second
abbrev pub then : Ordering → Ordering → Ordering
then Ordering.lt o = Ordering.lt
then Ordering.eq o = o
then Ordering.gt o = Ordering.gt

-- two lists, at their first difference
unfoldable pub lex : List ℕ → List ℕ → Ordering
lex [] [] = Ordering.eq
lex [] (y ∷ ys) = Ordering.lt
lex (x ∷ xs) [] = Ordering.gt
lex (x ∷ xs) (y ∷ ys) = then (compare x y) (lex xs ys)

-- first by the events, then by the step numbers
unfoldable pub order : Trail → Trail → Ordering
order t u = then (lex (events t) (events u)) (lex (numbers t) (numbers u))
