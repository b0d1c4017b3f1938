-- The bytes of a step, and where its guard stands.
use Rattle.std.specs.Prelude.{ℕ, ◌+◌, length}
use mathlib.Core.List.{List, [], ◌∷◌, ◌++◌, flat_map}
use Rattle.std.proofs.Math.Option.{Option, none, some}
use Rattle.formula.specs.Formula.{Expr, Step, Formula}
use Rattle.formula.specs.Encode.{encode_expr, encode_clause}
use Rattle.formula.specs.Lookup.{step_place}

-- "15 GUARD .. one expression follows in prefix order": the bytes of a step's guard, if it has one
unfoldable pub encode_guard : Option Expr → List ℕ
encode_guard none = []
encode_guard (some e) = 0x15 ∷ encode_expr e

-- the bytes of a step: its STEP, its clauses, its guard
unfoldable pub encode_step : Step → List ℕ
encode_step t = 0x11 ∷ t.target ∷ (flat_map encode_clause t.clauses ++ encode_guard t.guard)

-- where the guard of step k of state s stands or would stand: behind the step's clauses
unfoldable pub guard_place : Formula → ℕ → ℕ → Step → ℕ
guard_place f s k t = step_place f s k + (2 + length (flat_map encode_clause t.clauses))
