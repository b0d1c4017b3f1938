-- What the code reads at an offset: an expression's value and the place behind it.
use Rattle.std.specs.Prelude.{ℕ, ◌+◌, not, List, length, leb, eqb, Option}
use Rattle.base.specs.Lists.{some_if}
use Rattle.base.specs.Value.{value_at}
use Rattle.guard_code.specs.declared.guard.Reading.{Reading}
use Rattle.guard_code.specs.inner.Bytes.{leaf_whole, Evaluated}

-- what stands there, and the place behind its bytes
abbrev pub placed : ℕ → Evaluated → Reading
placed at e = record { value = e.value; next = at + e.used }

-- a constant, where it is there whole
abbrev pub constant_placed : ℕ → List ℕ → Option Reading
constant_placed at part = some_if (leb (at + 5) (length part)) (placed at (record { value = value_at part (at + 1); used = 5 }))

-- a command without operands, where one stands there whole
unfoldable pub leaf_placed : ℕ → (List ℕ → ℕ) → List ℕ → Option Reading
leaf_placed at leaf part = some_if (not (eqb (leaf_whole part) 0)) (placed at (record { value = leaf part; used = leaf_whole part }))
