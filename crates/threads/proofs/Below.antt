-- What holds of every number below a bound, one number more at a time; what a search found below one.
use Prim.Native.Nat.{ℕ, ◌+◌, ◌<◌, ◌≤◌}
use mathlib.Core.Path.{◌≡◌, refl, subst}
use mathlib.Core.Bool.{Bool, true, false}
use native.Mathlib.Omega.{arith}
use native.Mathlib.Decide.{dec_lt}
use lib.Dec.{ltb}
use borrow.Author.Tests.{ltb-true, ltb-false}
use Rattle.std.specs.Prelude.{Some, None}
use Rattle.base.specs.Lists.{some_if, some_below}

pub below_next : (P : ℕ → Type 0) (k : ℕ) → ((j : ℕ) → j < k → P j) → P k → (j : ℕ) → j < k + 1 → P j
below_next P k before here j h = go (dec_lt j k)
  where
    go : Dec (j < k) → P j
    go (yes l) = before j l
    go (no l) = let e : k ≡ j = omega (arith, h, l) in subst P e here

-- what a search found among n is the number, which is below n; where it found nothing the number is not
pub found-below : (n k q : ℕ) → Some k ≡ some_below n q → (k ≡ q) × (k < n)
found-below n k q e = by (ltb q n) refl e
  where
    by : (b : Bool) → ltb q n ≡ b → Some k ≡ some_if b q → (k ≡ q) × (k < n)
    by true t h = let same : k ≡ q = cc in (same, omega (arith, ltb-true q n t, same))
    by false t h = absurd cc

pub found-none : (n q : ℕ) → None ≡ some_below n q → n ≤ q
found-none n q e = by (ltb q n) refl e
  where
    by : (b : Bool) → ltb q n ≡ b → None ≡ some_if b q → n ≤ q
    by true t h = absurd cc
    by false t h = ltb-false q n t
