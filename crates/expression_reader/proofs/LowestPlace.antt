-- The lowest place of the keys from one on, one key more at a time.
use Prim.Native.Nat.{ℕ, zero, suc, ◌+◌, ◌-◌, ◌<◌, ◌≤◌, min}
use mathlib.Core.Path.{◌≡◌}
use mathlib.Core.Bool.{Bool, true, false, cond}
use mathlib.Core.List.{List}
use native.Mathlib.Omega.{arith}
use lib.ListN.{get_or}
use Rattle.expression_reader.specs.inner.Places.{nowhere, lowest_from}

module _ (look : ℕ → Bool) (places : List ℕ) where
  -- no place is above nowhere
  lowest-most : (k n : ℕ) → lowest_from look places k n ≤ nowhere
  unfolding lowest_from
  lowest-most k zero = omega arith
  lowest-most k (suc n) = omega (arith, lowest-most (k + 1) n)

  -- where no key was looked at yet
  pub lowest-none : min nowhere (lowest_from look places 0 145) ≡ lowest_from look places 0 145
  lowest-none = omega (arith, lowest-most 0 145)

  -- one more key, which is looked at or not
  lowest-by : (b : Bool) (lowest place rest : ℕ) → lowest ≤ nowhere → min (cond b (min lowest place) lowest) rest ≡ min lowest (min (cond b place nowhere) rest)
  lowest-by true lowest place rest h = omega arith
  lowest-by false lowest place rest h = omega arith

  pub lowest-on : (k lowest : ℕ) (b : Bool) → k < 145 → lowest ≤ nowhere → look k ≡ b
      → min (cond b (min lowest (get_or places k 0)) lowest) (lowest_from look places (k + 1) (145 - (k + 1)))
      ≡ min lowest (lowest_from look places k (145 - k))
  unfolding lowest_from
  lowest-on k lowest b h l q =
      let e : 145 - k ≡ suc (145 - (k + 1)) = omega arith in
      rw (e, q) (lowest-by b lowest (get_or places k 0) (lowest_from look places (k + 1) (145 - (k + 1))) l)

  -- behind the last key there is none
  pub lowest-end : (k lowest : ℕ) → 145 ≤ k → lowest ≤ nowhere → min lowest (lowest_from look places k (145 - k)) ≡ lowest
  unfolding lowest_from
  lowest-end k lowest h l = let e : 145 - k ≡ 0 = omega arith in rw e (omega arith)
