-- Every event from the start on has a number of configurations that wait after it.
use mathlib.Core.Path.{◌≡◌, subst}
use mathlib.Core.Logic.{◌⊎◌, inl, inr}
use mathlib.Core.List.{List}
use Prim.Native.Nat.{ℕ, zero, suc, ◌≤◌, ◌<◌}
use native.Mathlib.Nat.{eq-or-lt_of_le}
use native.Mathlib.Decide.{dec_lt}
use native.Mathlib.Omega.{arith}
use Rattle.runs.specs.Machine.{Machine}
use Rattle.runs.specs.inner.Laws.{Laws}
use Rattle.runs.specs.Waiting.{Count}
use Rattle.runs.specs.inner.Search.{Thread, next, waiting_count, origin, end_of}
use Rattle.runs.proofs.Stretch.{none-waits}
use Rattle.runs.proofs.Reach.{Exact, exact-next, exact-origin, exact-count}

module _ (M : Machine) (L : Laws M) where
  open M use {events}

  -- the live threads from i before event n
  record Lives (i n : ℕ) : Type 0 where
    pub list : List (Thread M)
    pub exact : Exact M i n list

  none_yet : (i n : ℕ) → i ≡ n → Lives i n
  none_yet i n e = record { list = origin M; exact = subst (λ z. Exact M i z (origin M)) e (exact-origin M L i) }

  one_more : (i n : ℕ) → n < events → (i ≤ n → Lives i n) → (i ≡ suc n) ⊎ (i < suc n) → Lives i (suc n)
  one_more i n l back (inl e) = none_yet i (suc n) e
  one_more i n l back (inr k) =
      let x = back (omega (arith, k)) in
      record { list = next M n x.list; exact = exact-next M i n x.list (omega (arith, k)) l x.exact }

  lives : (i n : ℕ) → i ≤ n → n ≤ events → Lives i n
  lives i zero h l = none_yet i zero (omega (arith, h))
  lives i (suc n) h l = one_more i n (omega (arith, l)) (λ k. lives i n k (omega (arith, l))) (eq-or-lt_of_le h)

  -- so many wait after n
  pub record Some (i n : ℕ) : Type 0 where
    pub number : ℕ
    pub count : Count M i n number

  pub some-count : (i n : ℕ) → i ≤ n → n < events → Some i n
  some-count i n h l = go (dec_lt n (end_of M i))
    where
      go : Dec (n < end_of M i) → Some i n
      go (yes b) =
          let x = lives i (suc n) (omega (arith, h)) (omega (arith, l)) in
          record { number = waiting_count M n x.list; count = exact-count M L i n x.list h b x.exact }
      go (no b) = record { number = 0; count = none-waits M L i n h l (omega (arith, b)) }
