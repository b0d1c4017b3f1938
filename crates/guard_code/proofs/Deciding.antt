-- AND, OR and IF without the operands that their first makes needless: whether each is nonzero, by its first operand's value.
use Prim.Native.Nat.{ℕ, ◌+◌, ◌-◌, ◌<◌, ◌≤◌}
use mathlib.Core.Path.{◌≡◌, refl, ap, sym, ◌∙◌}
use mathlib.Core.Bool.{Bool, true, false, cond}
use mathlib.Core.List.{List}
use native.Mathlib.Omega.{arith}
use borrow.Author.Tests.{lt-ltb, le-ltb}
use lib.ListN.{get_or, drop}
use lib.Dec.{eqb}
use Rattle.base.specs.Mask.{bit}
use Rattle.machine.specs.Guard.{truth}
use Rattle.guard_code.specs.inner.Bytes.{operands_of, applied, leaf_width, leaf_whole, Evaluated}
use Rattle.guard_code.specs.inner.Bytes.{evaluated_second, leaf_or, compound, evaluated}
use Rattle.guard_code.proofs.GuardOnBytes.{whole}
use Rattle.guard_code.specs.declared.guard.Reading.{Reading}
use Rattle.guard_code.specs.inner.Reading.{placed}
use Rattle.guard_code.proofs.ReadingOnBytes.{operand, first_byte, first-value, behind-first, third-place}

-- what holds of the three commands holds of a byte among them
among : (P : ℕ → Type 0) (o : ℕ) → 0x29 ≤ o → o ≤ 0x2B → P 0x29 → P 0x2A → P 0x2B → P o
among P o low high p q r = grind arith

-- they have operands
pub decider-some : (o : ℕ) → 0x29 ≤ o → o ≤ 0x2B → operands_of o ≡ 0 → ⊥
unfolding operands_of
decider-some o low high = among (λ c. operands_of c ≡ 0 → ⊥) o low high (λ e. omega arith) (λ e. omega arith) (λ e. omega arith)

-- a flag's number is nonzero where the flag is set
truth-bit : (t : Bool) → truth (bit t) ≡ t
truth-bit true = refl
truth-bit false = refl

-- the value of a command of two or three operands by theirs, the third 0 where there are two
second-value : (read : List ℕ → Evaluated) (part : List ℕ) (a b : Evaluated)
    → (evaluated_second read part a b).value
    ≡ applied (get_or part 0 0) a.value b.value (cond (eqb (operands_of (get_or part 0 0)) 2) 0 (read (drop (1 + a.used + b.used) part)).value)
unfolding evaluated_second
second-value read part a b = grind arith

-- Such a command, with the byte o and the first operand a, where commands may nest so deep.
module _ (depth at : ℕ) (leaf : List ℕ → ℕ) (part : List ℕ) {o : ℕ} (deep : depth ≡ 0 → ⊥) (byte : o ≡ get_or part at 0) (low : 0x29 ≤ o) (high : o ≤ 0x2B)
    {a : Reading} (p : a ≡ placed (at + 1) (operand depth leaf part (at + 1))) where
  -- the expression is nonzero
  abbrev holds : Bool
  holds = truth (evaluated depth leaf (drop at part)).value

  abbrev second : Evaluated
  second = operand depth leaf part a.next

  -- the value of what stands behind two operands
  abbrev third : ℕ
  third = (evaluated (depth - 1) leaf (drop (1 + (operand depth leaf part (at + 1)).used + second.used) (drop at part))).value

  -- no command without operands stands there
  in-full : evaluated depth leaf (drop at part) ≡ compound depth leaf (drop at part)
  unfolding evaluated leaf_or
  in-full =
      let w : leaf_width (get_or (drop at part) 0 0) ≡ 0 = rw (first_byte depth at leaf part deep byte) (among (λ c. leaf_width c ≡ 0) o low high refl refl refl) in
      let n : leaf_whole (drop at part) ≡ 0 = whole (drop at part) (omega arith) ∙ w in
      rw n

  -- its value by its operands', the first's as the code knows it
  decider-value : (evaluated depth leaf (drop at part)).value ≡ applied o a.value second.value (cond (eqb (operands_of o) 2) 0 third)
  decider-value =
      rw (
        in-full,
        behind-first depth at leaf part deep byte (decider-some o low high) p (λ z. omega arith),
        second-value (evaluated (depth - 1) leaf) (drop at part) (operand depth leaf part (at + 1)) second,
        first_byte depth at leaf part deep byte,
        ← first-value depth at leaf part deep byte (decider-some o low high) p,
      )

  -- AND of a first that is 0, OR of one that is not
  pub and-fails : o ≡ 0x29 → a.value ≤ 0 → false ≡ holds
  unfolding applied
  and-fails h z = rw (decider-value, h, le-ltb 0 a.value z)

  pub or-holds : o ≡ 0x2A → 0 < a.value → true ≡ holds
  unfolding applied
  or-holds h n = rw (decider-value, h, lt-ltb 0 a.value n)

  -- IF of a first that is 0: as the third
  pub if-third : {b : Reading} {r : Bool} → o ≡ 0x2B → a.value ≤ 0 → b ≡ placed a.next second → r ≡ truth (operand depth leaf part b.next).value → r ≡ holds
  unfolding applied operands_of
  if-third h z q f =
      rw (decider-value, h, le-ltb 0 a.value z)
      (f ∙ ap (λ (j : List ℕ). truth (evaluated (depth - 1) leaf j).value) (sym (third-place depth at leaf part deep byte (decider-some o low high) p q)))

  -- OR of a first that is 0, AND and IF of one that is not: as the second
  pub as-second : {r : Bool} → (o ≡ 0x2A → a.value ≤ 0) → ((o ≡ 0x2A → ⊥) → 0 < a.value) → r ≡ truth second.value → r ≡ holds
  unfolding applied
  as-second {r} h n f =
      rw decider-value
      (among (λ c. (c ≡ 0x2A → a.value ≤ 0) → ((c ≡ 0x2A → ⊥) → 0 < a.value) → r ≡ truth (applied c a.value second.value (cond (eqb (operands_of o) 2) 0 third))) o
      low high
      (λ _ k. rw (lt-ltb 0 a.value (k (λ e. omega arith)), truth-bit) f)
      (λ k _. rw (le-ltb 0 a.value (k refl), truth-bit) f)
      (λ _ k. rw (lt-ltb 0 a.value (k (λ e. omega arith))) f) h n)
