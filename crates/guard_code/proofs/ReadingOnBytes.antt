-- What the code reads at an offset: each step of it gives what the definitions give.
use Prim.Native.Nat.{ℕ, zero, suc, ◌+◌, ◌-◌, ◌<◌, ◌≤◌}
use mathlib.Core.Path.{◌≡◌, refl, ap, sym, ◌∙◌}
use mathlib.Core.Bool.{Bool, true, cond}
use mathlib.Core.List.{List, ◌++◌, append_assoc, append-nil}
use native.Mathlib.Omega.{arith}
use native.Mathlib.Nat.{add-zero}
use borrow.Author.Tests.{ne_eqb}
use lib.ListN.{length, get_or, take, drop, length-append, length-drop}
use lib.Seq.{get_or-drop, drop-drop}
use lib.Dec.{eqb}
use Rattle.std.specs.Prelude.{Option, None, Some}
use Rattle.std.proofs.lemmas.List.{take_at, drop_all}
use Rattle.base.specs.Lists.{pad, some_below}
use Rattle.base.specs.Value.{value_at}
use Rattle.base.proofs.Lists.{rest-drop, pad-whole}
use Rattle.machine.specs.Guard.{truth}
use Rattle.guard_code.specs.declared.guard.Reading.{Reading}
use Rattle.guard_code.specs.inner.Bytes.{operands_of, applied, leaf_first, leaf_in, leaf_whole, Evaluated, nothing}
use Rattle.guard_code.specs.inner.Bytes.{evaluated_second, evaluated_first, leaf_or, compound, evaluated, guard_at, leaf_value}
use Rattle.guard_code.specs.inner.Reading.{placed, constant_placed, leaf_placed}
use Rattle.guard_code.proofs.GuardOnBytes.{rest}

-- a command without operands at an offset: none whole, a constant, any other
byte-behind : (part : List ℕ) (at : ℕ) → get_or (drop at part) 0 0 ≡ get_or part at 0
byte-behind part at = get_or-drop at part 0 0 ∙ ap (λ k. get_or part k 0) (add-zero at)

module _ (part : List ℕ) (at : ℕ) (leaves : List ℕ) where
  pub leaf-short : length part - at < 2 → None ≡ leaf_placed at (leaf_in leaves) (drop at part)
  unfolding leaf_placed leaf_whole
  leaf-short h = grind (arith, length-drop at part)

  module _ {o : ℕ} (e : o ≡ get_or part at 0) where
    value-behind : value_at (drop at part) 1 ≡ value_at part (at + 1)
    unfolding value_at
    value-behind =
        let e : at + 1 + 1 ≡ at + 2 = omega arith in
        let f : at + 1 + 2 ≡ at + 3 = omega arith in
        let g : at + 1 + 3 ≡ at + 4 = omega arith in
        rw (e, f, g, get_or-drop at part 1 0, get_or-drop at part 2 0, get_or-drop at part 3 0, get_or-drop at part 4 0)

    pub leaf-constant : o ≡ 0x20 → at ≤ length part → constant_placed at part ≡ leaf_placed at (leaf_in leaves) (drop at part)
    unfolding leaf_placed leaf_whole leaf_in
    leaf-constant h k = grind (arith, byte-behind part at, value-behind, length-drop at part)

    pub leaf-other : (o ≡ 0x20 → ⊥) → some_below 36 (leaf_first o) ≡ None → None ≡ leaf_placed at (leaf_in leaves) (drop at part)
    unfolding leaf_placed leaf_whole
    leaf-other h f = grind (arith, byte-behind part at)

    pub leaf-value : {n q v : ℕ} → (o ≡ 0x20 → ⊥) → some_below 36 (leaf_first o) ≡ Some n → 2 ≤ length part - at
        → q ≡ get_or part (at + 1) 0 → v ≡ get_or leaves (n + q) 0
        → ◌≡◌ {A = Option Reading} (Some (record { value = v; next = at + 2 })) (leaf_placed at (leaf_in leaves) (drop at part))
    unfolding leaf_placed leaf_whole leaf_in
    leaf-value h f k r g = grind (arith, byte-behind part at, get_or-drop at part 1 0, length-drop at part)

-- an operand: a command without operands, where one stands there whole, or one with operands
module _ (at n : ℕ) (leaf : List ℕ → ℕ) (l : List ℕ) {a : Reading} where
  pub by-leaf : Some a ≡ leaf_placed at leaf l → a ≡ placed at (evaluated n leaf l)
  unfolding evaluated leaf_or leaf_placed
  by-leaf h = grind arith

  pub by-operands : None ≡ leaf_placed at leaf l → a ≡ placed at (compound n leaf l) → a ≡ placed at (evaluated n leaf l)
  unfolding evaluated leaf_or leaf_placed
  by-operands h e = grind arith

-- what has a record's value and bytes is placed there
placed-as : (at : ℕ) {e : Evaluated} (u : Evaluated) → e ≡ u → {v n : ℕ} → v ≡ u.value → n ≡ at + u.used → record { value = v; next = n } ≡ placed at e
placed-as at u e f g = rw (e, f, g)

-- nothing nested, and no command with operands
pub read_none : (at : ℕ) {n : ℕ} (leaf : List ℕ → ℕ) (l : List ℕ) → n ≡ 0 → record { value = 0; next = at } ≡ placed at (compound n leaf l)
unfolding compound
read_none at leaf l h = placed-as at nothing (rw h) refl (sym (add-zero at))

compound-step : (n : ℕ) (leaf : List ℕ → ℕ) (l : List ℕ) → (n ≡ 0 → ⊥)
    → compound n leaf l
    ≡ cond (eqb (operands_of (get_or l 0 0)) 0) nothing (evaluated_first (evaluated (n - 1) leaf) l (evaluated (n - 1) leaf (drop 1 l)))
unfolding compound evaluated
compound-step zero leaf l h = absurd (h refl)
compound-step (suc n) leaf l h = let e : suc n - 1 ≡ n = omega arith in rw e

two-left : (c : ℕ) → (operands_of c ≡ 0 → ⊥) → (c ≡ 0x28 → ⊥) → (c ≡ 0x2B → ⊥) → operands_of c ≡ 2
unfolding operands_of
two-left c h n k = grind arith

not-one : (c : ℕ) → (c ≡ 0x28 → ⊥) → operands_of c ≡ 1 → ⊥
unfolding operands_of
not-one c n h = grind arith

-- the operand at k, of a command nested so deep
abbrev pub operand : ℕ → (List ℕ → ℕ) → List ℕ → ℕ → Evaluated
operand depth leaf part k = evaluated (depth - 1) leaf (drop k part)

-- A command with operands, with the byte o, where commands may nest so deep: its operands are read each behind the one before.
module _ (depth at : ℕ) (leaf : List ℕ → ℕ) (part : List ℕ) {o : ℕ} (deep : depth ≡ 0 → ⊥) (byte : o ≡ get_or part at 0) where
  pub first_byte : get_or (drop at part) 0 0 ≡ o
  first_byte = byte-behind part at ∙ sym byte

  pub read-other : operands_of o ≡ 0 → record { value = 0; next = at } ≡ placed at (compound depth leaf (drop at part))
  read-other z = placed-as at nothing (rw (compound-step depth leaf (drop at part) deep, first_byte, z)) refl (sym (add-zero at))

  module _ (some : operands_of o ≡ 0 → ⊥) {a : Reading} (p : a ≡ placed (at + 1) (operand depth leaf part (at + 1))) where
    abbrev x : Evaluated
    x = operand depth leaf part (at + 1)

    abbrev y : Evaluated
    y = operand depth leaf part a.next

    behind-command : compound depth leaf (drop at part) ≡ evaluated_first (evaluated (depth - 1) leaf) (drop at part) x
    behind-command = rw (compound-step depth leaf (drop at part) deep, first_byte, ne_eqb (operands_of o) 0 some, drop-drop 1 at part)

    pub first-value : a.value ≡ x.value
    first-value = ap (λ (r : Reading). r.value) p

    first-next : a.next ≡ at + 1 + x.used
    first-next = ap (λ (r : Reading). r.next) p

    pub read_one : {v : ℕ} → o ≡ 0x28 → v ≡ applied 0x28 a.value 0 0 → record { value = v; next = a.next } ≡ placed at (compound depth leaf (drop at part))
    unfolding evaluated_first operands_of
    read_one h f =
        placed-as at (record { value = applied 0x28 x.value 0 0; used = 1 + x.used }) (rw (behind-command, first_byte, h)) (f ∙ rw first-value)
        (omega (arith, first-next))

    pub behind-first : (o ≡ 0x28 → ⊥) → compound depth leaf (drop at part) ≡ evaluated_second (evaluated (depth - 1) leaf) (drop at part) x y
    unfolding evaluated_first
    behind-first h =
        let e : at + (1 + x.used) ≡ a.next = omega (arith, first-next) in
        rw (behind-command, first_byte, ne_eqb (operands_of o) 1 (not-one o h), drop-drop (1 + x.used) at part, e)

    module _ {b : Reading} (q : b ≡ placed a.next y) where
      second-value : b.value ≡ y.value
      second-value = ap (λ (r : Reading). r.value) q

      second-next : b.next ≡ a.next + y.used
      second-next = ap (λ (r : Reading). r.next) q

      pub read-two : {v : ℕ} → (o ≡ 0x28 → ⊥) → (o ≡ 0x2B → ⊥) → v ≡ applied o a.value b.value 0
          → record { value = v; next = b.next } ≡ placed at (compound depth leaf (drop at part))
      unfolding evaluated_second
      read-two n h f =
          placed-as at (record { value = applied o x.value y.value 0; used = 1 + x.used + y.used })
          (rw (behind-first n, first_byte, two-left o some n h)) (f ∙ rw (first-value, second-value)) (omega (arith, first-next, second-next))

      pub third-place : drop (1 + x.used + y.used) (drop at part) ≡ drop b.next part
      third-place =
          let e : at + (1 + x.used + y.used) ≡ b.next = omega (arith, first-next, second-next) in
          rw (drop-drop (1 + x.used + y.used) at part, e)

      pub read-three : {d : Reading} {v : ℕ} → o ≡ 0x2B → d ≡ placed b.next (operand depth leaf part b.next) → v ≡ applied 0x2B a.value b.value d.value
          → record { value = v; next = d.next } ≡ placed at (compound depth leaf (drop at part))
      unfolding evaluated_second operands_of
      read-three {d} h r f =
          let z = operand depth leaf part b.next in
          let value : d.value ≡ z.value = ap (λ (r : Reading). r.value) r in
          let next : d.next ≡ b.next + z.used = ap (λ (r : Reading). r.next) r in
          placed-as at (record { value = applied 0x2B x.value y.value z.value; used = 1 + x.used + y.used + z.used })
          (rw (behind-first (λ e. omega arith), first_byte, third-place, h)) (f ∙ rw (first-value, second-value, value))
          (omega (arith, first-next, second-next, next))

-- the leaves' values, laid out one behind the other
pub laid-leaves : (values tallies counters l₀ : List ℕ) {l₁ l₂ l₃ : List ℕ} → length values ≡ 8 → length tallies ≡ 12 → length counters ≡ 16 → length l₀ ≡ 36
    → l₁ ≡ take 0 l₀ ++ (values ++ drop (0 + length values) l₀) → l₂ ≡ take 8 l₁ ++ (tallies ++ drop (8 + length tallies) l₁)
    → l₃ ≡ take 20 l₂ ++ (counters ++ drop (20 + length counters) l₂) → l₃ ≡ pad 8 0 values ++ (pad 12 0 tallies ++ counters)
laid-leaves values tallies counters l₀ {l₁} {l₂} p q r z f g h =
    let first : take 8 l₁ ≡ values = rw f (take_at values (drop (0 + length values) l₀) 8 p) in
    let long : length l₁ ≡ 36 = omega (arith, ap length f, length-append values (drop (0 + length values) l₀), length-drop (0 + length values) l₀) in
    let e : l₂ ≡ values ++ (tallies ++ drop (8 + length tallies) l₁) = rw first at g in
    let both : length (values ++ tallies) ≡ 20 = omega (arith, length-append values tallies) in
    let second : take 20 l₂ ≡ values ++ tallies = rw (e, ← append_assoc values tallies (drop (8 + length tallies) l₁)) (take_at (values ++ tallies) (drop (8 + length tallies) l₁) 20 both) in
    let all : length l₂ ≤ 20 + length counters =
    omega (
      arith,
      ap length e,
      length-append values (tallies ++ drop (8 + length tallies) l₁),
      length-append tallies (drop (8 + length tallies) l₁),
      length-drop (8 + length tallies) l₁,
    ) in
    h
    ∙ rw (
      second,
      drop_all (20 + length counters) l₂ all,
      append-nil counters,
      pad-whole 8 0 values p,
      pad-whole 12 0 tallies q,
      append_assoc values tallies counters,
    )

-- the guard at an offset, lent as the part behind its command
pub guard-read : (values counters tallies leaves f : List ℕ) (at : ℕ) {o : ℕ} {r : Bool} → o ≡ get_or f at 0 → o ≡ 0x15
    → leaves ≡ pad 8 0 values ++ (pad 12 0 tallies ++ counters) → r ≡ truth (evaluated 8 (leaf_in leaves) (rest f (at + 1))).value
    → r ≡ guard_at (leaf_value values counters tallies) f at
unfolding guard_at leaf_value
guard-read values counters tallies leaves f at p k q h = h ∙ rw (← p, k, q, rest-drop f (at + 1))

pub guard_none : (leaf : List ℕ → ℕ) (f : List ℕ) (at : ℕ) {o : ℕ} → o ≡ get_or f at 0 → (o ≡ 0x15 → ⊥) → true ≡ guard_at leaf f at
unfolding guard_at
guard_none leaf f at {o} p k = rw (← p, ne_eqb o 0x15 k)
