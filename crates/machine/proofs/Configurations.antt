-- Two configurations are the same exactly when they are equal; the counters add up to the number of steps taken.
use Prim.Native.Nat.{ℕ, zero, suc, ◌+◌, ◌≤◌, ◌<◌}
use mathlib.Core.Path.{◌≡◌, refl, ap}
use mathlib.Core.Bool.{Bool, true, false, ◌&&◌, beq, false≢true}
use mathlib.Core.List.{List, [], ◌∷◌}
use native.Mathlib.Omega.{arith}
use lib.ListN.{length, get_or, set}
use lib.Dec.{eqb}
use borrow.Author.Tests.{eqb-true, eq-eqb}
use Rattle.base.specs.Lists.{same_list}
use Rattle.base.proofs.Same.{list-equal, list_same}
use Rattle.machine.specs.Configuration.{Config, same, add_one}
use Rattle.machine.specs.Guard.{total}
use Rattle.base.proofs.Tests.{and_left, and_right}

bool-equal : (a b : Bool) → beq a b ≡ true → a ≡ b
bool-equal true true h = refl
bool-equal true false h = absurd (false≢true h)
bool-equal false true h = absurd (false≢true h)
bool-equal false false h = refl

bool_same : (a : Bool) → beq a a ≡ true
bool_same true = refl
bool_same false = refl

-- configurations with equal parts are equal
equal-parts : (c d : Config) → c.state ≡ d.state → c.held ≡ d.held → c.values ≡ d.values → c.counters ≡ d.counters → c.lists ≡ d.lists → c ≡ d
equal-parts c d p q r s t =
    made c.state d.state c.held d.held c.values d.values c.counters d.counters c.lists d.lists p q r s t
  where
    made : (a a' : ℕ) (h h' : List Bool) (x x' : List ℕ) (n n' : List ℕ) (l l' : List (List ℕ)) → a ≡ a' → h ≡ h' → x ≡ x' → n ≡ n' → l ≡ l'
        → ◌≡◌ {A = Config} (record { state = a; held = h; values = x; counters = n; lists = l })
        (record { state = a'; held = h'; values = x'; counters = n'; lists = l' })
    made a a' h h' x x' n n' l l' p q r s t = rw (p, q, r, s, t)

pub same_equal : (c d : Config) → same c d ≡ true → c ≡ d
unfolding same
same_equal c d h =
    let p₁ = eqb c.state d.state in
    let p₂ = same_list beq c.held d.held in
    let p₃ = same_list eqb c.values d.values in
    let p₄ = same_list eqb c.counters d.counters in
    let p₅ = same_list (same_list eqb) c.lists d.lists in
    let h₄ = and_left (p₁ && p₂ && p₃ && p₄) p₅ h in
    let h₃ = and_left (p₁ && p₂ && p₃) p₄ h₄ in
    let h₂ = and_left (p₁ && p₂) p₃ h₃ in
    equal-parts c d (eqb-true c.state d.state (and_left p₁ p₂ h₂)) (list-equal beq bool-equal c.held d.held (and_right p₁ p₂ h₂))
    (list-equal eqb eqb-true c.values d.values (and_right (p₁ && p₂) p₃ h₃))
    (list-equal eqb eqb-true c.counters d.counters (and_right (p₁ && p₂ && p₃) p₄ h₄))
    (list-equal (same_list eqb) (list-equal eqb eqb-true) c.lists d.lists (and_right (p₁ && p₂ && p₃ && p₄) p₅ h))

pub equal_same : (c : Config) → same c c ≡ true
unfolding same
equal_same c =
    let e : (x : ℕ) → eqb x x ≡ true = λ x. eq-eqb x x refl in
    rw (
      e c.state,
      list_same beq bool_same c.held,
      list_same eqb e c.values,
      list_same eqb e c.counters,
      list_same (same_list eqb)
          (list_same eqb e) c.lists,
    )

-- adding one to a counter adds one to the sum
pub total-add-one : (l : List ℕ) (s : ℕ) → total (add_one l s) ≡ suc (total l)
total-add-one [] zero = refl
total-add-one [] (suc s) = omega (arith, total-add-one [] s)
total-add-one (x ∷ xs) zero = omega arith
total-add-one (x ∷ xs) (suc s) = omega (arith, total-add-one xs s)

-- no counter is larger than the sum
pub counter-le-total : (l : List ℕ) (s : ℕ) → get_or l s 0 ≤ total l
counter-le-total [] s = omega arith
counter-le-total (x ∷ xs) zero = omega arith
counter-le-total (x ∷ xs) (suc s) = omega (arith, counter-le-total xs s)

-- the counter of a declared state: one place of the list is set
pub add-one-set : (l : List ℕ) (s : ℕ) → s < length l → add_one l s ≡ set l s (get_or l s 0 + 1)
add-one-set [] s h = absurd (omega arith)
add-one-set (x ∷ xs) zero h = let e : suc x ≡ x + 1 = omega arith in rw e
add-one-set (x ∷ xs) (suc s) h = ap (λ (r : List ℕ). x ∷ r) (add-one-set xs s (omega arith))

pub length-add-one : (l : List ℕ) (s : ℕ) → s < length l → length (add_one l s) ≡ length l
length-add-one [] s h = absurd (omega arith)
length-add-one (x ∷ xs) zero h = refl
length-add-one (x ∷ xs) (suc s) h = ap suc (length-add-one xs s (omega arith))
