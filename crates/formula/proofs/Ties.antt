-- The mask of tied variables: made of flags that say which are tied; below 256, and bit v is set exactly when variable v is tied.
use Prim.Native.Nat.{ℕ, zero, suc, ◌+◌, ◌*◌, ◌/◌, ◌%◌, ◌^◌, ◌<◌}
use mathlib.Core.Path.{◌≡◌, ap, sym, ◌∙◌}
use mathlib.Core.Bool.{Bool, true, false, cond}
use mathlib.Core.List.{List, [], ◌∷◌}
use native.Mathlib.Omega.{arith}
use native.Mathlib.Nat.{pow-suc, mul_assoc, mul-add, mul-one, mul-zero, one-mul, zero-add}
use lib.ListN.{length, get_or}
use Rattle.base.specs.Mask.{bit, mask}
use Rattle.base.proofs.Masks.{mask-bit as flag-bit}
use Rattle.formula.specs.Formula.{Formula}
use Rattle.formula.specs.Lookup.{is_tied, mask_from, tied_mask}

bit-shift : (b : Bool) (p d : ℕ) → cond b p 0 + p * 2 * d ≡ p * (bit b + 2 * d)
bit-shift true p d = rw (mul-add p 1 (2 * d), mul-one, mul_assoc p 2 d)
bit-shift false p d = rw (zero-add (2 * d), zero-add (p * 2 * d), mul_assoc p 2 d)

-- flags that say which of the variables from v on are tied make their bits
pub mask-from : (ws : List ℕ) (v : ℕ) (hs : List Bool) → ((k : ℕ) → k < length hs → get_or hs k false ≡ is_tied (v + k) ws)
    → mask_from ws v (length hs) ≡ 2 ^ v * mask hs
unfolding mask_from mask
mask-from ws v [] h = rw (mul-zero (2 ^ v))
mask-from ws v (x ∷ hs) h =
    let same : (a b : ℕ) → a ≡ b → is_tied a ws ≡ is_tied b ws = λ a b e. ap (λ n. is_tied n ws) e in
    let first : is_tied v ws ≡ x = same v (v + 0) (omega arith) ∙ sym (h 0 (omega arith)) in
    let rest = mask-from ws (suc v) hs (λ k i. h (suc k) (omega arith) ∙ same (v + suc k) (suc v + k) (omega arith)) in
    rw (first, rest, pow-suc 2 v) (bit-shift x (2 ^ v) (mask hs))

-- which of the n variables from v on are tied
flags : List ℕ → ℕ → ℕ → List Bool
flags ws v zero = []
flags ws v (suc n) = is_tied v ws ∷ flags ws (suc v) n

flags-at : (ws : List ℕ) (v n k : ℕ) → k < n → get_or (flags ws v n) k false ≡ is_tied (v + k) ws
unfolding flags
flags-at ws v zero k h = absurd (omega arith)
flags-at ws v (suc n) zero h = let e : v ≡ v + 0 = omega arith in ap (λ w. is_tied w ws) e
flags-at ws v (suc n) (suc k) h = let e : suc v + k ≡ v + suc k = omega arith in flags-at ws (suc v) n k (omega arith) ∙ ap (λ w. is_tied w ws) e

whole : (f : Formula) → tied_mask f ≡ mask (flags f.tied 0 8)
unfolding tied_mask flags
whole f = mask-from f.tied 0 (flags f.tied 0 8) (flags-at f.tied 0 8) ∙ one-mul (mask (flags f.tied 0 8))

-- bit v of the mask is set exactly when v is tied
pub mask-bit : (f : Formula) (v : ℕ) → v < 8 → tied_mask f / 2 ^ v % 2 ≡ bit (is_tied v f.tied)
mask-bit f v h = rw (whole f) (flag-bit (flags f.tied 0 8) v ∙ ap bit (flags-at f.tied 0 8 v h ∙ ap (λ w. is_tied w f.tied) (zero-add v)))
