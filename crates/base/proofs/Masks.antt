-- Masks bit by bit: made from the highest flag down, their size, the bit at a place; and read back.
use mir.Val.{bool_byte}
use Prim.Native.Nat.{ℕ, zero, suc, ◌+◌, ◌*◌, ◌/◌, ◌%◌, ◌^◌, ◌<◌, ◌≤◌}
use mathlib.Core.Path.{◌≡◌, refl, ap, ap₂, ◌∙◌}
use mathlib.Core.Bool.{Bool, true, false}
use mathlib.Core.List.{List, [], ◌∷◌, ◌++◌}
use native.Mathlib.Numerals.{add-one}
use native.Mathlib.Nat.{pow-suc, pow-succ', zero-div, div-div-eq-div-mul}
use native.Mathlib.Omega.{arith}
use lib.ListN.{length, get_or, drop, set}
use lib.Seq.{drop-cons}
use lib.Dec.{eqb}
use Rattle.base.specs.Lists.{pad}
use Rattle.base.specs.Mask.{bit, mask, bits_of}
use Rattle.base.proofs.Lists.{store}

-- one bit more of a mask is written, from the highest down
pub mask_next : (hs : List Bool) (v w : ℕ) → w + 1 ≡ v → w < length hs → bit (get_or hs w false) + 2 * mask (drop v hs) ≡ mask (drop w hs)
unfolding mask
mask_next hs v w e h = rw (drop-cons hs w false h, ← e, add-one w)

-- a flag as a number is its bit
pub bit-of-flag : (b : Bool) → bool_byte b ≡ bit b
bit-of-flag true = refl
bit-of-flag false = refl

pub bit-small : (h : Bool) → bit h < 2
bit-small true = omega arith
bit-small false = omega arith

-- n flags make a number of n bits
pub mask_below : (hs : List Bool) (n : ℕ) → length hs ≤ n → mask hs < 2 ^ n
unfolding mask
mask_below [] zero h = omega arith
mask_below [] (suc n) h = omega (arith, mask_below [] n (omega arith), pow-suc 2 n)
mask_below (x ∷ hs) zero h = absurd (omega arith)
mask_below (x ∷ hs) (suc n) h = omega (arith, bit-small x, mask_below hs n (omega arith), pow-suc 2 n)

-- bit v is flag v
pub mask-bit : (hs : List Bool) (v : ℕ) → mask hs / 2 ^ v % 2 ≡ bit (get_or hs v false)
unfolding mask
mask-bit [] v = rw (zero-div (2 ^ v))
mask-bit (h ∷ hs) zero = omega (arith, bit-small h)
mask-bit (h ∷ hs) (suc v) =
    let half : (bit h + 2 * mask hs) / 2 ≡ mask hs = omega (arith, bit-small h) in
    rw (pow-succ' 2 v, ← div-div-eq-div-mul (bit h + 2 * mask hs) 2 (2 ^ v), half) (mask-bit hs v)

-- the lowest bit, and the others
lowest : (h : Bool) (m : ℕ) → eqb ((bit h + 2 * m) % 2) 1 ≡ h
lowest true m = let e : (bit true + 2 * m) % 2 ≡ 1 = omega arith in rw e
lowest false m = let e : (bit false + 2 * m) % 2 ≡ 0 = omega arith in rw e

pub others : (h : Bool) (m : ℕ) → (bit h + 2 * m) / 2 ≡ m
others true m = omega arith
others false m = omega arith

-- as many bits as are asked for
pub length-bits : (m b : ℕ) → length (bits_of m b) ≡ m
unfolding bits_of
length-bits zero b = refl
length-bits (suc m) b = ap suc (length-bits m (b / 2))

-- one bit more stands behind those read
bits-more : (m b : ℕ) → bits_of (suc m) b ≡ bits_of m b ++ (eqb (b / 2 ^ m % 2) 1 ∷ [])
unfolding bits_of
bits-more zero b = let e : b / 2 ^ 0 ≡ b = omega arith in rw e
bits-more (suc m) b =
    let e : b / 2 / 2 ^ m ≡ b / 2 ^ suc m = rw (pow-succ' 2 m) (div-div-eq-div-mul b 2 (2 ^ m)) in
    ap (λ t. eqb (b % 2) 1 ∷ t) (bits-more m (b / 2) ∙ ap (λ x. bits_of m (b / 2) ++ (eqb (x % 2) 1 ∷ [])) e)

pub bits-store : (k b : ℕ) (x : Bool) (array : List Bool) → k < 8 → x ≡ eqb (b / 2 ^ k % 2) 1 → array ≡ pad 8 false (bits_of k b)
    → set array k x ≡ pad 8 false (bits_of (k + 1) b)
bits-store k b x array h e f = store false (λ m. bits_of m b) k x array h (length-bits k b) (rw e (bits-more k b)) f

-- flags are read back from their mask
pub bits_back : (hs : List Bool) → bits_of (length hs) (mask hs) ≡ hs
unfolding bits_of mask
bits_back [] = refl
bits_back (h ∷ hs) = ap₂ (λ x l. x ∷ l) (lowest h (mask hs)) (rw (others h (mask hs)) (bits_back hs))

-- halving goes on, for the next bit
pub halve : (b k r : ℕ) → r ≡ b / 2 ^ k → r / 2 ≡ b / 2 ^ (k + 1)
halve b k r e = rw (add-one k, e, pow-suc 2 k) (div-div-eq-div-mul b (2 ^ k) 2)
