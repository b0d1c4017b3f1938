-- A flag as 0 or 1, and flags as the bits of a number: "bit v set if variable v is held".
use Rattle.std.specs.Prelude.{ℕ, zero, suc, ◌+◌, ◌*◌, ◌/◌, ◌%◌, Bool, cond, List, [], ◌∷◌, eqb}

-- 1 where the flag is set, else 0
abbrev pub bit : Bool → ℕ
bit flag = cond flag 1 0

-- bit v is set where flag v is
unfoldable pub mask : List Bool → ℕ
mask [] = 0
mask (h ∷ hs) = bit h + 2 * mask hs

-- the lowest n bits of a number, as flags
unfoldable pub bits_of : ℕ → ℕ → List Bool
bits_of zero m = []
bits_of (suc n) m = eqb (m % 2) 1 ∷ bits_of n (m / 2)
