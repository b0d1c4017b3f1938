-- A value and its 4 bytes determine each other; past the end there are only zeros.
use Prim.Native.Nat.{ℕ, zero, suc, ◌+◌, ◌*◌, ◌/◌, ◌%◌, ◌<◌, ◌≤◌}
use mathlib.Core.Path.{◌≡◌}
use mathlib.Core.List.{List, [], ◌∷◌, ◌++◌}
use native.Mathlib.Omega.{arith}
use native.Mathlib.Nat.{add-zero, add_assoc}
use lib.ListN.{length, get_or, drop, get_or-eq_default}
use lib.Seq.{get_or-append-add}
use Rattle.base.proofs.Lists.{drop-next}
use Rattle.base.specs.Value.{bytes_of, value_at}
use Rattle.base.specs.Lists.{Bytes}

-- past the end the value is 0
pub value-past : (l : List ℕ) (at : ℕ) → length l ≤ at → value_at l at ≡ 0
unfolding value_at
value-past l at h =
    let a : get_or l at 0 ≡ 0 = get_or-eq_default l 0 h in
    let b : get_or l (at + 1) 0 ≡ 0 = get_or-eq_default l 0 (omega arith) in
    let c : get_or l (at + 2) 0 ≡ 0 = get_or-eq_default l 0 (omega arith) in
    let d : get_or l (at + 3) 0 ≡ 0 = get_or-eq_default l 0 (omega arith) in
    omega arith

-- what stands behind p is read at p's length
pub value-behind : (p q : List ℕ) → value_at (p ++ q) (length p) ≡ value_at q 0
unfolding value_at
value-behind p q = rw (← add-zero (length p), get_or-append-add p q 0 0, add-zero, get_or-append-add p q 1 0, get_or-append-add p q 2 0, get_or-append-add p q 3 0)

-- the value is read back from its bytes, wherever they stand
pub value-of-bytes : (p : List ℕ) (v : ℕ) (q : List ℕ) → v < 4294967296 → value_at (p ++ (bytes_of v ++ q)) (length p) ≡ v
unfolding value_at bytes_of
value-of-bytes p v q h = rw (value-behind p (bytes_of v ++ q)) (omega arith)

-- four bytes are those of the value that they make
four : (a b c d : ℕ) → a < 256 → b < 256 → c < 256 → d < 256 → bytes_of (a * 16777216 + b * 65536 + c * 256 + d) ≡ a ∷ b ∷ c ∷ d ∷ []
unfolding bytes_of
four a b c d ha hb hc hd =
    let q₁ : (a * 16777216 + b * 65536 + c * 256 + d) / 256 ≡ a * 65536 + b * 256 + c = omega arith in
    let q₂ : (a * 65536 + b * 256 + c) / 256 ≡ a * 256 + b = omega arith in
    let q₃ : (a * 256 + b) / 256 ≡ a = omega arith in
    let e₃ : (a * 16777216 + b * 65536 + c * 256 + d) % 256 ≡ d = omega arith in
    let e₂ : (a * 65536 + b * 256 + c) % 256 ≡ c = omega arith in
    let e₁ : (a * 256 + b) % 256 ≡ b = omega arith in
    let e₀ : a % 256 ≡ a = omega arith in
    rw (q₁, q₂, q₃, e₃, e₂, e₁, e₀)

-- an element of a list of bytes is a byte
pub byte-below : (l : List ℕ) (i : ℕ) → Bytes l → get_or l i 0 < 256
byte-below [] i h = omega arith
byte-below (x ∷ xs) zero h = h.0
byte-below (x ∷ xs) (suc i) h = byte-below xs i h.1

-- the bytes are those of the value that they make
pub bytes-of-value : (l : List ℕ) (at : ℕ) → Bytes l → at + 4 ≤ length l → drop at l ≡ bytes_of (value_at l at) ++ drop (at + 4) l
unfolding value_at
bytes-of-value l at h k =
    let k₁ : at + 1 < length l = omega arith in
    let k₂ : at + 2 < length l = omega arith in
    let k₃ : at + 3 < length l = omega arith in
    let k₀ : at < length l = omega arith in
    let e = four (get_or l at 0) (get_or l (at + 1) 0) (get_or l (at + 2) 0) (get_or l (at + 3) 0) (byte-below l at h) (byte-below l (at + 1) h)
    (byte-below l (at + 2) h) (byte-below l (at + 3) h) in
    rw (e, drop-next l at, drop-next l (at + 1), add_assoc at 1 1, drop-next l (at + 2), add_assoc at 2 1, drop-next l (at + 3), add_assoc at 3 1)
