-- Laws on lists that several layers cite.
use Prim.Native.Nat.{ℕ, zero, suc, ◌+◌, ◌-◌, ◌<◌}
use mathlib.Core.Path.{◌≡◌, refl, ap, ◌∙◌}
use mathlib.Core.List.{List, [], ◌∷◌, ◌++◌, append-nil, append_assoc, flat_map}
use native.Mathlib.Numerals.{add-one}
use native.Mathlib.Omega.{arith}
use lib.ListN.{length, get_or, take, drop, set, replicate, length-drop}
use lib.Seq.{take_all, drop-cons}
use Rattle.base.specs.Lists.{All, Bytes, pad}

-- a list from `at` on is the element there and the list from the next place on
pub drop-next : (l : List ℕ) (at : ℕ) → at < length l → drop at l ≡ get_or l at 0 ∷ drop (at + 1) l
drop-next l at h = rw (add-one, drop-cons l at 0)

-- the part of a list from k on, as it is lent, is the list from k on; its length
pub rest-drop : (l : List ℕ) (k : ℕ) → take (length l - k) (drop k l) ≡ drop k l
rest-drop l k = take_all (length l - k) (drop k l) (omega (arith, length-drop k l))

pub rest-length : (l : List ℕ) (k : ℕ) → length (take (length l - k) (drop k l)) ≡ length l - k
rest-length l k = ap length (rest-drop l k) ∙ length-drop k l

-- a list whose every element is a byte
pub all-bytes : (l : List ℕ) → ((i : ℕ) → get_or l i 0 < 256) → Bytes l
all-bytes [] h = tt
all-bytes (x ∷ xs) h = (h 0, all-bytes xs (λ i. h (suc i)))

module _ {A : Type 0} where
  pub length-pad : (n : ℕ) (d : A) (xs : List A) → length (pad n d xs) ≡ n
  unfolding pad
  length-pad zero d xs = refl
  length-pad (suc n) d [] = ap suc (length-pad n d [])
  length-pad (suc n) d (x ∷ xs) = ap suc (length-pad n d xs)

  -- a list of one element only is that element at every index
  pub replicate-at : (n i : ℕ) (a : A) → get_or (replicate n a) i a ≡ a
  replicate-at zero i a = refl
  replicate-at (suc n) zero a = refl
  replicate-at (suc n) (suc i) a = replicate-at n i a

  -- padding does not change what is read
  pub get_d-pad : (n : ℕ) (d : A) (xs : List A) (k : ℕ) → k < n → get_or (pad n d xs) k d ≡ get_or xs k d
  unfolding pad
  get_d-pad zero d xs k h = absurd (omega arith)
  get_d-pad (suc n) d [] zero h = refl
  get_d-pad (suc n) d [] (suc k) h = get_d-pad n d [] k (omega arith)
  get_d-pad (suc n) d (x ∷ xs) zero h = refl
  get_d-pad (suc n) d (x ∷ xs) (suc k) h = get_d-pad n d xs k (omega arith)

  -- storing behind the last element adds one
  pub set-pad : (n : ℕ) (d : A) (xs : List A) (y : A) → length xs < n → set (pad n d xs) (length xs) y ≡ pad n d (xs ++ (y ∷ []))
  unfolding pad
  set-pad zero d xs y h = absurd (omega arith)
  set-pad (suc n) d [] y h = refl
  set-pad (suc n) d (x ∷ xs) y h = ap (λ l. x ∷ l) (set-pad n d xs y (omega arith))

  -- so does storing the next of a list that grows by one
  pub store : (d : A) (f : ℕ → List A) (k : ℕ) (y : A) (array : List A) → k < 8 → length (f k) ≡ k → f (suc k) ≡ f k ++ (y ∷ []) → array ≡ pad 8 d (f k)
      → set array k y ≡ pad 8 d (f (k + 1))
  store d f k y array h n e a = rw (add-one k, e, ← set-pad 8 d (f k) y (rw n h), n, a)

  -- a list with an element for every place
  pub pad-whole : (n : ℕ) (d : A) (xs : List A) → length xs ≡ n → pad n d xs ≡ xs
  unfolding pad
  pad-whole zero d [] h = refl
  pad-whole zero d (x ∷ xs) h = absurd (omega arith)
  pad-whole (suc n) d [] h = absurd (omega arith)
  pad-whole (suc n) d (x ∷ xs) h = ap (λ l. x ∷ l) (pad-whole n d xs (omega arith))

  -- what holds of every element of two lists holds of every element of both in a row
  pub All-append : (P : A → Type 0) (xs ys : List A) → All P xs → All P ys → All P (xs ++ ys)
  All-append P [] ys h k = k
  All-append P (x ∷ xs) ys h k = (h.0, All-append P xs ys h.1 k)

  -- what holds of every element holds of the one at an index
  pub All-at : (P : A → Type 0) (xs : List A) (n : ℕ) (d : A) → All P xs → n < length xs → P (get_or xs n d)
  All-at P [] n d h k = absurd (omega arith)
  All-at P (x ∷ xs) zero d h k = h.0
  All-at P (x ∷ xs) (suc n) d h k = All-at P xs n d h.1 (omega arith)

module _ {A B : Type 0} (f : A → List B) where
  pub flat_map-append : (xs ys : List A) → flat_map f (xs ++ ys) ≡ flat_map f xs ++ flat_map f ys
  unfolding flat_map
  flat_map-append [] ys = refl
  flat_map-append (x ∷ xs) ys = rw (flat_map-append xs ys, append_assoc)

  -- one element more adds its part at the end
  pub flat_map-more : (xs : List A) (x : A) → flat_map f (xs ++ (x ∷ [])) ≡ flat_map f xs ++ f x
  unfolding flat_map
  flat_map-more xs x = rw (flat_map-append xs (x ∷ []), append-nil (f x))
