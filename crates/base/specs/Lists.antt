-- Predicates on lists, lists of a fixed length as arrays hold them, lists compared, and what a search found.
use Rattle.std.specs.Prelude.{ℕ, zero, suc, ◌<◌, Bool, true, false, cond, ◌&&◌, List, [], ◌∷◌, ltb, Option, Some, None}

-- every element of the list has the property
abbrev pub All {ℓ} : {A : Type ℓ} → (A → Type 0) → List A → Type 0
All P [] = Unit {0}
All P (x ∷ xs) = P x × All P xs

-- a list of bytes
abbrev pub Bytes : List ℕ → Type 0
Bytes = All (λ b. b < 256)

-- the first n elements; where there are fewer, d for each that is missing
unfoldable pub pad : {A : Type 0} → ℕ → A → List A → List A
pad zero d xs = []
pad (suc n) d [] = d ∷ pad n d []
pad (suc n) d (x ∷ xs) = x ∷ pad n d xs

-- two lists have the same elements, by a test on elements
abbrev pub same_list : {A : Type 0} → (A → A → Bool) → List A → List A → Bool
same_list same [] [] = true
same_list same [] (y ∷ ys) = false
same_list same (x ∷ xs) [] = false
same_list same (x ∷ xs) (y ∷ ys) = same x y && same_list same xs ys

-- a value where the test is true, else none
abbrev pub some_if : {A : Type 0} → Bool → A → Option A
some_if found x = cond found (Some x) None

-- what a search found among n, by a number that is n or more where it found nothing
abbrev pub some_below : ℕ → ℕ → Option ℕ
some_below n k = some_if (ltb k n) k
