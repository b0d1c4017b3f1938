-- Plain words for lists: members, no repeats.
use mathlib.Core.List.{List, [], ◌∷◌, Memᴰ}

module _ {A : Type 0} where
  -- a is a member of the list
  abbrev pub In : A → List A → Type 0
  In a xs = Memᴰ a xs

  -- no member stands twice
  abbrev pub Distinct : List A → Type 0
  Distinct [] = Unit {0}
  Distinct (x ∷ xs) = (In x xs → ⊥) × Distinct xs
