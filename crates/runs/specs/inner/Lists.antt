-- Lists that the search builds: the members that pass a test, what every member gives in turn, each member once.
use Rattle.std.specs.Prelude.{Bool, true, false, not, ◌||◌, List, [], ◌∷◌, ◌++◌}

module _ {A : Type 0} where
  -- a first member, where a test holds, and the rest
  abbrev pub only : Bool → A → List A → List A
  only true x xs = x ∷ xs
  only false x xs = xs

  -- the members that pass a test
  unfoldable pub keep : (A → Bool) → List A → List A
  keep p [] = []
  keep p (x ∷ xs) = only (p x) x (keep p xs)

  -- what every member gives, in turn
  unfoldable pub in_turn : {B : Type 0} → (B → List A) → List B → List A
  in_turn f [] = []
  in_turn f (x ∷ xs) = f x ++ in_turn f xs

  -- whether a member is the same as a
  unfoldable pub has : (A → A → Bool) → A → List A → Bool
  has same a [] = false
  has same a (x ∷ xs) = same a x || has same a xs

  -- the list with each member once
  unfoldable pub distinct : (A → A → Bool) → List A → List A
  distinct same [] = []
  distinct same (x ∷ xs) =
      let rest = distinct same xs in
      only (not (has same x rest)) x rest
