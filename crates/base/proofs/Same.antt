-- Lists compared one element after the other: they are the same exactly when they are equal, and what is left decides.
use Prim.Native.Nat.{ℕ, ◌+◌, ◌<◌, ◌≤◌}
use mathlib.Core.Path.{◌≡◌, refl, sym, ◌∙◌}
use mathlib.Core.Bool.{Bool, true, false, ◌&&◌, false≢true, and-eq-true_iff}
use mathlib.Core.List.{List, [], ◌∷◌}
use native.Mathlib.Numerals.{add-one}
use lib.ListN.{length, get_or, drop, drop_of_length-le}
use lib.Seq.{drop-cons}
use Rattle.base.specs.Lists.{same_list}

module _ {A : Type 0} (test : A → A → Bool) where
  -- lists that are the same are equal, where elements that are the same are
  pub list-equal : ((x y : A) → test x y ≡ true → x ≡ y) → (xs ys : List A) → same_list test xs ys ≡ true → xs ≡ ys
  list-equal f [] [] h = refl
  list-equal f [] (y ∷ ys) h = absurd (false≢true h)
  list-equal f (x ∷ xs) [] h = absurd (false≢true h)
  list-equal f (x ∷ xs) (y ∷ ys) h =
      let k = (and-eq-true_iff (test x y) (same_list test xs ys)).0 h in
      let p : x ≡ y = f x y k.0 in
      let q : xs ≡ ys = list-equal f xs ys k.1 in
      cc

  pub list_same : ((x : A) → test x x ≡ true) → (xs : List A) → same_list test xs xs ≡ true
  list_same f [] = refl
  list_same f (x ∷ xs) = (and-eq-true_iff (test x x) (same_list test xs xs)).1 (f x, list_same f xs)

module _ {A : Type 0} (test : A → A → Bool) (d : A) (xs ys : List A) where
  -- the lists agree as far as k: what is left decides
  abbrev pub Agreed : ℕ → Type 0
  Agreed k = same_list test xs ys ≡ same_list test (drop k xs) (drop k ys)

  step : (k : ℕ) → k < length xs → k < length ys
      → same_list test (drop k xs) (drop k ys) ≡ (test (get_or xs k d) (get_or ys k d) && same_list test (drop (k + 1) xs) (drop (k + 1) ys))
  step k h i = rw (drop-cons xs k d h, drop-cons ys k d i, add-one k)

  pub agreed-next : (k : ℕ) → k < length xs → k < length ys → test (get_or xs k d) (get_or ys k d) ≡ true → Agreed k → Agreed (k + 1)
  agreed-next k h i t a = a ∙ step k h i ∙ rw t

  pub agreed-not : (k : ℕ) → k < length xs → k < length ys → test (get_or xs k d) (get_or ys k d) ≡ false → Agreed k → false ≡ same_list test xs ys
  agreed-not k h i t a = sym (a ∙ step k h i ∙ rw t)

  pub agreed-end : (k : ℕ) → length xs ≤ k → length ys ≤ k → Agreed k → true ≡ same_list test xs ys
  agreed-end k h i a = sym (a ∙ rw (drop_of_length-le xs h, drop_of_length-le ys i))
