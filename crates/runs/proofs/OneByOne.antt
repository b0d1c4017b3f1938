-- Inserting one by one within the slots: one list behind another, a thread that does not fit, and one that does.
use mathlib.Core.Path.{◌≡◌, refl, ap}
use mathlib.Core.Bool.{Bool, true, false}
use mathlib.Core.Option.{none}
use mathlib.Core.List.{List, [], ◌∷◌, ◌++◌}
use Prim.Native.Nat.{ℕ, ◌≤◌, ◌<◌}
use lib.Dec.{ltb}
use lib.ListN.{length}
use borrow.Author.Tests.{lt-ltb, le-ltb}
use Rattle.runs.specs.Machine.{Machine}
use Rattle.runs.specs.inner.Search.{Thread}
use Rattle.runs.specs.inner.Threads.{insert, within, insert_within, chain}

module _ (M : Machine) where
  pub within-append : (slots : ℕ) (ths xs bs : List (Thread M))
      → insert_within M slots ths (xs ++ bs) ≡ chain M (insert_within M slots ths xs) (λ more. insert_within M slots more bs)
  unfolding insert_within
  within-append slots ths [] bs = refl
  within-append slots ths (a ∷ xs) bs = go (ltb slots (length (insert M a ths))) (within-append slots (insert M a ths) xs bs)
    where
      go : (b : Bool)
          → insert_within M slots (insert M a ths) (xs ++ bs) ≡ chain M (insert_within M slots (insert M a ths) xs) (λ more. insert_within M slots more bs)
          → within M b (insert_within M slots (insert M a ths) (xs ++ bs))
          ≡ chain M (within M b (insert_within M slots (insert M a ths) xs)) (λ more. insert_within M slots more bs)
      go true ih = refl
      go false ih = ih

  pub within-over : (slots : ℕ) (ths : List (Thread M)) (b : Thread M) (bs : List (Thread M)) → slots < length (insert M b ths)
      → insert_within M slots ths (b ∷ bs) ≡ none
  unfolding insert_within insert
  within-over slots ths b bs h = ap (λ t. within M t (insert_within M slots (insert M b ths) bs)) (lt-ltb slots (length (insert M b ths)) h)

  pub within-fits : (slots : ℕ) (ths : List (Thread M)) (b : Thread M) (bs : List (Thread M)) → length (insert M b ths) ≤ slots
      → insert_within M slots ths (b ∷ bs) ≡ insert_within M slots (insert M b ths) bs
  unfolding insert_within insert
  within-fits slots ths b bs h = ap (λ t. within M t (insert_within M slots (insert M b ths) bs)) (le-ltb slots (length (insert M b ths)) h)
