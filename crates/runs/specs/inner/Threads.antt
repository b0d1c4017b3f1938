-- Lists of threads: what may wait after an event, inserting so that each configuration keeps its least trail, and giving up
-- where there are more threads than slots.
use Rattle.std.specs.Prelude.{Bool, true, false, List, [], ◌∷◌, ℕ, ltb, length}
use Rattle.std.proofs.Math.Option.{Option, none, some}
use Rattle.runs.specs.inner.Lists.{keep}
use Rattle.runs.specs.Machine.{Machine}
use Rattle.runs.specs.Answer.{Answer, crowded}
use Rattle.runs.specs.inner.Search.{Thread, next, lesser, hopeful}

module _ (M : Machine) where
  open M use {same}

  -- what every thread offers on event n, in order, that may wait after n
  unfoldable pub candidates : ℕ → List (Thread M) → List (Thread M)
  candidates n ths = keep (hopeful M n) (next M n ths)

  abbrev pub place : Bool → Thread M → Thread M → List (Thread M) → List (Thread M) → List (Thread M)
  place true a b rest further = lesser M (some a) b ∷ rest
  place false a b rest further = a ∷ further

  -- the same configuration: the lesser trail is kept; else one thread more, at the end
  unfoldable pub insert : Thread M → List (Thread M) → List (Thread M)
  insert b [] = b ∷ []
  insert b (a ∷ rest) = place (same a.config b.config) a b rest (insert b rest)

  unfoldable pub insert_all : List (Thread M) → List (Thread M) → List (Thread M)
  insert_all ths [] = ths
  insert_all ths (b ∷ bs) = insert_all (insert b ths) bs

  abbrev pub within : Bool → Option (List (Thread M)) → Option (List (Thread M))
  within true rest = none
  within false rest = rest

  -- all inserted, given up as soon as an insert makes the list longer than there are slots
  unfoldable pub insert_within : ℕ → List (Thread M) → List (Thread M) → Option (List (Thread M))
  insert_within slots ths [] = some ths
  insert_within slots ths (b ∷ bs) =
      let more = insert b ths in
      let rest = insert_within slots more bs in
      within (ltb slots (length more)) rest

  -- what a further insertion makes of a list, where the first fitted
  abbrev pub chain : Option (List (Thread M)) → (List (Thread M) → Option (List (Thread M))) → Option (List (Thread M))
  chain none f = none
  chain (some ths) f = f ths

  -- what follows a list that fitted; crowded after event n, where none did
  abbrev pub onward : Option (List (Thread M)) → ℕ → (List (Thread M) → Answer M) → Answer M
  onward none n go = crowded n
  onward (some ths) n go = go ths
