-- Laws in the shape in which loops meet them: the endings and the moves of a thread, one step number at a time.
use mathlib.Core.Path.{◌≡◌, refl, ap, ◌∙◌}
use mathlib.Core.Bool.{Bool, true, false, ◌&&◌}
use mathlib.Core.Option.{Option, none, some}
use mathlib.Core.List.{List, [], ◌∷◌, ◌++◌, nil≢cons}
use Prim.Native.Nat.{ℕ, suc, ◌<◌}
use native.Mathlib.Omega.{arith}
use lib.ListN.{take}
use Rattle.runs.specs.inner.Lists.{only, keep}
use Rattle.runs.specs.Machine.{Machine}
use Rattle.runs.specs.Run.{Quiet}
use Rattle.runs.specs.inner.Search.{Thread, begun, arrive, firing, chosen, moves, passes_over, stays, ended, lesser, least_from}
use Rattle.runs.proofs.Moves.{stepped, first-fires, firing-quiet}

-- ---- lists

module _ {A : Type 0} where
  pub keep_append : (p : A → Bool) (xs ys : List A) → keep p (xs ++ ys) ≡ keep p xs ++ keep p ys
  unfolding keep
  keep_append p [] ys = refl
  keep_append p (x ∷ xs) ys = go (p x) (keep_append p xs ys)
    where
      go : (b : Bool) → keep p (xs ++ ys) ≡ keep p xs ++ keep p ys → only b x (keep p (xs ++ ys)) ≡ only b x (keep p xs) ++ keep p ys
      go true e = ap (λ r. x ∷ r) e
      go false e = e

module _ (M : Machine) where
  open M use {Config, committed, final, fire, steps}

  -- ---- the least so far

  pub least-append : (best : Option (Thread M)) (xs ys : List (Thread M)) → least_from M best (xs ++ ys) ≡ least_from M (least_from M best xs) ys
  unfolding least_from
  least-append best [] ys = refl
  least-append best (x ∷ xs) ys = least-append (some (lesser M best x)) xs ys

  -- ---- one step number more

  pub firing-fires : (th : Thread M) (n k s r : ℕ) (d : Config) → s ≡ suc r → fire th.config n k ≡ some d
      → firing M th n k s ≡ stepped M th n k d ∷ firing M th n (suc k) r
  unfolding firing
  firing-fires th n k s r d q e = ap (firing M th n k) q ∙ ap (λ o. arrive M th n k o (firing M th n (suc k) r)) e

  -- an ending counts, any other target does not
  pub ending-final : (best : Option (Thread M)) (x : Thread M) (xs : List (Thread M)) → final x.config ≡ true
      → least_from M best (keep (ended M) (x ∷ xs)) ≡ least_from M (some (lesser M best x)) (keep (ended M) xs)
  unfolding keep least_from
  ending-final best x xs f = ap (λ b. least_from M best (only b x (keep (ended M) xs))) f

  pub ending-open : (best : Option (Thread M)) (x : Thread M) (xs : List (Thread M)) → final x.config ≡ false
      → least_from M best (keep (ended M) (x ∷ xs)) ≡ least_from M best (keep (ended M) xs)
  unfolding keep
  ending-open best x xs f = ap (λ b. least_from M best (only b x (keep (ended M) xs))) f

  -- ---- committed: none or the one lowest

  pub moves-ordinary : (n : ℕ) (th : Thread M) → committed th.config ≡ false → moves M n th ≡ firing M th n 0 steps
  unfolding moves
  moves-ordinary n th e = ap (λ b. chosen M b (firing M th n 0 steps)) e

  pub moves-quiet : (n : ℕ) (th : Thread M) → Quiet M th.config n → moves M n th ≡ []
  unfolding moves
  moves-quiet n th q = ap (chosen M (committed th.config)) (firing-quiet M th n 0 steps (λ j p l. q j (omega (arith, l)))) ∙ go (committed th.config)
    where
      go : (b : Bool) → chosen M b [] ≡ []
      go true = refl
      go false = refl

  pub moves-lowest : (n : ℕ) (th : Thread M) (k : ℕ) (d : Config) → committed th.config ≡ true → k < steps → fire th.config n k ≡ some d
      → ((j : ℕ) → j < k → fire th.config n j ≡ none) → moves M n th ≡ stepped M th n k d ∷ []
  unfolding moves
  moves-lowest n th k d c h e low = ap (λ b. chosen M b (firing M th n 0 steps)) c ∙ first-fires M th n 0 steps k d (omega arith) (omega (arith, h)) e low

  -- a committed thread does not stay where a step fires
  pub leaves : (n : ℕ) (th : Thread M) (k : ℕ) (d : Config) → committed th.config ≡ true → k < steps → fire th.config n k ≡ some d
      → ((j : ℕ) → j < k → fire th.config n j ≡ none) → stays M n th ≡ false
  unfolding stays
  leaves n th k d c h e low =
      ap (λ b. begun th.trail && passes_over M b (firing M th n 0 steps)) c
      ∙ go (firing M th n 0 steps) (first-fires M th n 0 steps k d (omega arith) (omega (arith, h)) e low)
    where
      right : (b : Bool) → (b && false) ≡ false
      right true = refl
      right false = refl

      go : (l : List (Thread M)) → take 1 l ≡ stepped M th n k d ∷ [] → (begun th.trail && passes_over M true l) ≡ false
      go [] q = absurd (nil≢cons q)
      go (x ∷ l) q = right (begun th.trail)
