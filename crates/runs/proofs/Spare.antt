-- Steps that lead only to what the stayers cover may be left out: nothing that the search keeps changes.
use mathlib.Core.Path.{◌≡◌, refl, sym, ap, ◌∙◌, subst}
use mathlib.Core.Bool.{Bool, true, false}
use mathlib.Core.Option.{Option, none, some}
use mathlib.Core.List.Memᴰ
use mathlib.Core.List.{List, [], ◌∷◌, ◌++◌}
use Prim.Native.Nat.{ℕ, zero, suc, ◌+◌, ◌≤◌, ◌<◌}
use native.Mathlib.Omega.{arith}
use lib.Dec.{ltb}
use lib.ListN.{length}
use Rattle.runs.specs.Lists.{In, Distinct}
use Rattle.runs.specs.inner.Lists.{only, keep, in_turn}
use Rattle.runs.specs.Machine.{Machine}
use Rattle.runs.specs.inner.Laws.{Laws}
use Rattle.runs.specs.inner.Search.{Thread, arrive, firing, chosen, moves, unended, hopeful}
use Rattle.runs.specs.inner.Threads.{insert, insert_all, within}
use Rattle.runs.specs.inner.Settle.{lasts, stayers, arrivals, movers, settle}
use Rattle.runs.specs.inner.Aged.{unless, firing_but, moves_but, arrivals_but, movers_but, settle_but}
use Rattle.runs.proofs.Moves.{stepped}
use Rattle.runs.proofs.Least.{some≢none}
use Rattle.runs.proofs.LeastTrails.{configs, Covered, insert-keeps, insert-once}
use Rattle.runs.proofs.Insert.{insert-covered, insert-over}
use Rattle.runs.proofs.Settle.{keep-once, rounds-fit}

-- ---- a list without some of its members

module _ {A : Type 0} where
  -- ys is xs without some members, of each of which P holds
  data Thin (P : A → Type 0) : List A → List A → Type 0 where
    thin-nil : Thin P [] []
    thin-both : (x : A) {xs ys : List A} → Thin P xs ys → Thin P (x ∷ xs) (x ∷ ys)
    thin-less : (x : A) {xs ys : List A} → P x → Thin P xs ys → Thin P (x ∷ xs) ys

  thin-self : {P : A → Type 0} (xs : List A) → Thin P xs xs
  thin-self [] = thin-nil
  thin-self (x ∷ xs) = thin-both x (thin-self xs)

  -- where P holds of nothing, none is left out
  thin-none : {xs ys : List A} → Thin (λ x. ⊥) xs ys → xs ≡ ys
  thin-none thin-nil = refl
  thin-none (thin-both x t) = ap (λ l. x ∷ l) (thin-none t)
  thin-none (thin-less x h t) = absurd h

  thin-append : {P : A → Type 0} {xs ys us vs : List A} → Thin P xs ys → Thin P us vs → Thin P (xs ++ us) (ys ++ vs)
  thin-append thin-nil r = r
  thin-append (thin-both x t) r = thin-both x (thin-append t r)
  thin-append (thin-less x h t) r = thin-less x h (thin-append t r)

  thin-turn : {P : A → Type 0} {B : Type 0} (f g : B → List A) (bs : List B) → ((b : B) → In b bs → Thin P (f b) (g b)) → Thin P (in_turn f bs) (in_turn g bs)
  unfolding in_turn
  thin-turn f g [] h = thin-nil
  thin-turn f g (b ∷ bs) h = thin-append (h b (Memᴰ.head refl)) (thin-turn f g bs (λ c m. h c (Memᴰ.tail m)))

  thin-keep : {P : A → Type 0} (p : A → Bool) {xs ys : List A} → Thin (λ x. p x ≡ true → P x) xs ys → Thin P (keep p xs) (keep p ys)
  unfolding keep
  thin-keep p thin-nil = thin-nil
  thin-keep {P} p (thin-both x {xs = us} {ys = vs} t) = go (p x) (thin-keep p t)
    where
      go : (b : Bool) → Thin P (keep p us) (keep p vs) → Thin P (only b x (keep p us)) (only b x (keep p vs))
      go true r = thin-both x r
      go false r = r
  thin-keep {P} p (thin-less x {xs = us} {ys = vs} h t) = go (p x) h (thin-keep p t)
    where
      go : (b : Bool) → (b ≡ true → P x) → Thin P (keep p us) (keep p vs) → Thin P (only b x (keep p us)) (keep p vs)
      go true q r = thin-less x (q refl) r
      go false q r = r

-- ---- steps left out

module _ (M : Machine) where
  open M use {Config, committed, fire, steps}

  -- on event n step k of the thread need not be taken: from a committed state it does not fire, and the stayers of w cover what it leaves
  -- that may wait
  pub record Spare (n : ℕ) (w : List (Thread M)) (th : Thread M) (k : ℕ) : Type 0 where
    pub silent : committed th.config ≡ true → fire th.config n k ≡ none
    pub covered : (d : Config) → fire th.config n k ≡ some d → unended M (stepped M th n k d) ≡ true → hopeful M n (stepped M th n k d) ≡ true
        → Covered M (stayers M n w) (stepped M th n k d)

  -- whatever is left out of the threads' steps is spare
  abbrev pub Spared : (Thread M → ℕ → Bool) → ℕ → List (Thread M) → Type 0
  Spared out n w = (th : Thread M) → In th w → (k : ℕ) → k < steps → out th k ≡ true → Spare n w th k

  -- what is left out of the steps that fire, where P holds of what each leaves
  firing-thin : (P : Thread M → Type 0) (out : ℕ → Bool) (th : Thread M) (n k r : ℕ)
      → ((j : ℕ) → j < k + r → out j ≡ true → (d : Config) → fire th.config n j ≡ some d → P (stepped M th n j d))
      → Thin P (firing M th n k r) (firing_but M out th n k r)
  unfolding firing firing_but
  firing-thin P out th n k zero h = thin-nil
  firing-thin P out th n k (suc r) h = go (out k) refl (fire th.config n k) refl (firing-thin P out th n (suc k) r (λ j q. h j (omega (arith, q))))
    where
      go : (b : Bool) → out k ≡ b → (o : Option Config) → fire th.config n k ≡ o → Thin P (firing M th n (suc k) r) (firing_but M out th n (suc k) r)
          → Thin P (arrive M th n k o (firing M th n (suc k) r)) (arrive M th n k (unless M b o) (firing_but M out th n (suc k) r))
      go true e none f t = t
      go true e (some d) f t = thin-less (stepped M th n k d) (h k (omega arith) e d f) t
      go false e none f t = t
      go false e (some d) f t = thin-both (stepped M th n k d) t

  -- from a committed state nothing that fires is left out
  firing-but : (out : Thread M → ℕ → Bool) (n : ℕ) (w : List (Thread M)) (th : Thread M) → Spared out n w → In th w → committed th.config ≡ true
      → firing M th n 0 steps ≡ firing_but M (out th) th n 0 steps
  firing-but out n w th s m e =
      thin-none (firing-thin (λ x. ⊥) (out th) th n 0 steps (λ j q o d f. some≢none (sym f ∙ (s th m j (omega (arith, q)) o).silent e)))

  moves-thin : (P : Thread M → Type 0) (out : Thread M → ℕ → Bool) (n : ℕ) (w : List (Thread M)) (th : Thread M) → Spared out n w → In th w
      → ((k : ℕ) (d : Config) → Spare n w th k → fire th.config n k ≡ some d → P (stepped M th n k d)) → Thin P (moves M n th) (moves_but M out n th)
  unfolding moves moves_but
  moves-thin P out n w th s m h = go (committed th.config) refl
    where
      go : (b : Bool) → committed th.config ≡ b → Thin P (chosen M b (firing M th n 0 steps)) (chosen M b (firing_but M (out th) th n 0 steps))
      go true e =
          subst (λ l. Thin P (chosen M true (firing M th n 0 steps)) (chosen M true l)) (firing-but out n w th s m e)
          (thin-self (chosen M true (firing M th n 0 steps)))
      go false e = firing-thin P (out th) th n 0 steps (λ j q o d f. h j d (s th m j (omega (arith, q)) o) f)

  movers-thin : (out : Thread M → ℕ → Bool) (n : ℕ) (w : List (Thread M)) → Spared out n w
      → Thin (Covered M (stayers M n w)) (movers M n w) (movers_but M out n w)
  unfolding movers movers_but arrivals arrivals_but
  movers-thin out n w s =
      thin-turn (arrivals M n) (arrivals_but M out n) w (λ th m. thin-keep (hopeful M n) (thin-keep (unended M)
      (moves-thin (λ x. unended M x ≡ true → hopeful M n x ≡ true → Covered M (stayers M n w) x) out n w th s m (λ k d p f. p.covered d f))))

module _ (M : Machine) (L : Laws M) where
  -- threads that are covered need not be inserted
  insert-thin : {base xs ys : List (Thread M)} (ths : List (Thread M)) → Thin (Covered M base) xs ys → ((x : Thread M) → Covered M base x → Covered M ths x)
      → Distinct (configs M ths) → insert_all M ths xs ≡ insert_all M ths ys
  unfolding insert_all
  insert-thin ths thin-nil h d = refl
  insert-thin ths (thin-both x t) h d = insert-thin (insert M x ths) t (λ z c. insert-keeps M L x ths z (h z c)) (insert-once M L x ths d)
  insert-thin ths (thin-less x {xs = us} c t) h d = ap (λ l. insert_all M l us) (insert-covered M L x ths d (h x c)) ∙ insert-thin ths t h d

  -- the waiting list after event n is the same, or there is none either way
  pub settle-but : (out : Thread M → ℕ → Bool) (slots n : ℕ) (w : List (Thread M)) → length (stayers M n w) ≤ slots → Distinct (configs M w)
      → Spared M out n w → settle M slots n w ≡ settle_but M out slots n w
  unfolding settle settle_but stayers
  settle-but out slots n w h d s =
      rounds-fit M L slots (stayers M n w) (movers M n w) h ∙ ap (λ l. within M (ltb slots (length l)) (some l)) same
      ∙ sym (rounds-fit M L slots (stayers M n w) (movers_but M out n w) h)
    where
      once : Distinct (configs M (stayers M n w))
      once = keep-once M (lasts M n) w d

      same : insert_all M (stayers M n w) (insert_all M [] (movers M n w)) ≡ insert_all M (stayers M n w) (insert_all M [] (movers_but M out n w))
      same =
          insert-over M L (stayers M n w) (movers M n w) once ∙ insert-thin (stayers M n w) (movers-thin M out n w s) (λ x c. c) once
          ∙ sym (insert-over M L (stayers M n w) (movers_but M out n w) once)
