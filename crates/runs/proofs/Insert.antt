-- A thread that a list covers changes nothing when it is inserted, and inserting in two rounds gives what one round gives.
use mathlib.Core.Path.{◌≡◌, refl, sym, ap, ap₂, ◌∙◌, subst}
use mathlib.Core.Logic.{◌⊎◌, inl, inr}
use mathlib.Core.Bool.{Bool, true, false, true≢false}
use mathlib.Core.Option.{some}
use mathlib.Core.List.Memᴰ
use mathlib.Core.List.{List, [], ◌∷◌, head-eq_of_cons-eq, tail-eq_of_cons-eq, nil≢cons}
use Rattle.runs.specs.Lists.{In, Distinct}
use Rattle.runs.specs.Machine.{Machine}
use Rattle.runs.specs.inner.Laws.{Laws}
use Rattle.runs.specs.inner.Search.{Thread, lesser}
use Rattle.runs.specs.inner.Threads.{place, insert, insert_all}
use Rattle.runs.proofs.Lists.{map-out}
use Rattle.runs.proofs.Comparison.{AtMost, at-most-antisym}
use Rattle.runs.proofs.LeastTrails.{configs, Covered, covered-self, covered-trans, lesser-config, insert-from, insert-new, insert-keeps, insert_all-from, insert_all-keeps, insert_all-covers, insert_all-once}

module _ (M : Machine) where
  -- ---- lists that have the same configurations and cover each other are the same

  config-in : (ths : List (Thread M)) {x : Thread M} → In x ths → In x.config (configs M ths)
  config-in ths m = map-out (λ (y : Thread M). y.config) m

  -- in a list of distinct configurations what covers x is the one thread in x's configuration
  covered-by : (ths : List (Thread M)) (x y : Thread M) → Distinct (configs M ths) → Covered M ths x → In y ths → y.config ≡ x.config
      → AtMost y.trail x.trail
  covered-by [] x y d c m e = absurd (Memᴰ.not-nil m)
  covered-by (a ∷ ths) x y d c m e = go (Memᴰ.cases_cons c.member) (Memᴰ.cases_cons m) (λ h k. covered-by ths x y d.1 h k e)
    where
      other : (u v : Thread M) → u ≡ a → In v ths → u.config ≡ v.config → ⊥
      other u v p k q = d.0 (subst (λ z. In z (configs M ths)) (sym q ∙ ap (λ (t : Thread M). t.config) p) (config-in ths k))

      go : (c.thread ≡ a) ⊎ In c.thread ths → (y ≡ a) ⊎ In y ths → (Covered M ths x → In y ths → AtMost y.trail x.trail)
          → AtMost y.trail x.trail
      go (inl p) (inl q) ih = subst (λ (t : Thread M). AtMost t.trail x.trail) (p ∙ sym q) c.under
      go (inl p) (inr k) ih = absurd (other c.thread y p k (c.config-is ∙ sym e))
      go (inr k) (inl q) ih = absurd (other y c.thread q k (e ∙ sym c.config-is))
      go (inr k) (inr l) ih = ih (record { thread = c.thread; member = k; config-is = c.config-is; under = c.under }) l

  -- equal configurations in one order, and equal trails for each
  by-trails : (xs ys : List (Thread M)) → configs M xs ≡ configs M ys → ((x y : Thread M) → In x xs → In y ys → x.config ≡ y.config → x.trail ≡ y.trail)
      → xs ≡ ys
  by-trails [] [] q h = refl
  by-trails [] (y ∷ ys) q h = absurd (nil≢cons q)
  by-trails (x ∷ xs) [] q h = absurd (nil≢cons (sym q))
  by-trails (x ∷ xs) (y ∷ ys) q h =
      ap₂ ◌∷◌ (λ j. record { config = head-eq_of_cons-eq q j; trail = h x y (Memᴰ.head refl) (Memᴰ.head refl) (head-eq_of_cons-eq q) j })
      (by-trails xs ys (tail-eq_of_cons-eq q) (λ a b m k. h a b (Memᴰ.tail m) (Memᴰ.tail k)))

  same-list : (xs ys : List (Thread M)) → configs M xs ≡ configs M ys → Distinct (configs M ys) → ((x : Thread M) → In x xs → Covered M ys x)
      → ((y : Thread M) → In y ys → Covered M xs y) → xs ≡ ys
  same-list xs ys q d f g =
      by-trails xs ys q (λ x y m k e. at-most-antisym x.trail y.trail
      (covered-by xs y x (subst Distinct (sym q) d) (g y k) m e) (covered-by ys x y d (f x m) k (sym e)))

module _ (M : Machine) (L : Laws M) where
  open M use {same}

  -- ---- the configurations of a list

  -- they depend only on configurations
  configs-insert : (b c : Thread M) (xs ys : List (Thread M)) → b.config ≡ c.config → configs M xs ≡ configs M ys
      → configs M (insert M b xs) ≡ configs M (insert M c ys)
  unfolding insert
  configs-insert b c [] [] e q = ap (λ z. z ∷ []) e
  configs-insert b c [] (y ∷ ys) e q = absurd (nil≢cons q)
  configs-insert b c (x ∷ xs) [] e q = absurd (nil≢cons (sym q))
  configs-insert b c (x ∷ xs) (y ∷ ys) e q =
      go (same x.config b.config) refl (configs-insert b c xs ys e (tail-eq_of_cons-eq q))
      ∙ ap (λ t. configs M (place M t y c ys (insert M c ys))) (ap₂ same (head-eq_of_cons-eq q) e)
    where
      config : (u v : Thread M) → same u.config v.config ≡ true → (lesser M (some u) v).config ≡ u.config
      config u v s = lesser-config M L u v (L.same_equal u.config v.config s)

      go : (t : Bool) → same x.config b.config ≡ t → configs M (insert M b xs) ≡ configs M (insert M c ys)
          → configs M (place M t x b xs (insert M b xs)) ≡ configs M (place M t y c ys (insert M c ys))
      go true s ih = ap₂ ◌∷◌ (config x b s ∙ head-eq_of_cons-eq q ∙ sym (config y c (sym (ap₂ same (head-eq_of_cons-eq q) e) ∙ s))) (tail-eq_of_cons-eq q)
      go false s ih = ap₂ ◌∷◌ (head-eq_of_cons-eq q) ih

  configs-all : (xs ys bs : List (Thread M)) → configs M xs ≡ configs M ys → configs M (insert_all M xs bs) ≡ configs M (insert_all M ys bs)
  unfolding insert_all
  configs-all xs ys [] q = q
  configs-all xs ys (b ∷ bs) q = configs-all (insert M b xs) (insert M b ys) bs (configs-insert b b xs ys refl q)

  -- one that is there is not added
  configs-there : (b : Thread M) (ths : List (Thread M)) → In b.config (configs M ths) → configs M (insert M b ths) ≡ configs M ths
  unfolding insert
  configs-there b [] m = absurd (Memᴰ.not-nil m)
  configs-there b (a ∷ ths) m = go (same a.config b.config) refl (Memᴰ.cases_cons m) (configs-there b ths)
    where
      go : (t : Bool) → same a.config b.config ≡ t → (b.config ≡ a.config) ⊎ In b.config (configs M ths)
          → (In b.config (configs M ths) → configs M (insert M b ths) ≡ configs M ths) → configs M (place M t a b ths (insert M b ths)) ≡ configs M (a ∷ ths)
      go true s k ih = ap (λ z. z ∷ configs M ths) (lesser-config M L a b (L.same_equal a.config b.config s))
      go false s (inl q) ih = absurd (true≢false (sym (L.equal_same a.config) ∙ ap (same a.config) (sym q) ∙ s))
      go false s (inr k) ih = ap (λ r. a.config ∷ r) (ih k)

  configs-through : (ths fs : List (Thread M)) (m : Thread M) → configs M (insert_all M ths (insert M m fs)) ≡ configs M (insert M m (insert_all M ths fs))
  unfolding insert_all insert
  configs-through ths [] m = refl
  configs-through ths (a ∷ fs) m = go (same a.config m.config) refl (configs-through (insert M a ths) fs m)
    where
      go : (t : Bool) → same a.config m.config ≡ t
          → configs M (insert_all M (insert M a ths) (insert M m fs)) ≡ configs M (insert M m (insert_all M (insert M a ths) fs))
          → configs M (insert_all M ths (place M t a m fs (insert M m fs))) ≡ configs M (insert M m (insert_all M (insert M a ths) fs))
      go true s ih =
          let e = L.same_equal a.config m.config s in
          let c = insert_all-keeps M L (insert M a ths) fs a (insert-new M L a ths) in
          configs-all (insert M (lesser M (some a) m) ths) (insert M a ths) fs (configs-insert (lesser M (some a) m) a ths ths (lesser-config M L a m e) refl)
          ∙ sym (configs-there m (insert_all M (insert M a ths) fs)
          (subst (λ z. In z (configs M (insert_all M (insert M a ths) fs))) (c.config-is ∙ e) (config-in M (insert_all M (insert M a ths) fs) c.member)))
      go false s ih = ih

  configs-over : (ths fs ms : List (Thread M)) → configs M (insert_all M ths (insert_all M fs ms)) ≡ configs M (insert_all M (insert_all M ths fs) ms)
  unfolding insert_all
  configs-over ths fs [] = refl
  configs-over ths fs (m ∷ ms) =
      configs-over ths (insert M m fs) ms ∙ configs-all (insert_all M ths (insert M m fs)) (insert M m (insert_all M ths fs)) ms (configs-through ths fs m)

  -- ---- the laws

  -- a thread that the list covers changes nothing
  pub insert-covered : (b : Thread M) (ths : List (Thread M)) → Distinct (configs M ths) → Covered M ths b → insert M b ths ≡ ths
  insert-covered b ths d c =
      same-list M (insert M b ths) ths
      (configs-there b ths (subst (λ z. In z (configs M ths)) c.config-is (config-in M ths c.member))) d
      (λ x m. go x (insert-from M b ths x m)) (λ y m. insert-keeps M L b ths y (covered-self M ths y m))
    where
      go : (x : Thread M) → (x ≡ b) ⊎ In x ths → Covered M ths x
      go x (inl q) = subst (Covered M ths) (sym q) c
      go x (inr m) = covered-self M ths x m

  -- threads made distinct before they are inserted may as well be inserted one by one
  pub insert-over : (ths ms : List (Thread M)) → Distinct (configs M ths) → insert_all M ths (insert_all M [] ms) ≡ insert_all M ths ms
  unfolding insert_all
  insert-over ths ms d =
      same-list M (insert_all M ths fs) (insert_all M ths ms) (configs-over ths [] ms) (insert_all-once M L ths ms d)
      (λ x m. one x (insert_all-from M ths fs x m)) (λ y m. two y (insert_all-from M ths ms y m))
    where
      fs : List (Thread M)
      fs = insert_all M [] ms

      new : (x : Thread M) → In x [] ⊎ In x ms → Covered M (insert_all M ths ms) x
      new x (inl m) = absurd (Memᴰ.not-nil m)
      new x (inr m) = insert_all-covers M L ths ms x m

      one : (x : Thread M) → In x ths ⊎ In x fs → Covered M (insert_all M ths ms) x
      one x (inl m) = insert_all-keeps M L ths ms x (covered-self M ths x m)
      one x (inr m) = new x (insert_all-from M [] ms x m)

      two : (y : Thread M) → In y ths ⊎ In y ms → Covered M (insert_all M ths fs) y
      two y (inl m) = insert_all-keeps M L ths fs y (covered-self M ths y m)
      two y (inr m) =
          let c = insert_all-covers M L [] ms y m in
          covered-trans M (insert_all M ths fs) c.thread y c.config-is c.under (insert_all-covers M L ths fs c.thread c.member)
