-- Inserting keeps one least trail a configuration; and inserting within slots fails exactly where the full list is longer.
use mathlib.Core.Path.{◌≡◌, refl, sym, ap, ◌∙◌, subst}
use mathlib.Core.Logic.{◌⊎◌, inl, inr}
use mathlib.Core.Bool.{Bool, true, false, true≢false}
use mathlib.Core.Option.{some}
use mathlib.Core.List.Memᴰ
use mathlib.Core.List.{List, [], ◌∷◌, map}
use Prim.Native.Nat.{ℕ, suc, ◌≤◌}
use native.Mathlib.Omega.{arith}
use lib.Dec.{ltb}
use lib.ListN.{length}
use borrow.Author.Tests.{ltb-true, ltb-false, lt-ltb, le-ltb}
use Rattle.runs.specs.Lists.{In, Distinct}
use Rattle.runs.specs.Machine.{Machine}
use Rattle.runs.specs.inner.Laws.{Laws}
use Rattle.runs.specs.inner.Search.{Thread, lesser}
use Rattle.runs.specs.inner.Threads.{place, insert, insert_all, within, insert_within}
use Rattle.runs.proofs.Lists.{Image, map-in, map-out}
use Rattle.runs.proofs.Comparison.{AtMost, at-most-self, at-most-trans}
use Rattle.runs.proofs.Least.{lesser-is}

module _ (M : Machine) where
  open M use {Config, same}

  -- the configurations of a list of threads
  abbrev pub configs : List (Thread M) → List Config
  configs ths = map (λ (th : Thread M). th.config) ths

  -- x's configuration stands in the list, with a trail that is not later than x's
  pub record Covered (ths : List (Thread M)) (x : Thread M) : Type 0 where
    pub thread : Thread M
    pub member : In thread ths
    pub config-is : thread.config ≡ x.config
    pub under : AtMost thread.trail x.trail

  covered_more : (ths : List (Thread M)) (a x : Thread M) → Covered ths x → Covered (a ∷ ths) x
  covered_more ths a x c = record { thread = c.thread; member = Memᴰ.tail c.member; config-is = c.config-is; under = c.under }

  -- what covers y covers x, where y stands before x in one configuration
  pub covered-trans : (ths : List (Thread M)) (y x : Thread M) → y.config ≡ x.config → AtMost y.trail x.trail → Covered ths y → Covered ths x
  covered-trans ths y x e a c =
      record {
        thread = c.thread;
        member = c.member;
        config-is = c.config-is ∙ e;
        under = at-most-trans c.thread.trail y.trail x.trail c.under a;
      }

  pub covered-self : (ths : List (Thread M)) (x : Thread M) → In x ths → Covered ths x
  covered-self ths x m = record { thread = x; member = m; config-is = refl; under = at-most-self x.trail }

  place-length : (t : Bool) (a b : Thread M) (rest more : List (Thread M)) → length rest ≤ length more → suc (length rest) ≤ length (place M t a b rest more)
  place-length true a b rest more h = omega arith
  place-length false a b rest more h = omega (arith, h)

  pub insert-longer : (b : Thread M) (ths : List (Thread M)) → length ths ≤ length (insert M b ths)
  unfolding insert
  insert-longer b [] = omega arith
  insert-longer b (a ∷ ths) = place-length (same a.config b.config) a b ths (insert M b ths) (insert-longer b ths)

  pub insert_all-longer : (ths bs : List (Thread M)) → length ths ≤ length (insert_all M ths bs)
  unfolding insert_all
  insert_all-longer ths [] = omega arith
  insert_all-longer ths (b ∷ bs) = omega (arith, insert-longer b ths, insert_all-longer (insert M b ths) bs)

  -- inserting within slots: the full list, where it is no longer than the slots are many; else nothing
  pub fits : (slots : ℕ) (ths bs : List (Thread M)) → length ths ≤ slots
      → insert_within M slots ths bs ≡ within M (ltb slots (length (insert_all M ths bs))) (some (insert_all M ths bs))
  unfolding insert_within insert_all
  fits slots ths [] h = rw (le-ltb slots (length ths) h)
  fits slots ths (b ∷ bs) h = go (ltb slots (length (insert M b ths))) refl (fits slots (insert M b ths) bs)
    where
      go : (c : Bool) → ltb slots (length (insert M b ths)) ≡ c
          → (length (insert M b ths) ≤ slots → insert_within M slots (insert M b ths) bs
          ≡ within M (ltb slots (length (insert_all M (insert M b ths) bs))) (some (insert_all M (insert M b ths) bs)))
          → within M c (insert_within M slots (insert M b ths) bs) ≡ within M (ltb slots (length (insert_all M (insert M b ths) bs)))
          (some (insert_all M (insert M b ths) bs))
      go true e ih =
          rw (lt-ltb slots (length (insert_all M (insert M b ths) bs))
          (omega (arith, ltb-true slots (length (insert M b ths)) e, insert_all-longer (insert M b ths) bs)))
      go false e ih = ih (ltb-false slots (length (insert M b ths)) e)

  pub insert-from : (b : Thread M) (ths : List (Thread M)) (x : Thread M) → In x (insert M b ths) → (x ≡ b) ⊎ In x ths
  unfolding insert
  insert-from b [] x m = Memᴰ.cases_cons m
  insert-from b (a ∷ ths) x m = go (same a.config b.config) m (insert-from b ths x)
    where
      kept : (lesser M (some a) b ≡ a) ⊎ (lesser M (some a) b ≡ b) → (x ≡ lesser M (some a) b) ⊎ In x ths → (x ≡ b) ⊎ In x (a ∷ ths)
      kept (inl e) (inl q) = inr (Memᴰ.head (q ∙ e))
      kept (inr e) (inl q) = inl (q ∙ e)
      kept e (inr h) = inr (Memᴰ.tail h)

      further : (x ≡ a) ⊎ In x (insert M b ths) → (In x (insert M b ths) → (x ≡ b) ⊎ In x ths) → (x ≡ b) ⊎ In x (a ∷ ths)
      further (inl q) ih = inr (Memᴰ.head q)
      further (inr h) ih = up (ih h)
        where
          up : (x ≡ b) ⊎ In x ths → (x ≡ b) ⊎ In x (a ∷ ths)
          up (inl q) = inl q
          up (inr k) = inr (Memᴰ.tail k)

      go : (c : Bool) → In x (place M c a b ths (insert M b ths)) → (In x (insert M b ths) → (x ≡ b) ⊎ In x ths) → (x ≡ b) ⊎ In x (a ∷ ths)
      go true h ih = kept (lesser-is M a b).either (Memᴰ.cases_cons h)
      go false h ih = further (Memᴰ.cases_cons h) ih

  pub insert_all-from : (ths bs : List (Thread M)) (x : Thread M) → In x (insert_all M ths bs) → In x ths ⊎ In x bs
  unfolding insert_all
  insert_all-from ths [] x m = inl m
  insert_all-from ths (b ∷ bs) x m = go (insert_all-from (insert M b ths) bs x m)
    where
      one : (x ≡ b) ⊎ In x ths → In x ths ⊎ In x (b ∷ bs)
      one (inl q) = inr (Memᴰ.head q)
      one (inr h) = inl h

      go : In x (insert M b ths) ⊎ In x bs → In x ths ⊎ In x (b ∷ bs)
      go (inl h) = one (insert-from b ths x h)
      go (inr h) = inr (Memᴰ.tail h)

module _ (M : Machine) (L : Laws M) where
  open M use {Config, same}

  -- the one kept of two in one configuration stands in it too
  pub lesser-config : (a b : Thread M) → a.config ≡ b.config → (lesser M (some a) b).config ≡ a.config
  lesser-config a b e = go (lesser-is M a b).either
    where
      go : (lesser M (some a) b ≡ a) ⊎ (lesser M (some a) b ≡ b) → (lesser M (some a) b).config ≡ a.config
      go (inl q) = ap (λ (y : Thread M). y.config) q
      go (inr q) = ap (λ (y : Thread M). y.config) q ∙ sym e

  pub insert-new : (b : Thread M) (ths : List (Thread M)) → Covered M (insert M b ths) b
  unfolding insert
  insert-new b [] = covered-self M (b ∷ []) b (Memᴰ.head refl)
  insert-new b (a ∷ ths) = go (same a.config b.config) refl (insert-new b ths)
    where
      go : (c : Bool) → same a.config b.config ≡ c → Covered M (insert M b ths) b → Covered M (place M c a b ths (insert M b ths)) b
      go true e ih =
          let q = L.same_equal a.config b.config e in
          record { thread = lesser M (some a) b; member = Memᴰ.head refl; config-is = lesser-config a b q ∙ q; under = (lesser-is M a b).right }
      go false e ih = covered_more M (insert M b ths) a b ih

  pub insert-keeps : (b : Thread M) (ths : List (Thread M)) (x : Thread M) → Covered M ths x → Covered M (insert M b ths) x
  unfolding insert
  insert-keeps b [] x c = absurd (Memᴰ.not-nil c.member)
  insert-keeps b (a ∷ ths) x c = go (same a.config b.config) refl (Memᴰ.cases_cons c.member) (insert-keeps b ths x)
    where
      rest : In c.thread ths → Covered M ths x
      rest m = record { thread = c.thread; member = m; config-is = c.config-is; under = c.under }

      go : (t : Bool) → same a.config b.config ≡ t → (c.thread ≡ a) ⊎ In c.thread ths → (Covered M ths x → Covered M (insert M b ths) x)
          → Covered M (place M t a b ths (insert M b ths)) x
      go true e (inl q) ih =
          record {
            thread = lesser M (some a) b;
            member = Memᴰ.head refl;
            config-is = lesser-config a b (L.same_equal a.config b.config e) ∙ ap (λ (y : Thread M). y.config) (sym q) ∙ c.config-is;
            under = at-most-trans (lesser M (some a) b).trail a.trail x.trail (lesser-is M a b).left
                (subst (λ (y : Thread M). AtMost y.trail x.trail) q c.under);
          }
      go true e (inr m) ih = covered_more M ths (lesser M (some a) b) x (rest m)
      go false e (inl q) ih =
          record {
            thread = a;
            member = Memᴰ.head refl;
            config-is = ap (λ (y : Thread M). y.config) (sym q) ∙ c.config-is;
            under =
                subst (λ (y : Thread M). AtMost y.trail x.trail) q c.under;
          }
      go false e (inr m) ih = covered_more M (insert M b ths) a x (ih (rest m))

  pub insert-once : (b : Thread M) (ths : List (Thread M)) → Distinct (configs M ths) → Distinct (configs M (insert M b ths))
  unfolding insert
  insert-once b [] d = (λ m. Memᴰ.not-nil m, tt)
  insert-once b (a ∷ ths) d = go (same a.config b.config) refl (insert-once b ths d.1)
    where
      other : same a.config b.config ≡ false → (x : Thread M) → a.config ≡ x.config → (x ≡ b) ⊎ In x ths → ⊥
      other e x q (inl r) = true≢false (sym (L.equal_same a.config) ∙ ap (λ z. same a.config z) (q ∙ ap (λ (y : Thread M). y.config) r) ∙ e)
      other e x q (inr m) = d.0 (subst (λ z. In z (configs M ths)) (sym q) (map-out (λ (y : Thread M). y.config) m))

      go : (c : Bool) → same a.config b.config ≡ c → Distinct (configs M (insert M b ths)) → Distinct (configs M (place M c a b ths (insert M b ths)))
      go true e ih = (λ m. d.0 (subst (λ z. In z (configs M ths)) (lesser-config a b (L.same_equal a.config b.config e)) m), d.1)
      go false e ih = (λ m. apart (map-in (λ (y : Thread M). y.config) (insert M b ths) m), ih)
        where
          apart : Image (λ (y : Thread M). y.config) (insert M b ths) a.config → ⊥
          apart g = other e g.source g.is (insert-from M b ths g.source g.member)

  -- ---- a whole list inserted

  pub insert_all-keeps : (ths bs : List (Thread M)) (x : Thread M) → Covered M ths x → Covered M (insert_all M ths bs) x
  unfolding insert_all
  insert_all-keeps ths [] x c = c
  insert_all-keeps ths (b ∷ bs) x c = insert_all-keeps (insert M b ths) bs x (insert-keeps b ths x c)

  pub insert_all-covers : (ths bs : List (Thread M)) (x : Thread M) → In x bs → Covered M (insert_all M ths bs) x
  unfolding insert_all
  insert_all-covers ths [] x m = absurd (Memᴰ.not-nil m)
  insert_all-covers ths (b ∷ bs) x m = go (Memᴰ.cases_cons m) (insert_all-covers (insert M b ths) bs x)
    where
      go : (x ≡ b) ⊎ In x bs → (In x bs → Covered M (insert_all M (insert M b ths) bs) x) → Covered M (insert_all M (insert M b ths) bs) x
      go (inl q) ih = insert_all-keeps (insert M b ths) bs x (subst (Covered M (insert M b ths)) (sym q) (insert-new b ths))
      go (inr h) ih = ih h

  pub insert_all-once : (ths bs : List (Thread M)) → Distinct (configs M ths) → Distinct (configs M (insert_all M ths bs))
  unfolding insert_all
  insert_all-once ths [] d = d
  insert_all-once ths (b ∷ bs) d = insert_all-once (insert M b ths) bs (insert-once b ths d)
