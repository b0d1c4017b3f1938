-- The least thread of a list: it is a member, no member has a lesser trail, and a list that covers another has the same.
use mathlib.Core.Path.{◌≡◌, refl, sym, ap, ◌∙◌, subst}
use mathlib.Core.Logic.{◌⊎◌, inl, inr}
use mathlib.Core.Option.{Option, none, some, some-injective}
use mathlib.Core.List.Memᴰ
use mathlib.Core.List.{List, [], ◌∷◌}
use Prim.Native.Nat.{Ordering}
use Rattle.runs.specs.Lists.{In}
use Rattle.runs.specs.Machine.{Machine}
use Rattle.runs.specs.inner.Order.{order}
use Rattle.runs.specs.inner.Search.{Thread, pick, lesser, least_from, least}
use Rattle.runs.proofs.Comparison.{AtMost, at-most-self, at-most-trans, at-most-antisym, first-at-most, second-at-most, lt≢gt, eq≢gt}

abbrev IsNone : {A : Type 0} → Option A → Type 0
IsNone none = Unit {0}
IsNone (some a) = ⊥

pub some≢none : {A : Type 0} {a : A} → some a ≡ none → ⊥
some≢none e = subst IsNone (sym e) tt

module _ (M : Machine) where
  -- m is a or b, and later than neither
  pub record Lesser (a b m : Thread M) : Type 0 where
    pub either : (m ≡ a) ⊎ (m ≡ b)
    pub left : AtMost m.trail a.trail
    pub right : AtMost m.trail b.trail

  pub lesser-is : (a b : Thread M) → Lesser a b (lesser M (some a) b)
  unfolding lesser order
  lesser-is a b = go (order a.trail b.trail) refl
    where
      first : (o : Ordering) → order a.trail b.trail ≡ o → (o ≡ Ordering.gt → ⊥) → Lesser a b a
      first o e n = record { either = inl refl; left = at-most-self a.trail; right = first-at-most a.trail b.trail o e n }

      go : (o : Ordering) → order a.trail b.trail ≡ o → Lesser a b (pick M o a b)
      go Ordering.lt e = first Ordering.lt e lt≢gt
      go Ordering.eq e = first Ordering.eq e eq≢gt
      go Ordering.gt e = record { either = inr refl; left = second-at-most a.trail b.trail e; right = at-most-self b.trail }

  pub record Least (xs : List (Thread M)) (m : Thread M) : Type 0 where
    pub member : In m xs
    pub least : (x : Thread M) → In x xs → AtMost m.trail x.trail

  record Has (o : Option (Thread M)) (xs : List (Thread M)) : Type 0 where
    thread : Thread M
    is : o ≡ some thread
    best : Least xs thread

  least-one : (a : Thread M) → Least (a ∷ []) a
  least-one a = record { member = Memᴰ.head refl; least = λ x m. go x (Memᴰ.cases_cons m) }
    where
      go : (x : Thread M) → (x ≡ a) ⊎ In x [] → AtMost a.trail x.trail
      go x (inl e) = subst (λ (y : Thread M). AtMost a.trail y.trail) (sym e) (at-most-self a.trail)
      go x (inr m) = absurd (Memᴰ.not-nil m)

  least_more : (a b : Thread M) (xs : List (Thread M)) (m : Thread M) → Least (lesser M (some a) b ∷ xs) m → Least (a ∷ (b ∷ xs)) m
  least_more a b xs m l = record { member = from (Memᴰ.cases_cons l.member); least = λ x h. below x (Memᴰ.cases_cons h) }
    where
      w : Lesser a b (lesser M (some a) b)
      w = lesser-is a b

      one : (lesser M (some a) b ≡ a) ⊎ (lesser M (some a) b ≡ b) → m ≡ lesser M (some a) b → In m (a ∷ (b ∷ xs))
      one (inl e) q = Memᴰ.head (q ∙ e)
      one (inr e) q = Memᴰ.tail (Memᴰ.head (q ∙ e))

      from : (m ≡ lesser M (some a) b) ⊎ In m xs → In m (a ∷ (b ∷ xs))
      from (inl q) = one w.either q
      from (inr h) = Memᴰ.tail (Memᴰ.tail h)

      to : AtMost m.trail (lesser M (some a) b).trail
      to = l.least (lesser M (some a) b) (Memᴰ.head refl)

      rest : (x : Thread M) → (x ≡ b) ⊎ In x xs → AtMost m.trail x.trail
      rest x (inl e) =
          subst (λ (y : Thread M). AtMost m.trail y.trail) (sym e) (at-most-trans m.trail (lesser M (some a) b).trail b.trail to w.right)
      rest x (inr h) = l.least x (Memᴰ.tail h)

      below : (x : Thread M) → (x ≡ a) ⊎ In x (b ∷ xs) → AtMost m.trail x.trail
      below x (inl e) =
          subst (λ (y : Thread M). AtMost m.trail y.trail) (sym e) (at-most-trans m.trail (lesser M (some a) b).trail a.trail to w.left)
      below x (inr h) = rest x (Memᴰ.cases_cons h)

  least-from : (a : Thread M) (xs : List (Thread M)) → Has (least_from M (some a) xs) (a ∷ xs)
  unfolding least_from
  least-from a [] = record { thread = a; is = refl; best = least-one a }
  least-from a (b ∷ xs) =
      let h = least-from (lesser M (some a) b) xs in
      record { thread = h.thread; is = h.is; best = least_more a b xs h.thread h.best }

  pub least-none : (xs : List (Thread M)) → least M xs ≡ none → xs ≡ []
  unfolding least least_from lesser
  least-none [] e = refl
  least-none (x ∷ xs) e = absurd (some≢none (sym (least-from x xs).is ∙ e))

  pub least-some : (xs : List (Thread M)) (m : Thread M) → least M xs ≡ some m → Least xs m
  unfolding least least_from lesser
  least-some [] m e = absurd (some≢none (sym e))
  least-some (x ∷ xs) m e =
      let h = least-from x xs in
      subst (Least (x ∷ xs)) (some-injective h.thread m (sym h.is ∙ e)) h.best

  -- one of xs is at most as late as x
  pub record Under (xs : List (Thread M)) (x : Thread M) : Type 0 where
    pub thread : Thread M
    pub member : In thread xs
    pub under : AtMost thread.trail x.trail

  -- a part of a list that covers all of it has the same least member
  pub least-agrees : (xs ys : List (Thread M)) → ((x : Thread M) → In x xs → In x ys) → ((y : Thread M) → In y ys → Under xs y)
      → ((x y : Thread M) → In x ys → In y ys → x.trail ≡ y.trail → x ≡ y) → least M xs ≡ least M ys
  least-agrees xs ys sub cover one = go (least M xs) refl (least M ys) refl
    where
      nothing : (zs : List (Thread M)) (z : Thread M) → zs ≡ [] → In z zs → ⊥
      nothing zs z e m = Memᴰ.not-nil (subst (In z) e m)

      both : (a b : Thread M) → Least xs a → Least ys b → a ≡ b
      both a b l k =
          let u = cover b k.member in
          one a b (sub a l.member) k.member
          (at-most-antisym a.trail b.trail (at-most-trans a.trail u.thread.trail b.trail (l.least u.thread u.member) u.under)
          (k.least a (sub a l.member)))

      go : (o : Option (Thread M)) → least M xs ≡ o → (p : Option (Thread M)) → least M ys ≡ p → least M xs ≡ least M ys
      go none e none f = e ∙ sym f
      go none e (some b) f = absurd (nothing xs (cover b (least-some ys b f).member).thread (least-none xs e) (cover b (least-some ys b f).member).member)
      go (some a) e none f = absurd (nothing ys a (least-none ys f) (sub a (least-some xs a e).member))
      go (some a) e (some b) f = e ∙ ap some (both a b (least-some xs a e) (least-some ys b f)) ∙ sym f
