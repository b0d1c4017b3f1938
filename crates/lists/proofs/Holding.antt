-- Words that hold four lists: a value more, the values that are new, and when two such lists of words are the same.
use Prim.Native.Nat.{ℕ, zero, suc, ◌+◌, ◌-◌, ◌*◌, ◌/◌, ◌%◌, ◌<◌, ◌≤◌}
use mathlib.Core.Path.{◌≡◌, refl, ap, sym, ◌∙◌}
use mathlib.Core.Bool.{Bool, true, false, not}
use mathlib.Core.List.{List, [], ◌∷◌, ◌++◌}
use native.Mathlib.Omega.{arith}
use native.Mathlib.Decide.{dec_lt}
use lib.ListN.{length, get_or, set, replicate, length-set, length-append, get_or-eq_default}
use lib.Seq.{get_or-set_same, get_or-set_other, get_or_at, ext_get_or}
use lib.Dec.{eqb}
use borrow.Author.Tests.{lt-ltb, eqb-true, eqb-false, eq-eqb}
use Rattle.base.specs.Lists.{same_list}
use Rattle.base.proofs.Lists.{replicate-at}
use Rattle.base.proofs.Same.{list-equal, list_same}
use Rattle.event_log.specs.Log.{Values, field}
use Rattle.machine.specs.Configuration.{list_of, add_to}
use Rattle.machine.specs.Guard.{among}
use Rattle.machine.specs.inner.Along.{IsFresh}
use Rattle.machine.proofs.Gathering.{list-add-same, list-add-other}
use Rattle.lists.specs.inner.Words.{Holds, add_in, meets, FreshIs}

-- words that are all 0 hold four lists that are empty
pub holds-none : (ls : List (List ℕ)) → length ls ≡ 4 → ((v : ℕ) → v < 4 → length (list_of ls v) ≡ 0) → Holds ls (replicate 132 0)
holds-none ls four none = record {
  sized = refl;
  four = four;
  short = λ v h. omega (arith, none v h);
  counts = λ v h. replicate-at 132 (128 + v) 0 ∙ sym (none v h);
  values = λ v i h k. replicate-at 132 (v * 32 + i) 0 ∙ sym (get_or-eq_default (list_of ls v) 0 (omega (arith, none v h)));
}

-- what is read of a list with one value more: elsewhere what was there
read-front : (l : List ℕ) (x i : ℕ) → (i ≡ length l → ⊥) → get_or (l ++ (x ∷ [])) i 0 ≡ get_or l i 0
read-front [] x zero n = absurd (n refl)
read-front [] x (suc i) n = refl
read-front (y ∷ l) x zero n = refl
read-front (y ∷ l) x (suc i) n = read-front l x i (λ q. n (ap suc q))

-- one value more in list v
module _ (ls : List (List ℕ)) (l : List ℕ) (h : Holds ls l) (v x : ℕ) (four : v < 4) (room : length (list_of ls v) < 32) where
  abbrev n : ℕ
  n = length (list_of ls v)

  -- the words then
  abbrev after : List ℕ
  after = set (set l (v * 32 + n) x) (128 + v) (n + 1)

  add_is : add_in l v x ≡ after
  unfolding add_in
  add_is = rw (lt-ltb v 4 four, h.counts v four, lt-ltb n 32 room)

  -- a word elsewhere stays
  stays : (i : ℕ) → (i ≡ v * 32 + n → ⊥) → (i ≡ 128 + v → ⊥) → get_or after i 0 ≡ get_or l i 0
  stays i p q = get_or-set_other (set l (v * 32 + n) x) (128 + v) i (n + 1) 0 q ∙ get_or-set_other l (v * 32 + n) i x 0 p

  same-list : list_of (add_to ls v x) v ≡ list_of ls v ++ (x ∷ [])
  same-list = list-add-same ls v x (omega (arith, h.four))

  longer : length (list_of (add_to ls v x) v) ≡ n + 1
  longer = ap (λ (z : List ℕ). length z) same-list ∙ length-append (list_of ls v) (x ∷ [])

  other-list : (u : ℕ) → (v ≡ u → ⊥) → list_of (add_to ls v x) u ≡ list_of ls u
  other-list u ne = list-add-other ls v u x ne

  short-more : (u : ℕ) → u < 4 → (b : Bool) → eqb v u ≡ b → length (list_of (add_to ls v x) u) ≤ 32
  short-more u k true q = let p : v ≡ u = eqb-true v u q in rw (← p) (omega (arith, longer))
  short-more u k false q = omega (arith, ap (λ (z : List ℕ). length z) (other-list u (eqb-false v u q)), h.short u k)

  counts-more : (u : ℕ) → u < 4 → (b : Bool) → eqb v u ≡ b → get_or after (128 + u) 0 ≡ length (list_of (add_to ls v x) u)
  counts-more u k true q =
      let p : v ≡ u = eqb-true v u q in
      rw (← p)
      (get_or-set_same (set l (v * 32 + n) x) (128 + v) (n + 1) 0 (omega (arith, length-set l (v * 32 + n) x, h.sized)) ∙ sym longer)
  counts-more u k false q =
      let ne : v ≡ u → ⊥ = eqb-false v u q in
      stays (128 + u) (λ e. omega arith) (λ e. ne (omega arith)) ∙ h.counts u k ∙ sym (ap (λ (z : List ℕ). length z) (other-list u ne))

  values_same : (i : ℕ) → i < 32 → (b : Bool) → eqb i n ≡ b → get_or after (v * 32 + i) 0 ≡ get_or (list_of ls v ++ (x ∷ [])) i 0
  values_same i k true q =
      let p : i ≡ n = eqb-true i n q in
      let s : get_or after (v * 32 + n) 0 ≡ x = get_or-set_other (set l (v * 32 + n) x) (128 + v) (v * 32 + n) (n + 1) 0 (λ e. omega arith)
      ∙ get_or-set_same l (v * 32 + n) x 0 (omega (arith, h.sized)) in
      ap (λ j. get_or after (v * 32 + j) 0) p ∙ s ∙ sym (get_or_at (list_of ls v) x [] 0 i (sym p))
  values_same i k false q =
      let ne : i ≡ n → ⊥ = eqb-false i n q in
      stays (v * 32 + i) (λ e. ne (omega arith)) (λ e. omega arith) ∙ h.values v i four k ∙ sym (read-front (list_of ls v) x i ne)

  values-more : (u i : ℕ) → u < 4 → i < 32 → (b : Bool) → eqb v u ≡ b → get_or after (u * 32 + i) 0 ≡ get_or (list_of (add_to ls v x) u) i 0
  values-more u i k m true q =
      let p : v ≡ u = eqb-true v u q in
      rw (← p) (values_same i m (eqb i n) refl ∙ sym (ap (λ (z : List ℕ). get_or z i 0) same-list))
  values-more u i k m false q =
      let ne : v ≡ u → ⊥ = eqb-false v u q in
      stays (u * 32 + i) (λ e. ne (omega arith)) (λ e. omega arith) ∙ h.values u i k m ∙ sym (ap (λ (z : List ℕ). get_or z i 0) (other-list u ne))

  pub holds-add : Holds (add_to ls v x) (add_in l v x)
  holds-add = rw add_is (record {
    sized = length-set (set l (v * 32 + n) x) (128 + v) (n + 1) ∙ length-set l (v * 32 + n) x ∙ h.sized;
    four = length-set ls v (list_of ls v ++ (x ∷ [])) ∙ h.four;
    short = λ u k. short-more u k (eqb v u) refl;
    counts = λ u k. counts-more u k (eqb v u) refl;
    values = λ u i k m. values-more u i k m (eqb v u) refl;
  })

-- the values of a list are those that the words have from a place on
meets-among : (l : List ℕ) (at : ℕ) (xs : List ℕ) (x : ℕ) → ((i : ℕ) → i < length xs → get_or l (at + i) 0 ≡ get_or xs i 0)
    → meets l at (length xs) x ≡ among x xs
unfolding meets
meets-among l at [] x h = refl
meets-among l at (y ∷ xs) x h =
    let z : at + 0 ≡ at = omega arith in
    let e : get_or l at 0 ≡ y = ap (λ i. get_or l i 0) (sym z) ∙ h 0 (omega arith) in
    let r : meets l (suc at) (length xs) x ≡ among x xs =
    meets-among l (suc at) xs x (λ i k. let s : suc at + i ≡ at + suc i = omega arith in ap (λ j. get_or l j 0) s ∙ h (suc i) (omega arith)) in
    rw (e, r)

-- the marks that the code tells are those of the lists
pub fresh-is : (ls : List (List ℕ)) (l values : List ℕ) (e : Values) (fresh : List Bool) → Holds ls l → ((f : ℕ) → f < 8 → get_or values f 0 ≡ field e f)
    → FreshIs l values fresh → IsFresh ls e fresh
fresh-is ls l values e fresh h same told v f four eight =
    let a : (v * 8 + f) / 8 ≡ v = omega arith in
    let b : (v * 8 + f) % 8 ≡ f = omega arith in
    let m : meets l (v * 32) (get_or l (128 + v) 0) (field e f) ≡ among (field e f) (list_of ls v) =
    ap (λ n. meets l (v * 32) n (field e f)) (h.counts v four)
    ∙ meets-among l (v * 32) (list_of ls v) (field e f) (λ i k. h.values v i four (omega (arith, h.short v four))) in
    told (v * 8 + f) (omega arith)
    ∙ ap (λ u. not (meets l (u * 32) (get_or l (128 + u) 0) (get_or values ((v * 8 + f) % 8) 0))) a
    ∙ ap (λ g. not (meets l (v * 32) (get_or l (128 + v) 0) (get_or values g 0))) b
    ∙ ap (λ y. not (meets l (v * 32) (get_or l (128 + v) 0) y)) (same f eight)
    ∙ ap not m

-- Two lists of words are the same exactly when the lists that they hold are.
module _ (ms ns : List (List ℕ)) (a b : List ℕ) (p : Holds ms a) (q : Holds ns b) where
  lists-equal : a ≡ b → ms ≡ ns
  lists-equal e =
      ext_get_or [] ms ns (p.four ∙ sym q.four)
      (λ v h.
      let four : v < 4 = omega (arith, p.four) in
      let c : length (list_of ms v) ≡ length (list_of ns v) = sym (p.counts v four) ∙ ap (λ (l : List ℕ). get_or l (128 + v) 0) e ∙ q.counts v four in
      ext_get_or 0 (list_of ms v) (list_of ns v) c
      (λ i k.
      let m : i < 32 = omega (arith, p.short v four) in
      sym (p.values v i four m) ∙ ap (λ (l : List ℕ). get_or l (v * 32 + i) 0) e ∙ q.values v i four m))

  words-equal : ms ≡ ns → a ≡ b
  words-equal e = ext_get_or 0 a b (p.sized ∙ sym q.sized) (λ i h. go i (omega (arith, p.sized)) (dec_lt i 128))
    where
      go : (i : ℕ) → i < 132 → Dec (i < 128) → get_or a i 0 ≡ get_or b i 0
      go i h (yes k) =
          let d : i / 32 * 32 + i % 32 ≡ i = omega arith in
          let v : get_or a (i / 32 * 32 + i % 32) 0 ≡ get_or b (i / 32 * 32 + i % 32) 0 = p.values (i / 32) (i % 32) (omega arith) (omega arith)
          ∙ ap (λ (z : List (List ℕ)). get_or (list_of z (i / 32)) (i % 32) 0) e ∙ sym (q.values (i / 32) (i % 32) (omega arith) (omega arith)) in
          ap (λ j. get_or a j 0) (sym d) ∙ v ∙ ap (λ j. get_or b j 0) d
      go i h (no k) = counted (i - 128) (omega arith) (omega arith)
        where
          counted : (v : ℕ) → v < 4 → i ≡ 128 + v → get_or a i 0 ≡ get_or b i 0
          counted v four d =
              ap (λ j. get_or a j 0) d ∙ p.counts v four ∙ ap (λ (z : List (List ℕ)). length (list_of z v)) e ∙ sym (q.counts v four)
              ∙ ap (λ j. get_or b j 0) (sym d)

  pub same_lists : same_list eqb a b ≡ same_list (same_list eqb) ms ns
  same_lists = go (same_list eqb a b) (same_list (same_list eqb) ms ns) refl refl
    where
      numbers : (x : ℕ) → eqb x x ≡ true
      numbers x = eq-eqb x x refl

      go : (s t : Bool) → same_list eqb a b ≡ s → same_list (same_list eqb) ms ns ≡ t → s ≡ t
      go true t h k =
          let e : ms ≡ ns = lists-equal (list-equal eqb eqb-true a b h) in
          sym (sym k ∙ ap (λ (z : List (List ℕ)). same_list (same_list eqb) z ns) e ∙ list_same (same_list eqb) (list_same eqb numbers) ns)
      go false false h k = refl
      go false true h k =
          let e : a ≡ b = words-equal (list-equal (same_list eqb) (list-equal eqb eqb-true) ms ns k) in
          sym h ∙ ap (λ (z : List ℕ). same_list eqb z b) e ∙ list_same eqb numbers b
