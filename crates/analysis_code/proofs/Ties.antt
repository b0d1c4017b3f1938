-- The tie rule over an array of flags is the tie rule over the operands of the TIEDs.
use Prim.Native.Nat.{ℕ, zero, suc, ◌+◌, ◌<◌, ◌≤◌}
use mathlib.Core.Path.{◌≡◌, refl, sym, ◌∙◌}
use mathlib.Core.Bool.{Bool, true, false, cond, ◌&&◌, ◌||◌}
use mathlib.Core.List.{List, [], ◌∷◌}
use native.Mathlib.Numerals.{add-one}
use native.Mathlib.Omega.{arith}
use borrow.Author.Tests.{eqb-true, eq-eqb}
use lib.ListN.{length, get_or, drop, drop_of_length-le}
use lib.Seq.{drop-cons}
use lib.Dec.{eqb}
use Rattle.base.specs.Lists.{All}
use Rattle.formula.specs.Lookup.{is_tied}
use Rattle.base.proofs.Tests.{and_left, and_right, and-true, both_ways}
use Rattle.analysis.specs.Rows.{NamedRun, tied_alike}
use Rattle.analysis_code.specs.inner.Starts.{variables_from, variables, share}

module _ (tied : List Bool) (a b : NamedRun) (v : ℕ) (whole : Bool) (e : whole ≡ tied_alike (variables_from v (drop v tied)) a b) where
  one_more : (t : Bool) (vs : List ℕ) → tied_alike (cond t (v ∷ vs) vs) a b ≡ (cond t (share a b v) true && tied_alike vs a b)
  unfolding tied_alike
  one_more true vs = refl
  one_more false vs = refl

  parted : v < length tied
      → whole ≡ (cond (get_or tied v false) (share a b v) true && tied_alike (variables_from (v + 1) (drop (v + 1) tied)) a b)
  unfolding variables_from
  parted h = rw (add-one v) (rw (drop-cons tied v false h) at e ∙ one_more (get_or tied v false) (variables_from (suc v) (drop (suc v) tied)))

  -- the tie rule goes on behind a variable that is not tied or that both share, and ends at another
  pub alike_next : v < length tied → cond (get_or tied v false) (share a b v) true ≡ true → whole ≡ tied_alike (variables_from (v + 1) (drop (v + 1) tied)) a b
  alike_next h k = rw k at (parted h)

  pub alike-not : v < length tied → get_or tied v false ≡ true → share a b v ≡ false → whole ≡ false
  alike-not h t k = rw (t, k) at (parted h)

  pub alike_all : length tied ≤ v → whole ≡ true
  unfolding variables_from tied_alike
  alike_all h = let d : drop v tied ≡ [] = drop_of_length-le tied h in rw d at e

-- the tie rule holds exactly where every tied variable agrees
alike-in : (ws : List ℕ) (a b : NamedRun) (v : ℕ) → tied_alike ws a b ≡ true → is_tied v ws ≡ true → share a b v ≡ true
unfolding tied_alike is_tied
alike-in [] a b v e t = let z : ◌≡◌ {A = ℕ} 0 1 = cc in absurd (omega arith)
alike-in (w ∷ ws) a b v e t = go (eqb w v) refl t (alike-in ws a b v (and_right (share a b w) (tied_alike ws a b) e))
  where
    go : (q : Bool) → eqb w v ≡ q → (q || is_tied v ws) ≡ true → (is_tied v ws ≡ true → share a b v ≡ true) → share a b v ≡ true
    go true q k f = let s : w ≡ v = eqb-true w v q in rw s at (and_left (share a b w) (tied_alike ws a b) e)
    go false q k f = f k

tied-first : (w : ℕ) (ws : List ℕ) → is_tied w (w ∷ ws) ≡ true
unfolding is_tied
tied-first w ws = rw (eq-eqb w w refl)

tied-behind : (v w : ℕ) (ws : List ℕ) → is_tied v ws ≡ true → is_tied v (w ∷ ws) ≡ true
unfolding is_tied
tied-behind v w ws e = go (eqb w v)
  where
    go : (q : Bool) → (q || is_tied v ws) ≡ true
    go true = refl
    go false = e

alike-out : (ws : List ℕ) (a b : NamedRun) → ((v : ℕ) → is_tied v ws ≡ true → share a b v ≡ true) → tied_alike ws a b ≡ true
unfolding tied_alike
alike-out [] a b f = refl
alike-out (w ∷ ws) a b f = and-true (share a b w) (tied_alike ws a b) (f w (tied-first w ws)) (alike-out ws a b (λ v h. f v (tied-behind v w ws h)))

-- a variable is among those of the flags exactly when its flag is set
pub record Flagged (v k : ℕ) (bs : List Bool) : Type 0 where
  pub index : ℕ
  pub place : v ≡ k + index
  pub inside : index < length bs
  pub set : get_or bs index false ≡ true

flagged-in : (v k : ℕ) (bs : List Bool) → is_tied v (variables_from k bs) ≡ true → Flagged v k bs
unfolding variables_from is_tied
flagged-in v k [] e = let z : ◌≡◌ {A = ℕ} 0 1 = cc in absurd (omega arith)
flagged-in v k (false ∷ bs) e =
    let f = flagged-in v (suc k) bs e in record { index = suc f.index; place = omega (arith, f.place); inside = omega (arith, f.inside); set = f.set }
flagged-in v k (true ∷ bs) e = go (eqb k v) refl e (flagged-in v (suc k) bs)
  where
    go : (q : Bool) → eqb k v ≡ q → (q || is_tied v (variables_from (suc k) bs)) ≡ true → (is_tied v (variables_from (suc k) bs) ≡ true → Flagged v (suc k) bs)
        → Flagged v k (true ∷ bs)
    go true q t f = record { index = 0; place = omega (arith, eqb-true k v q); inside = omega arith; set = refl }
    go false q t f = let r = f t in record { index = suc r.index; place = omega (arith, r.place); inside = omega (arith, r.inside); set = r.set }

flagged-out : (i k : ℕ) (bs : List Bool) → get_or bs i false ≡ true → is_tied (k + i) (variables_from k bs) ≡ true
unfolding variables_from
flagged-out i k [] e = let z : ◌≡◌ {A = ℕ} 0 1 = cc in absurd (omega arith)
flagged-out zero k (true ∷ bs) e = let q : k + 0 ≡ k = omega arith in rw q (tied-first k (variables_from (suc k) bs))
flagged-out zero k (false ∷ bs) e = let z : ◌≡◌ {A = ℕ} 0 1 = cc in absurd (omega arith)
flagged-out (suc i) k (true ∷ bs) e =
    let q : k + suc i ≡ suc k + i = omega arith in rw q (tied-behind (suc k + i) k (variables_from (suc k) bs) (flagged-out i (suc k) bs e))
flagged-out (suc i) k (false ∷ bs) e = let q : k + suc i ≡ suc k + i = omega arith in rw q (flagged-out i (suc k) bs e)

tied_below : (ws : List ℕ) (v : ℕ) → All (λ w. w < 8) ws → is_tied v ws ≡ true → v < 8
unfolding is_tied
tied_below [] v h e = let z : ◌≡◌ {A = ℕ} 0 1 = cc in absurd (omega arith)
tied_below (w ∷ ws) v h e = go (eqb w v) refl e (tied_below ws v h.1)
  where
    go : (q : Bool) → eqb w v ≡ q → (q || is_tied v ws) ≡ true → (is_tied v ws ≡ true → v < 8) → v < 8
    go true q k f = omega (arith, eqb-true w v q, h.0)
    go false q k f = f k

-- The tie rule over the flags of the tied variables.
pub tied-same : (ws : List ℕ) (tied : List Bool) → All (λ w. w < 8) ws → length tied ≡ 8 → ((v : ℕ) → v < 8 → get_or tied v false ≡ is_tied v ws)
    → (a b : NamedRun) → tied_alike (variables tied) a b ≡ tied_alike ws a b
tied-same ws tied h n f a b = both_ways (tied_alike (variables tied) a b) (tied_alike ws a b) into back
  where
    back : tied_alike ws a b ≡ true → tied_alike (variables tied) a b ≡ true
    back e = alike-out (variables tied) a b (λ v t. listed v (flagged-in v 0 tied t))
      where
        listed : (v : ℕ) → Flagged v 0 tied → share a b v ≡ true
        listed v r =
            let q : r.index ≡ v = omega (arith, r.place) in
            let m : v < 8 = omega (arith, r.inside) in
            alike-in ws a b v e (sym (f v m) ∙ rw q at r.set)

    into : tied_alike (variables tied) a b ≡ true → tied_alike ws a b ≡ true
    into e =
        alike-out ws a b
        (λ v t. alike-in (variables tied) a b v e (rw (native.Mathlib.Nat.zero-add v) at (flagged-out v 0 tied (f v (tied_below ws v h t) ∙ t))))
