-- The tie rule and subsumption, computed, say what the paper says.
use Prim.Native.Nat.{ℕ, ◌≤◌}
use mathlib.Core.Path.{◌≡◌, refl, subst, sym}
use mathlib.Core.Logic.{◌⊎◌, inl, inr}
use mathlib.Core.Bool.{Bool, true, false, ◌||◌, false≢true}
use mathlib.Core.List.Memᴰ
use mathlib.Core.List.{List, [], ◌∷◌}
use lib.Dec.{leb}
use borrow.Author.Tests.{leb-true, le-leb, eqb-true, eq-eqb}
use Rattle.formula.specs.Formula.{Formula}
use Rattle.runs.specs.Lists.{In}
use Rattle.runs.specs.Run.{Trail, last}
use Rattle.machine.specs.Configuration.{Config}
use Rattle.machine.specs.Firing.{is_held, value_of}
use Rattle.base.proofs.Tests.{or_right}
use Rattle.runs.proofs.Moves.{and_both}
use Rattle.analysis.specs.Rows.{NamedRun, named, alike, tied_alike, subsumes, subsumed}
use Rattle.analysis.specs.inner.Demand.{SameValue}

or-one : (a b : Bool) → (a || b) ≡ true → (a ≡ true) ⊎ (b ≡ true)
or-one true b h = inl refl
or-one false b h = inr h

-- one variable: "held by both with one value"
alike-in : (c d : Config) (v : ℕ) → alike (is_held c v) (is_held d v) (value_of c v) (value_of d v) ≡ true → SameValue c d v
alike-in c d v h = go (is_held c v) (is_held d v) refl refl h
  where
    go : (x y : Bool) → is_held c v ≡ x → is_held d v ≡ y → alike x y (value_of c v) (value_of d v) ≡ true → SameValue c d v
    go true true p q k = record { earlier_holds = p; this_holds = q; one_value = eqb-true (value_of c v) (value_of d v) k }
    go true false p q k = absurd (false≢true k)
    go false true p q k = absurd (false≢true k)
    go false false p q k = absurd (false≢true k)

alike-out : (c d : Config) (v : ℕ) → SameValue c d v → alike (is_held c v) (is_held d v) (value_of c v) (value_of d v) ≡ true
alike-out c d v s = rw (s.earlier_holds, s.this_holds) (eq-eqb (value_of c v) (value_of d v) s.one_value)

module _ (f : Formula) (c d : Config) (t u : Trail) where
  tied-in : (vs : List ℕ) → tied_alike vs (named f c t) (named f d u) ≡ true → (v : ℕ) → In v vs → SameValue c d v
  unfolding tied_alike named
  tied-in [] h v m = absurd (Memᴰ.not-nil m)
  tied-in (w ∷ ws) h v m =
      let k = and_both (alike (is_held c w) (is_held d w) (value_of c w) (value_of d w)) (tied_alike ws (named f c t) (named f d u)) h in
      go k.0 (tied-in ws k.1 v) (Memᴰ.cases_cons m)
    where
      go : alike (is_held c w) (is_held d w) (value_of c w) (value_of d w) ≡ true → (In v ws → SameValue c d v) → (v ≡ w) ⊎ In v ws → SameValue c d v
      go k rest (inl e) = subst (SameValue c d) (sym e) (alike-in c d w k)
      go k rest (inr n) = rest n

  tied_out : (vs : List ℕ) → ((v : ℕ) → In v vs → SameValue c d v) → tied_alike vs (named f c t) (named f d u) ≡ true
  unfolding tied_alike named
  tied_out [] h = refl
  tied_out (w ∷ ws) h = rw (alike-out c d w (h w (Memᴰ.head refl))) (tied_out ws (λ v m. h v (Memᴰ.tail m)))

  -- one earlier run, which ends in c, and this run, which ends in d
  pub subsumes-out : (vs : List ℕ) (start : ℕ) → start ≤ last t → ((v : ℕ) → In v vs → SameValue c d v) → subsumes vs start (named f d u) (named f c t) ≡ true
  unfolding subsumes named
  subsumes-out vs start h k = rw (le-leb start (last t) h) (tied_out vs k)

  pub subsumes-in : (vs : List ℕ) (start : ℕ) → subsumes vs start (named f d u) (named f c t) ≡ true → (start ≤ last t) × ((v : ℕ) → In v vs → SameValue c d v)
  unfolding subsumes named
  subsumes-in vs start h =
      let k = and_both (leb start (last t)) (tied_alike vs (named f c t) (named f d u)) h in
      (leb-true start (last t) k.0, tied-in vs k.1)

-- some earlier run subsumes this one
pub record Subsumer (vs : List ℕ) (start : ℕ) (this : NamedRun) (es : List NamedRun) : Type 0 where
  pub run : NamedRun
  pub member : In run es
  pub subsuming : subsumes vs start this run ≡ true

pub subsumed-in : (vs : List ℕ) (start : ℕ) (this : NamedRun) (es : List NamedRun) → subsumed vs start this es ≡ true → Subsumer vs start this es
unfolding subsumed
subsumed-in vs start this [] h = absurd (false≢true h)
subsumed-in vs start this (e ∷ es) h = go (or-one (subsumes vs start this e) (subsumed vs start this es) h) (subsumed-in vs start this es)
  where
    go : (subsumes vs start this e ≡ true) ⊎ (subsumed vs start this es ≡ true) → (subsumed vs start this es ≡ true → Subsumer vs start this es)
        → Subsumer vs start this (e ∷ es)
    go (inl k) rest = record { run = e; member = Memᴰ.head refl; subsuming = k }
    go (inr k) rest = record { run = (rest k).run; member = Memᴰ.tail (rest k).member; subsuming = (rest k).subsuming }

pub subsumed-out : (vs : List ℕ) (start : ℕ) (this e : NamedRun) (es : List NamedRun) → In e es → subsumes vs start this e ≡ true
    → subsumed vs start this es ≡ true
unfolding subsumed
subsumed-out vs start this e [] m h = absurd (Memᴰ.not-nil m)
subsumed-out vs start this e (x ∷ es) m h = go (Memᴰ.cases_cons m) (λ n. subsumed-out vs start this e es n h)
  where
    go : (e ≡ x) ⊎ In e es → (In e es → subsumed vs start this es ≡ true) → subsumed vs start this (x ∷ es) ≡ true
    go (inl q) rest = rw (← q, h)
    go (inr n) rest = or_right (subsumes vs start this x) (subsumed vs start this es) (rest n)
