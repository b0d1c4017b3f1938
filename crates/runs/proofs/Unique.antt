-- Only one answer meets the demand: the one that the search gives.
use mathlib.Core.Path.{◌≡◌, refl, sym, ap, subst}
use mathlib.Core.Logic.{◌⊎◌, inl, inr, ◌↔◌}
use Prim.Native.Nat.{ℕ, ◌≤◌, ◌<◌}
use native.Mathlib.Nat.{le_antisymm}
use native.Mathlib.Decide.{dec_lt}
use native.Mathlib.Omega.{arith}
use Rattle.runs.specs.Machine.{Machine}
use Rattle.runs.specs.inner.Laws.{Laws}
use Rattle.runs.specs.Run.{Trail, last, Follow}
use Rattle.runs.specs.Order.{Later}
use Rattle.runs.specs.Answer.{Answer, found, absent, crowded}
use Rattle.runs.specs.inner.Search.{search}
use Rattle.runs.specs.Demand.{Peak, FirstCrowded}
use Rattle.runs.specs.inner.Demand.{Named, Demand}
use Rattle.runs.proofs.Comparison.{later-asym}
use Rattle.runs.proofs.Trails.{follow_one}
use Rattle.runs.proofs.Meets.{search-meets}

module _ (M : Machine) where
  open M use {Config, start, events}

  peak-most : (i e p q : ℕ) → Peak M i e p → Peak M i e q → p ≤ q
  peak-most i e p q a b = go (dec_lt i e)
    where
      go : Dec (i < e) → p ≤ q
      go (yes h) = let r = a.reached h in b.largest r.event p r.from r.before r.count
      go (no h) = omega (arith, a.nothing (omega (arith, h)))

  peak-one : (i e p q : ℕ) → Peak M i e p → Peak M i e q → p ≡ q
  peak-one i e p q a b = le_antisymm (peak-most i e p q a b) (peak-most i e q p b a)

  named-one : (slots i : ℕ) (c d : Config) (t u : Trail) (p q : ℕ) → Named M slots i c t p → Named M slots i d u q
      → ◌≡◌ {A = Answer M} (found c t p) (found d u q)
  named-one slots i c d t u p q a b = λ j. found (configs j) (trails j) (peaks j)
    where
      go : (u ≡ t) ⊎ Later t u → (t ≡ u) ⊎ Later u t → t ≡ u
      go (inl e) k = sym e
      go (inr l) (inl e) = e
      go (inr l) (inr k) = absurd (later-asym t u l k)

      trails : t ≡ u
      trails = go (a.least u d b.run) (b.least t c a.run)

      configs : c ≡ d
      configs = follow_one M start start c d i u refl (subst (λ v. Follow M start i v c) trails a.run.path.follows) b.run.path.follows

      peaks : p ≡ q
      peaks = peak-one i (last u) p q (subst (λ v. Peak M i (last v) p) trails a.peak) b.peak

  crowded-first : (slots i m n : ℕ) → FirstCrowded M slots i m → FirstCrowded M slots i n → m ≤ n
  crowded-first slots i m n a b = go (dec_lt n m)
    where
      go : Dec (n < m) → m ≤ n
      go (yes h) = absurd (a.first n h b.here)
      go (no h) = omega (arith, h)

  pub only_one : (slots i : ℕ) (a b : Answer M) → Demand M slots i a → Demand M slots i b → a ≡ b
  only_one slots i (found c t p) (found d u q) x y = named-one slots i c d t u p q x y
  only_one slots i (found c t p) (absent q) x y = absurd (y.none t c x.run)
  only_one slots i (found c t p) (crowded n) x y = absurd (x.roomy n y.here)
  only_one slots i (absent p) (found d u q) x y = absurd (x.none u d y.run)
  only_one slots i (absent p) (absent q) x y = ap {B = Answer M} absent (peak-one i events p q x.peak y.peak)
  only_one slots i (absent p) (crowded n) x y = absurd (x.roomy n y.here)
  only_one slots i (crowded m) (found d u q) x y = absurd (y.roomy m x.here)
  only_one slots i (crowded m) (absent q) x y = absurd (y.roomy m x.here)
  only_one slots i (crowded m) (crowded n) x y = ap {B = Answer M} crowded (le_antisymm (crowded-first slots i m n x y) (crowded-first slots i n m y x))

-- the answer of a search is the one that the demand describes, in both directions
pub exactly : (M : Machine) (L : Laws M) (slots i : ℕ) → i ≤ M.events → (a : Answer M) → (search M slots i ≡ a) ↔ Demand M slots i a
exactly M L slots i h a =
    let met = search-meets M L slots i h in
    (λ e. subst (Demand M slots i) e met, λ d. only_one M slots i (search M slots i) a met d)
