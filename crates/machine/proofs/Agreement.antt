-- Firing in the paper's own words: every TEST, every TESTV, every pair of BINDs, and the guard.
use Prim.Native.Nat.{ℕ, ◌<◌}
use mathlib.Core.Path.{◌≡◌, refl, sym, ap, ◌∙◌}
use mathlib.Core.Logic.{◌⊎◌, inl, inr}
use mathlib.Core.Bool.{Bool, true, false}
use mathlib.Core.List.Memᴰ
use mathlib.Core.List.{List, [], ◌∷◌, Memᴰ}
use mathlib.Core.Option.{Option, some}
use native.Mathlib.Omega.{arith}
use lib.Dec.{eqb}
use borrow.Author.Tests.{eqb-true, eqb-false, eq-eqb}
use Rattle.event_log.specs.Log.{Values, present, field}
use Rattle.formula.specs.Formula.{Operator, Clause, TEST, TESTV, BIND, GATHER, Step}
use Rattle.machine.specs.Configuration.{Config}
use Rattle.machine.specs.inner.Valid.{Valid}
use Rattle.machine.specs.Guard.{guard_holds}
use Rattle.machine.specs.Firing.{holds, value_of, is_held, bind_all, leave, passes, all_pass, fires}
use Rattle.machine.specs.Expiry.{first_bind}
use Rattle.base.proofs.Tests.{and_left, and_right, and-true}
use Rattle.machine.proofs.Binding.{bind-keeps, bind-first, taken}

-- a step with these clauses has the clause
abbrev Has : List Clause → Clause → Type 0
Has ks k = Memᴰ k ks

-- the field that a clause reads
abbrev pub field_of : Clause → ℕ
field_of (TEST f o x) = f
field_of (TESTV f o v) = f
field_of (BIND f v) = f
field_of (GATHER f v) = f

-- "A step fires on an event if every TEST holds, every TESTV holds against values held before, every BIND agrees with a value
-- held before or bound by another BIND of the step, and the guard is nonzero"; "A TEST, TESTV, BIND or GATHER of an absent field keeps the step from firing"
pub record Firing (c : Config) (s : Step) (e : Values) : Type 0 where
  pub there : (k : Clause) → Memᴰ k s.clauses → present e (field_of k) ≡ true
  pub tests : (f : ℕ) (o : Operator) (x : ℕ) → Memᴰ (TEST f o x) s.clauses → holds o (field e f) x ≡ true
  pub testvs : (f : ℕ) (o : Operator) (v : ℕ) → Memᴰ (TESTV f o v) s.clauses → holds o (field e f) (value_of c v) ≡ true
  pub with-held : (f v : ℕ) → Memᴰ (BIND f v) s.clauses → is_held c v ≡ true → field e f ≡ value_of c v
  pub with_bound : (f g v : ℕ) → Memᴰ (BIND f v) s.clauses → Memᴰ (BIND g v) s.clauses → field e f ≡ field e g
  pub guard : guard_holds (leave c s e) s.guard ≡ true

all-each : (c d : Config) (e : Values) (ks : List Clause) → all_pass c d e ks ≡ true → (k : Clause) → Has ks k → passes c d e k ≡ true
all-each c d e [] h k m = absurd (Memᴰ.not-nil m)
all-each c d e (x ∷ ks) h k m = go (all-each c d e ks (and_right (passes c d e x) (all_pass c d e ks) h) k) (Memᴰ.cases_cons m)
  where
    go : (Has ks k → passes c d e k ≡ true) → (k ≡ x) ⊎ Has ks k → passes c d e k ≡ true
    go ih (inl q) = rw q (and_left (passes c d e x) (all_pass c d e ks) h)
    go ih (inr n) = ih n

each_all : (c d : Config) (e : Values) (ks : List Clause) → ((k : Clause) → Has ks k → passes c d e k ≡ true) → all_pass c d e ks ≡ true
each_all c d e [] h = refl
each_all c d e (x ∷ ks) h = and-true (passes c d e x) (all_pass c d e ks) (h x (Memᴰ.head refl)) (each_all c d e ks (λ k m. h k (Memᴰ.tail m)))

-- the field of the first BIND of v is the field of a BIND of v
record First (ks : List Clause) (v : ℕ) : Type 0 where
  from : ℕ
  found : first_bind ks v ≡ some from
  there : Has ks (BIND from v)

-- one more clause in front that does not bind v
past : (k : Clause) (ks : List Clause) (v : ℕ) → first_bind (k ∷ ks) v ≡ first_bind ks v → First ks v → First (k ∷ ks) v
past k ks v q r = record { from = r.from; found = q ∙ r.found; there = Memᴰ.tail r.there }

-- a clause that is no BIND of v stands in front
behind : (k : Clause) (ks : List Clause) (f v : ℕ) → (BIND f v ≡ k → ⊥) → Has (k ∷ ks) (BIND f v) → Has ks (BIND f v)
behind k ks f v ne m = go (Memᴰ.cases_cons m)
  where
    go : (BIND f v ≡ k) ⊎ Has ks (BIND f v) → Has ks (BIND f v)
    go (inl q) = absurd (ne q)
    go (inr n) = n

first_of : (ks : List Clause) (f v : ℕ) → Has ks (BIND f v) → First ks v
first_of [] f v m = absurd (Memᴰ.not-nil m)
first_of (TEST g o x ∷ ks) f v m =
    past (TEST g o x) ks v refl
    (first_of ks f v (behind (TEST g o x) ks f v (λ (q : BIND f v ≡ TEST g o x). let z : ◌≡◌ {A = ℕ} 0 1 = cc in omega arith) m))
first_of (TESTV g o u ∷ ks) f v m =
    past (TESTV g o u) ks v refl
    (first_of ks f v (behind (TESTV g o u) ks f v (λ (q : BIND f v ≡ TESTV g o u). let z : ◌≡◌ {A = ℕ} 0 1 = cc in omega arith) m))
first_of (GATHER g u ∷ ks) f v m =
    past (GATHER g u) ks v refl
    (first_of ks f v (behind (GATHER g u) ks f v (λ (q : BIND f v ≡ GATHER g u). let z : ◌≡◌ {A = ℕ} 0 1 = cc in omega arith) m))
first_of (BIND g u ∷ ks) f v m = go (first_of ks f v) (eqb u v) refl
  where
    go : (Has ks (BIND f v) → First ks v) → (b : Bool) → eqb u v ≡ b → First (BIND g u ∷ ks) v
    go ih true q = let p : u ≡ v = eqb-true u v q in record { from = g; found = (rw q); there = Memᴰ.head (ap (λ (i : ℕ). BIND g i) (sym p)) }
    go ih false q =
        let ne : u ≡ v → ⊥ = eqb-false u v q in
        past (BIND g u) ks v (rw q) (ih (behind (BIND g u) ks f v (λ (p : BIND f v ≡ BIND g u). let r : u ≡ v = cc in ne r) m))

passes-there : (c d : Config) (e : Values) (k : Clause) → passes c d e k ≡ true → present e (field_of k) ≡ true
passes-there c d e (TEST f o x) h = and_left (present e f) _ h
passes-there c d e (TESTV f o v) h = and_left (present e f) _ h
passes-there c d e (BIND f v) h = and_left (present e f) _ h
passes-there c d e (GATHER f v) h = h

-- A step that fires meets every condition of the paper.
pub fires-means : (c : Config) (s : Step) (e : Values) → fires c s e ≡ true → Firing c s e
unfolding fires leave
fires-means c s e h =
    let d = leave c s e in
    let each = all-each c d e s.clauses (and_left (all_pass c d e s.clauses) (guard_holds d s.guard) h) in
    let bound : (f v : ℕ) → Has s.clauses (BIND f v) → field e f ≡ value_of (bind_all c e s.clauses) v =
    λ f v m. eqb-true (field e f) (value_of d v) (and_right (present e f) _ (each (BIND f v) m)) in
    record {
      there = λ k m. passes-there c d e k (each k m);
      tests = λ f o x m. and_right (present e f) _ (each (TEST f o x) m);
      testvs = λ f o v m. and_right (present e f) _ (each (TESTV f o v) m);
      with-held = λ f v m t. bound f v m ∙ (bind-keeps c e s.clauses v t).value-kept;
      with_bound = λ f g v m n. bound f v m ∙ sym (bound g v n);
      guard = and_right (all_pass c d e s.clauses) (guard_holds d s.guard) h;
    }

-- A step whose BINDs name variables, and that meets every condition of the paper, fires.
pub means-fires : (states : ℕ) (c : Config) (s : Step) (e : Values) → Valid states c → ((f v : ℕ) → Memᴰ (BIND f v) s.clauses → v < 8)
    → Firing c s e → fires c s e ≡ true
unfolding fires leave
means-fires states c s e valid below h = and-true (all_pass c d e s.clauses) (guard_holds d s.guard) (each_all c d e s.clauses pass) h.guard
  where
    d : Config
    d = leave c s e

    agrees : (f v : ℕ) → Has s.clauses (BIND f v) → (b : Bool) → is_held c v ≡ b → field e f ≡ value_of (bind_all c e s.clauses) v
    agrees f v m true t = h.with-held f v m t ∙ sym (bind-keeps c e s.clauses v t).value-kept
    agrees f v m false t =
        let r = first_of s.clauses f v m in
        let k = below f v m in
        let p : value_of (bind_all c e s.clauses) v ≡ taken e (value_of c v) (first_bind s.clauses v) =
        bind-first c e s.clauses v (omega (arith, valid.held_8)) (omega (arith, valid.values_8)) t in
        h.with_bound f r.from v m r.there ∙ sym (p ∙ ap (λ (o : Option ℕ). taken e (value_of c v) o) r.found)

    pass : (k : Clause) → Has s.clauses k → passes c d e k ≡ true
    pass (TEST f o x) m = and-true (present e f) _ (h.there (TEST f o x) m) (h.tests f o x m)
    pass (TESTV f o v) m = and-true (present e f) _ (h.there (TESTV f o v) m) (h.testvs f o v m)
    pass (BIND f v) m =
        and-true (present e f) _ (h.there (BIND f v) m) (eq-eqb (field e f) (value_of d v) (agrees f v m (is_held c v) refl))
    pass (GATHER f v) m = h.there (GATHER f v) m
