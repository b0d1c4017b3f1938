-- What a step's GATHERs leave: each list with the values that the step adds to it; and how a sum, a length and a number of different values change with the
-- event.
use Prim.Native.Nat.{ℕ, ◌+◌, ◌≤◌, ◌<◌}
use mathlib.Core.Path.{◌≡◌, refl, sym, ap, ◌∙◌}
use mathlib.Core.Bool.{Bool, true, false, ◌||◌, cond, true≢false}
use mathlib.Core.List.{List, [], ◌∷◌, ◌++◌, append-nil, append_assoc}
use native.Mathlib.Omega.{arith}
use native.Mathlib.Decide.{dec_lt}
use lib.ListN.{length, length-set, length-append, get_or-eq_default}
use lib.Seq.{get_or-set_same, get_or-set_other}
use lib.Dec.{eqb}
use borrow.Author.Tests.{eqb-true, eqb-false}
use Rattle.event_log.specs.Log.{Kind, Values, field}
use Rattle.formula.specs.Formula.{Clause, TEST, TESTV, BIND, GATHER}
use Rattle.machine.specs.Configuration.{list_of, add_to}
use Rattle.machine.specs.Guard.{total, sum}
use Rattle.machine.specs.Firing.{gather_all}
use Rattle.machine.specs.Expiry.{rises, gathers, gathers_rising}
use Rattle.base.proofs.Tests.{and_left, and_right}

pub list-add-same : (ls : List (List ℕ)) (v x : ℕ) → v < length ls → list_of (add_to ls v x) v ≡ list_of ls v ++ (x ∷ [])
list-add-same ls v x h = get_or-set_same ls v (list_of ls v ++ (x ∷ [])) [] h

pub list-add-other : (ls : List (List ℕ)) (u v x : ℕ) → (u ≡ v → ⊥) → list_of (add_to ls u x) v ≡ list_of ls v
list-add-other ls u v x ne = get_or-set_other ls u v (list_of ls u ++ (x ∷ [])) [] (λ q. ne (sym q))

pub length-gather-all : (ls : List (List ℕ)) (e : Values) (ks : List Clause) → length (gather_all ls e ks) ≡ length ls
length-gather-all ls e [] = refl
length-gather-all ls e (TEST f o x ∷ ks) = length-gather-all ls e ks
length-gather-all ls e (TESTV f o v ∷ ks) = length-gather-all ls e ks
length-gather-all ls e (BIND f v ∷ ks) = length-gather-all ls e ks
length-gather-all ls e (GATHER f v ∷ ks) = length-gather-all (add_to ls v (field e f)) e ks ∙ length-set ls v (list_of ls v ++ (field e f ∷ []))

-- the values that the step adds to list v
abbrev pub added : Values → List Clause → ℕ → List ℕ
added e [] v = []
added e (TEST f o x ∷ ks) v = added e ks v
added e (TESTV f o u ∷ ks) v = added e ks v
added e (BIND f u ∷ ks) v = added e ks v
added e (GATHER f u ∷ ks) v = cond (eqb u v) (field e f ∷ added e ks v) (added e ks v)

pub list-after : (ls : List (List ℕ)) (e : Values) (ks : List Clause) (v : ℕ) → v < length ls → list_of (gather_all ls e ks) v ≡ list_of ls v ++ added e ks v
list-after ls e [] v h = sym (append-nil (list_of ls v))
list-after ls e (TEST f o x ∷ ks) v h = list-after ls e ks v h
list-after ls e (TESTV f o u ∷ ks) v h = list-after ls e ks v h
list-after ls e (BIND f u ∷ ks) v h = list-after ls e ks v h
list-after ls e (GATHER f u ∷ ks) v h =
    go (list-after (add_to ls u x) e ks v (omega (arith, length-set ls u (list_of ls u ++ (x ∷ []))))) (eqb u v) refl
  where
    x : ℕ
    x = field e f

    go : list_of (gather_all (add_to ls u x) e ks) v ≡ list_of (add_to ls u x) v ++ added e ks v → (b : Bool) → eqb u v ≡ b
        → list_of (gather_all (add_to ls u x) e ks) v ≡ list_of ls v ++ cond b (x ∷ added e ks v) (added e ks v)
    go ih true q =
        let p : u ≡ v = eqb-true u v q in
        let s : list_of (add_to ls u x) v ≡ list_of ls v ++ (x ∷ []) = rw p (list-add-same ls v x h) in
        ih ∙ ap (λ (l : List ℕ). l ++ added e ks v) s ∙ append_assoc (list_of ls v) (x ∷ []) (added e ks v)
    go ih false q = ih ∙ ap (λ (l : List ℕ). l ++ added e ks v) (list-add-other ls u v x (eqb-false u v q))

-- past the last list there is none
list-beyond : (ls : List (List ℕ)) (e : Values) (ks : List Clause) (v : ℕ) → length ls ≤ v → list_of (gather_all ls e ks) v ≡ []
list-beyond ls e ks v h = get_or-eq_default (gather_all ls e ks) [] (omega (arith, length-gather-all ls e ks))

none-added : (e : Values) (ks : List Clause) (v : ℕ) → gathers ks v ≡ false → added e ks v ≡ []
none-added e [] v h = refl
none-added e (TEST f o x ∷ ks) v h = none-added e ks v h
none-added e (TESTV f o u ∷ ks) v h = none-added e ks v h
none-added e (BIND f u ∷ ks) v h = none-added e ks v h
none-added e (GATHER f u ∷ ks) v h = go (none-added e ks v) (eqb u v) h
  where
    go : (gathers ks v ≡ false → added e ks v ≡ []) → (b : Bool) → b || gathers ks v ≡ false → cond b (field e f ∷ added e ks v) (added e ks v) ≡ []
    go ih true q = absurd (true≢false q)
    go ih false q = ih q

pub total-append : (a b : List ℕ) → total (a ++ b) ≡ total a + total b
total-append [] b = omega arith
total-append (x ∷ a) b = omega (arith, total-append a b)

-- two events whose rising fields grow from x to y
module _ (fields : List Kind) (x y : Values) (grows : (f : ℕ) → rises fields f ≡ true → field x f ≤ field y f) where
  added-length : (ks : List Clause) (v : ℕ) → length (added x ks v) ≡ length (added y ks v)
  added-length [] v = refl
  added-length (TEST f o z ∷ ks) v = added-length ks v
  added-length (TESTV f o u ∷ ks) v = added-length ks v
  added-length (BIND f u ∷ ks) v = added-length ks v
  added-length (GATHER f u ∷ ks) v = go (added-length ks v) (eqb u v)
    where
      go : length (added x ks v) ≡ length (added y ks v) → (b : Bool)
          → length (cond b (field x f ∷ added x ks v) (added x ks v)) ≡ length (cond b (field y f ∷ added y ks v) (added y ks v))
      go ih true = omega arith
      go ih false = ih

  added-grows : (ks : List Clause) (v : ℕ) → gathers_rising fields ks v ≡ true → total (added x ks v) ≤ total (added y ks v)
  added-grows [] v h = omega arith
  added-grows (TEST f o z ∷ ks) v h = added-grows ks v h
  added-grows (TESTV f o u ∷ ks) v h = added-grows ks v h
  added-grows (BIND f u ∷ ks) v h = added-grows ks v h
  added-grows (GATHER f u ∷ ks) v h =
      go (eqb u v) (and_left (cond (eqb u v) (rises fields f) true) (gathers_rising fields ks v) h)
      (added-grows ks v (and_right (cond (eqb u v) (rises fields f) true) (gathers_rising fields ks v) h))
    where
      go : (b : Bool) → cond b (rises fields f) true ≡ true → total (added x ks v) ≤ total (added y ks v)
          → total (cond b (field x f ∷ added x ks v) (added x ks v)) ≤ total (cond b (field y f ∷ added y ks v) (added y ks v))
      go true r ih = omega (arith, grows f r)
      go false r ih = ih

  module _ (ls : List (List ℕ)) (ks : List Clause) (v : ℕ) where
    -- "the number of different values is both where the step gathers none", and so is a sum: the list is the same
    pub list-stays : gathers ks v ≡ false → list_of (gather_all ls x ks) v ≡ list_of (gather_all ls y ks) v
    list-stays h = go (dec_lt v (length ls))
      where
        go : Dec (v < length ls) → list_of (gather_all ls x ks) v ≡ list_of (gather_all ls y ks) v
        go (yes k) = rw (list-after ls x ks v k, list-after ls y ks v k, none-added x ks v h, none-added y ks v h)
        go (no k) = rw (list-beyond ls x ks v (omega arith), list-beyond ls y ks v (omega arith))

    -- "a length is both"
    pub length-stays : length (list_of (gather_all ls x ks) v) ≡ length (list_of (gather_all ls y ks) v)
    length-stays = go (dec_lt v (length ls))
      where
        go : Dec (v < length ls) → length (list_of (gather_all ls x ks) v) ≡ length (list_of (gather_all ls y ks) v)
        go (yes k) =
            rw (list-after ls x ks v k, list-after ls y ks v k)
            (omega (arith, length-append (list_of ls v) (added x ks v), length-append (list_of ls v) (added y ks v), added-length ks v))
        go (no k) = rw (list-beyond ls x ks v (omega arith), list-beyond ls y ks v (omega arith))

    -- "a sum is rising where the step gathers a rising field into it"
    pub sum-grows : gathers_rising fields ks v ≡ true → sum (list_of (gather_all ls x ks) v) ≤ sum (list_of (gather_all ls y ks) v)
    sum-grows h = go (dec_lt v (length ls))
      where
        go : Dec (v < length ls) → sum (list_of (gather_all ls x ks) v) ≤ sum (list_of (gather_all ls y ks) v)
        go (yes k) =
            rw (list-after ls x ks v k, list-after ls y ks v k)
            (omega (arith, total-append (list_of ls v) (added x ks v), total-append (list_of ls v) (added y ks v), added-grows ks v h))
        go (no k) = rw (list-beyond ls x ks v (omega arith), list-beyond ls y ks v (omega arith)) (omega arith)
