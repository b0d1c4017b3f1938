-- What code carries of the lists follows every GATHER: their sums, lengths and numbers of different values.
use Prim.Native.Nat.{ℕ, zero, suc, ◌+◌, ◌*◌, ◌≤◌, ◌<◌, min}
use mathlib.Core.Path.{◌≡◌, refl, sym, ap, ◌∙◌}
use mathlib.Core.Bool.{Bool, true, false, not, ◌||◌, cond, true≢false}
use mathlib.Core.List.{List, [], ◌∷◌, ◌++◌}
use native.Mathlib.Omega.{arith}
use lib.ListN.{length, get_or, set, length-set, length-append, replicate}
use lib.Seq.{get_or-set_same, get_or-set_other}
use lib.Dec.{eqb}
use borrow.Author.Tests.{eqb-true, eqb-false, eq-eqb, ne_eqb}
use Rattle.base.specs.Lists.{All}
use Rattle.base.specs.Mask.{bit}
use Rattle.event_log.specs.Log.{Values, field}
use Rattle.formula.specs.Formula.{Clause, TEST, TESTV, BIND, GATHER}
use Rattle.formula.specs.Encode.{CLAUSE}
use Rattle.formula.specs.Correct.{Exists, Once}
use Rattle.machine.specs.Configuration.{list_of, add_to}
use Rattle.machine.specs.Guard.{sum, among, different}
use Rattle.machine.specs.Firing.{gather_all}
use Rattle.machine.specs.inner.Along.{tallies, tally_add, IsFresh, carry_all}
use Rattle.machine.proofs.Gathering.{total-append, list-add-other}

among-snoc : (y x : ℕ) (l : List ℕ) → among y (l ++ (x ∷ [])) ≡ (among y l || eqb x y)
among-snoc y x [] = go (eqb x y)
  where
    go : (b : Bool) → (b || false) ≡ b
    go true = refl
    go false = refl
among-snoc y x (z ∷ l) = go (eqb z y) (among-snoc y x l)
  where
    go : (b : Bool) → among y (l ++ (x ∷ [])) ≡ (among y l || eqb x y) → (b || among y (l ++ (x ∷ []))) ≡ ((b || among y l) || eqb x y)
    go true e = refl
    go false e = e

-- one value more: a new one adds one to the number of different values, any other none
pub different-more : (l : List ℕ) (x : ℕ) → different (l ++ (x ∷ [])) ≡ different l + bit (not (among x l))
different-more [] x = refl
different-more (y ∷ l) x = go (eqb y x) refl (different-more l x)
  where
    met : (b : Bool) → different l + bit (not b) ≡ cond b (different l) (suc (different l)) + 0
    met true = refl
    met false = omega arith

    other : (b : Bool) (n : ℕ) → different (l ++ (x ∷ [])) ≡ different l + n
        → cond b (different (l ++ (x ∷ []))) (suc (different (l ++ (x ∷ [])))) ≡ cond b (different l) (suc (different l)) + n
    other true n h = h
    other false n h = omega arith

    go : (b : Bool) → eqb y x ≡ b → different (l ++ (x ∷ [])) ≡ different l + bit (not (among x l))
        → cond (among y (l ++ (x ∷ []))) (different (l ++ (x ∷ []))) (suc (different (l ++ (x ∷ []))))
        ≡ cond (among y l) (different l) (suc (different l)) + bit (not (b || among x l))
    go true q h =
        let p : y ≡ x = eqb-true y x q in
        let s : among y (l ++ (x ∷ [])) ≡ true = among-snoc y x l ∙ ap (λ (b : Bool). among y l || b) (eq-eqb x y (sym p)) ∙ always (among y l) in
        rw s (rw p (h ∙ met (among x l)))
      where
        always : (b : Bool) → (b || true) ≡ true
        always true = refl
        always false = refl
    go false q h =
        let s : among y (l ++ (x ∷ [])) ≡ among y l =
        among-snoc y x l ∙ ap (λ (b : Bool). among y l || b) (ne_eqb x y (λ p. eqb-false y x q (sym p))) ∙ never (among y l) in
        rw s (other (among y l) (bit (not (among x l))) h)
      where
        never : (b : Bool) → (b || false) ≡ b
        never true = refl
        never false = refl

different-least : (l : List ℕ) → different l ≤ length l
different-least [] = omega arith
different-least (x ∷ l) = go (among x l) (different-least l)
  where
    go : (b : Bool) → different l ≤ length l → cond b (different l) (suc (different l)) ≤ suc (length l)
    go true h = omega arith
    go false h = omega arith

-- the three tallies of a list with one value more
module _ (l : List ℕ) (x : ℕ) (short : length l < 4294967295) where
  sum_more : min (sum l + x) 4294967295 ≡ sum (l ++ (x ∷ []))
  sum_more = omega (arith, total-append l (x ∷ []))

  length_more : min (length l + 1) 4294967295 ≡ length (l ++ (x ∷ []))
  length_more = omega (arith, length-append l (x ∷ []))

  different-next : min (different l + bit (not (among x l))) 4294967295 ≡ different (l ++ (x ∷ []))
  different-next = omega (arith, different-more l x, different-least (l ++ (x ∷ [])), length-append l (x ∷ []))

-- adding a value to a list adds it to the tallies
pub tally-add : (ls : List (List ℕ)) (v x : ℕ) → length ls ≡ 4 → v < 4 → length (list_of ls v) < 4294967295
    → tally_add (tallies ls) v x (not (among x (list_of ls v))) ≡ tallies (add_to ls v x)
unfolding tally_add
tally-add [] v x h k s = absurd (omega arith)
tally-add (a ∷ []) v x h k s = absurd (omega arith)
tally-add (a ∷ b ∷ []) v x h k s = absurd (omega arith)
tally-add (a ∷ b ∷ c ∷ []) v x h k s = absurd (omega arith)
tally-add (a ∷ b ∷ c ∷ d ∷ []) zero x h k s = rw (sum_more a x s, length_more a x s, different-next a x s)
tally-add (a ∷ b ∷ c ∷ d ∷ []) (suc zero) x h k s = rw (sum_more b x s, length_more b x s, different-next b x s)
tally-add (a ∷ b ∷ c ∷ d ∷ []) (suc (suc zero)) x h k s = rw (sum_more c x s, length_more c x s, different-next c x s)
tally-add (a ∷ b ∷ c ∷ d ∷ []) (suc (suc (suc zero))) x h k s = rw (sum_more d x s, length_more d x s, different-next d x s)
tally-add (a ∷ b ∷ c ∷ d ∷ []) (suc (suc (suc (suc v)))) x h k s = absurd (omega arith)
tally-add (a ∷ b ∷ c ∷ d ∷ z ∷ ls) v x h k s = absurd (omega arith)

-- ls are the lists before the step, of which `fresh` tells which values are new
module _ (fields : ℕ) (e : Values) (ls : List (List ℕ)) (fresh : List Bool) (eight : fields ≤ 8) (is : IsFresh ls e fresh)
    (short : (v : ℕ) → v < 4 → length (list_of ls v) < 4294967295) where
  -- the lists so far: those not marked are as before the step
  pub record Far (seen : List Bool) (far : List (List ℕ)) : Type 0 where
    pub marks-4 : length seen ≡ 4
    pub lists_4 : length far ≡ 4
    pub as_before : (v : ℕ) → v < 4 → get_or seen v false ≡ false → list_of far v ≡ list_of ls v

  far-next : (seen : List Bool) (far : List (List ℕ)) (v x : ℕ) → v < 4 → Far seen far → Far (set seen v true) (add_to far v x)
  far-next seen far v x k h = record {
    marks-4 = length-set seen v true ∙ h.marks-4;
    lists_4 = length-set far v (list_of far v ++ (x ∷ [])) ∙ h.lists_4;
    as_before = λ u l n. same u l n (eqb v u) refl;
  }
    where
      same : (u : ℕ) → u < 4 → get_or (set seen v true) u false ≡ false → (b : Bool) → eqb v u ≡ b → list_of (add_to far v x) u ≡ list_of ls u
      same u l n true q =
          let p : v ≡ u = eqb-true v u q in
          let t : get_or (set seen v true) u false ≡ true = rw p (get_or-set_same seen u true false (omega (arith, h.marks-4))) in
          absurd (true≢false (sym t ∙ n))
      same u l n false q =
          let ne : v ≡ u → ⊥ = eqb-false v u q in
          list-add-other far v u x ne ∙ h.as_before u l (sym (get_or-set_other seen v u true false (λ p. ne (sym p))) ∙ n)

  carried_from : (seen : List Bool) (far : List (List ℕ)) (ks : List Clause) → Far seen far → Once seen ks
      → All (λ k. Exists fields (CLAUSE k)) ks → carry_all fresh e (tallies far) ks ≡ tallies (gather_all far e ks)
  carried_from seen far [] h o x = refl
  carried_from seen far (TEST f p y ∷ ks) h o x = carried_from seen far ks h o.1 x.1
  carried_from seen far (TESTV f p v ∷ ks) h o x = carried_from seen far ks h o.1 x.1
  carried_from seen far (BIND f v ∷ ks) h o x = carried_from seen far ks h o.1 x.1
  carried_from seen far (GATHER f v ∷ ks) h o x =
      let four : v < 4 = x.0.1 in
      let b : list_of far v ≡ list_of ls v = h.as_before v four o.0 in
      let n : get_or fresh (v * 8 + f) false ≡ not (among (field e f) (list_of far v)) =
      is v f four (omega (arith, x.0.0)) ∙ ap (λ (l : List ℕ). not (among (field e f) l)) (sym b) in
      let a = tally-add far v (field e f) h.lists_4 four (omega (arith, short v four, ap (λ (l : List ℕ). length l) b)) in
      let ih = carried_from (set seen v true) (add_to far v (field e f)) ks (far-next seen far v (field e f) four h) o.1 x.1 in
      rw (n, a) ih

  -- What code does to the tallies at the clauses of a step leaves the tallies of the lists after it.
  pub carried : (ks : List Clause) → length ls ≡ 4 → Once (replicate 4 false) ks → All (λ k. Exists fields (CLAUSE k)) ks
      → carry_all fresh e (tallies ls) ks ≡ tallies (gather_all ls e ks)
  carried ks h o x = carried_from (replicate 4 false) ls ks (record { marks-4 = refl; lists_4 = h; as_before = λ v k n. refl }) o x
