-- An expired step stays expired while rising fields grow, and a step that fires is not expired: so an expired step never fires again.
use Prim.Native.Nat.{ℕ, ◌≤◌, ◌<◌}
use mathlib.Core.Path.{◌≡◌, refl, sym, ap, ◌∙◌}
use mathlib.Core.Bool.{Bool, true, false, not, ◌&&◌, cond, false≢true}
use mathlib.Core.List.{List, [], ◌∷◌}
use mathlib.Core.Option.{Option, none, some}
use native.Mathlib.Omega.{arith}
use native.Mathlib.Nat.{le_refl}
use native.Mathlib.Decide.{dec_lt}
use lib.ListN.{length, get_or, get_or-eq_default}
use lib.Dec.{ltb, leb, eqb}
use borrow.Author.Tests.{ltb-false, leb-false, le-ltb, lt-leb, not-true}
use Rattle.event_log.specs.Log.{Kind, Values, or_zero, present, field}
use Rattle.formula.specs.Formula.{Operator, equal, unequal, less, greater, atmost, atleast, Clause, TEST, TESTV, BIND, GATHER, Step}
use Rattle.formula.specs.Formula.{Leaf, CONST, VAR, COUNT, SUM, LENGTH, DIFFERENT, Expr, LEAF, ADD, SUB, LESS, ATMOST, EQUAL, NOT, AND, OR, IF}
use Rattle.machine.specs.Configuration.{Config, add_to}
use Rattle.machine.specs.inner.Valid.{Valid}
use Rattle.machine.specs.Guard.{sum, different, leaf, value, guard_holds}
use Rattle.machine.specs.Firing.{holds, value_of, is_held, hold, bind_all, gather_all, leave, passes, all_pass, fires, fire}
use Rattle.machine.specs.Expiry.{rises, first_bind, field_rises, gathers, leaf_rises, leaf_falls, missed, past_due, any_past_due, guard_falls, expired}
use Rattle.machine.specs.Expiry.{arrived, gathers_known, leaf_known, known, guard_known}
use Rattle.base.proofs.Tests.{and_left, and_right, and-true, and-keep, and-false, or-keep, or-false, not-true-false, both_ways}
use Rattle.machine.proofs.Binding.{bind-keeps, bind-shape, bind-first, taken}
use Rattle.machine.proofs.Gathering.{list-stays, length-stays, sum-grows}
use Rattle.machine.proofs.Trend.{Trend, trend, truth-down}

-- y has every field that x has, and every rising field is at least as large in y as in x
pub record Grows (fields : List Kind) (x y : Values) : Type 0 where
  pub stays : (f : ℕ) → present x f ≡ true → present y f ≡ true
  pub larger : (f : ℕ) → rises fields f ≡ true → field x f ≤ field y f

-- what was known of a guard stays known while fields only arrive
module _ (x y : Values) (stays : (f : ℕ) → present x f ≡ true → present y f ≡ true) (c : Config) (ks : List Clause) where
  arrived-stays : (o : Option ℕ) → arrived x o ≡ true → arrived y o ≡ true
  arrived-stays none h = h
  arrived-stays (some f) h = stays f h

  both-stay : (a b a' b' : Bool) → (a ≡ true → a' ≡ true) → (b ≡ true → b' ≡ true) → a && b ≡ true → a' && b' ≡ true
  both-stay a b a' b' f g h = and-true a' b' (f (and_left a b h)) (g (and_right a b h))

  gathers-stay : (ks : List Clause) (v : ℕ) → gathers_known x ks v ≡ true → gathers_known y ks v ≡ true
  gathers-stay [] v h = h
  gathers-stay (TEST f o z ∷ ks) v h = gathers-stay ks v h
  gathers-stay (TESTV f o u ∷ ks) v h = gathers-stay ks v h
  gathers-stay (BIND f u ∷ ks) v h = gathers-stay ks v h
  gathers-stay (GATHER f u ∷ ks) v h =
      both-stay (cond (eqb u v) (present x f) true) (gathers_known x ks v) (cond (eqb u v) (present y f) true) (gathers_known y ks v) (go (eqb u v))
      (gathers-stay ks v) h
    where
      go : (b : Bool) → cond b (present x f) true ≡ true → cond b (present y f) true ≡ true
      go true q = stays f q
      go false q = q

  leaf-stays : (l : Leaf) → leaf_known c ks x l ≡ true → leaf_known c ks y l ≡ true
  leaf-stays (CONST z) h = h
  leaf-stays (VAR v) h =
      or-keep (is_held c v) (arrived x (first_bind ks v)) (is_held c v) (arrived y (first_bind ks v)) (λ q. q) (arrived-stays (first_bind ks v)) h
  leaf-stays (COUNT t) h = h
  leaf-stays (SUM v) h = gathers-stay ks v h
  leaf-stays (LENGTH v) h = h
  leaf-stays (DIFFERENT v) h = h

  abbrev by : Values → Expr → Bool
  by z e = known c ks z e

  known-stays : (e : Expr) → by x e ≡ true → by y e ≡ true
  unfolding known
  known-stays (LEAF l) h = leaf-stays l h
  known-stays (ADD a b) h = both-stay (by x a) (by x b) (by y a) (by y b) (known-stays a) (known-stays b) h
  known-stays (SUB a b) h = both-stay (by x a) (by x b) (by y a) (by y b) (known-stays a) (known-stays b) h
  known-stays (LESS a b) h = both-stay (by x a) (by x b) (by y a) (by y b) (known-stays a) (known-stays b) h
  known-stays (ATMOST a b) h = both-stay (by x a) (by x b) (by y a) (by y b) (known-stays a) (known-stays b) h
  known-stays (EQUAL a b) h = both-stay (by x a) (by x b) (by y a) (by y b) (known-stays a) (known-stays b) h
  known-stays (NOT a) h = known-stays a h
  known-stays (AND a b) h = both-stay (by x a) (by x b) (by y a) (by y b) (known-stays a) (known-stays b) h
  known-stays (OR a b) h = both-stay (by x a) (by x b) (by y a) (by y b) (known-stays a) (known-stays b) h
  known-stays (IF a b d) h =
      both-stay (by x a) (by x b && by x d) (by y a) (by y b && by y d) (known-stays a)
      (both-stay (by x b) (by x d) (by y b) (by y d) (known-stays b) (known-stays d)) h

  pub guard-known-stays : (g : Option Expr) → guard_known c ks x g ≡ true → guard_known c ks y g ≡ true
  guard-known-stays none h = h
  guard-known-stays (some g) h = known-stays g h

module _ (fields : List Kind) (x y : Values) (grows : Grows fields x y) where
  missed-stays : (o : Operator) (a b z : ℕ) → a ≤ b → missed o a z ≡ true → missed o b z ≡ true
  missed-stays equal a b z p h = h
  missed-stays unequal a b z p h = h
  missed-stays less a b z p h = let k = ltb-false a z (not-true (ltb a z) h) in ap not (le-ltb b z (omega arith))
  missed-stays greater a b z p h = h
  missed-stays atmost a b z p h = let k = leb-false a z (not-true (leb a z) h) in ap not (lt-leb b z (omega arith))
  missed-stays atleast a b z p h = h

  due-stays : (f : ℕ) (o : Operator) (z : ℕ) → rises fields f && (present x f && missed o (field x f) z) ≡ true
      → rises fields f && (present y f && missed o (field y f) z) ≡ true
  due-stays f o z h =
      and-keep (rises fields f) (present x f && missed o (field x f) z) (present y f && missed o (field y f) z)
      (λ r q.
      and-true (present y f) (missed o (field y f) z) (grows.stays f (and_left (present x f) (missed o (field x f) z) q))
      (missed-stays o (field x f) (field y f) z (grows.larger f r) (and_right (present x f) (missed o (field x f) z) q))) h

  past-due-stays : (c : Config) (k : Clause) → past_due fields c x k ≡ true → past_due fields c y k ≡ true
  past-due-stays c (TEST f o z) h = due-stays f o z h
  past-due-stays c (TESTV f o v) h = due-stays f o (value_of c v) h
  past-due-stays c (BIND f v) h = h
  past-due-stays c (GATHER f v) h = h

  any-past-due-stays : (c : Config) (ks : List Clause) → any_past_due fields c x ks ≡ true → any_past_due fields c y ks ≡ true
  any-past-due-stays c [] h = h
  any-past-due-stays c (k ∷ ks) h =
      or-keep (past_due fields c x k) (any_past_due fields c x ks) (past_due fields c y k) (any_past_due fields c y ks) (past-due-stays c k)
      (any-past-due-stays c ks) h

  -- the values after binding, on x and on y
  module _ (states : ℕ) (c : Config) (valid : Valid states c) (s : Step) where
    abbrev ks : List Clause
    ks = s.clauses

    taken-grows : (old : ℕ) (o : Option ℕ) → field_rises fields o ≡ true → taken x old o ≤ taken y old o
    taken-grows old none h = absurd (false≢true h)
    taken-grows old (some f) h = grows.larger f h

    held_stays : (v : ℕ) → is_held c v ≡ true → value_of (bind_all c x ks) v ≡ value_of (bind_all c y ks) v
    held_stays v h = (bind-keeps c x ks v h).value-kept ∙ sym (bind-keeps c y ks v h).value-kept

    past_all : (e : Values) (v : ℕ) → 8 ≤ v → value_of (bind_all c e ks) v ≡ 0
    past_all e v h = get_or-eq_default (bind_all c e ks).values 0 (omega (arith, (bind-shape c e ks).values_length, valid.values_8))

    variable-grows : (v : ℕ) → leaf_rises fields c ks (VAR v) ≡ true → value_of (bind_all c x ks) v ≤ value_of (bind_all c y ks) v
    variable-grows v h = go (is_held c v) refl
      where
        in-8 : is_held c v ≡ false → Dec (v < 8) → value_of (bind_all c x ks) v ≤ value_of (bind_all c y ks) v
        in-8 e (yes k) =
            let p : v < length c.held = omega (arith, valid.held_8) in
            let q : v < length c.values = omega (arith, valid.values_8) in
            rw (bind-first c x ks v p q e, bind-first c y ks v p q e) (taken-grows (value_of c v) (first_bind ks v) (rw e at h))
        in-8 e (no k) = omega (arith, past_all x v (omega arith), past_all y v (omega arith))

        go : (b : Bool) → is_held c v ≡ b → value_of (bind_all c x ks) v ≤ value_of (bind_all c y ks) v
        go true e = omega (arith, held_stays v e)
        go false e = in-8 e (dec_lt v 8)

    leaf-grows : (l : Leaf) → leaf_rises fields c ks l ≡ true → leaf (leave c s x) l ≤ leaf (leave c s y) l
    unfolding leave
    leaf-grows (CONST z) h = le_refl _
    leaf-grows (VAR v) h = variable-grows v h
    leaf-grows (COUNT t) h = le_refl _
    leaf-grows (SUM v) h = sum-grows fields x y grows.larger c.lists ks v h
    leaf-grows (LENGTH v) h = omega (arith, length-stays fields x y grows.larger c.lists ks v)
    leaf-grows (DIFFERENT v) h = omega (arith, ap different (list-stays fields x y grows.larger c.lists ks v (not-true (gathers ks v) h)))

    leaf-shrinks : (l : Leaf) → leaf_falls fields c ks l ≡ true → leaf (leave c s y) l ≤ leaf (leave c s x) l
    unfolding leave
    leaf-shrinks (CONST z) h = le_refl _
    leaf-shrinks (VAR v) h = omega (arith, held_stays v h)
    leaf-shrinks (COUNT t) h = le_refl _
    leaf-shrinks (SUM v) h = omega (arith, ap sum (list-stays fields x y grows.larger c.lists ks v (not-true (gathers ks v) h)))
    leaf-shrinks (LENGTH v) h = omega (arith, length-stays fields x y grows.larger c.lists ks v)
    leaf-shrinks (DIFFERENT v) h = omega (arith, ap different (list-stays fields x y grows.larger c.lists ks v (not-true (gathers ks v) h)))

    -- Rising guards only grow, falling ones only shrink, from what the step leaves on x to what it leaves on y.
    pub guard-trend : (g : Expr) → Trend fields c ks (leave c s x) (leave c s y) g
    guard-trend g = trend fields c ks (leave c s x) (leave c s y) leaf-grows leaf-shrinks g

  -- Stable: a step expired by the values x is expired by the values y.
  pub stable-step : (states : ℕ) (c : Config) (s : Step) → Valid states c → expired fields c s x ≡ true → expired fields c s y ≡ true
  unfolding expired
  stable-step states c s valid =
      or-keep (any_past_due fields c x s.clauses) (falls && zero x s.guard) (any_past_due fields c y s.clauses) (falls && zero y s.guard)
      (any-past-due-stays c s.clauses) (and-keep falls (zero x s.guard) (zero y s.guard) (guard-stays s.guard))
    where
      falls : Bool
      falls = guard_falls fields c s.clauses s.guard

      zero : Values → Option Expr → Bool
      zero e g = guard_known c s.clauses e g && not (guard_holds (leave c s e) g)

      shrinks : (g : Option Expr) → guard_falls fields c s.clauses g ≡ true → not (guard_holds (leave c s x) g) ≡ true
          → not (guard_holds (leave c s y) g) ≡ true
      shrinks none f h = h
      shrinks (some g) f h = truth-down (value (leave c s x) g) (value (leave c s y) g) ((guard-trend states c valid s g).shrinks f) h

      guard-stays : (g : Option Expr) → guard_falls fields c s.clauses g ≡ true → zero x g ≡ true → zero y g ≡ true
      guard-stays g f h =
          let there = guard_known c s.clauses x g in
          let none_left = not (guard_holds (leave c s x) g) in
          and-true (guard_known c s.clauses y g) (not (guard_holds (leave c s y) g))
          (guard-known-stays x y grows.stays c s.clauses g (and_left there none_left h)) (shrinks g f (and_right there none_left h))

holds-not-missed : (o : Operator) (a z : ℕ) → holds o a z ≡ true → missed o a z ≡ false
holds-not-missed equal a z h = refl
holds-not-missed unequal a z h = refl
holds-not-missed less a z h = ap not h
holds-not-missed greater a z h = refl
holds-not-missed atmost a z h = ap not h
holds-not-missed atleast a z h = refl

-- x has every value of e
abbrev pub Covers : Values → Values → Type 0
Covers e x = (f : ℕ) → present e f ≡ true → get_or x f none ≡ get_or e f none

-- a step whose clauses pass on e reads only fields that e has: judged by x it reads the same
module _ (e x : Values) (covers : Covers e x) where
  same-field : (f : ℕ) (b : Bool) → present e f && b ≡ true → field x f ≡ field e f
  same-field f b h = ap or_zero (covers f (and_left (present e f) b h))

  same-bind : (c d b : Config) (ks : List Clause) → all_pass c d e ks ≡ true → bind_all b x ks ≡ bind_all b e ks
  same-bind c d b [] h = refl
  same-bind c d b (TEST f o z ∷ ks) h = same-bind c d b ks (and_right (passes c d e (TEST f o z)) (all_pass c d e ks) h)
  same-bind c d b (TESTV f o v ∷ ks) h = same-bind c d b ks (and_right (passes c d e (TESTV f o v)) (all_pass c d e ks) h)
  same-bind c d b (GATHER f v ∷ ks) h = same-bind c d b ks (and_right (passes c d e (GATHER f v)) (all_pass c d e ks) h)
  same-bind c d b (BIND f v ∷ ks) h =
      let p = and_left (passes c d e (BIND f v)) (all_pass c d e ks) h in
      rw (same-field f (eqb (field e f) (value_of d v)) p)
      (same-bind c d (hold b v (field e f)) ks (and_right (passes c d e (BIND f v)) (all_pass c d e ks) h))

  same-gather : (c d : Config) (ls : List (List ℕ)) (ks : List Clause) → all_pass c d e ks ≡ true → gather_all ls x ks ≡ gather_all ls e ks
  same-gather c d ls [] h = refl
  same-gather c d ls (TEST f o z ∷ ks) h = same-gather c d ls ks (and_right (passes c d e (TEST f o z)) (all_pass c d e ks) h)
  same-gather c d ls (TESTV f o v ∷ ks) h = same-gather c d ls ks (and_right (passes c d e (TESTV f o v)) (all_pass c d e ks) h)
  same-gather c d ls (BIND f v ∷ ks) h = same-gather c d ls ks (and_right (passes c d e (BIND f v)) (all_pass c d e ks) h)
  same-gather c d ls (GATHER f v ∷ ks) h =
      rw (ap or_zero (covers f (and_left (present e f) (all_pass c d e ks) h)))
      (same-gather c d (add_to ls v (field e f)) ks (and_right (present e f) (all_pass c d e ks) h))

  not-missed : (f : ℕ) (o : Operator) (z : ℕ) (r : Bool) → present e f && holds o (field e f) z ≡ true → (r && (present x f && missed o (field x f) z)) ≡ false
  not-missed f o z r h =
      let q : missed o (field x f) z ≡ false =
      rw (same-field f (holds o (field e f) z) h) (holds-not-missed o (field e f) z (and_right (present e f) (holds o (field e f) z) h)) in
      and-false r (present x f && missed o (field x f) z) (and-false (present x f) (missed o (field x f) z) q)

  passes-not-due : (fields : List Kind) (c d : Config) (k : Clause) → passes c d e k ≡ true → past_due fields c x k ≡ false
  passes-not-due fields c d (TEST f o z) h = not-missed f o z (rises fields f) h
  passes-not-due fields c d (TESTV f o v) h = not-missed f o (value_of c v) (rises fields f) h
  passes-not-due fields c d (BIND f v) h = refl
  passes-not-due fields c d (GATHER f v) h = refl

  all-pass-none-due : (fields : List Kind) (c d : Config) (ks : List Clause) → all_pass c d e ks ≡ true → any_past_due fields c x ks ≡ false
  all-pass-none-due fields c d [] h = refl
  all-pass-none-due fields c d (k ∷ ks) h =
      or-false (past_due fields c x k) (any_past_due fields c x ks) (passes-not-due fields c d k (and_left (passes c d e k) (all_pass c d e ks) h))
      (all-pass-none-due fields c d ks (and_right (passes c d e k) (all_pass c d e ks) h))

  same-leave : (c d : Config) (s : Step) → all_pass c d e s.clauses ≡ true → leave c s x ≡ leave c s e
  unfolding leave
  same-leave c d s h = rw (same-bind c d c s.clauses h, same-gather c d c.lists s.clauses h)

  -- a step that fires on an event is not expired by values that have all of the event's
  pub firing-not-expired : (fields : List Kind) (c : Config) (s : Step) → fires c s e ≡ true → expired fields c s x ≡ false
  unfolding fires expired
  firing-not-expired fields c s h =
      let tests = all_pass c (leave c s e) e s.clauses in
      let guard = guard_holds (leave c s e) s.guard in
      let pass : all_pass c (leave c s e) e s.clauses ≡ true = and_left tests guard h in
      let falls = guard_falls fields c s.clauses s.guard in
      let there = guard_known c s.clauses x s.guard in
      rw (same-leave c (leave c s e) s pass)
      (or-false (any_past_due fields c x s.clauses) (falls && (there && not guard)) (all-pass-none-due fields c (leave c s e) s.clauses pass)
      (and-false falls (there && not guard) (and-false there (not guard) (ap not (and_right tests guard h)))))

-- Silent: a step expired by the values x fires on no event whose values are all in y, where x has grown to y.
pub silent-step : (fields : List Kind) (x y e : Values) → Grows fields x y → Covers e y → (states : ℕ) (c : Config) (s : Step) → Valid states c
    → expired fields c s x ≡ true → fire c s e ≡ none
unfolding fire
silent-step fields x y e grows covers states c s valid h =
    let quiet : fires c s e ≡ false =
    not-true-false (fires c s e) (λ f. false≢true (sym (firing-not-expired e y covers fields c s f) ∙ stable-step fields x y grows states c s valid h)) in
    rw quiet

-- values by which every step is judged alike: the same fields are there, and rising ones are equal
pub record Like (fields : List Kind) (x y : Values) : Type 0 where
  pub there : (f : ℕ) → present x f ≡ present y f
  pub same : (f : ℕ) → rises fields f ≡ true → field x f ≡ field y f

pub like-expired : (fields : List Kind) (x y : Values) → Like fields x y → (states : ℕ) (c : Config) (s : Step) → Valid states c
    → expired fields c s x ≡ expired fields c s y
like-expired fields x y l states c s valid =
    both_ways (expired fields c s x) (expired fields c s y)
    (stable-step fields x y (record { stays = λ f h. sym (l.there f) ∙ h; larger = λ f r. omega (arith, l.same f r) }) states c s valid)
    (stable-step fields y x (record { stays = λ f h. l.there f ∙ h; larger = λ f r. omega (arith, l.same f r) }) states c s valid)
