-- A guard is falling and takes no value that never arrived exactly where it is falling with such fields counted as plain: one judgement serves both.
use Prim.Native.Nat.{ℕ, zero, suc}
use mathlib.Core.Path.{◌≡◌, refl, sym}
use mathlib.Core.Bool.{Bool, true, false, not, ◌&&◌, ◌||◌, cond}
use mathlib.Core.List.{List, [], ◌∷◌}
use mathlib.Core.Option.{Option, none, some}
use lib.Dec.{eqb}
use Rattle.base.proofs.Tests.{and-end}
use Rattle.event_log.specs.Log.{Kind, Values, present}
use Rattle.formula.specs.Formula.{Clause, TEST, TESTV, BIND, GATHER}
use Rattle.formula.specs.Formula.{Leaf, CONST, VAR, COUNT, SUM, LENGTH, DIFFERENT, Expr, LEAF, ADD, SUB, LESS, ATMOST, EQUAL, NOT, AND, OR, IF}
use Rattle.machine.specs.Configuration.{Config}
use Rattle.machine.specs.Firing.{is_held}
use Rattle.machine.specs.Expiry.{rises, first_bind, field_rises, gathers, gathers_rising, leaf_rises, leaf_falls, rising, falling, guard_falls}
use Rattle.machine.specs.Expiry.{arrived, gathers_known, leaf_known, known, guard_known}
use Rattle.machine.specs.inner.Arrived.{kinds_in}

and_none : (a : Bool) → (a && false) ≡ false
and_none true = refl
and_none false = refl

-- two judgements, each with what it knows
shuffle : (a p b q : Bool) → ((a && p) && (b && q)) ≡ ((a && b) && (p && q))
shuffle true true b q = refl
shuffle true false b q = sym (and_none b)
shuffle false p b q = refl

twice : (a b p : Bool) → ((a && p) && (b && p)) ≡ ((a && b) && p)
twice true true true = refl
twice true true false = refl
twice true false true = refl
twice true false false = refl
twice false b p = refl

-- a field rises and has a value
pub rises-in : (fields : List Kind) (x : Values) (f : ℕ) → rises (kinds_in fields x) f ≡ (rises fields f && present x f)
unfolding kinds_in
rises-in [] x f = refl
rises-in (k ∷ ks) [] zero = sym (and_none (rises (k ∷ ks) 0))
rises-in (k ∷ ks) [] (suc f) = rises-in ks [] f
rises-in (k ∷ ks) (none ∷ x) zero = sym (and_none (rises (k ∷ ks) 0))
rises-in (k ∷ ks) (none ∷ x) (suc f) = rises-in ks x f
rises-in (k ∷ ks) (some y ∷ x) zero = and-end (rises (k ∷ ks) 0)
rises-in (k ∷ ks) (some y ∷ x) (suc f) = rises-in ks x f

module _ (fields : List Kind) (x : Values) (c : Config) (ks : List Clause) where
  variable-in : (o : Option ℕ) (b : Bool) → (b || field_rises (kinds_in fields x) o) ≡ ((b || field_rises fields o) && (b || arrived x o))
  variable-in o true = refl
  variable-in none false = refl
  variable-in (some f) false = rises-in fields x f

  sum-in : (ks : List Clause) (v : ℕ) → gathers_rising (kinds_in fields x) ks v ≡ (gathers_rising fields ks v && gathers_known x ks v)
  sum-in [] v = refl
  sum-in (TEST f o z ∷ ks) v = sum-in ks v
  sum-in (TESTV f o u ∷ ks) v = sum-in ks v
  sum-in (BIND f u ∷ ks) v = sum-in ks v
  sum-in (GATHER f u ∷ ks) v =
      rw (sum-in ks v, rises-in fields x f) (go (eqb u v))
    where
      go : (b : Bool) → (cond b (rises fields f && present x f) true && (gathers_rising fields ks v && gathers_known x ks v))
          ≡ ((cond b (rises fields f) true && gathers_rising fields ks v) && (cond b (present x f) true && gathers_known x ks v))
      go true = shuffle (rises fields f) (present x f) (gathers_rising fields ks v) (gathers_known x ks v)
      go false = refl

  -- a list into which nothing is gathered takes no value
  none_in : (ks : List Clause) (v : ℕ) → not (gathers ks v) ≡ (not (gathers ks v) && gathers_known x ks v)
  none_in [] v = refl
  none_in (TEST f o z ∷ ks) v = none_in ks v
  none_in (TESTV f o u ∷ ks) v = none_in ks v
  none_in (BIND f u ∷ ks) v = none_in ks v
  none_in (GATHER f u ∷ ks) v = go (none_in ks v) (eqb u v)
    where
      go : not (gathers ks v) ≡ (not (gathers ks v) && gathers_known x ks v) → (b : Bool)
          → not (b || gathers ks v) ≡ (not (b || gathers ks v) && (cond b (present x f) true && gathers_known x ks v))
      go ih true = refl
      go ih false = ih

  held-known : (b d : Bool) → b ≡ (b && (b || d))
  held-known true d = refl
  held-known false d = refl

  rising-leaf : (l : Leaf) → leaf_rises (kinds_in fields x) c ks l ≡ (leaf_rises fields c ks l && leaf_known c ks x l)
  rising-leaf (CONST z) = refl
  rising-leaf (VAR v) = variable-in (first_bind ks v) (is_held c v)
  rising-leaf (COUNT t) = refl
  rising-leaf (SUM v) = sum-in ks v
  rising-leaf (LENGTH v) = refl
  rising-leaf (DIFFERENT v) = and-end (not (gathers ks v))

  falling-leaf : (l : Leaf) → leaf_falls (kinds_in fields x) c ks l ≡ (leaf_falls fields c ks l && leaf_known c ks x l)
  falling-leaf (CONST z) = refl
  falling-leaf (VAR v) = held-known (is_held c v) (arrived x (first_bind ks v))
  falling-leaf (COUNT t) = refl
  falling-leaf (SUM v) = none_in ks v
  falling-leaf (LENGTH v) = refl
  falling-leaf (DIFFERENT v) = and-end (not (gathers ks v))

  abbrev up : Expr → Bool
  up e = rising fields c ks e

  abbrev down : Expr → Bool
  down e = falling fields c ks e

  abbrev sure : Expr → Bool
  sure e = known c ks x e

  record Judged (e : Expr) : Type 0 where
    ups : rising (kinds_in fields x) c ks e ≡ (up e && sure e)
    downs : falling (kinds_in fields x) c ks e ≡ (down e && sure e)

  judged : (e : Expr) → Judged e
  unfolding rising falling known
  judged (LEAF l) = record { ups = rising-leaf l; downs = falling-leaf l }
  judged (ADD a b) =
      let i = judged a in
      let j = judged b in
      record {
        ups = rw (i.ups, j.ups) (shuffle (up a) (sure a) (up b) (sure b));
        downs = rw (i.downs, j.downs) (shuffle (down a) (sure a) (down b) (sure b));
      }
  judged (SUB a b) =
      let i = judged a in
      let j = judged b in
      record {
        ups = rw (i.ups, j.downs) (shuffle (up a) (sure a) (down b) (sure b));
        downs = rw (i.downs, j.ups) (shuffle (down a) (sure a) (up b) (sure b));
      }
  judged (LESS a b) =
      let i = judged a in
      let j = judged b in
      record {
        ups = rw (i.downs, j.ups) (shuffle (down a) (sure a) (up b) (sure b));
        downs = rw (i.ups, j.downs) (shuffle (up a) (sure a) (down b) (sure b));
      }
  judged (ATMOST a b) =
      let i = judged a in
      let j = judged b in
      record {
        ups = rw (i.downs, j.ups) (shuffle (down a) (sure a) (up b) (sure b));
        downs = rw (i.ups, j.downs) (shuffle (up a) (sure a) (down b) (sure b));
      }
  judged (EQUAL a b) =
      let i = judged a in
      let j = judged b in
      let both : (rising (kinds_in fields x) c ks a && falling (kinds_in fields x) c ks a)
      && (rising (kinds_in fields x) c ks b && falling (kinds_in fields x) c ks b)
      ≡ ((up a && down a) && (up b && down b)) && (sure a && sure b) =
      rw (i.ups, i.downs, j.ups, j.downs, twice (up a) (down a) (sure a), twice (up b) (down b) (sure b))
      (shuffle (up a && down a) (sure a) (up b && down b) (sure b)) in
      record { ups = both; downs = both }
  judged (NOT a) = let i = judged a in record { ups = i.downs; downs = i.ups }
  judged (AND a b) =
      let i = judged a in
      let j = judged b in
      record {
        ups = rw (i.ups, j.ups) (shuffle (up a) (sure a) (up b) (sure b));
        downs = rw (i.downs, j.downs) (shuffle (down a) (sure a) (down b) (sure b));
      }
  judged (OR a b) =
      let i = judged a in
      let j = judged b in
      record {
        ups = rw (i.ups, j.ups) (shuffle (up a) (sure a) (up b) (sure b));
        downs = rw (i.downs, j.downs) (shuffle (down a) (sure a) (down b) (sure b));
      }
  judged (IF a b d) =
      let i = judged a in
      let j = judged b in
      let k = judged d in
      record {
        ups =
            rw (i.ups, i.downs, j.ups, k.ups, twice (up a) (down a) (sure a), shuffle (up b) (sure b) (up d) (sure d))
            (shuffle (up a && down a) (sure a) (up b && up d) (sure b && sure d));
        downs =
            rw (i.ups, i.downs, j.downs, k.downs, twice (up a) (down a) (sure a), shuffle (down b) (sure b) (down d) (sure d))
            (shuffle (up a && down a) (sure a) (down b && down d) (sure b && sure d));
      }

  -- The guard is falling and takes no value that never arrived.
  pub falls-in : (g : Option Expr) → guard_falls (kinds_in fields x) c ks g ≡ (guard_falls fields c ks g && guard_known c ks x g)
  falls-in none = refl
  falls-in (some g) = (judged g).downs
