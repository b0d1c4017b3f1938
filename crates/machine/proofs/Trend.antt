-- Rising expressions only grow, and falling ones only shrink, while rising fields grow.
use Prim.Native.Nat.{ℕ, ◌+◌, ◌-◌, ◌≤◌, min}
use mathlib.Core.Path.{◌≡◌, refl, sym, ap, ◌∙◌}
use mathlib.Core.Bool.{Bool, true, false, not, ◌&&◌, ◌||◌, cond, false≢true}
use mathlib.Core.List.{List}
use native.Mathlib.Omega.{arith}
use native.Mathlib.Nat.{le_refl}
use lib.Dec.{ltb, leb, eqb}
use borrow.Author.Tests.{ltb-true, leb-true, lt-ltb, le-leb, not-true}
use Rattle.base.specs.Mask.{bit}
use Rattle.event_log.specs.Log.{Kind}
use Rattle.formula.specs.Formula.{Clause, Leaf, Expr, LEAF, ADD, SUB, LESS, ATMOST, EQUAL, NOT, AND, OR, IF}
use Rattle.machine.specs.Configuration.{Config}
use Rattle.machine.specs.Guard.{truth, leaf, value}
use Rattle.machine.specs.Expiry.{leaf_rises, leaf_falls, rising, falling}
use Rattle.base.proofs.Tests.{and_left, and_right, or-keep, not-true-false}

-- a test that is kept gives no smaller number
bit_up : (p q : Bool) → (p ≡ true → q ≡ true) → bit p ≤ bit q
bit_up true true f = omega arith
bit_up true false f = absurd (false≢true (f refl))
bit_up false q f = omega arith

-- each operation, with its first operand and its second changing as the paper says
add-up : (a b a' b' : ℕ) → a ≤ a' → b ≤ b' → min (a + b) 4294967295 ≤ min (a' + b') 4294967295
add-up a b a' b' p q = omega arith

sub-up : (a b a' b' : ℕ) → a ≤ a' → b' ≤ b → a - b ≤ a' - b'
sub-up a b a' b' p q = omega arith

less-up : (a b a' b' : ℕ) → a' ≤ a → b ≤ b' → bit (ltb a b) ≤ bit (ltb a' b')
less-up a b a' b' p q = bit_up (ltb a b) (ltb a' b') (λ h. let k = ltb-true a b h in lt-ltb a' b' (omega arith))

atmost-up : (a b a' b' : ℕ) → a' ≤ a → b ≤ b' → bit (leb a b) ≤ bit (leb a' b')
atmost-up a b a' b' p q = bit_up (leb a b) (leb a' b') (λ h. let k = leb-true a b h in le-leb a' b' (omega arith))

truth-up : (a a' : ℕ) → a ≤ a' → truth a ≡ true → truth a' ≡ true
truth-up a a' p h = let k = ltb-true 0 a h in lt-ltb 0 a' (omega arith)

pub truth-down : (a a' : ℕ) → a' ≤ a → not (truth a) ≡ true → not (truth a') ≡ true
truth-down a a' p h = ap not (not-true-false (truth a') (λ t. false≢true (sym (not-true (truth a) h) ∙ truth-up a' a p t)))

not-up : (a a' : ℕ) → a' ≤ a → bit (not (truth a)) ≤ bit (not (truth a'))
not-up a a' p = bit_up (not (truth a)) (not (truth a')) (truth-down a a' p)

and-up : (a b a' b' : ℕ) → a ≤ a' → b ≤ b' → bit (truth a && truth b) ≤ bit (truth a' && truth b')
and-up a b a' b' p q =
    bit_up (truth a && truth b) (truth a' && truth b')
    (λ h. rw (truth-up a a' p (and_left (truth a) (truth b) h)) (truth-up b b' q (and_right (truth a) (truth b) h)))

or-up : (a b a' b' : ℕ) → a ≤ a' → b ≤ b' → bit (truth a || truth b) ≤ bit (truth a' || truth b')
or-up a b a' b' p q = bit_up (truth a || truth b) (truth a' || truth b') (or-keep (truth a) (truth b) (truth a') (truth b') (truth-up a a' p) (truth-up b b' q))

equal_same : (a b a' b' : ℕ) → a ≡ a' → b ≡ b' → bit (eqb a b) ≤ bit (eqb a' b')
equal_same a b a' b' p q = rw (p, q) (le_refl _)

if-up : (a a' b b' d d' : ℕ) → a ≡ a' → b ≤ b' → d ≤ d' → cond (truth a) b d ≤ cond (truth a') b' d'
if-up a a' b b' d d' p q r = rw p (go (truth a'))
  where
    go : (t : Bool) → cond t b d ≤ cond t b' d'
    go true = q
    go false = r

-- from configuration X to configuration Y, the expression only grows if it is rising, and only shrinks if it is falling
pub record Trend (fields : List Kind) (c : Config) (ks : List Clause) (X Y : Config) (e : Expr) : Type 0 where
  pub grows : rising fields c ks e ≡ true → value X e ≤ value Y e
  pub shrinks : falling fields c ks e ≡ true → value Y e ≤ value X e

-- X and Y are two configurations in which rising leaves grow and falling ones shrink: what a step leaves, on two events
module _ (fields : List Kind) (c : Config) (ks : List Clause) (X Y : Config)
    (grow : (l : Leaf) → leaf_rises fields c ks l ≡ true → leaf X l ≤ leaf Y l)
    (shrink : (l : Leaf) → leaf_falls fields c ks l ≡ true → leaf Y l ≤ leaf X l) where
  abbrev up : Expr → Bool
  up e = rising fields c ks e

  abbrev down : Expr → Bool
  down e = falling fields c ks e

  abbrev at_x : Expr → ℕ
  at_x e = value X e

  abbrev at_y : Expr → ℕ
  at_y e = value Y e

  -- an expression that is both does not change
  both : (e : Expr) → Trend fields c ks X Y e → up e && down e ≡ true → at_x e ≡ at_y e
  both e t h =
      let p = t.grows (and_left (up e) (down e) h) in
      let q = t.shrinks (and_right (up e) (down e) h) in
      omega arith

  pub trend : (e : Expr) → Trend fields c ks X Y e
  unfolding rising falling value
  trend (LEAF l) = record { grows = grow l; shrinks = shrink l }
  trend (ADD a b) = record {
    grows = λ h. add-up (at_x a) (at_x b) (at_y a) (at_y b) ((trend a).grows (and_left (up a) (up b) h)) ((trend b).grows (and_right (up a) (up b) h));
    shrinks =
        λ h.
        add-up (at_y a) (at_y b) (at_x a) (at_x b) ((trend a).shrinks (and_left (down a) (down b) h))
        ((trend b).shrinks (and_right (down a) (down b) h));
  }
  trend (SUB a b) = record {
    grows = λ h. sub-up (at_x a) (at_x b) (at_y a) (at_y b) ((trend a).grows (and_left (up a) (down b) h)) ((trend b).shrinks (and_right (up a) (down b) h));
    shrinks = λ h. sub-up (at_y a) (at_y b) (at_x a) (at_x b) ((trend a).shrinks (and_left (down a) (up b) h)) ((trend b).grows (and_right (down a) (up b) h));
  }
  trend (LESS a b) = record {
    grows = λ h. less-up (at_x a) (at_x b) (at_y a) (at_y b) ((trend a).shrinks (and_left (down a) (up b) h)) ((trend b).grows (and_right (down a) (up b) h));
    shrinks = λ h. less-up (at_y a) (at_y b) (at_x a) (at_x b) ((trend a).grows (and_left (up a) (down b) h)) ((trend b).shrinks (and_right (up a) (down b) h));
  }
  trend (ATMOST a b) = record {
    grows = λ h. atmost-up (at_x a) (at_x b) (at_y a) (at_y b) ((trend a).shrinks (and_left (down a) (up b) h)) ((trend b).grows (and_right (down a) (up b) h));
    shrinks = λ h. atmost-up (at_y a) (at_y b) (at_x a) (at_x b) ((trend a).grows (and_left (up a) (down b) h)) ((trend b).shrinks (and_right (up a) (down b) h));
  }
  trend (EQUAL a b) = record {
    grows =
        λ h.
        equal_same (at_x a) (at_x b) (at_y a) (at_y b) (both a (trend a) (and_left (up a && down a) (up b && down b) h))
        (both b (trend b) (and_right (up a && down a) (up b && down b) h));
    shrinks =
        λ h.
        equal_same (at_y a) (at_y b) (at_x a) (at_x b) (sym (both a (trend a) (and_left (up a && down a) (up b && down b) h)))
        (sym (both b (trend b) (and_right (up a && down a) (up b && down b) h)));
  }
  trend (NOT a) = record {
    grows = λ h. not-up (at_x a) (at_y a) ((trend a).shrinks h);
    shrinks = λ h. not-up (at_y a) (at_x a) ((trend a).grows h);
  }
  trend (AND a b) = record {
    grows = λ h. and-up (at_x a) (at_x b) (at_y a) (at_y b) ((trend a).grows (and_left (up a) (up b) h)) ((trend b).grows (and_right (up a) (up b) h));
    shrinks =
        λ h.
        and-up (at_y a) (at_y b) (at_x a) (at_x b) ((trend a).shrinks (and_left (down a) (down b) h))
        ((trend b).shrinks (and_right (down a) (down b) h));
  }
  trend (OR a b) = record {
    grows = λ h. or-up (at_x a) (at_x b) (at_y a) (at_y b) ((trend a).grows (and_left (up a) (up b) h)) ((trend b).grows (and_right (up a) (up b) h));
    shrinks =
        λ h.
        or-up (at_y a) (at_y b) (at_x a) (at_x b) ((trend a).shrinks (and_left (down a) (down b) h)) ((trend b).shrinks (and_right (down a) (down b) h));
  }
  trend (IF a b d) = record {
    grows =
        λ h.
        if-up (at_x a) (at_y a) (at_x b) (at_y b) (at_x d) (at_y d) (both a (trend a) (and_left (up a && down a) (up b && up d) h))
        ((trend b).grows (and_left (up b) (up d) (and_right (up a && down a) (up b && up d) h)))
        ((trend d).grows (and_right (up b) (up d) (and_right (up a && down a) (up b && up d) h)));
    shrinks =
        λ h.
        if-up (at_y a) (at_x a) (at_y b) (at_x b) (at_y d) (at_x d) (sym (both a (trend a) (and_left (up a && down a) (down b && down d) h)))
        ((trend b).shrinks (and_left (down b) (down d) (and_right (up a && down a) (down b && down d) h)))
        ((trend d).shrinks (and_right (down b) (down d) (and_right (up a && down a) (down b && down d) h)));
  }
