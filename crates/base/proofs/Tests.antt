-- Laws of tests that compute: choices, conjunctions and disjunctions.
use mathlib.Core.Path.{◌≡◌, refl, sym}
use mathlib.Core.Bool.{Bool, true, false, cond, ◌&&◌, ◌||◌, false≢true, true≢false}

-- a choice has a property if each branch has it, given the test
pub cond-holds : {A : Type 0} (P : A → Type 0) (t : Bool) (x y : A) → (t ≡ true → P x) → (t ≡ false → P y) → P (cond t x y)
cond-holds P true x y f g = f refl
cond-holds P false x y f g = g refl

-- both parts of a conjunction hold
pub and_left : (a b : Bool) → a && b ≡ true → a ≡ true
and_left true b h = refl
and_left false b h = h

pub and_right : (a b : Bool) → a && b ≡ true → b ≡ true
and_right true b h = h
and_right false b h = absurd (false≢true h)

pub and-true : (a b : Bool) → a ≡ true → b ≡ true → a && b ≡ true
and-true true b h k = k
and-true false b h k = h

-- a conjunction is kept where its second part is, given the first
pub and-keep : (a b b' : Bool) → (a ≡ true → b ≡ true → b' ≡ true) → a && b ≡ true → a && b' ≡ true
and-keep true b b' f h = f refl h
and-keep false b b' f h = h

-- a disjunction is kept where both parts are
pub or-keep : (a b a' b' : Bool) → (a ≡ true → a' ≡ true) → (b ≡ true → b' ≡ true) → a || b ≡ true → a' || b' ≡ true
or-keep true b true b' f g h = refl
or-keep true b false b' f g h = absurd (false≢true (f refl))
or-keep false b true b' f g h = refl
or-keep false b false b' f g h = g h

pub or-false : (a b : Bool) → a ≡ false → b ≡ false → a || b ≡ false
or-false true b h k = absurd (true≢false h)
or-false false b h k = k

pub and-false : (a b : Bool) → b ≡ false → a && b ≡ false
and-false true b h = h
and-false false b h = refl

pub or_right : (a b : Bool) → b ≡ true → a || b ≡ true
or_right true b h = refl
or_right false b h = h

-- what is not true is false
pub not-true-false : (a : Bool) → (a ≡ true → ⊥) → a ≡ false
not-true-false true h = absurd (h refl)
not-true-false false h = refl

-- a test that holds changes no conjunction
pub and-end : (a : Bool) → a ≡ (a && true)
and-end true = refl
and-end false = refl

-- two tests that hold together are one
pub both_ways : (a b : Bool) → (a ≡ true → b ≡ true) → (b ≡ true → a ≡ true) → a ≡ b
both_ways true b f g = sym (f refl)
both_ways false true f g = g refl
both_ways false false f g = refl
