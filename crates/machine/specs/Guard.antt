-- "Expressions": the value of a guard in a configuration.
use Rattle.std.specs.Prelude.{ℕ, suc, ◌+◌, ◌-◌, min, Bool, true, false, not, ◌&&◌, ◌||◌, cond, List, [], ◌∷◌, length, get_or, ltb, leb, eqb}
use Rattle.std.proofs.Math.Option.{Option, none, some}
use Rattle.base.specs.Mask.{bit}
use Rattle.formula.specs.Formula.{Leaf, CONST, VAR, COUNT, SUM, LENGTH, DIFFERENT, Expr, LEAF, ADD, SUB, LESS, ATMOST, EQUAL, NOT, AND, OR, IF}
use Rattle.machine.specs.Configuration.{Config, list_of}

-- "nonzero is true"
abbrev pub truth : ℕ → Bool
truth x = ltb 0 x

-- numbers added up
abbrev pub total : List ℕ → ℕ
total [] = 0
total (x ∷ xs) = x + total xs

-- "2C gives its sum, stopping at 4294967295"
abbrev pub sum : List ℕ → ℕ
sum l = min (total l) 4294967295

-- whether x is one of the values
abbrev pub among : ℕ → List ℕ → Bool
among x [] = false
among x (y ∷ ys) = eqb y x || among x ys

-- "2E the number of different values": a value counts where none behind it equals it
abbrev pub different : List ℕ → ℕ
different [] = 0
different (x ∷ xs) = cond (among x xs) (different xs) (suc (different xs))

-- a constant, a variable's value, a state's counter; of a list its sum, its length, its number of different values
abbrev pub leaf : Config → Leaf → ℕ
leaf c (CONST x) = x
leaf c (VAR v) = get_or c.values v 0
leaf c (COUNT s) = get_or c.counters s 0
leaf c (SUM v) = sum (list_of c.lists v)
leaf c (LENGTH v) = length (list_of c.lists v)
leaf c (DIFFERENT v) = different (list_of c.lists v)

-- "ADD stops at 4294967295 and SUB at 0. LESS to OR give 0 or 1"
unfoldable pub value : Config → Expr → ℕ
value c (LEAF l) = leaf c l
value c (ADD a b) = min (value c a + value c b) 4294967295
value c (SUB a b) = value c a - value c b
value c (LESS a b) = bit (ltb (value c a) (value c b))
value c (ATMOST a b) = bit (leb (value c a) (value c b))
value c (EQUAL a b) = bit (eqb (value c a) (value c b))
value c (NOT a) = bit (not (truth (value c a)))
value c (AND a b) = bit (truth (value c a) && truth (value c b))
value c (OR a b) = bit (truth (value c a) || truth (value c b))
value c (IF a b d) = cond (truth (value c a)) (value c b) (value c d)

-- "the guard is nonzero; no guard means true"
abbrev pub guard_holds : Config → Option Expr → Bool
guard_holds c none = true
guard_holds c (some g) = truth (value c g)
