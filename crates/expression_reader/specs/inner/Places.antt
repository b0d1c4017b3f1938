-- Where the variables and states are first named: a table of places, one a key, in which the lowest place of each key is kept.
use Rattle.std.specs.Prelude.{ℕ, zero, suc, ◌+◌, ◌*◌, min, Bool, false, cond, not, List, ltb, length, get_or, set}
use Rattle.formula.specs.Formula.{Leaf, CONST, VAR, COUNT, SUM, LENGTH, DIFFERENT, Expr, LEAF, ADD, SUB, LESS, ATMOST, EQUAL, NOT, AND, OR, IF}
use Rattle.formula.specs.Encode.{encode_expr}

-- the place of a key that nothing names, above all places
unfoldable pub nowhere : ℕ
nowhere = 18446744073709551615

-- a key is named at a place
unfoldable pub noted : List ℕ → ℕ → ℕ → List ℕ
noted places key at = set places key (min at (get_or places key 0))

-- the key of variable v where it is read in state s is v * 16 + s; that of a state stands behind those, and states that no formula has share one
unfoldable pub state_key : ℕ → ℕ
state_key t = cond (ltb t 16) (128 + t) 144

-- a VAR of variable v in state s, noted if the step's own BINDs do not bind it
unfoldable pub var_noted : ℕ → List Bool → ℕ → ℕ → List ℕ → List ℕ
var_noted s own v at places = cond (get_or own v false) places (noted places (v * 16 + s) at)

-- a leaf at `at`, in a step of state s that binds the variables marked
abbrev pub leaf_noted : ℕ → List Bool → ℕ → Leaf → List ℕ → List ℕ
leaf_noted s own at (CONST x) places = places
leaf_noted s own at (VAR v) places = var_noted s own v at places
leaf_noted s own at (COUNT t) places = noted places (state_key t) at
leaf_noted s own at (SUM v) places = places
leaf_noted s own at (LENGTH v) places = places
leaf_noted s own at (DIFFERENT v) places = places

-- the leaves of an expression at `at`
unfoldable pub leaves_noted : ℕ → List Bool → ℕ → Expr → List ℕ → List ℕ
leaves_noted s own at (LEAF l) places = leaf_noted s own at l places
leaves_noted s own at (ADD a b) places = leaves_noted s own (at + 1 + length (encode_expr a)) b (leaves_noted s own (at + 1) a places)
leaves_noted s own at (SUB a b) places = leaves_noted s own (at + 1 + length (encode_expr a)) b (leaves_noted s own (at + 1) a places)
leaves_noted s own at (LESS a b) places = leaves_noted s own (at + 1 + length (encode_expr a)) b (leaves_noted s own (at + 1) a places)
leaves_noted s own at (ATMOST a b) places = leaves_noted s own (at + 1 + length (encode_expr a)) b (leaves_noted s own (at + 1) a places)
leaves_noted s own at (EQUAL a b) places = leaves_noted s own (at + 1 + length (encode_expr a)) b (leaves_noted s own (at + 1) a places)
leaves_noted s own at (NOT a) places = leaves_noted s own (at + 1) a places
leaves_noted s own at (AND a b) places = leaves_noted s own (at + 1 + length (encode_expr a)) b (leaves_noted s own (at + 1) a places)
leaves_noted s own at (OR a b) places = leaves_noted s own (at + 1 + length (encode_expr a)) b (leaves_noted s own (at + 1) a places)
leaves_noted s own at (IF c a b) places =
    leaves_noted s own (at + 1 + length (encode_expr c) + length (encode_expr a)) b
    (leaves_noted s own (at + 1 + length (encode_expr c)) a (leaves_noted s own (at + 1) c places))

-- the keys looked at: those of variables where they are free, and those of states from a key on
unfoldable pub picked : List Bool → ℕ → ℕ → Bool
picked free from key = cond (ltb key 128) (get_or free key false) (not (ltb key from))

-- the lowest place of the n keys from k on that are looked at
unfoldable pub lowest_from : (ℕ → Bool) → List ℕ → ℕ → ℕ → ℕ
lowest_from look places k zero = nowhere
lowest_from look places k (suc n) = min (cond (look k) (get_or places k 0) nowhere) (lowest_from look places (k + 1) n)

-- the lowest place of all keys that are looked at
unfoldable pub lowest_of : List Bool → ℕ → List ℕ → ℕ
lowest_of free from places = lowest_from (picked free from) places 0 145
