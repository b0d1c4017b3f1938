-- The table of places: after a key or an expression is noted, the lowest place of the keys looked at is still the first bad place of what was read.
use Prim.Native.Nat.{ℕ, zero, suc, ◌+◌, ◌*◌, ◌<◌, ◌≤◌, min}
use mathlib.Core.Path.{◌≡◌, refl, sym, ap, ◌∙◌, subst}
use mathlib.Core.Bool.{Bool, true, false, cond, not, ◌&&◌}
use mathlib.Core.Logic.{⊎_elim}
use mathlib.Core.List.{List, ◌++◌}
use mathlib.Core.Option.{Option, none, some}
use native.Mathlib.Omega.{arith}
use native.Mathlib.Nat.{eq-or-lt_of_le, ne_of_lt}
use borrow.Author.Tests.{ltb-true, ltb-false, lt-ltb, le-ltb}
use lib.Dec.{ltb}
use lib.ListN.{length, get_or, set, replicate, length-append, length-set, get_or-replicate}
use lib.Seq.{get_or-set_same, get_or-set_other}
use Rattle.formula.specs.Formula.{Leaf, Expr, LEAF, ADD, SUB, LESS, ATMOST, EQUAL, NOT, AND, OR, IF, Clause}
use Rattle.formula.specs.Encode.{encode_leaf, encode_expr}
use Rattle.formula.specs.Unbound.{binds}
use Rattle.formula.specs.Correct.{Leaves, LeafExists}
use Rattle.formula.specs.Read.{or_else, when, first_leaf}
use Rattle.expression_reader.specs.inner.Places.{nowhere, noted, state_key, var_noted, leaf_noted, leaves_noted, lowest_from}

-- the number of a place, above all places if there is none
abbrev pub num : Option ℕ → ℕ
num none = nowhere
num (some p) = p

-- a place below b, if there is one
abbrev pub Below : ℕ → Option ℕ → Type 0
Below b none = Unit {0}
Below b (some p) = p < b

below_wider : (a b : ℕ) (o : Option ℕ) → a ≤ b → Below a o → Below b o
below_wider a b none l h = tt
below_wider a b (some p) l h = omega arith

or-none : (o : Option ℕ) → or_else o none ≡ o
or-none none = refl
or-none (some p) = refl

or_assoc : (o x y : Option ℕ) → or_else o (or_else x y) ≡ or_else (or_else o x) y
or_assoc none x y = refl
or_assoc (some p) x y = refl

min-here : (b : Bool) (at g m : ℕ) → min (cond b (min at g) nowhere) m ≡ min (min (cond b g nowhere) m) (num (when b at))
min-here true at g m = omega arith
min-here false at g m = omega arith

module _ (look : ℕ → Bool) where
  -- a key in front of those looked through
  low-before : (t : List ℕ) (k x i n : ℕ) → k < i → lowest_from look (set t k x) i n ≡ lowest_from look t i n
  unfolding lowest_from
  low-before t k x i zero h = refl
  low-before t k x i (suc n) h = rw (get_or-set_other t k i x 0 (λ q. ne_of_lt h (sym q)), low-before t k x (i + 1) n (omega arith))

  low-here : (t : List ℕ) (k at n : ℕ) → k < length t → lowest_from look (noted t k at) k (suc n) ≡ min (lowest_from look t k (suc n)) (num (when (look k) at))
  unfolding lowest_from noted
  low-here t k at n l =
      rw (get_or-set_same t k (min at (get_or t k 0)) 0 l, low-before t k (min at (get_or t k 0)) (k + 1) n (omega arith))
      (min-here (look k) at (get_or t k 0) (lowest_from look t (k + 1) n))

  -- a key that is noted is one more place to choose from
  low-noted : (t : List ℕ) (k at i n : ℕ) → k < length t → i ≤ k → k < i + n
      → lowest_from look (noted t k at) i n ≡ min (lowest_from look t i n) (num (when (look k) at))
  unfolding lowest_from noted
  low-noted t k at i zero l h m = absurd (omega arith)
  low-noted t k at i (suc n) l h m =
      ⊎_elim
      (λ (e : i ≡ k).
      subst (λ j. lowest_from look (noted t k at) j (suc n) ≡ min (lowest_from look t j (suc n)) (num (when (look k) at))) (sym e) (low-here t k at n l))
      (λ (q : i < k). rw (get_or-set_other t k i (min at (get_or t k 0)) 0 (ne_of_lt q), low-noted t k at (i + 1) n l (omega arith) (omega arith)) (omega arith))
      (eq-or-lt_of_le h)

  low-start : (i n : ℕ) → i + n ≤ 145 → lowest_from look (replicate 145 nowhere) i n ≡ nowhere
  unfolding lowest_from
  low-start i zero h = refl
  low-start i (suc n) h = rw (get_or-replicate 145 i nowhere 0 (omega arith), low-start (i + 1) n (omega arith)) (both (look i))
    where
      both : (b : Bool) → min (cond b nowhere nowhere) nowhere ≡ nowhere
      both true = omega arith
      both false = omega arith

  -- the table's lowest place is the first bad one, if any, of what was read below `at`
  pub record Holds (t : List ℕ) (at : ℕ) (o : Option ℕ) : Type 0 where
    size : length t ≡ 145
    pub place : lowest_from look t 0 145 ≡ num o
    pub below : Below at o

  -- reading on, with nothing noted and the same place
  carried : (t : List ℕ) (at hi : ℕ) (o x : Option ℕ) → x ≡ o → at ≤ hi → Holds t at o → Holds t hi x
  carried t at hi o x e l h = record { size = h.size; place = h.place ∙ ap num (sym e); below = subst (Below hi) (sym e) (below_wider at hi o l h.below) }

  -- one more place, at the end of what was read
  named : (t : List ℕ) (at hi : ℕ) (o : Option ℕ) (b : Bool) → length t ≡ 145 → lowest_from look t 0 145 ≡ min (num o) (num (when b at)) → Below at o
      → at < hi → hi ≤ nowhere → Holds t hi (or_else o (when b at))
  named t at hi none true s e h l m = record { size = s; place = omega arith; below = l }
  named t at hi none false s e h l m = record { size = s; place = omega arith; below = tt }
  named t at hi (some p) true s e h l m = record { size = s; place = omega arith; below = omega arith }
  named t at hi (some p) false s e h l m = record { size = s; place = omega arith; below = omega arith }

  -- `after at t` is the table after n bytes from `at` on were read, and `bad at` their first bad place
  pub record Reads (n : ℕ) (after : ℕ → List ℕ → List ℕ) (bad : ℕ → Option ℕ) : Type 0 where
    on : (at : ℕ) (t : List ℕ) (o : Option ℕ) → at + n ≤ nowhere → Holds t at o → Holds (after at t) (at + n) (or_else o (bad at))

  -- nothing is noted
  pub idle : (n : ℕ) → Reads n (λ at t. t) (λ at. none)
  idle n = record { on = λ at t o l h. carried t at (at + n) o (or_else o none) (or-none o) (omega arith) h }

  -- a key is noted
  pub notes : (n k : ℕ) (b : Bool) → look k ≡ b → k < 145 → 0 < n → Reads n (λ at t. noted t k at) (λ at. when b at)
  unfolding noted
  notes n k b e j p =
      record {
        on = λ at t o l h. named (noted t k at) at (at + n) o b (length-set t k (min at (get_or t k 0)) ∙ h.size)
            (low-noted t k at 0 145 (subst (λ n. k < n) (sym h.size) j) (omega arith) (omega arith)
            ∙ ap (λ x. min x (num (when (look k) at))) h.place
            ∙ ap (λ c. min (num o) (num (when c at))) e)
            h.below (omega arith) l;
      }

  -- a key is noted if it is not marked
  var-reads : (k : ℕ) (u m : Bool) → look k ≡ u → k < 145 → Reads 2 (λ at t. cond m t (noted t k at)) (λ at. when (u && not m) at)
  var-reads k true true e j = idle _
  var-reads k false true e j = idle _
  var-reads k true false e j = notes 2 k true e j (omega arith)
  var-reads k false false e j = notes 2 k false e j (omega arith)

  module _ {n : ℕ} {f : ℕ → List ℕ → List ℕ} {x : ℕ → Option ℕ} where
    -- from the front of a file on, where no key is named yet
    pub held : Reads n f x → n ≤ nowhere → Holds (f 0 (replicate 145 nowhere)) nowhere (x 0)
    held r l =
        carried (f 0 (replicate 145 nowhere)) (0 + n) nowhere (x 0) (x 0) refl (omega arith)
        (r.on 0 (replicate 145 nowhere) none (omega arith) (record { size = refl; place = low-start 0 145 (omega arith); below = tt }))

    -- behind one byte
    pub behind : Reads n f x → Reads (suc n) (λ at t. f (at + 1) t) (λ at. x (at + 1))
    behind r =
        record {
          on = λ at t o l h.
              carried (f (at + 1) t) (at + 1 + n) (at + suc n) (or_else o (x (at + 1))) (or_else o (x (at + 1))) refl (omega arith)
              (r.on (at + 1) t o (omega arith) (carried t at (at + 1) o o refl (omega arith) h));
        }

    -- one after the other
    pub then : {m : ℕ} {g : ℕ → List ℕ → List ℕ} {y : ℕ → Option ℕ} → Reads n f x → Reads m g y
        → Reads (n + m) (λ at t. g (at + n) (f at t)) (λ at. or_else (x at) (y (at + n)))
    then {m} {g} {y} r q =
        record {
          on =
              λ at t o l h.
              carried (g (at + n) (f at t)) (at + n + m) (at + (n + m)) (or_else (or_else o (x at)) (y (at + n))) (or_else o (or_else (x at) (y (at + n))))
              (or_assoc o (x at) (y (at + n))) (omega arith)
              (q.on (at + n) (f at t) (or_else o (x at)) (omega arith) (r.on at t o (omega arith) h));
        }

-- a test that holds if and only if another does
ltb_as : (a b c d : ℕ) (x : Bool) → ltb c d ≡ x → (c < d → a < b) → (d ≤ c → b ≤ a) → ltb a b ≡ x
ltb_as a b c d true e f g = lt-ltb a b (f (ltb-true c d e))
ltb_as a b c d false e f g = le-ltb a b (g (ltb-false c d e))

-- the key of a state stands behind those of the variables
pub record KeyOf (t k : ℕ) : Type 0 where
  pub least : 128 ≤ k
  pub most : k < 145
  pub below : (n : ℕ) → n ≤ 16 → ltb k (128 + n) ≡ ltb t n

pub state-key : (t : ℕ) → KeyOf t (state_key t)
unfolding state_key
state-key t = by-test (ltb t 16) refl
  where
    by-test : (b : Bool) → ltb t 16 ≡ b → KeyOf t (cond b (128 + t) 144)
    by-test true e =
        let h = ltb-true t 16 e in
        record { least = omega arith; most = omega arith; below = λ n l. ltb_as (128 + t) (128 + n) t n (ltb t n) refl (λ q. omega arith) (λ q. omega arith) }
    by-test false e =
        let h = ltb-false t 16 e in
        record { least = omega arith; most = omega arith; below = λ n l. ltb_as 144 (128 + n) t n (ltb t n) refl (λ q. omega arith) (λ q. omega arith) }

-- the marks are those of the variables that the clauses bind
abbrev pub Marks : List Bool → List Clause → Type 0
Marks own clauses = (v : ℕ) → v < 8 → get_or own v false ≡ binds v clauses

-- in a step of state s that binds the variables marked: where each leaf is noted rightly, so is every expression
module _ (look : ℕ → Bool) (s : ℕ) (own : List Bool) where
  abbrev pub LeafNotes : (Leaf → Bool) → Leaf → Type 0
  LeafNotes bad l = Reads look (length (encode_leaf l)) (λ at t. leaf_noted s own at l t) (λ at. when (bad l) at)

  -- a VAR is bad where its key is looked at and the step's own BINDs do not bind it
  pub var-notes : (v : ℕ) (u b : Bool) → look (v * 16 + s) ≡ u → get_or own v false ≡ b → v < 8 → s < 16
      → Reads look 2 (λ at t. var_noted s own v at t) (λ at. when (u && not b) at)
  unfolding var_noted
  var-notes v u b e m k low = rw m (var-reads look (v * 16 + s) u b e (omega arith))

  module _ (bad : Leaf → Bool) (leaf : (l : Leaf) → LeafExists l → LeafNotes bad l) where
    abbrev Notes : Expr → Type 0
    Notes e = Reads look (length (encode_expr e)) (λ at t. leaves_noted s own at e t) (λ at. first_leaf bad at e)

    -- two operands behind a byte
    pair : (a b : Expr) → Notes a → Notes b
        → Reads look (suc (length (encode_expr a ++ encode_expr b)))
        (λ at t. leaves_noted s own (at + 1 + length (encode_expr a)) b (leaves_noted s own (at + 1) a t))
        (λ at. or_else (first_leaf bad (at + 1) a) (first_leaf bad (at + 1 + length (encode_expr a)) b))
    pair a b f g = rw (length-append (encode_expr a) (encode_expr b)) (behind look (then look f g))

    -- the leaves of an expression are noted
    pub expr-reads : (e : Expr) → Leaves LeafExists e → Notes e
    unfolding encode_expr first_leaf leaves_noted
    expr-reads (LEAF l) k = leaf l k
    expr-reads (ADD a b) k = pair a b (expr-reads a k.0) (expr-reads b k.1)
    expr-reads (SUB a b) k = pair a b (expr-reads a k.0) (expr-reads b k.1)
    expr-reads (LESS a b) k = pair a b (expr-reads a k.0) (expr-reads b k.1)
    expr-reads (ATMOST a b) k = pair a b (expr-reads a k.0) (expr-reads b k.1)
    expr-reads (EQUAL a b) k = pair a b (expr-reads a k.0) (expr-reads b k.1)
    expr-reads (NOT a) k = behind look (expr-reads a k)
    expr-reads (AND a b) k = pair a b (expr-reads a k.0) (expr-reads b k.1)
    expr-reads (OR a b) k = pair a b (expr-reads a k.0) (expr-reads b k.1)
    expr-reads (IF c a b) k =
        rw (length-append (encode_expr c) (encode_expr a ++ encode_expr b), length-append (encode_expr a) (encode_expr b))
        (behind look (then look (expr-reads c k.0) (then look (expr-reads a k.1) (expr-reads b k.2))))
