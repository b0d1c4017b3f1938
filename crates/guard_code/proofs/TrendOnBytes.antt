-- Rising and falling over an expression's bytes: what each way through the code computes, and that on an expression's bytes it is the definition's.
use Prim.Native.Nat.{ℕ, zero, suc, ◌+◌, ◌-◌, ◌<◌, ◌≤◌}
use mathlib.Core.Path.{◌≡◌, refl, ◌∙◌}
use mathlib.Core.Bool.{Bool, true, false, cond, not, ◌&&◌, ◌||◌}
use mathlib.Core.List.{List, ◌∷◌, ◌++◌, append_assoc}
use native.Mathlib.Omega.{arith}
use borrow.Author.Tests.{ne_eqb}
use lib.ListN.{length, get_or, drop, length-append}
use lib.Seq.{drop-drop}
use lib.Dec.{eqb}
use Rattle.base.proofs.Lists.{rest-drop}
use Rattle.event_log.specs.Log.{Kind}
use Rattle.formula.specs.Formula.{Clause, Leaf, CONST, VAR, COUNT, SUM, LENGTH, DIFFERENT, Expr, LEAF, ADD, SUB, LESS, ATMOST, EQUAL, NOT, AND, OR, IF}
use Rattle.formula.specs.Encode.{encode_leaf, encode_expr}
use Rattle.formula.specs.Correct.{depth, Leaves, LeafExists}
use Rattle.machine.specs.Configuration.{Config}
use Rattle.machine.specs.Firing.{is_held}
use Rattle.machine.specs.Expiry.{first_bind, field_rises, gathers, gathers_rising, leaf_rises, leaf_falls, rising, falling}
use Rattle.guard_code.specs.declared.trends.Judged.{Judged}
use Rattle.guard_code.specs.declared.Marks.{Marks}
use Rattle.guard_code.specs.inner.Bytes.{operands_of, leaf_used, leaf_marked, turned, kept, judgement, paired, tripled, agreed, judged_both}
use Rattle.guard_code.specs.inner.Bytes.{judged_second, judged_first, judged_turned, judged, trend_at, falls_at}
use Rattle.guard_code.proofs.GuardOnBytes.{rest, behind-one, behind-two}
use Rattle.guard_code.proofs.GuardOnBytes.{leaf-alone, leaf-used, no-depth}

-- with no command allowed there is nothing
pub judge-none : (depth : ℕ) (mine others : List ℕ → Bool) (part : List ℕ) → depth ≡ 0 → judgement false 0 ≡ trend_at depth mine others part
unfolding trend_at
judge-none depth mine others part h = rw h

-- one command, its operands judged with one command less nested
trend-step : (depth : ℕ) (mine others : List ℕ → Bool) (part : List ℕ) → (depth ≡ 0 → ⊥)
    → trend_at depth mine others part ≡ judged (trend_at (depth - 1) mine others) (trend_at (depth - 1) others mine) mine part
unfolding trend_at
trend-step zero mine others part h = absurd (h refl)
trend-step (suc n) mine others part h = let e : suc n - 1 ≡ n = omega arith in rw e

-- a part behind a part, as it is lent
behind-rest : (part : List ℕ) (j k : ℕ) → rest (drop j part) k ≡ drop (j + k) part
behind-rest part j k = rest-drop (drop j part) k ∙ drop-drop k j part

-- A command with the byte o, which has n operands, where commands may nest so deep.
module _ (depth : ℕ) (mine others : List ℕ → Bool) (part : List ℕ) {o n : ℕ} (deep : depth ≡ 0 → ⊥) (byte : o ≡ get_or part 0 0)
    (count : n ≡ operands_of o) where
  -- what the judging comes to
  abbrev answer : Judged
  answer = trend_at depth mine others part

  -- an operand is judged the same way, and the other way
  abbrev same_way : List ℕ → Judged
  same_way = trend_at (depth - 1) mine others

  abbrev other_way : List ℕ → Judged
  other_way = trend_at (depth - 1) others mine

  pub judge-leaf : {y : Bool} {u : ℕ} → n ≡ 0 → y ≡ mine part → u ≡ leaf_used part → judgement y u ≡ answer
  unfolding judged
  judge-leaf h e f = rw (e, f, trend-step depth mine others part deep, ← byte, ← count, h)

  -- a command with operands: they are lent as parts, each behind the one before
  module _ (some : n ≡ 0 → ⊥) where
    step : answer
        ≡ cond (turned o) (judged_turned same_way part (other_way (drop 1 part))) (judged_first same_way other_way part (same_way (drop 1 part)))
    unfolding judged
    step = rw (trend-step depth mine others part deep, ← byte, ← count, ne_eqb n 0 some)

    -- its first operand is judged the other way
    module _ (turns : turned o ≡ true) {a : Judged} (first : a ≡ other_way (rest part 1)) where
      turn : answer ≡ judged_turned same_way part a
      turn = rw (step, turns, first, rest-drop part 1)

      pub judge-one : n ≡ 1 → judgement a.yes (1 + a.used) ≡ answer
      unfolding judged_turned
      judge-one h = rw (turn, ← byte, ← count, h)

      pub judge-turned : {b : Judged} → (n ≡ 1 → ⊥) → b ≡ same_way (rest (rest part 1) a.used) → paired a b ≡ answer
      unfolding judged_turned
      judge-turned h e = rw (turn, ← byte, ← count, ne_eqb n 1 h, e, rest-drop part 1, behind-rest part 1 a.used)

    -- or the same way
    module _ (straight : turned o ≡ false) {a : Judged} (first : a ≡ same_way (rest part 1)) where
      go-on : answer ≡ judged_first same_way other_way part a
      go-on = rw (step, straight, first, rest-drop part 1)

      pub judge-sub : {b : Judged} → o ≡ 0x24 → b ≡ other_way (rest (rest part 1) a.used) → paired a b ≡ answer
      unfolding judged_first
      judge-sub h e = rw (go-on, ← byte, h, e, rest-drop part 1, behind-rest part 1 a.used)

      -- and the second too
      module _ (no-sub : o ≡ 0x24 → ⊥) {b : Judged} (second : b ≡ same_way (rest (rest part 1) a.used)) where
        both-so : answer ≡ judged_second same_way other_way part a b
        unfolding judged_first
        both-so = rw (go-on, ← byte, ne_eqb o 0x24 no-sub, second, rest-drop part 1, behind-rest part 1 a.used)

        pub judge-keep : kept o ≡ true → paired a b ≡ answer
        unfolding judged_second
        judge-keep h = rw (both-so, ← byte, h)

        -- and the first the other way besides
        module _ (mixes : kept o ≡ false) {z : Judged} (again : z ≡ other_way (rest part 1)) where
          first-both : answer ≡ judged_both same_way other_way part a b z
          unfolding judged_second
          first-both = rw (both-so, ← byte, mixes, again, rest-drop part 1)

          pub judge-equal : {y : Judged} → o ≡ 0x27 → y ≡ other_way (rest (rest part 1) a.used) → paired (agreed a z) (agreed b y) ≡ answer
          unfolding judged_both
          judge-equal h e = rw (first-both, ← byte, h, e, rest-drop part 1, behind-rest part 1 a.used)

          pub judge-if : {d : Judged} → (o ≡ 0x27 → ⊥) → d ≡ same_way (rest (rest (rest part 1) a.used) b.used) → tripled (agreed a z) b d ≡ answer
          unfolding judged_both
          judge-if h e =
              rw (first-both, ← byte, ne_eqb o 0x27 h, e, rest-drop part 1, behind-rest part 1 a.used, behind-rest part (1 + a.used) b.used)

-- the guard at an offset, as the code judges it
pub falls-read : (falls rises : List ℕ → Bool) (f : List ℕ) (at : ℕ) {o : ℕ} {a : Judged} → o ≡ get_or f at 0 → o ≡ 0x15
    → a ≡ trend_at 8 falls rises (rest f (at + 1)) → a.yes ≡ falls_at falls rises f at
unfolding falls_at
falls-read falls rises f at p k q = rw (← p, k, q, rest-drop f (at + 1))

pub falls-none : (falls rises : List ℕ → Bool) (f : List ℕ) (at : ℕ) {o : ℕ} → o ≡ get_or f at 0 → (o ≡ 0x15 → ⊥) → false ≡ falls_at falls rises f at
unfolding falls_at
falls-none falls rises f at {o} p k = rw (← p, ne_eqb o 0x15 k)

-- a reader of both ways that judges the operands' bytes judges the command's
module _ (same other : List ℕ → Judged) (leaf : List ℕ → Bool) where
  abbrev Gives : (List ℕ → Judged) → List ℕ → Bool → ℕ → Type 0
  Gives read l y n = read l ≡ record { yes = y; used = n }

  one-length : (a : List ℕ) → 1 + length a ≡ suc (length a)
  one-length a = omega arith

  two-length : (a b : List ℕ) → 1 + length a + length b ≡ suc (length (a ++ b))
  two-length a b = omega (arith, length-append a b)

  three-length : (a b d : List ℕ) → 1 + length a + length b + length d ≡ suc (length (a ++ (b ++ d)))
  three-length a b d = omega (arith, length-append a (b ++ d), length-append b d)

  not-judged : (y : Bool) (a l : List ℕ) → Gives other (a ++ l) y (length a) → Gives (judged same other leaf) (0x28 ∷ (a ++ l)) y (length (0x28 ∷ a))
  unfolding judged judged_turned operands_of turned
  not-judged y a l e = rw (e, one-length a)

  turned-judged : (c : ℕ) (x y : Bool) (a b l : List ℕ) → operands_of c ≡ 2 → turned c ≡ true → Gives other (a ++ (b ++ l)) x (length a)
      → Gives same (b ++ l) y (length b)
      → Gives (judged same other leaf) (c ∷ ((a ++ b) ++ l)) (x && y) (length (c ∷ (a ++ b)))
  unfolding judged judged_turned
  turned-judged c x y a b l o t e f = rw (append_assoc a b l, o, t, e, behind-one c a (b ++ l), f, two-length a b)

  sub-judged : (x y : Bool) (a b l : List ℕ) → Gives same (a ++ (b ++ l)) x (length a) → Gives other (b ++ l) y (length b)
      → Gives (judged same other leaf) (0x24 ∷ ((a ++ b) ++ l)) (x && y) (length (0x24 ∷ (a ++ b)))
  unfolding judged judged_first operands_of turned
  sub-judged x y a b l e f = rw (append_assoc a b l, e, behind-one 0x24 a (b ++ l), f, two-length a b)

  kept-judged : (c : ℕ) (x y : Bool) (a b l : List ℕ) → operands_of c ≡ 2 → turned c ≡ false → eqb c 0x24 ≡ false → kept c ≡ true
      → Gives same (a ++ (b ++ l)) x (length a) → Gives same (b ++ l) y (length b)
      → Gives (judged same other leaf) (c ∷ ((a ++ b) ++ l)) (x && y) (length (c ∷ (a ++ b)))
  unfolding judged judged_first judged_second
  kept-judged c x y a b l o t s k e f = rw (append_assoc a b l, o, t, s, k, e, behind-one c a (b ++ l), f, two-length a b)

  equal-judged : (x y z w : Bool) (a b l : List ℕ) → Gives same (a ++ (b ++ l)) x (length a) → Gives other (a ++ (b ++ l)) z (length a)
      → Gives same (b ++ l) y (length b) → Gives other (b ++ l) w (length b)
      → Gives (judged same other leaf) (0x27 ∷ ((a ++ b) ++ l)) ((x && z) && (y && w)) (length (0x27 ∷ (a ++ b)))
  unfolding judged judged_first judged_second judged_both operands_of turned kept
  equal-judged x y z w a b l e g f h = rw (append_assoc a b l, e, behind-one 0x27 a (b ++ l), f, g, h, two-length a b)

  if-judged : (x y z w : Bool) (a b d l : List ℕ) → Gives same (a ++ (b ++ (d ++ l))) x (length a) → Gives other (a ++ (b ++ (d ++ l))) z (length a)
      → Gives same (b ++ (d ++ l)) y (length b) → Gives same (d ++ l) w (length d)
      → Gives (judged same other leaf) (0x2B ∷ ((a ++ (b ++ d)) ++ l)) ((x && z) && (y && w)) (length (0x2B ∷ (a ++ (b ++ d))))
  unfolding judged judged_first judged_second judged_both operands_of turned kept
  if-judged x y z w a b d l e g f h =
      rw
      (append_assoc a (b ++ d) l, append_assoc b d l, e, behind-one 0x2B a (b ++ (d ++ l)), f, g, behind-two 0x2B a b (d ++ l), h, three-length a b d)

and-swap : (a b : Bool) → a && b ≡ b && a
and-swap true true = refl
and-swap true false = refl
and-swap false true = refl
and-swap false false = refl

-- On an expression's bytes, whatever follows them, the code judges the expression as the definition does, and takes exactly those
-- bytes: `rise` and `fall` read a leaf's bytes as the definition judges the leaf.
module _ (fields : List Kind) (c : Config) (ks : List Clause) (P : Leaf → Type 0) (rise fall : List ℕ → Bool)
    (rises : (x : Leaf) (l : List ℕ) → P x → rise (encode_leaf x ++ l) ≡ leaf_rises fields c ks x)
    (falls : (x : Leaf) (l : List ℕ) → P x → fall (encode_leaf x ++ l) ≡ leaf_falls fields c ks x) where
  -- the bytes are judged so, whatever follows them
  pub record Judgement (n : ℕ) (bytes : List ℕ) (up down : Bool) : Type 0 where
    pub is-rising : (l : List ℕ) → trend_at n rise fall (bytes ++ l) ≡ record { yes = up; used = length bytes }
    pub is-falling : (l : List ℕ) → trend_at n fall rise (bytes ++ l) ≡ record { yes = down; used = length bytes }

  abbrev Judges : ℕ → Expr → Type 0
  Judges n e = Judgement n (encode_expr e) (rising fields c ks e) (falling fields c ks e)

  abbrev up : Expr → Bool
  up e = rising fields c ks e

  abbrev down : Expr → Bool
  down e = falling fields c ks e

  module _ (n : ℕ) where
    abbrev rising-at : List ℕ → Judged
    rising-at = trend_at n rise fall

    abbrev falling-at : List ℕ → Judged
    falling-at = trend_at n fall rise

    keep : (o : ℕ) → operands_of o ≡ 2 → turned o ≡ false → eqb o 0x24 ≡ false → kept o ≡ true → (a b : Expr) → Judges n a → Judges n b
        → Judgement (suc n) (o ∷ (encode_expr a ++ encode_expr b)) (up a && up b) (down a && down b)
    unfolding trend_at
    keep o h t s k a b p q = record {
      is-rising =
          λ l.
          kept-judged rising-at falling-at rise o (up a) (up b) (encode_expr a) (encode_expr b) l h t s k (p.is-rising (encode_expr b ++ l))
          (q.is-rising l);
      is-falling =
          λ l.
          kept-judged falling-at rising-at fall o (down a) (down b) (encode_expr a) (encode_expr b) l h t s k (p.is-falling (encode_expr b ++ l))
          (q.is-falling l);
    }

    turn-first : (o : ℕ) → operands_of o ≡ 2 → turned o ≡ true → (a b : Expr) → Judges n a → Judges n b
        → Judgement (suc n) (o ∷ (encode_expr a ++ encode_expr b)) (down a && up b) (up a && down b)
    unfolding trend_at
    turn-first o h t a b p q = record {
      is-rising =
          λ l.
          turned-judged rising-at falling-at rise o (down a) (up b) (encode_expr a) (encode_expr b) l h t (p.is-falling (encode_expr b ++ l))
          (q.is-rising l);
      is-falling =
          λ l.
          turned-judged falling-at rising-at fall o (up a) (down b) (encode_expr a) (encode_expr b) l h t (p.is-rising (encode_expr b ++ l))
          (q.is-falling l);
    }

    turn-second : (a b : Expr) → Judges n a → Judges n b → Judgement (suc n) (0x24 ∷ (encode_expr a ++ encode_expr b)) (up a && down b) (down a && up b)
    unfolding trend_at
    turn-second a b p q = record {
      is-rising =
          λ l.
          sub-judged rising-at falling-at rise (up a) (down b) (encode_expr a) (encode_expr b) l (p.is-rising (encode_expr b ++ l)) (q.is-falling l);
      is-falling =
          λ l.
          sub-judged falling-at rising-at fall (down a) (up b) (encode_expr a) (encode_expr b) l (p.is-falling (encode_expr b ++ l)) (q.is-rising l);
    }

    turn-whole : (a : Expr) → Judges n a → Judgement (suc n) (0x28 ∷ encode_expr a) (down a) (up a)
    unfolding trend_at
    turn-whole a p = record {
      is-rising = λ l. not-judged rising-at falling-at rise (down a) (encode_expr a) l (p.is-falling l);
      is-falling = λ l. not-judged falling-at rising-at fall (up a) (encode_expr a) l (p.is-rising l);
    }

    same-both : (a b : Expr) → Judges n a → Judges n b
        → Judgement (suc n) (0x27 ∷ (encode_expr a ++ encode_expr b)) ((up a && down a) && (up b && down b)) ((up a && down a) && (up b && down b))
    unfolding trend_at
    same-both a b p q = record { is-rising = up-so; is-falling = down-so }
      where
        up-so : (l : List ℕ) → trend_at (suc n) rise fall ((0x27 ∷ (encode_expr a ++ encode_expr b)) ++ l)
            ≡ record { yes = (up a && down a) && (up b && down b); used = length (0x27 ∷ (encode_expr a ++ encode_expr b)) }
        up-so l =
            let m = encode_expr b ++ l in
            equal-judged rising-at falling-at rise (up a) (up b) (down a) (down b) (encode_expr a) (encode_expr b) l (p.is-rising m) (p.is-falling m)
            (q.is-rising l) (q.is-falling l)

        down-so : (l : List ℕ) → trend_at (suc n) fall rise ((0x27 ∷ (encode_expr a ++ encode_expr b)) ++ l)
            ≡ record { yes = (up a && down a) && (up b && down b); used = length (0x27 ∷ (encode_expr a ++ encode_expr b)) }
        down-so l =
            let m = encode_expr b ++ l in
            rw (and-swap (up a) (down a), and-swap (up b) (down b))
            (equal-judged falling-at rising-at fall (down a) (down b) (up a) (up b) (encode_expr a) (encode_expr b) l (p.is-falling m) (p.is-rising m)
            (q.is-falling l) (q.is-rising l))

    same-branches : (a b d : Expr) → Judges n a → Judges n b → Judges n d
        → Judgement (suc n) (0x2B ∷ (encode_expr a ++ (encode_expr b ++ encode_expr d)))
        ((up a && down a) && (up b && up d)) ((up a && down a) && (down b && down d))
    unfolding trend_at
    same-branches a b d p q r = record { is-rising = up-so; is-falling = down-so }
      where
        bytes : List ℕ
        bytes = 0x2B ∷ (encode_expr a ++ (encode_expr b ++ encode_expr d))

        up-so : (l : List ℕ) → trend_at (suc n) rise fall (bytes ++ l) ≡ record { yes = (up a && down a) && (up b && up d); used = length bytes }
        up-so l =
            let m = encode_expr d ++ l in
            let k = encode_expr b ++ m in
            if-judged rising-at falling-at rise (up a) (up b) (down a) (up d) (encode_expr a) (encode_expr b) (encode_expr d) l (p.is-rising k)
            (p.is-falling k) (q.is-rising m) (r.is-rising l)

        down-so : (l : List ℕ) → trend_at (suc n) fall rise (bytes ++ l) ≡ record { yes = (up a && down a) && (down b && down d); used = length bytes }
        down-so l =
            let m = encode_expr d ++ l in
            let k = encode_expr b ++ m in
            rw (and-swap (up a) (down a))
            (if-judged falling-at rising-at fall (down a) (down b) (up a) (down d) (encode_expr a) (encode_expr b) (encode_expr d) l (p.is-falling k)
            (p.is-rising k) (q.is-falling m) (r.is-falling l))

    leaf-so : (x : Leaf) → P x → Judgement (suc n) (encode_leaf x) (leaf_rises fields c ks x) (leaf_falls fields c ks x)
    unfolding trend_at judged
    leaf-so x h = record {
      is-rising = λ l. rw (leaf-alone x l, leaf-used x l, rises x l h);
      is-falling = λ l. rw (leaf-alone x l, leaf-used x l, falls x l h);
    }

  pub judge-encode : (e : Expr) (n : ℕ) → Leaves P e → depth e ≤ n → Judgement n (encode_expr e) (rising fields c ks e) (falling fields c ks e)
  unfolding encode_expr depth rising falling operands_of turned kept
  judge-encode e zero h k = absurd (no-depth e k)
  judge-encode (LEAF x) (suc n) h k = leaf-so n x h
  judge-encode (ADD a b) (suc n) h k = keep n 0x23 refl refl refl refl a b (judge-encode a n h.0 (omega arith)) (judge-encode b n h.1 (omega arith))
  judge-encode (SUB a b) (suc n) h k = turn-second n a b (judge-encode a n h.0 (omega arith)) (judge-encode b n h.1 (omega arith))
  judge-encode (LESS a b) (suc n) h k = turn-first n 0x25 refl refl a b (judge-encode a n h.0 (omega arith)) (judge-encode b n h.1 (omega arith))
  judge-encode (ATMOST a b) (suc n) h k = turn-first n 0x26 refl refl a b (judge-encode a n h.0 (omega arith)) (judge-encode b n h.1 (omega arith))
  judge-encode (EQUAL a b) (suc n) h k = same-both n a b (judge-encode a n h.0 (omega arith)) (judge-encode b n h.1 (omega arith))
  judge-encode (NOT a) (suc n) h k = turn-whole n a (judge-encode a n h (omega arith))
  judge-encode (AND a b) (suc n) h k = keep n 0x29 refl refl refl refl a b (judge-encode a n h.0 (omega arith)) (judge-encode b n h.1 (omega arith))
  judge-encode (OR a b) (suc n) h k = keep n 0x2A refl refl refl refl a b (judge-encode a n h.0 (omega arith)) (judge-encode b n h.1 (omega arith))
  judge-encode (IF a b d) (suc n) h k =
      same-branches n a b d (judge-encode a n h.0 (omega arith)) (judge-encode b n h.1 (omega arith)) (judge-encode d n h.2 (omega arith))

-- marks that agree with the definition read a leaf as it judges the leaf
module _ (fields : List Kind) (c : Config) (ks : List Clause) (marks : Marks)
    (same : (v : ℕ) → v < 4 → get_or marks.differents v false ≡ not (gathers ks v)) where
  pub marked-rises : ((v : ℕ) → v < 8 → get_or marks.variables v false ≡ (is_held c v || field_rises fields (first_bind ks v)))
      → ((v : ℕ) → v < 4 → get_or marks.sums v false ≡ gathers_rising fields ks v)
      → (x : Leaf) (l : List ℕ) → LeafExists x → leaf_marked marks (encode_leaf x ++ l) ≡ leaf_rises fields c ks x
  unfolding leaf_marked
  marked-rises grow grow' (CONST x) l h = refl
  marked-rises grow grow' (VAR v) l h = grow v h
  marked-rises grow grow' (COUNT s) l h = refl
  marked-rises grow grow' (SUM v) l h = let e : 8 + v - 8 ≡ v = omega arith in rw e (grow' v h)
  marked-rises grow grow' (LENGTH v) l h = refl
  marked-rises grow grow' (DIFFERENT v) l h = let e : 8 + v - 8 ≡ v = omega arith in rw e (same v h)

  pub marked-falls : marks.variables ≡ c.held → ((v : ℕ) → v < 4 → get_or marks.sums v false ≡ not (gathers ks v))
      → (x : Leaf) (l : List ℕ) → LeafExists x → leaf_marked marks (encode_leaf x ++ l) ≡ leaf_falls fields c ks x
  unfolding leaf_marked
  marked-falls e fall (CONST x) l h = refl
  marked-falls e fall (VAR v) l h = rw e
  marked-falls e fall (COUNT s) l h = refl
  marked-falls e fall (SUM v) l h = let e : 8 + v - 8 ≡ v = omega arith in rw e (fall v h)
  marked-falls e fall (LENGTH v) l h = refl
  marked-falls e fall (DIFFERENT v) l h = let e : 8 + v - 8 ≡ v = omega arith in rw e (same v h)
