-- What a step's GATHERs leave, over its bytes: what each function of the code computes, and that on a step's bytes it is what the definition gathers.
use Prim.Native.Nat.{ℕ, zero, suc, ◌+◌, ◌-◌, ◌*◌, ◌<◌, ◌≤◌}
use mathlib.Core.Path.{◌≡◌, refl, ap, sym, ◌∙◌}
use mathlib.Core.Bool.{Bool, true, false, cond, not, ◌&&◌, ◌||◌, and_assoc, true≢false}
use mathlib.Core.List.{List, [], ◌∷◌, ◌++◌, append_assoc, flat_map}
use native.Mathlib.Omega.{arith}
use borrow.Author.Tests.{lt-ltb, ne_eqb, eqb-true, eqb-false}
use lib.ListN.{length, get_or, drop, set, length-set}
use lib.Seq.{get_or-set_same, get_or-set_other}
use lib.Dec.{eqb}
use Rattle.base.specs.Lists.{All}
use Rattle.base.proofs.Tests.{and-false, and-end}
use Rattle.event_log.specs.Log.{Kind, Values, present, field}
use Rattle.formula.specs.Formula.{Clause, TEST, TESTV, BIND, GATHER}
use Rattle.formula.specs.Encode.{CLAUSE, list_byte, encode_clause}
use Rattle.formula.specs.Correct.{Exists}
use Rattle.machine.specs.Expiry.{rises, gathers, gathers_rising}
use Rattle.machine.specs.inner.Along.{carry_all}
use Rattle.machine_code.specs.declared.Configuration.{Configuration}
use Rattle.machine_code.specs.declared.Gained.{Gained}
use Rattle.machine_code.specs.declared.Walked.{Walked}
use Rattle.machine_code.specs.inner.Bytes.{is_clause, width_of, tested, holding, bound, noted, met, clause_on, clause_at, walk_from, begun, walked}
use Rattle.machine_code.specs.inner.Bytes.{kept, gaining, gathered, gain_at, gain_from, gained}
use Rattle.machine_code.proofs.ClausesOnBytes.{either, clause-inside}
use Rattle.machine_code.proofs.EventAlone.{clause-keeps, walk-keeps, clause-place, clause-width}
use Rattle.machine_code.proofs.WalkOnBytes.{byte-from, first_byte, drop_more, is-clause, width-encode}

pub gather-in : (g : Gained) (k o x l : ℕ) (r : Bool) (fresh : List Bool) → l ≡ o - 8 → l < 4
    → gaining g l x r (get_or fresh (l * 8 + k) false) ≡ gathered g k o x r fresh
unfolding gathered
gather-in g k o x l r fresh e h = rw (← e, lt-ltb l 4 h)

-- the clause at a place as the code reads it
module _ (f : List ℕ) (fresh rises : List Bool) (event : Values) (p : ℕ) (g : Gained) (c : ℕ) (command : c ≡ get_or f p 0) where
  pub gain-other : (c ≡ 0x17 → ⊥) → g ≡ gain_at f fresh rises event p g
  unfolding gain_at
  gain-other n = rw (← command, ne_eqb c 0x17 n)

  pub gain-here : (k o x : ℕ) (r : Bool) (d : Gained) → c ≡ 0x17 → k ≡ get_or f (p + 1) 0 → o ≡ get_or f (p + 2) 0 → x ≡ field event k
      → r ≡ (get_or rises k false && present event k) → d ≡ gathered g k o x r fresh → d ≡ gain_at f fresh rises event p g
  unfolding gain_at
  gain-here k o x r d h e₁ e₂ e₃ e₄ q = rw (← command, h, ← e₁, ← e₂, ← e₃, ← e₄) q

-- what is left of the clauses of a step from a place on: with so much fuel, which the bytes left do not use up, it gives the whole
pub record Left (f : List ℕ) (fresh rises : List Bool) (event : Values) (whole : Gained) (place : ℕ) (g : Gained) : Type 0 where
  pub fuel : ℕ
  pub enough : length f < fuel + place
  pub is : whole ≡ gain_from fuel f fresh rises event place g

module _ (f : List ℕ) (fresh rises : List Bool) (event : Values) where
  pub left-start : (p : ℕ) (g : Gained) → Left f fresh rises event (gain_from (suc (length f)) f fresh rises event p g) p g
  left-start p g = record { fuel = suc (length f); enough = omega arith; is = refl }

  pub gained-from : (at : ℕ) (ts : List ℕ) (v g : Gained) → v ≡ kept ts → g ≡ gain_from (suc (length f)) f fresh rises event (at + 2) v
      → g ≡ gained f at ts fresh rises event
  unfolding gained
  gained-from at ts v g p q = rw (← p) q

  module _ (whole : Gained) (place : ℕ) (g : Gained) (h : Left f fresh rises event whole place g) where
    pub left-done : is_clause (get_or f place 0) ≡ false → g ≡ whole
    unfolding gain_from
    left-done e = sym (h.is ∙ go h.fuel)
      where
        go : (n : ℕ) → gain_from n f fresh rises event place g ≡ g
        go zero = refl
        go (suc n) = rw e

    pub left-next : (w : ℕ) (d : Gained) → is_clause (get_or f place 0) ≡ true → w ≡ width_of (get_or f place 0) → d ≡ gain_at f fresh rises event place g
        → Left f fresh rises event whole (place + w) d
    unfolding gain_from
    left-next w d k e q = go h.fuel h.enough h.is
      where
        go : (m : ℕ) → length f < m + place → whole ≡ gain_from m f fresh rises event place g → Left f fresh rises event whole (place + w) d
        go zero i r = absurd (omega (arith, clause-inside f place k))
        go (suc m) i r = record { fuel = m; enough = omega (arith, e, clause-width (get_or f place 0) k); is = r ∙ step }
          where
            step : gain_from (suc m) f fresh rises event place g ≡ gain_from m f fresh rises event (place + w) d
            step = rw (k, ← e, ← q)

-- a walk behind a GATHER stays so
abbrev Gathering : Walked → Type 0
Gathering w = w.gathers ≡ true

met-gathers : (w : Walked) (p : Bool) → Gathering w → Gathering (met w p)
unfolding met
met-gathers w p h = h

tested-gathers : (w : Walked) (next o x y : ℕ) (r : Bool) → Gathering w → Gathering (tested w next o x y r)
unfolding tested
tested-gathers w next o x y r h = h

noted-gathers : (w : Walked) (next : ℕ) → Gathering (noted w next)
unfolding noted
noted-gathers w next = refl

bound-gathers : (w : Walked) (next v x : ℕ) (r : Bool) → Gathering w → Gathering (bound w next v x r)
unfolding bound holding
bound-gathers w next v x r h = either Gathering (get_or w.held v false) w _ h h

module _ (f prior : List ℕ) (fresh rises : List Bool) (event : Values) where
  walk-gathers : (n : ℕ) (w : Walked) → w.gathers ≡ true → (walk_from n f prior rises event w).gathers ≡ true
  walk-gathers =
      walk-keeps f prior rises event Gathering
      (clause-keeps Gathering met-gathers tested-gathers (λ w n h. noted-gathers w n) bound-gathers f prior rises event)

  gather-noted : (w : Walked) → eqb (get_or f w.at 0) 0x17 ≡ true → (clause_at f prior rises event w).gathers ≡ true
  unfolding clause_at clause_on met noted
  gather-noted w e = let c : get_or f w.at 0 ≡ 0x17 = eqb-true (get_or f w.at 0) 0x17 e in rw c

  -- where the walk meets no GATHER, nothing is gathered
  none-gathered : (n : ℕ) (w : Walked) (g : Gained) → (walk_from n f prior rises event w).gathers ≡ false → gain_from n f fresh rises event w.at g ≡ g
  unfolding walk_from gain_from
  none-gathered zero w g h = refl
  none-gathered (suc n) w g h = go (is_clause (get_or f w.at 0)) refl h (λ k. none-gathered n (clause_at f prior rises event w) g k)
    where
      same : (b : Bool) → eqb (get_or f w.at 0) 0x17 ≡ b → (walk_from n f prior rises event (clause_at f prior rises event w)).gathers ≡ false
          → gain_at f fresh rises event w.at g ≡ g
      same true e k =
          absurd (true≢false (sym (walk-gathers n (clause_at f prior rises event w) (gather-noted w e)) ∙ k))
      same false e k = sym (gain-other f fresh rises event w.at g (get_or f w.at 0) refl (eqb-false (get_or f w.at 0) 0x17 e))

      go : (b : Bool) → is_clause (get_or f w.at 0) ≡ b
          → (cond b (walk_from n f prior rises event (clause_at f prior rises event w)) w).gathers ≡ false
          → ((walk_from n f prior rises event (clause_at f prior rises event w)).gathers ≡ false
          → gain_from n f fresh rises event (clause_at f prior rises event w).at g ≡ g)
          → cond b (gain_from n f fresh rises event (w.at + width_of (get_or f w.at 0)) (gain_at f fresh rises event w.at g)) g ≡ g
      go true e k ih =
          let n₃ = clause-width (get_or f w.at 0) e in
          let p = clause-place f prior rises event w (λ z. omega arith) in
          rw (same (eqb (get_or f w.at 0) 0x17) refl k, ← p) (ih k)
      go false e k ih = refl

-- so the code need not look for GATHERs where the walk met none
pub gains-by : (f : List ℕ) (at : ℕ) (c : Configuration) (fresh rises : List Bool) (event : Values) (w : Walked) (g : Gained)
    → w ≡ walked f at c rises event → g ≡ cond w.gathers (gained f at c.tallies fresh rises event) (kept c.tallies)
    → g ≡ gained f at c.tallies fresh rises event
unfolding walked gained begun
gains-by f at c fresh rises event w g e h = go w.gathers refl h
  where
    go : (b : Bool) → w.gathers ≡ b → g ≡ cond b (gained f at c.tallies fresh rises event) (kept c.tallies)
        → g ≡ gained f at c.tallies fresh rises event
    go true q k = k
    go false q k =
        k
        ∙ sym
        (none-gathered f c.values fresh rises event (suc (length f)) (begun at c) (kept c.tallies) (sym (ap (λ (v : Walked). v.gathers) e) ∙ q))

module _ (f : List ℕ) (fresh rising : List Bool) (event : Values) where
  -- what a clause adds
  abbrev pub gain_of : Gained → Clause → Gained
  gain_of g (TEST k o y) = g
  gain_of g (TESTV k o u) = g
  gain_of g (BIND k u) = g
  gain_of g (GATHER k v) = gaining g v (field event k) (get_or rising k false && present event k) (get_or fresh (v * 8 + k) false)

  abbrev pub gain_all : Gained → List Clause → Gained
  gain_all g [] = g
  gain_all g (k ∷ ks) = gain_all (gain_of g k) ks

  gain-clause : (m p : ℕ) (g : Gained) (k : Clause) (l : List ℕ) → drop p f ≡ encode_clause k ++ l → Exists m (CLAUSE k)
      → gain_at f fresh rising event p g ≡ gain_of g k
  unfolding encode_clause
  gain-clause m p g (TEST k o y) l h v = sym (gain-other f fresh rising event p g 0x12 (sym (first_byte f _ p h)) (λ e. omega arith))
  gain-clause m p g (TESTV k o u) l h v = sym (gain-other f fresh rising event p g 0x13 (sym (first_byte f _ p h)) (λ e. omega arith))
  gain-clause m p g (BIND k u) l h v = sym (gain-other f fresh rising event p g 0x14 (sym (first_byte f _ p h)) (λ e. omega arith))
  gain-clause m p g (GATHER k u) l h v =
      let x = field event k in
      let r = get_or rising k false && present event k in
      sym
      (gain-here f fresh rising event p g 0x17 (sym (first_byte f _ p h)) k (list_byte u) x r _ refl (sym (byte-from f _ p 1 h))
      (sym (byte-from f _ p 2 h)) refl refl (gather-in g k (list_byte u) x u r fresh (omega arith) v.1))

  -- what a step's clauses add, up to a byte that is no clause's command
  pub gain-encode : (m fuel p : ℕ) (g : Gained) (ks : List Clause) (l : List ℕ) → drop p f ≡ flat_map encode_clause ks ++ l
      → is_clause (get_or l 0 0) ≡ false
      → All (λ k. Exists m (CLAUSE k)) ks → length ks ≤ fuel → gain_from fuel f fresh rising event p g ≡ gain_all g ks
  unfolding gain_from flat_map
  gain-encode m zero p g [] l h stop v k = refl
  gain-encode m (suc fuel) p g [] l h stop v k = rw (first_byte f l p h, stop)
  gain-encode m zero p g (x ∷ ks) l h stop v k = absurd (omega arith)
  gain-encode m (suc fuel) p g (x ∷ ks) l h stop v k =
      let h' : drop p f ≡ encode_clause x ++ (flat_map encode_clause ks ++ l) = h ∙ append_assoc (encode_clause x) (flat_map encode_clause ks) l in
      let b = first_byte f _ p h' in
      let t : is_clause (get_or f p 0) ≡ true = ap is_clause b ∙ is-clause x (flat_map encode_clause ks ++ l) in
      let w : width_of (get_or f p 0) ≡ length (encode_clause x) = ap width_of b ∙ width-encode x (flat_map encode_clause ks ++ l) in
      let d : drop (p + length (encode_clause x)) f ≡ flat_map encode_clause ks ++ l = drop_more f (encode_clause x) (flat_map encode_clause ks ++ l) p h' in
      rw (t, w, gain-clause m p g x (flat_map encode_clause ks ++ l) h' v.0)
      (gain-encode m fuel (p + length (encode_clause x)) (gain_of g x) ks l d stop v.1 (omega arith))

  -- the tallies
  pub gain-tallies : (ks : List Clause) (g : Gained) → (gain_all g ks).tallies ≡ carry_all fresh event g.tallies ks
  unfolding gaining
  gain-tallies [] g = refl
  gain-tallies (TEST k o y ∷ ks) g = gain-tallies ks g
  gain-tallies (TESTV k o u ∷ ks) g = gain-tallies ks g
  gain-tallies (BIND k u ∷ ks) g = gain-tallies ks g
  gain-tallies (GATHER k u ∷ ks) g = gain-tallies ks (gain_of g (GATHER k u))

-- a mark behind a place that is set
set_at : (l : List Bool) (u v : ℕ) (b : Bool) → v < length l → (t : Bool) → eqb u v ≡ t → get_or (set l u b) v false ≡ cond t b (get_or l v false)
set_at l u v b h true q = let p : u ≡ v = eqb-true u v q in rw p (get_or-set_same l v b false h)
set_at l u v b h false q = get_or-set_other l u v b false (λ r. eqb-false u v q (sym r))

-- the lists into which every field gathered is rising, and those into which none is gathered
module _ (f : List ℕ) (field_kinds : List Kind) (fresh rising : List Bool) (event : Values)
    (mark : (g : ℕ) → (get_or rising g false && present event g) ≡ rises field_kinds g) (v : ℕ) (small : v < 4) where
  pub record Judged (ks : List Clause) (w r : Gained) : Type 0 where
    pub all-rise : get_or r.rising v false ≡ (get_or w.rising v false && gathers_rising field_kinds ks v)
    pub none_in : get_or r.unchanged v false ≡ (get_or w.unchanged v false && not (gathers ks v))

  -- what a GATHER into list u does to v's marks
  rise-more : (l : List Bool) (u : ℕ) (r q : Bool) → length l ≡ 4
      → (get_or (set l u (get_or l u false && r)) v false && q) ≡ (get_or l v false && (cond (eqb u v) r true && q))
  rise-more l u r q h = rw (set_at l u v (get_or l u false && r) (omega arith) (eqb u v) refl) (go (eqb u v) refl)
    where
      go : (t : Bool) → eqb u v ≡ t → (cond t (get_or l u false && r) (get_or l v false) && q) ≡ (get_or l v false && (cond t r true && q))
      go true e = let p : u ≡ v = eqb-true u v e in rw p (and_assoc (get_or l v false) r q)
      go false e = refl

  none_more : (l : List Bool) (u : ℕ) (q : Bool) → length l ≡ 4
      → (get_or (set l u false) v false && not q) ≡ (get_or l v false && not (eqb u v || q))
  none_more l u q h = rw (set_at l u v false (omega arith) (eqb u v) refl) (go (eqb u v))
    where
      go : (t : Bool) → (cond t false (get_or l v false) && not q) ≡ (get_or l v false && not (t || q))
      go true = sym (and-false (get_or l v false) false refl)
      go false = refl

  pub judged : (ks : List Clause) (w : Gained) → length w.rising ≡ 4 → length w.unchanged ≡ 4 → Judged ks w (gain_all f fresh rising event w ks)
  unfolding gaining
  judged [] w a b = record { all-rise = and-end (get_or w.rising v false); none_in = and-end (get_or w.unchanged v false) }
  judged (TEST g o y ∷ ks) w a b = let i = judged ks w a b in record { all-rise = i.all-rise; none_in = i.none_in }
  judged (TESTV g o u ∷ ks) w a b = let i = judged ks w a b in record { all-rise = i.all-rise; none_in = i.none_in }
  judged (BIND g u ∷ ks) w a b = let i = judged ks w a b in record { all-rise = i.all-rise; none_in = i.none_in }
  judged (GATHER g u ∷ ks) w a b =
      let i = judged ks (gain_of f fresh rising event w (GATHER g u)) (length-set w.rising u _ ∙ a) (length-set w.unchanged u false ∙ b) in
      record {
        all-rise =
            i.all-rise
            ∙ rise-more w.rising u (get_or rising g false && present event g) (gathers_rising field_kinds ks v) a
            ∙ ap (λ (r : Bool). get_or w.rising v false && (cond (eqb u v) r true && gathers_rising field_kinds ks v)) (mark g);
        none_in = i.none_in ∙ none_more w.unchanged u (gathers ks v) b;
      }
