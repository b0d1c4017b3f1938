-- On a step's bytes, whatever follows them, the code's walk over the clauses is the definition's.
use Prim.Native.Nat.{ℕ, zero, suc, ◌+◌, ◌≤◌}
use mathlib.Core.Path.{◌≡◌, refl, ap, sym, ◌∙◌}
use mathlib.Core.Bool.{Bool, true, false, ◌&&◌, ◌||◌, and_assoc, or_assoc}
use mathlib.Core.List.{List, [], ◌∷◌, ◌++◌, append_assoc, flat_map}
use native.Mathlib.Omega.{arith}
use native.Mathlib.Nat.{add-zero}
use lib.ListN.{length, get_or, drop, set, length-append}
use lib.Seq.{get_or-drop, drop-drop, drop-append_seam}
use lib.Dec.{eqb}
use Rattle.base.specs.Value.{bytes_of, value_at}
use Rattle.base.specs.Lists.{All}
use Rattle.base.proofs.Tests.{and-end}
use Rattle.base.proofs.Values.{value-of-bytes}
use Rattle.event_log.specs.Log.{Kind, Values, present, field}
use Rattle.formula.specs.Formula.{Operator, equal, unequal, less, greater, atmost, atleast, Clause, TEST, TESTV, BIND, GATHER}
use Rattle.formula.specs.Encode.{CLAUSE, operator_byte, list_byte, encode_clause}
use Rattle.formula.specs.Correct.{Exists}
use Rattle.machine_code.specs.declared.Walked.{Walked}
use Rattle.machine.specs.Configuration.{Config}
use Rattle.machine.specs.Firing.{holds, value_of, hold, bind_all}
use Rattle.machine.specs.Expiry.{rises, missed, any_past_due}
use Rattle.machine.specs.inner.Walk.{walk}
use Rattle.machine_code.specs.inner.Bytes.{holds_by, missed_by, is_clause, width_of, tested, holding, bound, noted, met, clause_at, walk_from}
use Rattle.machine_code.proofs.ClausesOnBytes.{clause-test, clause-testv, clause-note, clause-bind}

-- what stands behind an offset is read there
pub byte-from : (f l : List ℕ) (at i : ℕ) → drop at f ≡ l → get_or f (at + i) 0 ≡ get_or l i 0
byte-from f l at i h = rw (← h) (sym (get_or-drop at f i 0))

pub first_byte : (f l : List ℕ) (at : ℕ) → drop at f ≡ l → get_or f at 0 ≡ get_or l 0 0
first_byte f l at h = ap (λ i. get_or f i 0) (sym (add-zero at)) ∙ byte-from f l at 0 h

value-from : (f l : List ℕ) (at : ℕ) → drop at f ≡ l → value_at f (at + 3) ≡ value_at l 3
unfolding value_at
value-from f l at h =
    let e₁ : at + 3 + 1 ≡ at + 4 = omega arith in
    let e₂ : at + 3 + 2 ≡ at + 5 = omega arith in
    let e₃ : at + 3 + 3 ≡ at + 6 = omega arith in
    rw (e₁, e₂, e₃, byte-from f l at 3 h, byte-from f l at 4 h, byte-from f l at 5 h, byte-from f l at 6 h)

pub drop_more : (f xs ys : List ℕ) (at : ℕ) → drop at f ≡ xs ++ ys → drop (at + length xs) f ≡ ys
drop_more f xs ys at h = sym (drop-drop (length xs) at f) ∙ ap (drop (length xs)) h ∙ drop-append_seam xs ys

-- a clause's bytes begin with its command, and are as many as it says
pub is-clause : (k : Clause) (l : List ℕ) → is_clause (get_or (encode_clause k ++ l) 0 0) ≡ true
unfolding is_clause encode_clause
is-clause (TEST g o y) l = refl
is-clause (TESTV g o u) l = refl
is-clause (BIND g u) l = refl
is-clause (GATHER g u) l = refl

pub width-encode : (k : Clause) (l : List ℕ) → width_of (get_or (encode_clause k ++ l) 0 0) ≡ length (encode_clause k)
unfolding width_of encode_clause bytes_of
width-encode (TEST g o y) l = refl
width-encode (TESTV g o u) l = refl
width-encode (BIND g u) l = refl
width-encode (GATHER g u) l = refl

module _ (f prior : List ℕ) (rising : List Bool) (event : Values) where
  -- a field is marked as rising, and is there
  abbrev rises_there : ℕ → Bool
  rises_there g = get_or rising g false && present event g

  -- what a clause does to a walk
  abbrev pub clause_of : Walked → Clause → Walked
  clause_of w (TEST g o y) = tested (met w (present event g)) (w.at + 7) (operator_byte o) (field event g) y (rises_there g)
  clause_of w (TESTV g o v) = tested (met w (present event g)) (w.at + 4) (operator_byte o) (field event g) (get_or prior v 0) (rises_there g)
  clause_of w (BIND g v) = bound (met w (present event g)) (w.at + 3) v (field event g) (rises_there g)
  clause_of w (GATHER g v) = noted (met w (present event g)) (w.at + 3)

  abbrev pub walk_of : Walked → List Clause → Walked
  walk_of w [] = w
  walk_of w (k ∷ ks) = walk_of (clause_of w k) ks

  clause-encode : (m : ℕ) (w : Walked) (k : Clause) (l : List ℕ) → drop w.at f ≡ encode_clause k ++ l → Exists m (CLAUSE k)
      → clause_at f prior rising event w ≡ clause_of w k
  unfolding encode_clause clause_at met
  clause-encode m w (TEST g o y) l h v =
      rw (byte-from f _ w.at 1 h)
      (sym
      (clause-test f prior (met w (present event g)) (field event g) (operator_byte o) 0x12 (rises_there g) (sym (byte-from f _ w.at 2 h))
      (sym (first_byte f _ w.at h)) y _ refl
      (sym (value-from f _ w.at h ∙ value-of-bytes (0x12 ∷ g ∷ operator_byte o ∷ []) y l v.1)) refl))
  clause-encode m w (TESTV g o u) l h v =
      rw (byte-from f _ w.at 1 h)
      (sym
      (clause-testv f prior (met w (present event g)) (field event g) (operator_byte o) 0x13 (rises_there g) (sym (byte-from f _ w.at 2 h))
      (sym (first_byte f _ w.at h)) u _ _ refl (sym (byte-from f _ w.at 3 h)) refl refl))
  clause-encode m w (BIND g u) l h v =
      rw (byte-from f _ w.at 1 h)
      (sym
      (clause-bind f prior (met w (present event g)) (field event g) u 0x14 (rises_there g) (sym (byte-from f _ w.at 2 h))
      (sym (first_byte f _ w.at h)) _ (λ e. omega arith) (λ e. omega arith) (λ e. omega arith) refl))
  clause-encode m w (GATHER g u) l h v =
      rw (byte-from f _ w.at 1 h)
      (sym
      (clause-note f prior (met w (present event g)) (field event g) (list_byte u) 0x17 (rises_there g) (sym (byte-from f _ w.at 2 h))
      (sym (first_byte f _ w.at h)) _ refl refl))

  clause-at : (w : Walked) (k : Clause) → (clause_of w k).at ≡ w.at + length (encode_clause k)
  unfolding tested bound noted met encode_clause bytes_of
  clause-at w (TEST g o y) = refl
  clause-at w (TESTV g o u) = refl
  clause-at w (BIND g u) = refl
  clause-at w (GATHER g u) = refl

  -- the walk over a step's clauses, up to a byte that is no clause's command
  pub walk-encode : (m fuel : ℕ) (w : Walked) (ks : List Clause) (l : List ℕ) → drop w.at f ≡ flat_map encode_clause ks ++ l
      → is_clause (get_or l 0 0) ≡ false
      → All (λ k. Exists m (CLAUSE k)) ks → length ks ≤ fuel → walk_from fuel f prior rising event w ≡ walk_of w ks
  unfolding walk_from flat_map
  walk-encode m zero w [] l h stop v k = refl
  walk-encode m (suc fuel) w [] l h stop v k = rw (first_byte f l w.at h, stop)
  walk-encode m zero w (x ∷ ks) l h stop v k = absurd (omega arith)
  walk-encode m (suc fuel) w (x ∷ ks) l h stop v k =
      let h' : drop w.at f ≡ encode_clause x ++ (flat_map encode_clause ks ++ l) = h ∙ append_assoc (encode_clause x) (flat_map encode_clause ks) l in
      let t : is_clause (get_or f w.at 0) ≡ true = ap is_clause (first_byte f _ w.at h') ∙ is-clause x (flat_map encode_clause ks ++ l) in
      let d : drop (clause_of w x).at f ≡ flat_map encode_clause ks ++ l =
      ap (λ i. drop i f) (clause-at w x) ∙ drop_more f (encode_clause x) (flat_map encode_clause ks ++ l) w.at h' in
      rw (t, clause-encode m w x (flat_map encode_clause ks ++ l) h' v.0) (walk-encode m fuel (clause_of w x) ks l d stop v.1 (omega arith))

  -- how far it goes
  pub walk_at : (w : Walked) (ks : List Clause) → (walk_of w ks).at ≡ w.at + length (flat_map encode_clause ks)
  unfolding flat_map
  walk_at w [] = omega arith
  walk_at w (k ∷ ks) = omega (arith, walk_at (clause_of w k) ks, clause-at w k, length-append (encode_clause k) (flat_map encode_clause ks))

  -- where the guard begins
  pub walk_ends : (w : Walked) (ks : List Clause) (l : List ℕ) → drop w.at f ≡ flat_map encode_clause ks ++ l → drop (walk_of w ks).at f ≡ l
  walk_ends w ks l h = ap (λ i. drop i f) (walk_at w ks) ∙ drop_more f (flat_map encode_clause ks) l w.at h

-- no clause is empty
pub clauses-length : (ks : List Clause) → length ks ≤ length (flat_map encode_clause ks)
unfolding flat_map encode_clause
clauses-length [] = omega arith
clauses-length (TEST g o y ∷ ks) = omega (arith, clauses-length ks, length-append (encode_clause (TEST g o y)) (flat_map encode_clause ks))
clauses-length (TESTV g o u ∷ ks) = omega (arith, clauses-length ks, length-append (encode_clause (TESTV g o u)) (flat_map encode_clause ks))
clauses-length (BIND g u ∷ ks) = omega (arith, clauses-length ks, length-append (encode_clause (BIND g u)) (flat_map encode_clause ks))
clauses-length (GATHER g u ∷ ks) = omega (arith, clauses-length ks, length-append (encode_clause (GATHER g u)) (flat_map encode_clause ks))

holds-operator : (o : Operator) (x y : ℕ) → holds_by (operator_byte o) x y ≡ holds o x y
unfolding holds_by
holds-operator equal x y = refl
holds-operator unequal x y = refl
holds-operator less x y = refl
holds-operator greater x y = refl
holds-operator atmost x y = refl
holds-operator atleast x y = refl

missed-operator : (o : Operator) (x y : ℕ) → missed_by (operator_byte o) x y ≡ missed o x y
unfolding missed_by
missed-operator equal x y = refl
missed-operator unequal x y = refl
missed-operator less x y = refl
missed-operator greater x y = refl
missed-operator atmost x y = refl
missed-operator atleast x y = refl

-- the walk holds what the configuration holds
pub record Agrees (w : Walked) (d : Config) : Type 0 where
  pub held : w.held ≡ d.held
  pub values : w.values ≡ d.values

-- holding a variable in the walk is holding it in the configuration
holding-agrees : (w : Walked) (d : Config) (v x : ℕ) (r b : Bool) → get_or d.held v false ≡ b → Agrees w d → Agrees (holding w v x r) (hold d v x)
unfolding holding hold
holding-agrees w d v x r true e a =
    let h : get_or w.held v false ≡ true = ap (λ (l : List Bool). get_or l v false) a.held ∙ e in
    rw (h, e) a
holding-agrees w d v x r false e a =
    let h : get_or w.held v false ≡ false = ap (λ (l : List Bool). get_or l v false) a.held ∙ e in
    rw (h, e) (record { held = ap (λ (l : List Bool). set l v true) a.held; values = ap (λ (l : List ℕ). set l v x) a.values })

holding-due : (w : Walked) (v x : ℕ) (r b : Bool) → get_or w.held v false ≡ b → (holding w v x r).due ≡ w.due
unfolding holding
holding-due w v x r true e = rw e
holding-due w v x r false e = rw e

or-end : (a : Bool) → a ≡ (a || false)
or-end true = refl
or-end false = refl

-- the walk has bound what the clauses bind, passes where they pass, and is due where one is past due
pub record Along (fields : List Kind) (c d : Config) (event : Values) (ks : List Clause) (w r : Walked) : Type 0 where
  pub agrees : Agrees r (bind_all d event ks)
  pub passing : r.passes ≡ (w.passes && walk c d event ks)
  pub overdue : r.due ≡ (w.due || any_past_due fields c event ks)

module _ (f : List ℕ) (fields : List Kind) (rising : List Bool) (kept : (g : ℕ) → get_or rising g false ≡ rises fields g) (c : Config)
    (event : Values) where
  tested-agrees : (w : Walked) (d : Config) (next o x y : ℕ) (r : Bool) → Agrees w d → Agrees (tested w next o x y r) d
  unfolding tested
  tested-agrees w d next o x y r a = record { held = a.held; values = a.values }

  -- a test of a field, of which p says whether it is there
  tested-passing : (w : Walked) (next : ℕ) (o : Operator) (x y : ℕ) (p r t : Bool)
      → ((tested (met w p) next (operator_byte o) x y r).passes && t) ≡ (w.passes && ((p && holds o x y) && t))
  unfolding tested met
  tested-passing w next o x y p r t =
      rw (holds-operator o x y, and_assoc w.passes p (holds o x y)) (and_assoc w.passes (p && holds o x y) t)

  tested-due : (w : Walked) (next : ℕ) (o : Operator) (x y g : ℕ) (p t : Bool)
      → ((tested (met w p) next (operator_byte o) x y (get_or rising g false && p)).due || t) ≡ (w.due || ((rises fields g && (p && missed o x y)) || t))
  unfolding tested met
  tested-due w next o x y g p t =
      rw (missed-operator o x y, kept g, and_assoc (rises fields g) p (missed o x y)) (or_assoc w.due (rises fields g && (p && missed o x y)) t)

  bound-agrees : (w : Walked) (d : Config) (next v x : ℕ) (r : Bool) → Agrees w d → Agrees (bound w next v x r) (hold d v x)
  unfolding bound
  bound-agrees w d next v x r a = let h = holding-agrees w d v x r (get_or d.held v false) refl a in record { held = h.held; values = h.values }

  met-agrees : (w : Walked) (d : Config) (p : Bool) → Agrees w d → Agrees (met w p) d
  unfolding met
  met-agrees w d p a = record { held = a.held; values = a.values }

  bound-passing : (w : Walked) (d : Config) (next v x : ℕ) (p r t : Bool) → Agrees w d
      → ((bound (met w p) next v x r).passes && t) ≡ (w.passes && ((p && eqb x (value_of (hold d v x) v)) && t))
  unfolding bound met
  bound-passing w d next v x p r t a =
      let h = holding-agrees (met w p) d v x r (get_or d.held v false) refl (met-agrees w d p a) in
      rw (h.values, and_assoc w.passes p (eqb x (value_of (hold d v x) v))) (and_assoc w.passes (p && eqb x (value_of (hold d v x) v)) t)

  bound-due : (w : Walked) (next v x : ℕ) (p r t : Bool) → ((bound (met w p) next v x r).due || t) ≡ (w.due || t)
  unfolding bound met
  bound-due w next v x p r t = rw (holding-due (met w p) v x r (get_or w.held v false) refl)

  noted-agrees : (w : Walked) (d : Config) (next : ℕ) → Agrees w d → Agrees (noted w next) d
  unfolding noted
  noted-agrees w d next a = record { held = a.held; values = a.values }

  pub along : (ks : List Clause) (d : Config) (w : Walked) → Agrees w d → Along fields c d event ks w (walk_of f c.values rising event w ks)
  unfolding noted met
  along [] d w a = record { agrees = a; passing = and-end w.passes; overdue = or-end w.due }
  along (TEST g o y ∷ ks) d w a =
      let p = present event g in
      let r = get_or rising g false && p in
      let i = along ks d (tested (met w p) (w.at + 7) (operator_byte o) (field event g) y r) (tested-agrees (met w p) d _ _ _ _ _ (met-agrees w d p a)) in
      record {
        agrees = i.agrees;
        passing = i.passing ∙ tested-passing w (w.at + 7) o (field event g) y p r (walk c d event ks);
        overdue = i.overdue ∙ tested-due w (w.at + 7) o (field event g) y g p (any_past_due fields c event ks);
      }
  along (TESTV g o u ∷ ks) d w a =
      let p = present event g in
      let r = get_or rising g false && p in
      let i =
      along ks d (tested (met w p) (w.at + 4) (operator_byte o) (field event g) (get_or c.values u 0) r)
      (tested-agrees (met w p) d _ _ _ _ _ (met-agrees w d p a)) in
      record {
        agrees = i.agrees;
        passing = i.passing ∙ tested-passing w (w.at + 4) o (field event g) (get_or c.values u 0) p r (walk c d event ks);
        overdue = i.overdue ∙ tested-due w (w.at + 4) o (field event g) (get_or c.values u 0) g p (any_past_due fields c event ks);
      }
  along (BIND g u ∷ ks) d w a =
      let p = present event g in
      let r = get_or rising g false && p in
      let i = along ks (hold d u (field event g)) (bound (met w p) (w.at + 3) u (field event g) r) (bound-agrees (met w p) d _ _ _ _ (met-agrees w d p a)) in
      record {
        agrees = i.agrees;
        passing = i.passing ∙ bound-passing w d (w.at + 3) u (field event g) p r (walk c (hold d u (field event g)) event ks) a;
        overdue = i.overdue ∙ bound-due w (w.at + 3) u (field event g) p r (any_past_due fields c event ks);
      }
  along (GATHER g u ∷ ks) d w a =
      let p = present event g in
      let i = along ks d (noted (met w p) (w.at + 3)) (noted-agrees (met w p) d (w.at + 3) (met-agrees w d p a)) in
      record { agrees = i.agrees; passing = i.passing ∙ and_assoc w.passes p (walk c d event ks); overdue = i.overdue }
