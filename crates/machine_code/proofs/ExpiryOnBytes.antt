-- Expiry over the formula's bytes: what each function of the code computes, and that on a step's bytes it is the definition's.
use Prim.Native.Nat.{ℕ, ◌+◌, ◌<◌, ◌≤◌}
use mathlib.Core.Path.{◌≡◌, refl, ap, sym, ◌∙◌}
use mathlib.Core.Bool.{Bool, true, false, cond, not, ◌&&◌, ◌||◌, and_assoc, and-false, and-true}
use mathlib.Core.List.{List, [], ◌∷◌, ◌++◌}
use mathlib.Core.Option.{Option, none, some}
use native.Mathlib.Omega.{arith}
use borrow.Author.Tests.{le-leb, lt-leb, ne_eqb, eqb-true, eqb-false}
use lib.ListN.{length, get_or, drop, set, length-set, get_or-replicate}
use lib.Seq.{get_or-set_same, get_or-set_other}
use lib.Dec.{eqb}
use Rattle.base.specs.Lists.{All}
use Rattle.event_log.specs.Log.{Kind, Values, present, field}
use Rattle.formula.specs.Formula.{Expr, Clause, TEST, TESTV, BIND, GATHER, Step}
use Rattle.formula.specs.Encode.{operator_byte, encode_expr, guard_commands}
use Rattle.formula.specs.Correct.{LeafExists, Exists, GuardFits}
use Rattle.machine_code.specs.declared.Configuration.{Configuration}
use Rattle.machine_code.specs.declared.Gained.{Gained}
use Rattle.machine_code.specs.declared.Walked.{Walked}
use Rattle.machine.specs.Firing.{is_held, leave}
use Rattle.machine.specs.Guard.{guard_holds}
use Rattle.machine.specs.Expiry.{rises, first_bind, field_rises, gathers, gathers_rising, guard_falls, guard_known, expired}
use Rattle.machine.specs.inner.Arrived.{kinds_in}
use Rattle.machine.proofs.Arrived.{rises-in, falls-in}
use Rattle.guard_code.specs.inner.Bytes.{leaf_marked, falls_at}
use Rattle.machine_code.specs.inner.Bytes.{tested, holding, bound, noted, met, begun, walked, kept, gained, raised, guard_behind, config_of, falling, growing}
use Rattle.machine_code.specs.inner.Bytes.{falls_behind, lapsed}
use Rattle.machine_code.proofs.WalkOnBytes.{first_byte, drop_more, walk_of}
use Rattle.guard_code.proofs.TrendOnBytes.{judge-encode, marked-rises, marked-falls}
use Rattle.machine_code.proofs.FiringOnBytes.{StepAt, Ready, Carries, guard_bytes, inside, walked-encode, walked-along, walked-ends, gained-encode, guard-left}
use Rattle.machine_code.proofs.FiringOnBytes.{parts-exist, guard-exists}
use Rattle.machine_code.proofs.GainingOnBytes.{gains-by, judged}

pub lapsed-out : (f : List ℕ) (at : ℕ) (c : Configuration) (fresh rising : List Bool) (event : Values) → length f ≤ at
    → true ≡ lapsed f at c fresh rising event
unfolding lapsed
lapsed-out f at c fresh rising event h = rw (le-leb (length f) at h)

-- the ways out behind the walk
module _ (f : List ℕ) (at : ℕ) (c : Configuration) (fresh rising : List Bool) (event : Values) (in-file : at < length f) where
  pub lapsed-due : (walked f at c rising event).due ≡ true → true ≡ lapsed f at c fresh rising event
  unfolding lapsed
  lapsed-due d = rw (lt-leb (length f) at in-file, d)

  module _ (w : Walked) (e : w ≡ walked f at c rising event) (g : Gained) (k : g ≡ cond w.gathers (gained f at c.tallies fresh rising event) (kept c.tallies)) where
    -- the guard's value decides where it is not 0, and where it is 0 its trend does
    module _ (counters : List ℕ) (v : Bool) (d : w.due ≡ false) (n : counters ≡ raised c.counters c.state)
        (r : v ≡ guard_behind f w counters g.tallies) where
      pub lapsed-held : v ≡ true → false ≡ lapsed f at c fresh rising event
      unfolding lapsed
      lapsed-held q =
          let i = gains-by f at c fresh rising event w g e k in
          rw (lt-leb (length f) at in-file, ← e, ← i, d, ← n, ← r, q) (sym (and-false (falls_behind f w.at c.held w.grows g)))

      pub lapsed-guard : (b : Bool) → v ≡ false → b ≡ falls_behind f w.at c.held w.grows g → b ≡ lapsed f at c fresh rising event
      unfolding lapsed
      lapsed-guard b q p =
          let i = gains-by f at c fresh rising event w g e k in
          rw (lt-leb (length f) at in-file, ← e, ← i, d, ← n, ← r, q, ← p) (sym (and-true b))

    pub lapsed-not : (b : Bool) → w.due ≡ false → b ≡ falls_behind f w.at c.held w.grows g → b ≡ false
        → false ≡ lapsed f at c fresh rising event
    unfolding lapsed
    lapsed-not b d p q = let i = gains-by f at c fresh rising event w g e k in rw (lt-leb (length f) at in-file, ← e, ← i, d, ← p, q)

-- what marks a variable as growing: its mark before, or the field of its first BIND
abbrev later : List Kind → Bool → Option ℕ → Bool
later field_kinds g none = g
later field_kinds g (some f) = rises field_kinds f

-- a walk with a mark for each variable
record Marked (w : Walked) : Type 0 where
  held_8 : length w.held ≡ 8
  grows-8 : length w.grows ≡ 8

tested-marked : (w : Walked) (next o x y : ℕ) (r : Bool) → Marked w → Marked (tested w next o x y r)
unfolding tested
tested-marked w next o x y r m = record { held_8 = m.held_8; grows-8 = m.grows-8 }

bound-marked : (w : Walked) (next v x : ℕ) (r b : Bool) → get_or w.held v false ≡ b → Marked w → Marked (bound w next v x r)
unfolding bound holding
bound-marked w next v x r true e m = rw e (record { held_8 = m.held_8; grows-8 = m.grows-8 })
bound-marked w next v x r false e m = rw e (record { held_8 = length-set w.held v true ∙ m.held_8; grows-8 = length-set w.grows v r ∙ m.grows-8 })

module _ (f : List ℕ) (field_kinds : List Kind) (rising : List Bool) (prior : List ℕ) (event : Values)
    (mark : (g : ℕ) → (get_or rising g false && present event g) ≡ rises field_kinds g) (v : ℕ) (small : v < 8) where
  -- a field is marked as rising, and is there
  abbrev rises_there : ℕ → Bool
  rises_there g = get_or rising g false && present event g

  abbrev Grown : List Clause → Walked → Type 0
  Grown ks w =
      get_or (walk_of f prior rising event w ks).grows v false ≡ cond (get_or w.held v false) (get_or w.grows v false)
      (later field_kinds (get_or w.grows v false) (first_bind ks v))

  cond_same : (b g : Bool) → g ≡ cond b g g
  cond_same true g = refl
  cond_same false g = refl

  tested-grown : (ks : List Clause) (w : Walked) (next o x y : ℕ) (r : Bool) → Grown ks (tested w next o x y r)
      → get_or (walk_of f prior rising event (tested w next o x y r) ks).grows v false
      ≡ cond (get_or w.held v false) (get_or w.grows v false) (later field_kinds (get_or w.grows v false) (first_bind ks v))
  unfolding tested
  tested-grown ks w next o x y r e = e

  -- what a BIND of u does to v's marks
  bound-marks : (ks : List Clause) (w : Walked) (next g u x : ℕ) → Marked w → (b : Bool) → get_or w.held u false ≡ b → (t : Bool) → eqb u v ≡ t
      → cond (get_or (bound w next u x (rises_there g)).held v false)
      (get_or (bound w next u x (rises_there g)).grows v false)
      (later field_kinds (get_or (bound w next u x (rises_there g)).grows v false) (first_bind ks v))
      ≡ cond (get_or w.held v false) (get_or w.grows v false) (later field_kinds (get_or w.grows v false) (cond (eqb u v) (some g) (first_bind ks v)))
  unfolding bound holding
  bound-marks ks w next g u x m true e true q =
      let p : u ≡ v = eqb-true u v q in
      let h : get_or w.held v false ≡ true = ap (λ i. get_or w.held i false) (sym p) ∙ e in
      rw (e, q, h)
  bound-marks ks w next g u x m true e false q = rw (e, q)
  bound-marks ks w next g u x m false e true q =
      let p : u ≡ v = eqb-true u v q in
      let h : get_or w.held v false ≡ false = ap (λ i. get_or w.held i false) (sym p) ∙ e in
      let a : get_or (set w.held v true) v false ≡ true = get_or-set_same w.held v true false (omega (arith, m.held_8)) in
      let d : get_or (set w.grows v (rises_there g)) v false ≡ rises_there g =
      get_or-set_same w.grows v (rises_there g) false (omega (arith, m.grows-8)) in
      rw (e, q, p, h, a, d) (mark g)
  bound-marks ks w next g u x m false e false q =
      let ne : v ≡ u → ⊥ = λ r. eqb-false u v q (sym r) in
      let a : get_or (set w.held u true) v false ≡ get_or w.held v false = get_or-set_other w.held u v true false ne in
      let d : get_or (set w.grows u (rises_there g)) v false ≡ get_or w.grows v false = get_or-set_other w.grows u v (rises_there g) false ne in
      rw (e, q, a, d)

  noted-grown : (ks : List Clause) (w : Walked) (next : ℕ) → Marked w → (Marked (noted w next) → Grown ks (noted w next))
      → get_or (walk_of f prior rising event (noted w next) ks).grows v false
      ≡ cond (get_or w.held v false) (get_or w.grows v false) (later field_kinds (get_or w.grows v false) (first_bind ks v))
  unfolding noted
  noted-grown ks w next m g = g (record { held_8 = m.held_8; grows-8 = m.grows-8 })

  met-marked : (w : Walked) (p : Bool) → Marked w → Marked (met w p)
  unfolding met
  met-marked w p m = record { held_8 = m.held_8; grows-8 = m.grows-8 }

  grown : (ks : List Clause) (w : Walked) → Marked w → Grown ks w
  unfolding met
  grown [] w m = cond_same (get_or w.held v false) (get_or w.grows v false)
  grown (TEST g o y ∷ ks) w m =
      let u = met w (present event g) in
      tested-grown ks u (w.at + 7) (operator_byte o) (field event g) y (rises_there g) (grown ks _ (tested-marked u _ _ _ _ _ (met-marked w _ m)))
  grown (TESTV g o u ∷ ks) w m =
      let z = met w (present event g) in
      tested-grown ks z (w.at + 4) (operator_byte o) (field event g) (get_or prior u 0) (rises_there g)
      (grown ks _ (tested-marked z _ _ _ _ _ (met-marked w _ m)))
  grown (BIND g u ∷ ks) w m =
      let z = met w (present event g) in
      grown ks (bound z (w.at + 3) u (field event g) (rises_there g)) (bound-marked z _ _ _ _ (get_or w.held u false) refl (met-marked w _ m))
      ∙ bound-marks ks z (w.at + 3) g u (field event g) (met-marked w _ m) (get_or w.held u false) refl (eqb u v) refl
  grown (GATHER g u ∷ ks) w m =
      let z = met w (present event g) in
      noted-grown ks z (w.at + 3) (met-marked w _ m) (grown ks (noted z (w.at + 3)))

held_first : (field_kinds : List Kind) (b : Bool) (o : Option ℕ) → cond b b (later field_kinds b o) ≡ (b || field_rises field_kinds o)
held_first field_kinds true o = refl
held_first field_kinds false none = refl
held_first field_kinds false (some f) = refl

module _ (fields : ℕ) (f : List ℕ) (at : ℕ) (s : Step) (h : StepAt fields f at s) (field_kinds : List Kind) (rising : List Bool)
    (mark : (g : ℕ) → get_or rising g false ≡ rises field_kinds g) (ls : List (List ℕ)) (c : Configuration) (r : Ready c) (fresh : List Bool) (event : Values)
    (k : Carries fields ls c event fresh) where
  -- the fields that rise and are there
  abbrev kinds : List Kind
  kinds = kinds_in field_kinds event

  mark-in : (g : ℕ) → (get_or rising g false && present event g) ≡ rises kinds g
  mark-in g = ap (λ b. b && present event g) (mark g) ∙ sym (rises-in field_kinds event g)

  -- the variables that the walk marks as growing are those that the definition calls rising
  walk-grows : (v : ℕ) → v < 8
      → get_or (walked f at c rising event).grows v false ≡ (is_held (config_of ls c) v || field_rises kinds (first_bind s.clauses v))
  unfolding begun
  walk-grows v small =
      ap (λ (w : Walked). get_or w.grows v false) (walked-encode fields f at s h c rising event)
      ∙ grown f kinds rising c.values event mark-in v small s.clauses (begun at c) (record { held_8 = r.held_8; grows-8 = r.held_8 })
      ∙ held_first kinds (get_or c.held v false) (first_bind s.clauses v)

  -- and so for the lists
  lists-judged : (v : ℕ) → v < 4
      → (get_or (gained f at c.tallies fresh rising event).rising v false ≡ gathers_rising kinds s.clauses v)
      × (get_or (gained f at c.tallies fresh rising event).unchanged v false ≡ not (gathers s.clauses v))
  unfolding kept
  lists-judged v small =
      let j = judged f kinds fresh rising event mark-in v small s.clauses (kept c.tallies) refl refl in
      let t = get_or-replicate 4 v true false small in
      rw (gained-encode fields f at s h c.tallies fresh rising event) (
        j.all-rise ∙ ap (λ b. b && gathers_rising kinds s.clauses v) t,
        j.none_in ∙ ap (λ b. b && not (gathers s.clauses v)) t,
      )

  -- the guard behind the walk is falling exactly where the step's guard is, with fields that never arrived counted as plain
  falls-encode : (g : Option Expr) (p : ℕ) → drop p f ≡ guard_bytes g ++ h.after → All (Exists fields) (guard_commands g) → GuardFits g
      → falls_behind f p c.held (walked f at c rising event).grows (gained f at c.tallies fresh rising event)
      ≡ guard_falls kinds (config_of ls c) s.clauses g
  unfolding falls_at guard_commands
  falls-encode none p e x y =
      let b : get_or f p 0 ≡ get_or h.after 0 0 = first_byte f h.after p e in
      rw (b, ne_eqb (get_or h.after 0 0) 0x15 (λ q. omega (arith, h.ends)))
  falls-encode (some g) p e x y =
      let b : get_or f p 0 ≡ 0x15 = first_byte f _ p e in
      let d : drop (p + 1) f ≡ encode_expr g ++ h.after = drop_more f (0x15 ∷ []) (encode_expr g ++ h.after) p e in
      let w = walked f at c rising event in
      let l = gained f at c.tallies fresh rising event in
      let ks = s.clauses in
      let same : (v : ℕ) → v < 4 → get_or l.unchanged v false ≡ not (gathers ks v) = λ v i. (lists-judged v i).1 in
      let up = marked-rises kinds (config_of ls c) ks (growing w.grows l) same walk-grows (λ v i. (lists-judged v i).0) in
      let down = marked-falls kinds (config_of ls c) ks (falling c.held l) same refl same in
      let j =
      judge-encode kinds (config_of ls c) ks LeafExists (leaf_marked (growing w.grows l)) (leaf_marked (falling c.held l)) up down g 8 x.0
      y.1 in
      rw (b, d, j.is-falling h.after)

  -- A step's bytes are expired exactly where the step is.
  pub expired-encode : lapsed f at c fresh rising event ≡ expired field_kinds (config_of ls c) s event
  unfolding lapsed expired leave begun
  expired-encode =
      let a = walked-along fields f at s h field_kinds rising mark ls c event in
      let g = guard-left fields f at s h ls c fresh rising event r k a.agrees in
      let x = guard-exists fields s.clauses s.guard (parts-exist fields f at s h) in
      let p = falls-encode s.guard (walked f at c rising event).at (walked-ends fields f at s h c rising event) x h.fits.guard in
      let i = lt-leb (length f) at (inside fields f at s h) in
      let q = falls-in field_kinds event (config_of ls c) s.clauses s.guard in
      rw (
        i,
        a.overdue,
        p,
        g,
        q,
        and_assoc (guard_falls field_kinds (config_of ls c) s.clauses s.guard) (guard_known (config_of ls c) s.clauses event s.guard)
            (not (guard_holds (leave (config_of ls c) s event) s.guard)),
      )
