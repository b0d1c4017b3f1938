-- What an event says of a step, alone or with the values held before it: a clause that fails keeps the walk from passing, and one past due stays
-- past due, whatever follows.
use Prim.Native.Nat.{ℕ, zero, suc, ◌+◌, ◌≤◌}
use mathlib.Core.Path.{◌≡◌, refl, ap, sym, ◌∙◌}
use mathlib.Core.Bool.{Bool, true, false, cond, not, ◌&&◌, ◌||◌, true≢false}
use mathlib.Core.List.{List}
use native.Mathlib.Omega.{arith}
use borrow.Author.Tests.{eqb-true, eqb-false, ltb-true, ltb-false, not-true}
use lib.ListN.{length, get_or, replicate}
use lib.Seq.{get_or-set_other}
use lib.Dec.{eqb, ltb, leb}
use Rattle.base.specs.Value.{value_at}
use Rattle.event_log.specs.Log.{Values, present, field}
use Rattle.machine_code.specs.declared.Configuration.{Configuration}
use Rattle.machine_code.specs.declared.Walked.{Walked}
use Rattle.machine_code.specs.inner.Bytes.{holds_by, is_clause, width_of, tested, holding, bound, noted, met, clause_on, clause_at, walk_from, begun}
use Rattle.machine_code.specs.inner.Bytes.{walked, Firing, fired, lapsed}
use Rattle.base.proofs.Tests.{and-false, or_right}
use Rattle.runs.proofs.Moves.{and_both}
use Rattle.machine_code.specs.inner.Marks.{fails_at, misses_at, denies_at, Reaches, begins, onward}
use Rattle.machine_code.specs.inner.Walking.{Walking}
use Rattle.machine_code.proofs.ClausesOnBytes.{either, clause-gather, clause-in, clause-low, clause-high, walking_start, walking-more}

and-fails : (a b : Bool) → a ≡ false → (a && b) ≡ false
and-fails a b h = rw h

-- a walk that does not pass, and one that is past due
abbrev Failed : Walked → Type 0
Failed w = w.passes ≡ false

abbrev Late : Walked → Type 0
Late w = w.due ≡ true

-- each goes on so
met-fails : (w : Walked) (p : Bool) → Failed w → Failed (met w p)
unfolding met
met-fails w p h = rw h

met-due : (w : Walked) (p : Bool) → Late w → Late (met w p)
unfolding met
met-due w p h = h

test-fails : (w : Walked) (next o x y : ℕ) (r : Bool) → Failed w → Failed (tested w next o x y r)
unfolding tested
test-fails w next o x y r h = rw h

note-fails : (w : Walked) (next : ℕ) → Failed w → Failed (noted w next)
unfolding noted
note-fails w next h = h

bind-fails : (w : Walked) (next v x : ℕ) (r : Bool) → Failed w → Failed (bound w next v x r)
unfolding bound
bind-fails w next v x r h = rw h

test-due : (w : Walked) (next o x y : ℕ) (r : Bool) → Late w → Late (tested w next o x y r)
unfolding tested
test-due w next o x y r h = rw h

note-due : (w : Walked) (next : ℕ) → Late w → Late (noted w next)
unfolding noted
note-due w next h = h

bind-due : (w : Walked) (next v x : ℕ) (r : Bool) → Late w → Late (bound w next v x r)
unfolding bound holding
bind-due w next v x r h = either Late (get_or w.held v false) w _ h h

-- what a test, a note and a binding keep, every clause keeps
module _ (P : Walked → Type 0) (met-keeps : (w : Walked) (p : Bool) → P w → P (met w p))
    (test-keeps : (w : Walked) (next o x y : ℕ) (r : Bool) → P w → P (tested w next o x y r))
    (note-keeps : (w : Walked) (next : ℕ) → P w → P (noted w next))
    (bind-keeps : (w : Walked) (next v x : ℕ) (r : Bool) → P w → P (bound w next v x r)) (f prior : List ℕ) where
  on-keeps : (w : Walked) (x : ℕ) (r : Bool) → P w → P (clause_on f prior w x r)
  unfolding clause_on
  on-keeps w x r h =
      let c = get_or f w.at 0 in
      either P (eqb c 0x12) _ _ (test-keeps w _ _ _ _ _ h)
      (either P (eqb c 0x13) _ _ (test-keeps w _ _ _ _ _ h) (either P (eqb c 0x17) _ _ (note-keeps w _ h) (bind-keeps w _ _ _ _ h)))

  pub clause-keeps : (rises : List Bool) (event : Values) (w : Walked) → P w → P (clause_at f prior rises event w)
  unfolding clause_at
  clause-keeps rises event w h = on-keeps _ _ _ (met-keeps w _ h)

module _ (f prior : List ℕ) (rises : List Bool) (event : Values) where
  pub walk-keeps : (P : Walked → Type 0) → ((w : Walked) → P w → P (clause_at f prior rises event w))
      → (n : ℕ) (w : Walked) → P w → P (walk_from n f prior rises event w)
  unfolding walk_from
  walk-keeps P k zero w h = h
  walk-keeps P k (suc n) w h = either P (is_clause (get_or f w.at 0)) _ w (walk-keeps P k n (clause_at f prior rises event w) (k w h)) h

  pub walk-fails : (n : ℕ) (w : Walked) → w.passes ≡ false → (walk_from n f prior rises event w).passes ≡ false
  walk-fails = walk-keeps Failed (clause-keeps Failed met-fails test-fails note-fails bind-fails f prior rises event)

  walk-due : (n : ℕ) (w : Walked) → w.due ≡ true → (walk_from n f prior rises event w).due ≡ true
  walk-due = walk-keeps Late (clause-keeps Late met-due test-due note-due bind-due f prior rises event)

-- a walk that stops on its way, for what it tells there
module _ (f : List ℕ) (at : ℕ) (c : Configuration) (rises : List Bool) (event : Values) (Q : Walked → Type 0)
    (h : (w : Walked) × Walking f c.values rises event (begun at c) w × Q w) where
  stopped : (P : Walked → Type 0) → ((w : Walked) → P w → P (clause_at f c.values rises event w)) → ((w : Walked) → Q w → P w) → P (walked f at c rises event)
  unfolding walked
  stopped P keeps says = rw h.1.ahead (walk-keeps f c.values rises event P keeps h.1.left h.0 (says h.0 h.2))

  pub stopped-fails : ((w : Walked) → Q w → w.passes ≡ false) → (walked f at c rises event).passes ≡ false
  stopped-fails = stopped Failed (clause-keeps Failed met-fails test-fails note-fails bind-fails f c.values rises event)

  pub stopped-due : ((w : Walked) → Q w → w.due ≡ true) → (walked f at c rises event).due ≡ true
  stopped-due = stopped Late (clause-keeps Late met-due test-due note-due bind-due f c.values rises event)

-- a clause's command, and where the walk stands behind it
pub width-clause : (c : ℕ) → (width_of c ≡ 0 → ⊥) → is_clause c ≡ true
unfolding width_of
width-clause c n = go (eqb c 0x12) (eqb c 0x13) (eqb c 0x17) (eqb c 0x14) refl refl refl refl
  where
    inside : 0x12 ≤ c → c ≤ 0x14 → is_clause c ≡ true
    inside h k = sym (clause-in c h (omega arith))

    go : (s t g u : Bool) → eqb c 0x12 ≡ s → eqb c 0x13 ≡ t → eqb c 0x17 ≡ g → eqb c 0x14 ≡ u → is_clause c ≡ true
    go true t g u p q h k = let e : c ≡ 0x12 = eqb-true c 0x12 p in inside (omega arith) (omega arith)
    go false true g u p q h k = let e : c ≡ 0x13 = eqb-true c 0x13 q in inside (omega arith) (omega arith)
    go false false true u p q h k = sym (clause-gather c (eqb-true c 0x17 h))
    go false false false true p q h k = let e : c ≡ 0x14 = eqb-true c 0x14 k in inside (omega arith) (omega arith)
    go false false false false p q h k = absurd (n (rw (p, q, h, k)))

-- a clause takes at least 3 bytes
pub clause-width : (c : ℕ) → is_clause c ≡ true → 3 ≤ width_of c
unfolding width_of
clause-width c h = go (eqb c 0x12) (eqb c 0x13) (eqb c 0x17) (eqb c 0x14) refl refl refl refl
  where
    none : (eqb c 0x12 ≡ false) → (eqb c 0x13 ≡ false) → (eqb c 0x17 ≡ false) → (eqb c 0x14 ≡ false) → (b : Bool) → ltb c 0x12 ≡ b → false ≡ is_clause c
    none p q r k true e = clause-low c (ltb-true c 0x12 e)
    none p q r k false e =
        let n = eqb-false c 0x12 p in
        let m = eqb-false c 0x13 q in
        let l = eqb-false c 0x14 k in
        clause-high c (eqb-false c 0x17 r) (omega (arith, ltb-false c 0x12 e))

    go : (s t g u : Bool) → eqb c 0x12 ≡ s → eqb c 0x13 ≡ t → eqb c 0x17 ≡ g → eqb c 0x14 ≡ u → 3 ≤ cond s 7 (cond t 4 (cond g 3 (cond u 3 0)))
    go true t g u p q r k = omega arith
    go false true g u p q r k = omega arith
    go false false true u p q r k = omega arith
    go false false false true p q r k = omega arith
    go false false false false p q r k = absurd (true≢false (sym h ∙ sym (none p q r k (ltb c 0x12) refl)))

-- a clause takes 7 bytes at most
pub width-most : (c taken : ℕ) → taken ≡ width_of c → taken ≤ 7
unfolding width_of
width-most c taken e = go (eqb c 0x12) (eqb c 0x13) (eqb c 0x17) (eqb c 0x14) e
  where
    go : (s t g u : Bool) → taken ≡ cond s 7 (cond t 4 (cond g 3 (cond u 3 0))) → taken ≤ 7
    go true t g u e = omega arith
    go false true g u e = omega arith
    go false false true u e = omega arith
    go false false false true e = omega arith
    go false false false false e = omega arith

pub clause-place : (f prior : List ℕ) (rises : List Bool) (event : Values) (w : Walked) → (width_of (get_or f w.at 0) ≡ 0 → ⊥)
    → (clause_at f prior rises event w).at ≡ w.at + width_of (get_or f w.at 0)
unfolding clause_at clause_on met tested bound noted width_of
clause-place f prior rises event w n =
    let c = get_or f w.at 0 in
    go (eqb c 0x12) (eqb c 0x13) (eqb c 0x17) (eqb c 0x14) _ _ _ _ refl refl refl refl n
  where
    go : (s t g u : Bool) (a b d e : Walked) → a.at ≡ w.at + 7 → b.at ≡ w.at + 4 → d.at ≡ w.at + 3 → e.at ≡ w.at + 3
        → (◌≡◌ {A = ℕ} (cond s 7 (cond t 4 (cond g 3 (cond u 3 0)))) 0 → ⊥)
        → (cond s a (cond t b (cond g d e))).at ≡ w.at + cond s 7 (cond t 4 (cond g 3 (cond u 3 0)))
    go true t g u a b d e p q h k n = p
    go false true g u a b d e p q h k n = q
    go false false true u a b d e p q h k n = h
    go false false false true a b d e p q h k n = k
    go false false false false a b d e p q h k n = absurd (n refl)

unmet : (w : Walked) (p : Bool) → p ≡ false → Failed (met w p)
unfolding met
unmet w p h = rw h (and-false w.passes false refl)

-- a clause of an absent field, a TEST that is false on the event, and one past due, whatever is held
module _ (f prior : List ℕ) (rises : List Bool) (event : Values) (w : Walked) where
  absent-here : present event (get_or f (w.at + 1) 0) ≡ false → (clause_at f prior rises event w).passes ≡ false
  unfolding clause_at
  absent-here h =
      on-keeps Failed met-fails test-fails note-fails bind-fails f prior (met w (present event (get_or f (w.at + 1) 0))) _ _
      (unmet w (present event (get_or f (w.at + 1) 0)) h)

  false-here : (eqb (get_or f w.at 0) 0x12 && not (holds_by (get_or f (w.at + 2) 0) (field event (get_or f (w.at + 1) 0)) (value_at f (w.at + 3)))) ≡ true
      → (clause_at f prior rises event w).passes ≡ false
  unfolding clause_at clause_on met tested
  false-here h =
      let p = and_both (eqb (get_or f w.at 0) 0x12) _ h in
      let q = not-true _ p.1 in
      rw p.0 (and-false (w.passes && present event (get_or f (w.at + 1) 0)) _ q)

  fails-here : fails_at f (get_or f w.at 0) w.at event ≡ true → (clause_at f prior rises event w).passes ≡ false
  unfolding fails_at
  fails-here h = go (present event (get_or f (w.at + 1) 0)) refl h
    where
      go : (b : Bool) → present event (get_or f (w.at + 1) 0) ≡ b
          → (not b || (eqb (get_or f w.at 0) 0x12 && not (holds_by (get_or f (w.at + 2) 0) (field event (get_or f (w.at + 1) 0)) (value_at f (w.at + 3))))) ≡ true
          → (clause_at f prior rises event w).passes ≡ false
      go false e k = absent-here e
      go true e k = false-here k

  misses-here : misses_at f (get_or f w.at 0) w.at rises event ≡ true → (clause_at f prior rises event w).due ≡ true
  unfolding clause_at clause_on met tested misses_at
  misses-here h =
      let p = and_both (eqb (get_or f w.at 0) 0x12) _ h in
      rw p.0 (or_right w.due _ p.1)

-- what a configuration holds, the walk holds on, with its value
abbrev pub Keeps : Configuration → Walked → Type 0
Keeps c w = (v : ℕ) → get_or c.held v false ≡ true → (get_or w.held v false ≡ true) × (get_or w.values v 0 ≡ get_or c.values v 0)

met-held : (c : Configuration) (w : Walked) (p : Bool) → Keeps c w → Keeps c (met w p)
unfolding met
met-held c w p h = h

test-held : (c : Configuration) (w : Walked) (next o x y : ℕ) (r : Bool) → Keeps c w → Keeps c (tested w next o x y r)
unfolding tested
test-held c w next o x y r h = h

note-held : (c : Configuration) (w : Walked) (next : ℕ) → Keeps c w → Keeps c (noted w next)
unfolding noted
note-held c w next h = h

bind_held : (c : Configuration) (w : Walked) (next v x : ℕ) (r b : Bool) → get_or w.held v false ≡ b → Keeps c w → Keeps c (bound w next v x r)
unfolding bound holding
bind_held c w next v x r true e h u k = rw e (h u k)
bind_held c w next v x r false e h u k =
    let p = h u k in
    let ne : u ≡ v → ⊥ = λ q. true≢false (sym p.0 ∙ ap (λ i. get_or w.held i false) q ∙ e) in
    rw (e, get_or-set_other w.held v u true false ne, get_or-set_other w.values v u x 0 ne) p

clause-held : (c : Configuration) (f : List ℕ) (rises : List Bool) (event : Values) (w : Walked) → Keeps c w → Keeps c (clause_at f c.values rises event w)
clause-held c f =
    clause-keeps (Keeps c) (met-held c) (test-held c) (note-held c) (λ w next v x r. bind_held c w next v x r (get_or w.held v false) refl) f c.values

-- a TESTV that is false, and a BIND of a variable held before the step to another value
denies-here : (c : Configuration) (f : List ℕ) (rises : List Bool) (event : Values) (w : Walked) → Keeps c w
    → denies_at f (get_or f w.at 0) w.at c.held c.values event ≡ true → (clause_at f c.values rises event w).passes ≡ false
unfolding clause_at clause_on met tested bound holding denies_at
denies-here c f rises event w k h = go (eqb (get_or f w.at 0) 0x13) refl h
  where
    go : (b : Bool) → eqb (get_or f w.at 0) 0x13 ≡ b
        → cond b (not (holds_by (get_or f (w.at + 2) 0) (field event (get_or f (w.at + 1) 0)) (get_or c.values (get_or f (w.at + 3) 0) 0)))
        (eqb (get_or f w.at 0) 0x14 && (get_or c.held (get_or f (w.at + 2) 0) false && not (eqb (field event (get_or f (w.at + 1) 0)) (get_or c.values (get_or f (w.at + 2) 0) 0))))
        ≡ true
        → (clause_at f c.values rises event w).passes ≡ false
    go true e q = rw (eqb-true (get_or f w.at 0) 0x13 e) (and-false (w.passes && present event (get_or f (w.at + 1) 0)) _ (not-true _ q))
    go false e q =
        let p = and_both (eqb (get_or f w.at 0) 0x14) _ q in
        let v = get_or f (w.at + 2) 0 in
        let o = and_both (get_or c.held v false) _ p.1 in
        let t = k v o.0 in
        rw (eqb-true (get_or f w.at 0) 0x14 p.0, t.0, t.1) (and-false (w.passes && present event (get_or f (w.at + 1) 0)) _ (not-true _ o.1))

-- the walk of a configuration at a place, with P
pub record Standing (P : Walked → Type 0) (f : List ℕ) (event : Values) (at place : ℕ) (c : Configuration) (rises : List Bool) : Type 0 where
  pub w : Walked
  pub walking : Walking f c.values rises event (begun at c) w
  pub stands : w.at ≡ place
  pub so : P w

module _ (P : Walked → Type 0) (f : List ℕ) (event : Values) (at : ℕ) (c : Configuration) (rises : List Bool) where
  pub stand-start : P (begun at c) → Standing P f event at (at + 2) c rises
  unfolding begun
  stand-start h = record { w = begun at c; walking = walking_start f c.values rises event (begun at c); stands = refl; so = h }

  -- over the clause there
  module _ (place : ℕ) (n : width_of (get_or f place 0) ≡ 0 → ⊥) (s : Standing P f event at place c rises) where
    wide-here : width_of (get_or f s.w.at 0) ≡ 0 → ⊥
    wide-here = rw s.stands n

    over : Walking f c.values rises event (begun at c) (clause_at f c.values rises event s.w)
    over = walking-more f c.values rises event (begun at c) s.w _ s.walking (width-clause (get_or f s.w.at 0) wide-here) refl

    pub stand-on : P (clause_at f c.values rises event s.w) → Standing P f event at (place + width_of (get_or f place 0)) c rises
    stand-on h = record {
      w = clause_at f c.values rises event s.w;
      walking = over;
      stands = clause-place f c.values rises event s.w wide-here ∙ ap (λ i. i + width_of (get_or f i 0)) s.stands;
      so = h;
    }

-- whatever the configuration
abbrev pub Reached : List ℕ → Values → ℕ → ℕ → Type 0
Reached f event at place = (c : Configuration) (rises : List Bool) → Standing (Keeps c) f event at place c rises

-- a place that is reached is reached by the walk of every configuration, over any values
pub reached : (f : List ℕ) (at place : ℕ) → Reaches f at place → (event : Values) → Reached f event at place
unfolding begun
reached f at _ begins event c rises = stand-start (Keeps c) f event at c rises (λ v h. (h, refl))
reached f at _ (onward place r n) event c rises =
    let s = reached f at place r event c rises in
    stand-on (Keeps c) f event at c rises place n s (clause-held c f rises event s.w s.so)

module _ (f : List ℕ) (event : Values) (at : ℕ) where
  -- a walk that does not pass behind a clause: the step does not fire
  silenced : (place : ℕ) → (width_of (get_or f place 0) ≡ 0 → ⊥) → (c : Configuration) (s : Standing (Keeps c) f event at place c (replicate 8 false))
      → (clause_at f c.values (replicate 8 false) event s.w).passes ≡ false → (fresh : List Bool) → (fired f at c fresh event).fires ≡ false
  unfolding fired walked
  silenced place n c s k fresh =
      let q = over (Keeps c) f event at c (replicate 8 false) place n s in
      let p : (walk_from (suc (length f)) f c.values (replicate 8 false) event (begun at c)).passes ≡ false
      = ap (λ (v : Walked). v.passes) q.ahead ∙ walk-fails f c.values (replicate 8 false) event q.left _ k in
      go (leb (length f) at) _ _ refl (and-fails _ _ p)
    where
      go : (t : Bool) (a d : Firing) → a.fires ≡ false → d.fires ≡ false → (cond t a d).fires ≡ false
      go true a d h k = h
      go false a d h k = k

  module _ (place : ℕ) (n : width_of (get_or f place 0) ≡ 0 → ⊥) (r : Reached f event at place) where
    -- an absent field, or a TEST that is false: no walk passes, so the step does not fire
    pub silent-here : fails_at f (get_or f place 0) place event ≡ true → (fresh : List Bool) (c : Configuration) → (fired f at c fresh event).fires ≡ false
    silent-here k fresh c =
        let s = r c (replicate 8 false) in
        let a : fails_at f (get_or f s.w.at 0) s.w.at event ≡ true = rw s.stands k in
        silenced place n c s (fails-here f c.values (replicate 8 false) event s.w a) fresh

    -- a TESTV that is false, or a BIND of a held variable to another value: no walk of a configuration that holds it passes
    pub denied-here : (held : List Bool) (prior : List ℕ) → denies_at f (get_or f place 0) place held prior event ≡ true → (fresh : List Bool) (c : Configuration)
        → c.held ≡ held → c.values ≡ prior → (fired f at c fresh event).fires ≡ false
    denied-here held prior k fresh c e₃ e₄ =
        let s = r c (replicate 8 false) in
        let a : denies_at f (get_or f s.w.at 0) s.w.at c.held c.values event ≡ true = rw (s.stands, e₃, e₄) k in
        silenced place n c s (denies-here c f (replicate 8 false) event s.w s.so a) fresh

    -- a TEST past due: whatever is held, the step is expired
    pub late-here : (rises : List Bool) → misses_at f (get_or f place 0) place rises event ≡ true → (fresh : List Bool) (c : Configuration)
        → lapsed f at c fresh rises event ≡ true
    unfolding lapsed walked
    late-here rises k fresh c =
        let s = r c rises in
        let a : misses_at f (get_or f s.w.at 0) s.w.at rises event ≡ true = rw s.stands k in
        let q = over (Keeps c) f event at c rises place n s in
        let d : (walk_from (suc (length f)) f c.values rises event (begun at c)).due ≡ true
        = ap (λ (v : Walked). v.due) q.ahead
        ∙ walk-due f c.values rises event q.left _ (misses-here f c.values rises event s.w a) in
        go (leb (length f) at) _ _ d
      where
        go : (t : Bool) (u v : Bool) → u ≡ true → cond t true (u || v) ≡ true
        go true u v h = refl
        go false u v h = rw h
