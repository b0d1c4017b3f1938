-- The steps that the walk keeps are those of the formula, and the states reached over them are the definition's.
use Rattle.std.proofs.Common.{◌≡◌, ℕ, zero, suc, ◌+◌, ◌-◌, ◌*◌, ◌<◌, ◌≤◌, Bool, true, false, ◌||◌, List, [], ◌∷◌, ◌++◌, map, length, get_or, take, replicate, fold, refl, sym, ap, subst, ◌∙◌, arith, append_assoc, add-one}
use mathlib.Core.Bool.{or-false, or_assoc}
use mathlib.Core.List.{flat_map, append-nil}
use mathlib.Core.Option.{Option, none, some}
use lib.Dec.{eqb}
use lib.Seq.{append_snoc}
use Rattle.std.specs.List.{AllZip}
use Rattle.std.proofs.Math.ListN.{length-append, length-set, length-map, get_or-replicate}
use Rattle.std.proofs.lemmas.List.{take_more, take-set, get_or-set_same}
use Rattle.base.specs.Lists.{All}
use Rattle.closure.specs.declared.Edge.{Edge as Kept}
use Rattle.closure.specs.inner.Reach as Reach
use Rattle.formula_code.specs.declared.draft.Draft.{Draft}
use Rattle.formula.specs.Formula.{Expr, Clause, TEST, TESTV, BIND, GATHER, Step, State, Formula}
use Rattle.formula.specs.Encode.{Command, TIED, STATE, STEP, CLAUSE, guard_commands, step_commands, state_commands, commands}
use Rattle.formula.specs.Correct.{StateFits, WellFormed}
use Rattle.formula.specs.Unbound.{binds, Edge, edges_from, mark, round, rounds, unbound}
use Rattle.formula_code.specs.inner.Scan.{empty_draft, new_edge, bind_in}
use Rattle.formula_code.proofs.Outline.{set-mark}
use Rattle.formula_code.proofs.SameCommands.{add_c, draft_after}

-- one clause more
pub binds-snoc : (v : ℕ) (xs : List Clause) (c : Clause) → binds v (xs ++ (c ∷ [])) ≡ (binds v xs || binds v (c ∷ []))
unfolding binds
binds-snoc v [] c = refl
binds-snoc v (TEST f o x ∷ xs) c = binds-snoc v xs c
binds-snoc v (TESTV f o w ∷ xs) c = binds-snoc v xs c
binds-snoc v (GATHER f w ∷ xs) c = binds-snoc v xs c
binds-snoc v (BIND f w ∷ xs) c = ap (λ b. eqb w v || b) (binds-snoc v xs c) ∙ sym (or_assoc (eqb w v) (binds v xs) (binds v (c ∷ [])))

-- a step kept is a step of the formula
pub record Same (k : Kept) (e : Edge) : Type 0 where
  pub from : k.from ≡ e.from
  pub to : k.to ≡ e.step.target
  pub size : length k.binds ≡ 8
  pub binds : (v : ℕ) → v < 8 → get_or k.binds v false ≡ binds v e.step.clauses

-- the steps of a draft
abbrev pub kept : Draft → List Kept
kept d = take d.count d.edges

same-push : (ks : List Kept) (es : List Edge) (k : Kept) (e : Edge) → AllZip Same ks es → Same k e → AllZip Same (ks ++ (k ∷ [])) (es ++ (e ∷ []))
same-push [] [] k e h s = (s, tt)
same-push [] (x ∷ es) k e h s = absurd h
same-push (x ∷ ks) [] k e h s = absurd h
same-push (x ∷ ks) (y ∷ es) k e h s = (h.0, same-push ks es k e h.1 s)

abbrev edge : ℕ → ℕ → List Clause → Option Expr → Edge
edge n t xs q = record { from = n; step = record { target = t; clauses = xs; guard = q } }

abbrev in-state : ℕ → Step → Edge
in-state n t = record { from = n; step = t }

size-snoc : (es : List Edge) (e : Edge) → length (es ++ (e ∷ [])) ≡ length es + 1
size-snoc es e = length-append es (e ∷ [])

-- a step that has bound nothing yet, and with one more clause
same-new : (n m t : ℕ) (q : Option Expr) → m ≡ n → Same (new_edge m t) (edge n t [] q)
unfolding binds
same-new n m t q e = record { from = e; to = refl; size = refl; binds = λ v l. get_or-replicate 8 v false false l }

same-plain : (k : Kept) (n t : ℕ) (xs : List Clause) (q : Option Expr) (c : Clause) → ((v : ℕ) → binds v (c ∷ []) ≡ false) → Same k (edge n t xs q)
    → Same k (edge n t (xs ++ (c ∷ [])) q)
same-plain k n t xs q c z h =
    record {
      from = h.from;
      to = h.to;
      size = h.size;
      binds = λ v l. h.binds v l ∙ sym (binds-snoc v xs c ∙ ap (λ b. binds v xs || b) (z v) ∙ or-false (binds v xs));
    }

same-bind : (k : Kept) (n t : ℕ) (xs : List Clause) (q : Option Expr) (f v : ℕ) → Same k (edge n t xs q) → Same (bind_in k v) (edge n t (xs ++ (BIND f v ∷ [])) q)
unfolding binds
same-bind k n t xs q f v h =
    record {
      from = h.from;
      to = h.to;
      size = length-set k.binds v true ∙ h.size;
      binds = λ w l.
          set-mark k.binds v w (subst (λ n. w < n) (sym h.size) l)
          ∙ ap (λ b. b || eqb v w) (h.binds w l)
          ∙ sym (binds-snoc w xs (BIND f v) ∙ ap (λ b. binds w xs || b) (or-false (eqb v w)));
    }

after-append : (d : Draft) (xs ys : List Command) → draft_after d (xs ++ ys) ≡ draft_after (draft_after d xs) ys
unfolding draft_after
after-append d [] ys = refl
after-append d (x ∷ xs) ys = after-append (add_c d x) xs ys

-- the draft keeps the steps es, in a state of the file
record Keeps (d : Draft) (es : List Edge) (states : ℕ) : Type 0 where
  rep : AllZip Same (kept d) es
  count : d.count ≡ length es
  size : length d.edges ≡ 128
  seen : d.summary.states ≡ states

-- it keeps the steps es and behind them e, whose commands are still read
record Opens (d : Draft) (es : List Edge) (e : Edge) (states : ℕ) : Type 0 where
  rep : AllZip Same (take (length es) d.edges) es
  last : Same (get_or d.edges (length es) (new_edge 0 0)) e
  few : length es < 128
  count : d.count ≡ length es + 1
  size : length d.edges ≡ 128
  seen : d.summary.states ≡ states

opened : (d : Draft) (es : List Edge) (n t : ℕ) (q : Option Expr) → length es < 128 → Keeps d es (suc n)
    → Opens (add_c d (STEP t)) es (edge n t [] q) (suc n)
opened d es n t q few h =
    let c = h.count in
    let m : d.summary.states - 1 ≡ n = (let z = h.seen in omega arith) in
    let k = new_edge (d.summary.states - 1) t in
    record {
      rep = rw (← h.count, take-set d.edges d.count k) h.rep;
      last = rw (← h.count, get_or-set_same d.edges d.count k (new_edge 0 0) (let z = h.size in omega arith)) (same-new n (d.summary.states - 1) t q m);
      few = few;
      count = ap (λ j. j + 1) h.count;
      size = length-set d.edges d.count k ∙ h.size;
      seen = h.seen;
    }

closed : (d : Draft) (es : List Edge) (e : Edge) (s : ℕ) → Opens d es e s → Keeps d (es ++ (e ∷ [])) s
closed d es e s h =
    record {
      rep = rw (h.count, take_more d.edges (length es) (new_edge 0 0) (let z = h.size in let few = h.few in omega arith))
          (same-push (take (length es) d.edges) es (get_or d.edges (length es) (new_edge 0 0)) e h.rep h.last);
      count = h.count ∙ sym (size-snoc es e);
      size = h.size;
      seen = h.seen;
    }

plain : (d : Draft) (es : List Edge) (s n t : ℕ) (xs : List Clause) (q : Option Expr) (c : Clause) → ((v : ℕ) → binds v (c ∷ []) ≡ false)
    → Opens d es (edge n t xs q) s → Opens d es (edge n t (xs ++ (c ∷ [])) q) s
plain d es s n t xs q c z h =
    record { rep = h.rep; last = same-plain (get_or d.edges (length es) (new_edge 0 0)) n t xs q c z h.last; few = h.few; count = h.count; size = h.size; seen = h.seen }

-- the same steps, counted in the same state
moved : (d b : Draft) (es : List Edge) (e : Edge) (s : ℕ) → b.edges ≡ d.edges → b.count ≡ d.count → b.summary.states ≡ d.summary.states
    → Opens d es e s → Opens b es e s
moved d b es e s p q r h = record { rep = rw p h.rep; last = rw p h.last; few = h.few; count = q ∙ h.count; size = ap length p ∙ h.size; seen = r ∙ h.seen }

keep-clause : (d : Draft) (es : List Edge) (s n t : ℕ) (xs : List Clause) (q : Option Expr) (c : Clause)
    → Opens d es (edge n t xs q) s → Opens (add_c d (CLAUSE c)) es (edge n t (xs ++ (c ∷ [])) q) s
unfolding binds
keep-clause d es s n t xs q (TEST f o x) h =
    moved d (add_c d (CLAUSE (TEST f o x))) es _ s refl refl refl (plain d es s n t xs q (TEST f o x) (λ v. refl) h)
keep-clause d es s n t xs q (TESTV f o v) h =
    moved d (add_c d (CLAUSE (TESTV f o v))) es _ s refl refl refl (plain d es s n t xs q (TESTV f o v) (λ w. refl) h)
keep-clause d es s n t xs q (GATHER f v) h =
    moved d (add_c d (CLAUSE (GATHER f v))) es _ s refl refl refl (plain d es s n t xs q (GATHER f v) (λ w. refl) h)
keep-clause d es s n t xs q (BIND f v) h =
    let c : d.count - 1 ≡ length es = (let z = h.count in omega arith) in
    let k = bind_in (get_or d.edges (length es) (new_edge 0 0)) v in
    record {
      rep = rw (c, take-set d.edges (length es) k) h.rep;
      last = rw (c, get_or-set_same d.edges (length es) k (new_edge 0 0) (let z = h.size in let few = h.few in omega arith))
          (same-bind (get_or d.edges (length es) (new_edge 0 0)) n t xs q f v h.last);
      few = h.few;
      count = h.count;
      size = length-set d.edges (d.count - 1) _ ∙ h.size;
      seen = h.seen;
    }

keep-clauses : (d : Draft) (es : List Edge) (s n t : ℕ) (xs ys : List Clause) (q : Option Expr)
    → Opens d es (edge n t xs q) s → Opens (draft_after d (map CLAUSE ys)) es (edge n t (xs ++ ys) q) s
unfolding draft_after
keep-clauses d es s n t xs [] q h = subst (λ z. Opens d es (edge n t z q) s) (sym (append-nil xs)) h
keep-clauses d es s n t xs (c ∷ ys) q h =
    subst (λ z. Opens (draft_after (add_c d (CLAUSE c)) (map CLAUSE ys)) es (edge n t z q) s) (append_snoc xs c ys)
    (keep-clauses (add_c d (CLAUSE c)) es s n t (xs ++ (c ∷ [])) ys q (keep-clause d es s n t xs q c h))

keep-guard : (d : Draft) (es : List Edge) (e : Edge) (s : ℕ) (q : Option Expr) → Opens d es e s → Opens (draft_after d (guard_commands q)) es e s
unfolding draft_after guard_commands
keep-guard d es e s none h = h
keep-guard d es e s (some x) h = record { rep = h.rep; last = h.last; few = h.few; count = h.count; size = h.size; seen = h.seen }

-- a step with its clauses and guard is one more
keep-step : (d : Draft) (es : List Edge) (n : ℕ) (t : Step) → length es < 128 → Keeps d es (suc n)
    → Keeps (draft_after d (step_commands t)) (es ++ (in-state n t ∷ [])) (suc n)
unfolding draft_after step_commands
keep-step d es n t few h =
    let d₁ = add_c d (STEP t.target) in
    let r = keep-clauses d₁ es (suc n) n t.target [] t.clauses t.guard (opened d es n t.target t.guard few h) in
    subst (λ (x : Draft). Keeps x (es ++ (in-state n t ∷ [])) (suc n))
    (sym (after-append d₁ (map CLAUSE t.clauses) (guard_commands t.guard)))
    (closed (draft_after (draft_after d₁ (map CLAUSE t.clauses)) (guard_commands t.guard)) es (in-state n t) (suc n)
    (keep-guard (draft_after d₁ (map CLAUSE t.clauses)) es (in-state n t) (suc n) t.guard r))

keep-steps : (d : Draft) (es : List Edge) (n : ℕ) (ts : List Step) → length es + length ts ≤ 128 → Keeps d es (suc n)
    → Keeps (draft_after d (flat_map step_commands ts)) (es ++ map (in-state n) ts) (suc n)
unfolding draft_after flat_map
keep-steps d es n [] few h = subst (λ z. Keeps d z (suc n)) (sym (append-nil es)) h
keep-steps d es n (t ∷ ts) few h =
    let d₁ = draft_after d (step_commands t) in
    let e = in-state n t in
    let r = keep-steps d₁ (es ++ (e ∷ [])) n ts (let s = size-snoc es e in omega arith) (keep-step d es n t (omega arith) h) in
    subst (λ (x : Draft). Keeps x (es ++ (e ∷ map (in-state n) ts)) (suc n))
    (sym (after-append d (step_commands t) (flat_map step_commands ts)))
    (subst (λ z. Keeps (draft_after d₁ (flat_map step_commands ts)) z (suc n)) (append_snoc es e (map (in-state n) ts)) r)

-- the states from number n on
keep-states : (d : Draft) (es : List Edge) (n : ℕ) (xs : List State) → length es + 8 * length xs ≤ 128 → All StateFits xs
    → Keeps d es n → AllZip Same (kept (draft_after d (flat_map state_commands xs))) (es ++ edges_from n xs)
unfolding draft_after flat_map state_commands edges_from
keep-states d es n [] few a h = subst (AllZip Same (kept d)) (sym (append-nil es)) h.rep
keep-states d es n (x ∷ xs) few a h =
    let d₀ = add_c d (STATE x.kind) in
    let d₁ = draft_after d₀ (flat_map step_commands x.steps) in
    let ts : List Edge = map (in-state n) x.steps in
    let b = a.0.steps in
    let r₀ : Keeps d₀ es (suc n) = record { rep = h.rep; count = h.count; size = h.size; seen = add-one d.summary.states ∙ ap suc h.seen } in
    let r₁ = keep-steps d₀ es n x.steps (omega arith) r₀ in
    let l : length (es ++ ts) ≡ length es + length x.steps = length-append es ts ∙ ap (λ j. length es + j) (length-map x.steps (in-state n)) in
    let r₂ = keep-states d₁ (es ++ ts) (suc n) xs (omega arith) a.1 r₁ in
    subst (λ (y : Draft). AllZip Same (kept y) (es ++ (ts ++ edges_from (suc n) xs)))
    (sym (after-append d₀ (flat_map step_commands x.steps) (flat_map state_commands xs)))
    (subst (AllZip Same (kept (draft_after d₁ (flat_map state_commands xs)))) (append_assoc es ts (edges_from (suc n) xs)) r₂)

-- TIEDs are no steps
keep-tied : (d : Draft) (es : List Edge) (n : ℕ) (vs : List ℕ) → Keeps d es n → Keeps (draft_after d (map TIED vs)) es n
unfolding draft_after
keep-tied d es n [] h = h
keep-tied d es n (v ∷ vs) h = keep-tied (add_c d (TIED v)) es n vs (record { rep = h.rep; count = h.count; size = h.size; seen = h.seen })

keep-start : Keeps empty_draft [] 0
unfolding empty_draft
keep-start = record { rep = tt; count = refl; size = refl; seen = refl }

-- the steps of a formula
pub steps-kept : (fields : ℕ) (f : Formula) → WellFormed fields f → AllZip Same (kept (draft_after empty_draft (commands f))) (edges_from 0 f.states)
unfolding commands
steps-kept fields f c =
    let n = c.states in
    subst (λ (y : Draft). AllZip Same (kept y) (edges_from 0 f.states))
    (sym (after-append empty_draft (map TIED f.tied) (flat_map state_commands f.states)))
    (keep-states (draft_after empty_draft (map TIED f.tied)) [] 0 f.states (omega arith) c.each (keep-tied empty_draft [] 0 f.tied keep-start))

-- a round over the steps kept is the definition's
module _ (v : ℕ) (low : v < 8) where
  round_same : (ks : List Kept) (es : List Edge) (m : List Bool) → AllZip Same ks es → fold (Reach.mark v) m ks ≡ round v es m
  unfolding round mark
  round_same [] [] m h = refl
  round_same [] (e ∷ es) m h = absurd h
  round_same (k ∷ ks) [] m h = absurd h
  round_same (k ∷ ks) (e ∷ es) m h =
      let s : Reach.mark v m k ≡ mark v m e = rw (h.0.from, h.0.to, h.0.binds v low) in
      ap (λ n. fold (Reach.mark v) n ks) s ∙ round_same ks es (mark v m e) h.1

  rounds-same : (n : ℕ) (ks : List Kept) (es : List Edge) (m : List Bool) → AllZip Same ks es → Reach.rounds n v ks m ≡ rounds n v es m
  unfolding Reach.rounds rounds
  rounds-same zero ks es m h = refl
  rounds-same (suc n) ks es m h = rounds-same n ks es (fold (Reach.mark v) m ks) h ∙ ap (rounds n v es) (round_same ks es m h)

  -- the states reached over the steps kept are the definition's
  pub reach-is : (ks : List Kept) (f : Formula) → AllZip Same ks (edges_from 0 f.states) → Reach.reach_of ks v ≡ unbound f v
  unfolding Reach.reach_of unbound
  reach-is ks f h = rounds-same 16 ks (edges_from 0 f.states) (true ∷ replicate 15 false) h
