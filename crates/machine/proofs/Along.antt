-- Following a trail from the start leads to the state, and leaves the lists, that the trail alone gives.
use Prim.Native.Nat.{ℕ, suc, ◌+◌, ◌≤◌, ◌<◌}
use mathlib.Core.Path.{◌≡◌, refl, sym, ap, ◌∙◌}
use mathlib.Core.Bool.{Bool, true, false, cond, true≢false}
use mathlib.Core.List.{List, [], ◌∷◌, ◌++◌}
use mathlib.Core.Option.{Option, none, some}
use native.Mathlib.Omega.{arith}
use lib.ListN.{length, get_or, set, length-set, length-append, replicate}
use lib.Seq.{get_or-set_same, get_or-set_other}
use lib.Dec.{eqb}
use borrow.Author.Tests.{eqb-true, eqb-false}
use Rattle.base.proofs.Lists.{replicate-at}
use Rattle.event_log.specs.Log.{Values, Log, event_at, field}
use Rattle.formula.specs.Formula.{Formula, State, ordinary, Step, Clause, TEST, TESTV, BIND, GATHER}
use Rattle.formula.specs.Correct.{Correct, StateFits, StepFits, Once}
use Rattle.formula.specs.Unbound.{steps_of}
use Rattle.formula.specs.Lookup.{step_at}
use Rattle.formula.proofs.Steps.{all-some}
use Rattle.base.specs.Lists.{All}
use Rattle.runs.specs.Run.{Entry, Trail, Follow}
use Rattle.machine.specs.Configuration.{Config, start, list_of}
use Rattle.machine.specs.Firing.{leave}
use Rattle.machine.specs.Machine.{fire_at, machine}
use Rattle.machine.specs.inner.Along.{Standing, standing, step_to, step, along, first, gathered}
use Rattle.machine.proofs.Gathering.{added, list-after, length-gather-all}
use Rattle.machine.proofs.Machine.{all_get_d, fire-at-some}

module _ (log : Log) (formula : Formula) where
  -- a step that fires leaves what its entry in the trail gives
  pub fire-stands : (c d : Config) (n k : ℕ) → fire_at log formula c n k ≡ some d → standing d ≡ step log formula (standing c) (record { event = n; step = k })
  unfolding step leave
  fire-stands c d n k h =
      let f = fire-at-some log formula c d n k h in
      rw (f.fired.leaves, f.found)

  pub along-snoc : (p : Standing) (t : Trail) (x : Entry) → along log formula p (t ++ (x ∷ [])) ≡ step log formula (along log formula p t) x
  unfolding along
  along-snoc p [] x = refl
  along-snoc p (y ∷ t) x = along-snoc (step log formula p y) t x

  -- one step more of a trail that leads to c
  pub fire-along : (c d : Config) (t : Trail) (n k : ℕ) → standing c ≡ along log formula first t → fire_at log formula c n k ≡ some d
      → standing d ≡ along log formula first (t ++ (record { event = n; step = k } ∷ []))
  fire-along c d t n k e h =
      let x : Entry = record { event = n; step = k } in
      fire-stands c d n k h ∙ ap (λ (p : Standing). step log formula p x) e ∙ sym (along-snoc first t x)

  -- Following a trail leaves the state and the lists that the trail gives.
  follow-stands : (c : Config) (i : ℕ) (t : Trail) (e : Config) → Follow (machine log formula) c i t e
      → standing e ≡ along log formula (standing c) t
  unfolding along
  follow-stands c i [] e h = ap standing (sym h)
  follow-stands c i (x ∷ t) e h =
      follow-stands h.0 (suc x.event) t e h.2
      ∙ ap (λ (p : Standing). along log formula p t) (fire-stands c h.0 x.event x.step h.1.fires)

  -- The lists of a configuration that a run reaches are those gathered along its trail.
  pub follow-gathered : (i : ℕ) (t : Trail) (e : Config) → Follow (machine log formula) start i t e → e.lists ≡ gathered log formula t
  unfolding start
  follow-gathered i t e h = ap (λ (p : Standing). p.lists) (follow-stands start i t e h)

  -- there are four of them
  pub length-step : (p : Standing) (x : Entry) → length (step log formula p x).lists ≡ length p.lists
  unfolding step
  length-step p x = go (step_at formula p.state x.step)
    where
      go : (o : Option Step) → length (step_to o (event_at log x.event).values p).lists ≡ length p.lists
      go none = refl
      go (some s) = length-gather-all p.lists (event_at log x.event).values s.clauses

  length-along : (p : Standing) (t : Trail) → length (along log formula p t).lists ≡ length p.lists
  unfolding along
  length-along p [] = refl
  length-along p (x ∷ t) = length-along (step log formula p x) t ∙ length-step p x

  pub gathered-4 : (t : Trail) → length (gathered log formula t) ≡ 4
  gathered-4 t = length-along first t

-- a list that is marked takes no value, any other at most one
seen_none : (e : Values) (seen : List Bool) (ks : List Clause) (v : ℕ) → Once seen ks → get_or seen v false ≡ true → added e ks v ≡ []
seen_none e seen [] v o h = refl
seen_none e seen (TEST f p x ∷ ks) v o h = seen_none e seen ks v o.1 h
seen_none e seen (TESTV f p u ∷ ks) v o h = seen_none e seen ks v o.1 h
seen_none e seen (BIND f u ∷ ks) v o h = seen_none e seen ks v o.1 h
seen_none e seen (GATHER f u ∷ ks) v o h = go (seen_none e (set seen u true) ks v o.1) (eqb u v) refl
  where
    go : (get_or (set seen u true) v false ≡ true → added e ks v ≡ []) → (b : Bool) → eqb u v ≡ b → cond b (field e f ∷ added e ks v) (added e ks v) ≡ []
    go ih true q =
        let p : u ≡ v = eqb-true u v q in
        absurd (true≢false (sym h ∙ ap (λ (i : ℕ). get_or seen i false) (sym p) ∙ o.0))
    go ih false q = ih (get_or-set_other seen u v true false (λ p. eqb-false u v q (sym p)) ∙ h)

pub added-once : (e : Values) (seen : List Bool) (ks : List Clause) (v : ℕ) → Once seen ks → v < length seen → length (added e ks v) ≤ 1
added-once e seen [] v o h = omega arith
added-once e seen (TEST f p x ∷ ks) v o h = added-once e seen ks v o.1 h
added-once e seen (TESTV f p u ∷ ks) v o h = added-once e seen ks v o.1 h
added-once e seen (BIND f u ∷ ks) v o h = added-once e seen ks v o.1 h
added-once e seen (GATHER f u ∷ ks) v o h = go (added-once e (set seen u true) ks v o.1 (omega (arith, length-set seen u true))) (eqb u v) refl
  where
    go : length (added e ks v) ≤ 1 → (b : Bool) → eqb u v ≡ b → length (cond b (field e f ∷ added e ks v) (added e ks v)) ≤ 1
    go ih true q =
        let p : u ≡ v = eqb-true u v q in
        let t : get_or (set seen u true) v false ≡ true = rw p (get_or-set_same seen v true false h) in
        let n : length (added e ks v) ≡ 0 = ap length (seen_none e (set seen u true) ks v o.1 t) in
        omega arith
    go ih false q = ih

-- a step of a correct formula gathers into each list at most once
pub step-once : (fields : ℕ) (formula : Formula) → Correct fields formula → (s k : ℕ) (t : Step) → step_at formula s k ≡ some t
    → Once (replicate 4 false) t.clauses
unfolding step_at steps_of
step-once fields formula c s k t h =
    (all-some StepFits (steps_of formula s) k t h
    (all_get_d (λ (y : State). All StepFits y.steps) formula.states s (record { kind = ordinary; steps = [] })
    (each formula.states c.formed.each) tt)).0.once
  where
    each : (xs : List State) → All StateFits xs → All (λ (y : State). All StepFits y.steps) xs
    each [] p = tt
    each (x ∷ xs) p = (p.0.each, each xs p.1)

-- in a correct formula a list has at most one value a step
module _ (log : Log) (formula : Formula) (fields : ℕ) (correct : Correct fields formula) (v : ℕ) (four : v < 4) where
  pub short-step : (p : Standing) (x : Entry) → length p.lists ≡ 4 → length (list_of (step log formula p x).lists v) ≤ length (list_of p.lists v) + 1
  unfolding step
  short-step p x l = go (step_at formula p.state x.step) refl
    where
      e : Values
      e = (event_at log x.event).values

      go : (o : Option Step) → step_at formula p.state x.step ≡ o → length (list_of (step_to o e p).lists v) ≤ length (list_of p.lists v) + 1
      go none q = omega arith
      go (some s) q =
          rw (list-after p.lists e s.clauses v (omega arith))
          (omega (
            arith,
            length-append (list_of p.lists v) (added e s.clauses v),
            added-once e (replicate 4 false) s.clauses v (step-once fields formula correct p.state x.step s q) four,
          ))

  short-along : (p : Standing) (t : Trail) → length p.lists ≡ 4
      → length (list_of (along log formula p t).lists v) ≤ length (list_of p.lists v) + length t
  unfolding along
  short-along p [] l = omega arith
  short-along p (x ∷ t) l =
      omega (arith, short-along (step log formula p x) t (length-step log formula p x ∙ l), short-step p x l)

  pub gathered-short : (t : Trail) → length (list_of (gathered log formula t) v) ≤ length t
  gathered-short t = omega (arith, short-along first t refl, ap (λ (l : List ℕ). length l) (replicate-at 4 v []))
