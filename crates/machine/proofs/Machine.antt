-- The machine of a correct log and a correct formula keeps the laws that the theory of runs asks for.
use Prim.Native.Nat.{ℕ, zero, suc, ◌≤◌, ◌<◌}
use mathlib.Core.Path.{◌≡◌, refl, sym, ◌∙◌}
use mathlib.Core.Bool.{Bool, true, false, true≢false, false≢true}
use mathlib.Core.List.{List, [], ◌∷◌}
use mathlib.Core.Option.{Option, none, some}
use native.Mathlib.Omega.{arith}
use native.Mathlib.Decide.{dec_lt}
use lib.ListN.{length, length-set, get_or, set, get_or-eq_default}
use lib.Seq.{get_or-set_same, get_or-set_other}
use lib.Dec.{eqb}
use borrow.Author.Tests.{eqb-true, eqb-false}
use Rattle.base.proofs.Lists.{replicate-at}
use Rattle.formula.proofs.Steps.{all-some}
use Rattle.base.specs.Lists.{All}
use Rattle.event_log.specs.Log.{Kind, plain, rising, Values, or_zero, field, Event, Log, no_event, event_at, stretch_at}
use Rattle.event_log.specs.Correct.{Recorded}
use Rattle.event_log.specs.Latest.{latest, latest_at}
use Rattle.event_log.proofs.LastSeen.{latest-own, latest-stays, latest-grows}
use Rattle.formula.specs.Formula.{Formula, State, ordinary, Step, Clause, TEST, TESTV, BIND, GATHER}
use Rattle.formula.specs.Unbound.{steps_of}
use Rattle.formula.specs.Lookup.{step_at}
use Rattle.runs.specs.inner.Laws.{Laws}
use Rattle.machine.specs.Configuration.{Config, start}
use Rattle.machine.specs.inner.Valid.{Valid}
use Rattle.machine.specs.Guard.{total}
use Rattle.machine.specs.Firing.{is_held, hold, bind_all, leave, fires, fire}
use Rattle.machine.specs.Expiry.{is_rising}
use Rattle.machine.specs.Machine.{fire_by, fire_at, expired_by, expired_at, final, machine}
use Rattle.machine.proofs.Configurations.{same_equal, equal_same, total-add-one, length-add-one}
use Rattle.machine.proofs.Binding.{hold-held, hold-new}
use Rattle.machine.proofs.Gathering.{length-gather-all}
use Rattle.machine.proofs.Expiry.{Grows, stable-step, silent-step}

pub all_get_d : {A : Type 0} (P : A → Type 0) (l : List A) (i : ℕ) (d : A) → All P l → P d → P (get_or l i d)
all_get_d P [] i d h k = k
all_get_d P (x ∷ xs) zero d h k = h.0
all_get_d P (x ∷ xs) (suc i) d h k = all_get_d P xs i d h.1 k

all_set : {A : Type 0} (P : A → Type 0) (l : List A) (i : ℕ) (a : A) → All P l → P a → All P (set l i a)
all_set P [] i a h k = tt
all_set P (x ∷ xs) zero a h k = (k, h.1)
all_set P (x ∷ xs) (suc i) a h k = (h.0, all_set P xs i a h.1 k)

pub valid_start : (states : ℕ) → 0 < states → Valid states start
unfolding start
valid_start states h = record {
  declared = h;
  held_8 = refl;
  values_8 = refl;
  counters_16 = refl;
  unheld_0 = λ v e. replicate-at 8 v 0;
  lists_4 = refl;
  fits = omega arith;
}

-- binding keeps a configuration valid
valid-hold : (states : ℕ) (c : Config) (v x : ℕ) → Valid states c → x < 4294967296 → Valid states (hold c v x)
valid-hold states c v x h k = go (is_held c v) refl
  where
    unheld : (u : ℕ) (b : Bool) → eqb u v ≡ b → get_or (set c.held v true) u false ≡ false → Dec (u < 8) → get_or (set c.values v x) u 0 ≡ 0
    unheld u true q n (yes p) =
        let e : u ≡ v = eqb-true u v q in
        let t : get_or (set c.held v true) u false ≡ true = rw e (get_or-set_same c.held v true false (omega (arith, h.held_8))) in
        absurd (true≢false (sym t ∙ n))
    unheld u true q n (no p) = get_or-eq_default (set c.values v x) 0 (omega (arith, put-8))
      where
        put-8 : length (set c.values v x) ≡ 8
        put-8 = length-set c.values v x ∙ h.values_8
    unheld u false q n d =
        let ne : u ≡ v → ⊥ = eqb-false u v q in
        get_or-set_other c.values v u x 0 ne ∙ h.unheld_0 u (sym (get_or-set_other c.held v u true false ne) ∙ n)

    go : (b : Bool) → is_held c v ≡ b → Valid states (hold c v x)
    go true e = rw (hold-held c v x e) h
    go false e = rw (hold-new c v x e) (record {
      declared = h.declared;
      held_8 = length-set c.held v true ∙ h.held_8;
      values_8 = length-set c.values v x ∙ h.values_8;
      counters_16 = h.counters_16;
      unheld_0 = λ u n. unheld u (eqb u v) refl n (dec_lt u 8);
      lists_4 = h.lists_4;
      fits = all_set (λ y. y < 4294967296) c.values v x h.fits k;
    })

-- every value of the event fits a word
abbrev Fits : Values → Type 0
Fits e = All (λ (v : Option ℕ). or_zero v < 4294967296) e

valid-bind : (states : ℕ) (c : Config) (e : Values) (ks : List Clause) → Valid states c → Fits e → Valid states (bind_all c e ks)
valid-bind states c e [] h k = h
valid-bind states c e (TEST f o x ∷ ks) h k = valid-bind states c e ks h k
valid-bind states c e (TESTV f o v ∷ ks) h k = valid-bind states c e ks h k
valid-bind states c e (GATHER f v ∷ ks) h k = valid-bind states c e ks h k
valid-bind states c e (BIND f v ∷ ks) h k =
    valid-bind states (hold c v (field e f)) e ks
    (valid-hold states c v (field e f) h (all_get_d (λ (y : Option ℕ). or_zero y < 4294967296) e f none k (omega arith))) k

-- what a step leaves is valid
pub valid-leave : (states : ℕ) (c : Config) (s : Step) (e : Values) → Valid states c → Fits e → states ≤ 16 → s.target < states → Valid states (leave c s e)
unfolding leave
valid-leave states c s e h k n t =
    let b = valid-bind states c e s.clauses h k in
    record {
      declared = t;
      held_8 = b.held_8;
      values_8 = b.values_8;
      counters_16 = length-add-one c.counters c.state (omega (arith, h.declared, h.counters_16)) ∙ h.counters_16;
      unheld_0 = b.unheld_0;
      lists_4 = length-gather-all c.lists e s.clauses ∙ h.lists_4;
      fits = b.fits;
    }

-- a step fired: what is left is what the step leaves
pub record Fired (c : Config) (s : Step) (e : Values) (d : Config) : Type 0 where
  pub tests : fires c s e ≡ true
  pub leaves : d ≡ leave c s e

pub fire-some : (c : Config) (s : Step) (e : Values) (d : Config) → fire c s e ≡ some d → Fired c s e d
unfolding fire
fire-some c s e d h = go (fires c s e) refl
  where
    go : (b : Bool) → fires c s e ≡ b → Fired c s e d
    go true q = let h' : some (leave c s e) ≡ some d = rw q at h in record { tests = q; leaves = (cc) }
    go false q = let h' : none ≡ some d = rw q at h in let z : ◌≡◌ {A = ℕ} 0 1 = cc in absurd (omega arith)

-- step k of the configuration's state fired on event n
pub record FiredAt (log : Log) (formula : Formula) (c : Config) (n k : ℕ) (d : Config) : Type 0 where
  pub step : Step
  pub found : step_at formula c.state k ≡ some step
  pub fired : Fired c step (event_at log n).values d

pub fire-at-some : (log : Log) (formula : Formula) (c d : Config) (n k : ℕ) → fire_at log formula c n k ≡ some d → FiredAt log formula c n k d
unfolding fire_at
fire-at-some log formula c d n k h = go (step_at formula c.state k) refl
  where
    go : (o : Option Step) → step_at formula c.state k ≡ o → FiredAt log formula c n k d
    go none q = let h' : none ≡ some d = rw q at h in let z : ◌≡◌ {A = ℕ} 0 1 = cc in absurd (omega arith)
    go (some s) q = record { step = s; found = q; fired = fire-some c s (event_at log n).values d (rw q at h) }

-- every step adds one to the sum of the counters
pub weight_fire : (log : Log) (formula : Formula) (c d : Config) (n k : ℕ) → fire_at log formula c n k ≡ some d → total d.counters ≡ suc (total c.counters)
unfolding leave
weight_fire log formula c d n k h =
    let f = fire-at-some log formula c d n k h in
    rw f.fired.leaves (total-add-one c.counters c.state)

-- What the machine's laws need of a correct log and a correct formula.
pub record Premises (log : Log) (formula : Formula) : Type 0 where
  -- a correct file records the log
  pub recorded : Recorded log
  -- "1 to 16 states"
  pub some-state : 1 ≤ length formula.states
  pub most-states : length formula.states ≤ 16
  -- no STEP names an absent state
  pub targets : All (λ (s : State). All (λ (t : Step). t.target < length formula.states) s.steps) formula.states
  -- no dead start
  pub open-start : final formula start ≡ false

module _ (log : Log) (formula : Formula) (P : Premises log formula) where
  rising-kind : (k : Kind) → is_rising k ≡ true → k ≡ rising
  rising-kind plain h = absurd (false≢true h)
  rising-kind rising h = refl

  -- the values by which a step is judged grow from event to event, within a stretch
  grow-to : (s n m : ℕ) → n ≤ m → m ≤ length log.events → Grows log.fields (latest log s n) (latest log s m)
  grow-to s n m h k = record {
    stays = λ f. latest-stays log s n m f h;
    larger = λ f r. latest-grows log P.recorded f (rising-kind (get_or log.fields f plain) r) s n m h k;
  }

  seen-grows : (n m : ℕ) → stretch_at log n ≡ stretch_at log m → n ≤ m → m < length log.events → Grows log.fields (latest_at log n) (latest_at log m)
  seen-grows n m e h j = rw e (grow-to (stretch_at log m) (suc n) (suc m) (omega arith) (omega arith))

  target-declared : (s k : ℕ) (t : Step) → step_at formula s k ≡ some t → t.target < length formula.states
  unfolding step_at steps_of
  target-declared s k t h =
      (all-some (λ (u : Step). u.target < length formula.states) (steps_of formula s) k t h
      (all_get_d (λ (y : State). All (λ (u : Step). u.target < length formula.states) y.steps) formula.states s
      (record { kind = ordinary; steps = [] }) P.targets tt)).0

  pub valid_fire : (c d : Config) (n k : ℕ) → Valid (length formula.states) c → fire_at log formula c n k ≡ some d → Valid (length formula.states) d
  unfolding event_at
  valid_fire c d n k v h =
      let f = fire-at-some log formula c d n k h in
      rw f.fired.leaves (valid-leave (length formula.states) c f.step (event_at log n).values v
      (all_get_d (λ (e : Event). Fits e.values) log.events n no_event P.recorded.values_fit tt) P.most-states
      (target-declared c.state k f.step f.found))

  -- a step expired after n is expired after every later event of its stretch
  pub stable : (c : Config) (k n m : ℕ) → Valid (length formula.states) c → stretch_at log n ≡ stretch_at log m → n ≤ m → m < length log.events
      → expired_at log formula c k n ≡ true → expired_at log formula c k m ≡ true
  unfolding expired_at
  stable c k n m v s h j e = go (step_at formula c.state k) e
    where
      go : (o : Option Step) → expired_by log.fields o c (latest_at log n) ≡ true → expired_by log.fields o c (latest_at log m) ≡ true
      go none q = refl
      go (some t) q = stable-step log.fields (latest_at log n) (latest_at log m) (seen-grows n m s h j) (length formula.states) c t v q

  -- a step expired after n fires on no later event of its stretch
  pub silent : (c : Config) (k n m : ℕ) → Valid (length formula.states) c → stretch_at log n ≡ stretch_at log m → n < m → m < length log.events
      → expired_at log formula c k n ≡ true → fire_at log formula c m k ≡ none
  unfolding expired_at fire_at
  silent c k n m v s h j e = go (step_at formula c.state k) e
    where
      go : (o : Option Step) → expired_by log.fields o c (latest_at log n) ≡ true → fire_by o c (event_at log m).values ≡ none
      go none q = refl
      go (some t) q =
          silent-step log.fields (latest_at log n) (latest_at log m) (event_at log m).values (seen-grows n m s (omega arith) j) (latest-own log m)
          (length formula.states) c t v q

  -- The machine keeps every law that the search is exact by.
  unfoldable pub laws : Laws (machine log formula)
  unfolding start
  laws = record {
    same_equal = same_equal;
    equal_same = equal_same;
    Valid = Valid (length formula.states);
    valid_start = valid_start (length formula.states) P.some-state;
    valid_fire = valid_fire;
    start_open = P.open-start;
    ordered = λ n m h k. omega (arith, P.recorded.in_order n m h k);
    stable = λ c k n m v s h. stable c k n m v s (omega arith);
    silent = silent;
    weight = λ c. total c.counters;
    weight_start = refl;
    weight_fire = λ c d n k h. weight_fire log formula c d n k h;
  }
