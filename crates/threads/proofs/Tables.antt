-- With the event's table the code of one step answers as with the table of the formula's steps: what is 0 there does not fire on the event,
-- or is expired after it, in any configuration.
use Prim.Native.Nat.{ℕ, zero, suc, ◌+◌, ◌*◌, ◌<◌, ◌≤◌}
use mathlib.Core.Path.{◌≡◌, refl, sym, subst, ◌∙◌}
use mathlib.Core.Bool.{Bool, true, false, not, ◌&&◌, ◌||◌, and-false, or-true, true≢false}
use mathlib.Core.List.{List}
use mathlib.Core.Logic.{◌⊎◌, inl, inr}
use mathlib.Core.Option.{Option, none, some}
use native.Mathlib.Nat.{eq-or-lt_of_le}
use native.Mathlib.Omega.{arith}
use Rattle.std.specs.Prelude.{Option as Maybe}
use lib.ListN.{length, get_or, drop}
use Rattle.base.specs.Lists.{some_if}
use lib.Seq.{get_or-drop}
use Rattle.event_log.specs.Log.{Log}
use Rattle.event_log.specs.Arrays.{in_event, in_latest}
use Rattle.formula.specs.Formula.{Formula}
use Rattle.formula.specs.Lookup.{step_table}
use Rattle.runs.specs.inner.Search.{any_alive}
use Rattle.machine.specs.Configuration.{Config}
use Rattle.machine.specs.Machine.{machine, fire_at}
use Rattle.slots.specs.declared.Thread.{Thread}
use Rattle.machine_code.specs.declared.Configuration.{Configuration}
use Rattle.machine_code.specs.inner.Bytes.{fired, lapsed, offset_of, is_step, fires_at, expires_at, lowest_from, lowest_of, alive_below}
use Rattle.machine_code.proofs.StepsByNumber.{offset-in, step-none}
use Rattle.machine_code.proofs.FiringOnBytes.{Ready}
use Rattle.machine_code.proofs.SameMachine.{Lowest, is_fired, fires-machine, hopeful-machine, lowest-machine}
use Rattle.machine.specs.inner.Along.{gathered, IsFresh}
use Rattle.slots.specs.inner.Threads.{trail_of}
use Rattle.threads.specs.inner.Calls.{FiredBy}
use Rattle.threads.specs.declared.Rules.{Rules}
use Rattle.threads.specs.declared.Moment.{Moment}
use Rattle.threads.specs.inner.Setting.{Scene, Fit, conf, Firing, stands, barred, Lasting, lasts, due}
use Rattle.threads.proofs.Lists.{some_fresh, some-fresh, carries}
use Rattle.threads.proofs.Charts as Base
use Rattle.threads.proofs.Charts.{charted, marks, event-fields, latest-fields, ready_of, with_config}

-- tests that agree on the 8 steps of a state have the same lowest step and the same steps left
lowest-same : (p q : ℕ → Bool) (k n : ℕ) → k + n ≡ 8 → ((j : ℕ) → j < 8 → p j ≡ q j) → lowest_from p k n ≡ lowest_from q k n
unfolding lowest_from
lowest-same p q k zero e h = refl
lowest-same p q k (suc n) e h = rw (h k (omega arith), lowest-same p q (suc k) n (omega arith) h)

alive-same : (p q : ℕ → Bool) (m : ℕ) → m ≤ 8 → ((j : ℕ) → j < 8 → p j ≡ q j) → alive_below p m ≡ alive_below q m
unfolding alive_below
alive-same p q zero l h = refl
alive-same p q (suc m) l h = rw (h m (omega arith), alive-same p q m (omega arith) h)

-- one that is not expired is enough
alive-at : (p : ℕ → Bool) (n k : ℕ) → k < n → p k ≡ false → alive_below p n ≡ true
unfolding alive_below
alive-at p zero k h e = absurd (omega arith)
alive-at p (suc n) k h e = go (eq-or-lt_of_le (omega arith)) (alive-at p n k)
  where
    go : (k ≡ n) ⊎ (k < n) → (k < n → p k ≡ false → alive_below p n ≡ true) → (not (p n) || alive_below p n) ≡ true
    go (inl q) ih = rw (← q, e)
    go (inr l) ih = rw (ih l e, or-true (not (p n)))

module _ (g : Log) (fm : Formula) {l places : List ℕ} (f table : List ℕ) (rules : Rules) (m : Moment) (s : Scene g fm l places f table rules m) (t : Thread)
    (w : Fit g fm t) where
  entry : (k : ℕ) → k < 8 → Firing f (in_event m.event) (offset_of (step_table fm) t.config.state k) (offset_of table t.config.state k)
  entry k h =
      rw (← offset-in (step_table fm) t.config.state k h, ← offset-in table t.config.state k h)
      (s.offsets.fires (t.config.state * 8 + k) (omega (arith, w.valid.declared, s.setting.formula.formed.states)))

  entry-behind : (k : ℕ) → k < 8
      → Lasting f rules.rises (in_latest m.latest) (offset_of (step_table fm) t.config.state k) (offset_of (drop 128 table) t.config.state k)
  entry-behind k h =
      rw (
        ← offset-in (step_table fm) t.config.state k h,
        ← offset-in (drop 128 table) t.config.state k h,
        get_or-drop 128 table (t.config.state * 8 + k)
            0,
      )
      (s.offsets.lapses (t.config.state * 8 + k) (omega (arith, w.valid.declared, s.setting.formula.formed.states)))

  ready : Ready t.config
  ready = ready_of g fm t w s.setting.formula.formed.states

  fires-same : (fresh : List Bool) (k : ℕ) → k < 8
      → fires_at f table t.config fresh (in_event m.event) k ≡ fires_at f (step_table fm) t.config fresh (in_event m.event) k
  unfolding fires_at
  fires-same fresh k h = go (offset_of (step_table fm) t.config.state k) (offset_of table t.config.state k) (entry k h)
    where
      go : (at now : ℕ) → Firing f (in_event m.event) at now
          → (is_step f now && (fired f now t.config fresh (in_event m.event)).fires)
          ≡ (is_step f at && (fired f at t.config fresh (in_event m.event)).fires)
      go at now (stands q) = rw q
      go at now (barred q b) = rw (← step-none f now q, b fresh t.config, and-false (is_step f at))

  expires-same : (fresh : List Bool) (k : ℕ) → k < 8
      → expires_at f (drop 128 table) t.config fresh rules.rises (in_latest m.latest) k
      ≡ expires_at f (step_table fm) t.config fresh rules.rises (in_latest m.latest) k
  unfolding expires_at
  expires-same fresh k h = go (offset_of (step_table fm) t.config.state k) (offset_of (drop 128 table) t.config.state k) (entry-behind k h)
    where
      go : (at now : ℕ) → Lasting f rules.rises (in_latest m.latest) at now
          → (not (is_step f now) || lapsed f now t.config fresh rules.rises (in_latest m.latest))
          ≡ (not (is_step f at) || lapsed f at t.config fresh rules.rises (in_latest m.latest))
      go at now (lasts q) = rw q
      go at now (due q b) = rw (← step-none f now q, b fresh t.config, or-true (not (is_step f at)))

  -- what fires by the event's table fires in the machine
  fires-here : (fresh : List Bool) → IsFresh (gathered g fm (trail_of t)) (in_event m.event) fresh → (k : ℕ) → k < 8
      → fires_at f table t.config fresh (in_event m.event) k ≡ is_fired (fire_at g fm (conf g fm t) m.number k)
  fires-here fresh new k h =
      fires-same fresh k h
      ∙ fires-machine g fm (length g.fields) f (step_table fm) (charted g fm f (step_table fm) rules s.setting)
      (gathered g fm (trail_of t)) t.config ready m.number fresh (in_event m.event) (carries g fm f table rules m s t w (in_event m.event) fresh new)
      (event-fields g fm f (step_table fm) rules s.setting m s.loads) k h

  -- the lowest step that fires by it is the machine's
  pub lowest-here : (fresh : List Bool) → IsFresh (gathered g fm (trail_of t)) (in_event m.event) fresh
      → Lowest (λ k. is_fired (fire_at g fm (conf g fm t) m.number k)) (lowest_of (fires_at f table t.config fresh (in_event m.event)))
  unfolding lowest_of
  lowest-here fresh new =
      let low = lowest-machine g fm (length g.fields) f (step_table fm) (charted g fm f (step_table fm) rules s.setting)
      (gathered g fm (trail_of t)) t.config ready m.number fresh (in_event m.event) (carries g fm f table rules m s t w (in_event m.event) fresh new)
      (event-fields g fm f (step_table fm) rules s.setting m s.loads) in
      subst (Lowest (λ k. is_fired (fire_at g fm (conf g fm t) m.number k)))
      (sym
      (lowest-same (fires_at f table t.config fresh (in_event m.event)) (fires_at f (step_table fm) t.config fresh (in_event m.event))
      0 8 refl (fires-same fresh)))
      low

  -- some step is not expired by it exactly where the machine has one
  pub hopeful-here : (fresh : List Bool) → IsFresh (gathered g fm (trail_of t)) (in_latest m.latest) fresh
      → alive_below (expires_at f (drop 128 table) t.config fresh rules.rises (in_latest m.latest)) 8
      ≡ any_alive (machine g fm) (conf g fm t) m.number 8
  hopeful-here fresh new =
      alive-same (expires_at f (drop 128 table) t.config fresh rules.rises (in_latest m.latest))
      (expires_at f (step_table fm) t.config fresh rules.rises (in_latest m.latest)) 8 (omega arith) (expires-same fresh)
      ∙ hopeful-machine g fm (length g.fields) f (step_table fm) (charted g fm f (step_table fm) rules s.setting)
      (gathered g fm (trail_of t)) t.config ready m.number fresh (in_latest m.latest)
      (carries g fm f table rules m s t w (in_latest m.latest) fresh new)
      (latest-fields g fm f (step_table fm) rules s.setting m s.loads) rules.rises
      (marks g fm f (step_table fm) rules s.setting)

  -- a state with a step that never expires keeps its threads
  pub hopeful-lasting : get_or rules.lasting t.config.state false ≡ true → true ≡ any_alive (machine g fm) (conf g fm t) m.number 8
  unfolding expires_at
  hopeful-lasting e =
      let marks_then = some_fresh (gathered g fm (trail_of t)) (in_latest m.latest) in
      let o = s.setting.lasting_are t.config.state e in
      sym (alive-at (expires_at f (step_table fm) t.config marks_then rules.rises (in_latest m.latest)) 8 o.step o.known
      (rw (o.lasts.there, o.lasts.alive marks_then t.config (in_latest m.latest))))
      ∙ hopeful-machine g fm (length g.fields) f (step_table fm) (charted g fm f (step_table fm) rules s.setting)
      (gathered g fm (trail_of t)) t.config ready m.number marks_then (in_latest m.latest)
      (carries g fm f table rules m s t w (in_latest m.latest) marks_then (some-fresh (gathered g fm (trail_of t)) (in_latest m.latest)))
      (latest-fields g fm f (step_table fm) rules s.setting m s.loads) rules.rises
      (marks g fm f (step_table fm) rules s.setting)

  module _ (k : ℕ) (h : k < 8) where
    -- a step that does not fire by its bytes, with marks on what is new to the lists, does not fire
    fires-silent : (fresh : List Bool) → IsFresh (gathered g fm (trail_of t)) (in_event m.event) fresh
        → fires_at f table t.config fresh (in_event m.event) k ≡ false → fire_at g fm (conf g fm t) m.number k ≡ none
    fires-silent fresh new quiet = by (fire_at g fm (conf g fm t) m.number k) (sym (fires-here fresh new k h) ∙ quiet)
      where
        by : (o : Option Config) → is_fired o ≡ false → o ≡ none
        by none q = refl
        by (some d) q = absurd (true≢false q)

    -- whatever is new to them
    abbrev marks_then : List Bool
    marks_then = some_fresh (gathered g fm (trail_of t)) (in_event m.event)

    marks-new : IsFresh (gathered g fm (trail_of t)) (in_event m.event) marks_then
    marks-new = some-fresh (gathered g fm (trail_of t)) (in_event m.event)

    -- one that the event's table lacks
    pub fires-none : offset_of table t.config.state k ≡ 0 → fire_at g fm (conf g fm t) m.number k ≡ none
    unfolding fires_at
    fires-none z = fires-silent marks_then marks-new (rw (← step-none f (offset_of table t.config.state k) z))

    -- one that its bytes keep from firing
    pub fires-not : (fresh : List Bool) → IsFresh (gathered g fm (trail_of t)) (in_event m.event) fresh → (at : ℕ)
        → at ≡ offset_of table t.config.state k → (fired f at t.config fresh (in_event m.event)).fires ≡ false
        → fire_at g fm (conf g fm t) m.number k ≡ none
    unfolding fires_at
    fires-not fresh new at e quiet = fires-silent fresh new (rw (← e, quiet, and-false (is_step f at)))

    -- one that its bytes let fire does
    pub fires-so : (fresh : List Bool) → IsFresh (gathered g fm (trail_of t)) (in_event m.event) fresh → (at : ℕ)
        → at ≡ offset_of table t.config.state k → is_step f at ≡ true → (fired f at t.config fresh (in_event m.event)).fires ≡ true
        → is_fired (fire_at g fm (conf g fm t) m.number k) ≡ true
    unfolding fires_at
    fires-so fresh new at e there fires = sym (fires-here fresh new k h) ∙ rw (← e, there, fires)

    -- one that they keep from firing whatever is new to the lists does not
    pub fires-barred : (at : ℕ) → at ≡ offset_of table t.config.state k
        → ((fresh : List Bool) → (fired f at t.config fresh (in_event m.event)).fires ≡ false) → fire_at g fm (conf g fm t) m.number k ≡ none
    fires-barred at e bars = fires-not marks_then marks-new at e (bars marks_then)

    -- a step that fires stands there where it stands in the formula
    pub fires-stands : (d : Config) → fire_at g fm (conf g fm t) m.number k ≡ some d
        → offset_of table t.config.state k ≡ offset_of (step_table fm) t.config.state k
    fires-stands d q = go (entry k h)
      where
        go : Firing f (in_event m.event) (offset_of (step_table fm) t.config.state k) (offset_of table t.config.state k)
            → offset_of table t.config.state k ≡ offset_of (step_table fm) t.config.state k
        go (stands x) = x
        go (barred z b) = let y : none ≡ some d = sym (fires-none z) ∙ q in let x : ◌≡◌ {A = ℕ} 0 1 = cc in absurd (omega arith)

    -- one that it has fires as the code says, and leaves what the code leaves
    pub fires-some : (fresh : List Bool) → IsFresh (gathered g fm (trail_of t)) (in_event m.event) fresh → (offset_of table t.config.state k ≡ 0 → ⊥)
        → (r : Maybe Configuration)
        → ((at : ℕ) → at ≡ offset_of table t.config.state k
        → r ≡ some_if (fired f at t.config fresh (in_event m.event)).fires (fired f at t.config fresh (in_event m.event)).config)
        → FiredBy (fire_at g fm (conf g fm t) m.number k) t (with_config t r)
    fires-some fresh new z r e = go (entry k h)
      where
        go : Firing f (in_event m.event) (offset_of (step_table fm) t.config.state k) (offset_of table t.config.state k)
            → FiredBy (fire_at g fm (conf g fm t) m.number k) t (with_config t r)
        go (stands x) =
            Base.fires-some g fm f (step_table fm) rules s.setting m s.loads t k h fresh
            (carries g fm f table rules m s t w (in_event m.event) fresh new)
            ready (λ q. z (x ∙ q)) r (e (offset_of (step_table fm) t.config.state k) (sym x))
        go (barred x b) = absurd (z x)
