-- Where a search's setting stands, the code of one step is given what its laws ask: the table's offsets are those of the formula's steps,
-- the array has the event's fields, the marks are those of the rising fields, and a kept thread's configuration is ready.
use Prim.Native.Nat.{ℕ, suc, ◌<◌, ◌≤◌}
use mathlib.Core.Path.{◌≡◌, refl, ap, sym, subst, ◌∙◌}
use mathlib.Core.Bool.{Bool, true, false, cond}
use mathlib.Core.List.{List, map}
use mathlib.Core.Option.{Option, none, some}
use native.Mathlib.Omega.{arith}
use Rattle.std.specs.Prelude.{Option as Maybe, Some, None}
use native.Mathlib.Decide.{dec_lt}
use lib.ListN.{length, get_or, get_or-eq_default, get_or-map}
use Rattle.base.specs.Lists.{pad, some_if}
use Rattle.base.proofs.Lists.{length-pad, get_d-pad}
use Rattle.event_log.specs.Log.{Log, Kind, plain, rising, or_zero, field, event_at, stretch_at}
use Rattle.event_log.specs.Arrays.{in_event, in_latest}
use Rattle.event_log.specs.Latest.{latest_at}
use Rattle.event_log.specs.declared.Event.{Event}
use Rattle.event_log.specs.declared.Latest.{Latest}
use Rattle.event_log.proofs.LastSeen.{length-event, length-latest}
use Rattle.event_log.proofs.Arrays.{shown}
use Rattle.event_log.proofs.Fields.{value-shown}
use Rattle.event_log.specs.Read as LogRead
use Rattle.formula.specs.Formula.{Formula, Step}
use Rattle.formula.specs.Lookup.{step_at}
use Rattle.machine.specs.Configuration.{Config}
use Rattle.machine.specs.Firing.{leave, fires, fire}
use Rattle.machine.specs.inner.Along.{gathered}
use Rattle.slots.specs.inner.Threads.{trail_of}
use Rattle.machine.proofs.Walk.{fire-fields}
use Rattle.slots.specs.declared.Thread.{Thread}
use Rattle.machine_code.specs.declared.Configuration.{Configuration}
use Rattle.threads.specs.declared.Rules.{Rules}
use Rattle.threads.specs.declared.Moment.{Moment}
use Rattle.threads.specs.inner.Calls.{FiredBy}
use Rattle.machine.specs.Expiry.{is_rising, rises}
use Rattle.machine.specs.Machine.{fire_by, fire_at}
use Rattle.machine_code.specs.inner.Bytes.{Firing, offset_of, fired}
use Rattle.machine_code.proofs.FiringOnBytes.{StepAt, Ready, Carries, ready, fire-encode}
use Rattle.machine_code.proofs.SameMachine.{StepThere, Charted}
use Rattle.machine_code.proofs.Offsets as Lookup
use Rattle.threads.specs.inner.Setting.{Setting, Loads, Fit, conf}

-- the log's mark of a field is the machine's
same-mark : (k : Kind) → LogRead.rises k ≡ is_rising k
same-mark plain = refl
same-mark rising = refl

module _ (g : Log) (fm : Formula) (f table : List ℕ) (rules : Rules) (s : Setting g fm f table rules) where
  pub charted : Charted (length g.fields) fm f table
  charted = rw (s.bytes, s.table_is) (Lookup.charted (length g.fields) fm s.formula)

  pub marks : (i : ℕ) → get_or rules.rises i false ≡ rises g.fields i
  marks i = go (dec_lt i 8)
    where
      go : Dec (i < 8) → get_or rules.rises i false ≡ rises g.fields i
      go (yes p) =
          rw s.rising_are
          (get_d-pad 8 false (map LogRead.rises g.fields) i p ∙ get_or-map LogRead.rises g.fields i plain ∙ same-mark (get_or g.fields i plain))
      go (no p) =
          let a : get_or rules.rises i false ≡ false = rw s.rising_are
          (get_or-eq_default (pad 8 false (map LogRead.rises g.fields)) false (omega (arith, length-pad 8 false (map LogRead.rises g.fields)))) in
          let b : get_or g.fields i plain ≡ plain = get_or-eq_default g.fields plain (omega (arith, s.log.most_fields)) in
          rw (a, b)

  module _ (m : Moment) (l : Loads g m) where
    short : length (event_at g m.number).values ≤ 8
    short = omega (arith, s.log.most_fields, length-event g s.log m.number l.there)

    pub event-fields : (i : ℕ) → get_or (in_event m.event) i none ≡ get_or (event_at g m.number).values i none
    event-fields i = ap (λ (e : Event). get_or (in_event e) i none) l.event_is ∙ shown (event_at g m.number).values short i

    few : length (latest_at g m.number) ≤ 8
    few = omega (arith, s.log.most_fields, length-latest g s.log (stretch_at g m.number) (suc m.number) (omega (arith, l.there)))

    pub latest-fields : (i : ℕ) → get_or (in_latest m.latest) i none ≡ get_or (latest_at g m.number) i none
    latest-fields i = ap (λ (x : Latest). get_or (in_latest x) i none) l.latest_is ∙ shown (latest_at g m.number) few i

    -- the arrays have the values
    pub event-values : (i : ℕ) → i < 8 → get_or m.event.values i 0 ≡ field (in_event m.event) i
    event-values i h =
        ap (λ (e : Event). get_or e.values i 0) l.event_is ∙ value-shown (event_at g m.number).values short i ∙ ap or_zero (sym (event-fields i))

    pub latest-values : (i : ℕ) → i < 8 → get_or m.latest.values i 0 ≡ field (in_latest m.latest) i
    latest-values i h =
        ap (λ (x : Latest). get_or x.values i 0) l.latest_is ∙ value-shown (latest_at g m.number) few i ∙ ap or_zero (sym (latest-fields i))

-- a kept thread's configuration is ready for the code
pub ready_of : (g : Log) (fm : Formula) (t : Thread) → Fit g fm t → length fm.states ≤ 16 → Ready t.config
ready_of g fm t h m = ready (length fm.states) (gathered g fm (trail_of t)) t.config h.valid m (omega (arith, h.weight, h.most))

-- the thread in another configuration, if there is one
abbrev pub with_config : Thread → Maybe Configuration → Maybe Thread
with_config t None = None
with_config t (Some c) = Some (record { config = c; steps = t.steps; trail = t.trail })

-- what a thread's step leaves, from what the code answers
module _ (g : Log) (fm : Formula) (f table : List ℕ) (rules : Rules) (s : Setting g fm f table rules) (m : Moment) (l : Loads g m) (t : Thread) (k : ℕ)
    (h : k < 8) (fresh : List Bool) (c : Carries (length g.fields) (gathered g fm (trail_of t)) t.config (in_event m.event) fresh) where
  abbrev answer : Firing
  answer = fired f (offset_of table t.config.state k) t.config fresh (in_event m.event)

  -- one that it has fires as the code says, and leaves what the code leaves
  pub fires-some : Ready t.config → (offset_of table t.config.state k ≡ 0 → ⊥) → (r : Maybe Configuration) → r ≡ some_if answer.fires answer.config
      → FiredBy (fire_at g fm (conf g fm t) m.number k) t (with_config t r)
  unfolding fire_at fire leave
  fires-some ready z r e =
      subst (λ o. FiredBy (fire_at g fm (conf g fm t) m.number k) t (with_config t o)) (sym e) (go (step_at fm t.config.state k) ((charted g fm f table rules s).stands t.config.state k h))
    where
      left : (x : Step) → StepAt (length g.fields) f (offset_of table t.config.state k) x → (b : Bool) → answer.fires ≡ b
          → FiredBy (cond b (some (leave (conf g fm t) x (in_event m.event))) none) t (with_config t (some_if b answer.config))
      left x p true q =
          let w = fire-encode (length g.fields) f (offset_of table t.config.state k) (gathered g fm (trail_of t)) t.config x fresh
          (in_event m.event) p ready c in
          record { leaves = w.leaves-as q; same_steps = refl; same_trail = refl; tallied = w.tallied q }
      left x p false q = refl

      go : (o : Option Step) → StepThere (length g.fields) f (offset_of table t.config.state k) o
          → FiredBy (fire_by o (conf g fm t) (event_at g m.number).values) t (with_config t (some_if answer.fires answer.config))
      go none p = absurd (z p)
      go (some x) p =
          let w = fire-encode (length g.fields) f (offset_of table t.config.state k) (gathered g fm (trail_of t)) t.config x fresh
          (in_event m.event) p.1 ready c in
          subst (λ (o : Option Config). FiredBy o t (with_config t (some_if answer.fires answer.config)))
          (fire-fields (in_event m.event) (event_at g m.number).values (event-fields g fm f table rules s m l) (conf g fm t) x)
          (subst (λ b. FiredBy (cond (fires (conf g fm t) x (in_event m.event)) (some (leave (conf g fm t) x (in_event m.event))) none) t (with_config t (some_if b answer.config)))
          (sym w.fires-as) (left x p.1 (fires (conf g fm t) x (in_event m.event)) w.fires-as))
