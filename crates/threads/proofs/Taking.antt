-- A step that is passed over: where it fires, it leads elsewhere.
use Prim.Native.Nat.{ℕ, ◌<◌}
use mathlib.Core.Path.{◌≡◌, refl, sym, ◌∙◌}
use mathlib.Core.Bool.{Bool, true, false, not, true≢false}
use mathlib.Core.List.{List}
use mathlib.Core.Option.{some}
use Rattle.std.specs.Prelude.{Option as Maybe, Some, None, is_some}
use Rattle.event_log.specs.Arrays.{in_event}
use Rattle.event_log.specs.Log.{Log}
use Rattle.formula.specs.Formula.{Formula}
use Rattle.formula.specs.Lookup.{step_table}
use Rattle.runs.proofs.Least.{some≢none}
use Rattle.machine.specs.Configuration.{Config}
use Rattle.machine.specs.Machine.{fire_at, final}
use Rattle.machine.specs.inner.Along.{gathered, IsFresh}
use Rattle.machine_code.specs.inner.Bytes.{offset_of, fired}
use Rattle.slots.specs.declared.Thread.{Thread}
use Rattle.slots.specs.inner.Threads.{trail_of}
use Rattle.threads.specs.declared.scene.Scene.{Scene}
use Rattle.threads.specs.inner.Setting.{Stands, Fit, conf}
use Rattle.threads.specs.inner.Calls.{LeadsIs, FreshIs, Passed, FirstTakenIs, EndsNothing, StepNumber}
use Rattle.threads.proofs.Charts.{event-values}
use Rattle.threads.proofs.Tables.{fires-not}

module _ (s : Scene) (t : Thread) (fresh : List Bool) (ends : Bool) where
  -- step k of the thread, with marks on what is new to its lists
  abbrev pub PassedOver : ℕ → Type 0
  PassedOver k =
      (g : Log) (fm : Formula) → Stands g fm s → Fit g fm t → IsFresh (gathered g fm (trail_of t)) (in_event s.moment.event) fresh → (d : Config)
      → fire_at g fm (conf g fm t) s.moment.number k ≡ some d → final fm d ≡ not ends

  -- by its target, the event's table, or what is held
  pub passed-leads : (k : ℕ) → LeadsIs s t.config.state t.config.held t.config.values k (not ends) → PassedOver k
  passed-leads k h g fm stands w new = h g fm stands t refl refl refl w

  -- by its bytes
  pub passed-quiet : (k : ℕ) → k < 8 → (at : ℕ) → at ≡ offset_of s.table.now t.config.state k
      → (fired s.formula.now at t.config fresh (in_event s.moment.event)).fires ≡ false → PassedOver k
  passed-quiet k b at e quiet g fm stands w new d x =
      absurd (some≢none (sym x ∙ fires-not g fm s.formula.now s.table.now s.rules s.moment stands t w k b fresh new at e quiet))

  -- steps that are passed over before one, or all, whatever is new to the lists
  pub passed-all : (n : ℕ) → ((k : ℕ) → k < n → PassedOver k) → FreshIs s t s.moment.event.values fresh → Passed s t ends n
  passed-all n h new g fm stands w k l =
      h k l g fm stands w
      (new g fm stands w (in_event s.moment.event) (event-values g fm s.formula.now (step_table fm) s.rules stands.setting s.moment stands.loads))

-- where no step was found that ends a run, none does
pub nothing-taken : (s : Scene) (t : Thread) (r : Maybe ℕ) → FirstTakenIs s t true r → is_some r ≡ false → (g : Log) (fm : Formula) → Stands g fm s
    → Fit g fm t → EndsNothing g fm t s.moment.number
nothing-taken s t None x e g fm stands w = x g fm stands w
nothing-taken s t (Some k) x e g fm stands w = absurd (true≢false e)

-- one that was found is one of eight
pub taken-number : (s : Scene) (t : Thread) (ends : Bool) (r : Maybe ℕ) → FirstTakenIs s t ends r → StepNumber r
taken-number s t ends None x = tt
taken-number s t ends (Some k) x = x.0
