-- Where a step that fires leads is told by the byte behind its command: whether a run ends by it.
use Prim.Native.Nat.{ℕ, ◌+◌, ◌<◌}
use mathlib.Core.Path.{◌≡◌, ap, sym, subst, ◌∙◌}
use mathlib.Core.List.{List}
use mathlib.Core.Option.{some}
use lib.Dec.{leb}
use lib.ListN.{length, get_or}
use Rattle.event_log.specs.Log.{Log}
use Rattle.formula.specs.Formula.{Formula}
use Rattle.formula.specs.Lookup.{step_table}
use Rattle.machine.specs.Configuration.{Config}
use Rattle.machine.specs.Firing.{leave}
use Rattle.machine.specs.Machine.{fire_at, final}
use Rattle.machine.proofs.Machine.{FiredAt, fire-at-some, valid_fire}
use Rattle.machine.proofs.Premises.{premises}
use Rattle.slots.specs.declared.Thread.{Thread}
use Rattle.machine_code.specs.inner.Bytes.{offset_of}
use Rattle.machine_code.proofs.FiringOnBytes.{StepAt, inside, target-byte}
use Rattle.machine_code.proofs.SameMachine.{StepThere}
use Rattle.threads.specs.declared.Rules.{Rules}
use Rattle.threads.specs.declared.Moment.{Moment}
use Rattle.threads.specs.inner.Setting.{Scene, Fit, conf}
use Rattle.threads.proofs.Charts.{charted}
use Rattle.threads.proofs.Tables.{fires-stands}
use Rattle.threads.proofs.Words.{final-at}

module _ (g : Log) (fm : Formula) {l places : List ℕ} (f table : List ℕ) (rules : Rules) (m : Moment) (s : Scene g fm l places f table rules m) (t : Thread)
    (w : Fit g fm t) (k : ℕ)
    (h : k < 8) (d : Config) (e : fire_at g fm (conf g fm t) m.number k ≡ some d) where
  found : FiredAt g fm (conf g fm t) m.number k d
  found = fire-at-some g fm (conf g fm t) d m.number k e

  -- the step's bytes stand at the table's offset
  stands : StepAt (length g.fields) f (offset_of table t.config.state k) found.step
  stands =
      subst (λ (at : ℕ). StepAt (length g.fields) f at found.step) (sym (fires-stands g fm f table rules m s t w k h d e))
      (subst (StepThere (length g.fields) f (offset_of (step_table fm) t.config.state k)) found.found
      ((charted g fm f (step_table fm) rules s.setting).stands t.config.state k h)).1

  pub target-inside : offset_of table t.config.state k < length f
  target-inside = inside (length g.fields) f (offset_of table t.config.state k) found.step stands

  target_left : d.state ≡ found.step.target
  unfolding leave
  target_left = ap (λ (x : Config). x.state) found.fired.leaves

  pub target-final : leb 2 (get_or rules.kinds (get_or f (offset_of table t.config.state k + 1) 0) 0) ≡ final fm d
  target-final =
      ap (λ i. leb 2 (get_or rules.kinds i 0))
      (target-byte (length g.fields) f (offset_of table t.config.state k) found.step stands ∙ sym target_left)
      ∙ final-at g fm f (step_table fm) rules s.setting d
      (valid_fire g fm (premises g fm s.setting.log s.setting.formula) (conf g fm t) d m.number k w.valid e).declared
