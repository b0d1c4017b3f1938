-- "nothing is known of such a pair": a run that lacks a tied variable is subsumed by none and subsumes none. Without TIED overlap alone subsumes.
use Prim.Native.Nat.{ℕ, ◌≤◌, ◌<◌}
use mathlib.Core.Path.{◌≡◌, sym, ◌∙◌}
use mathlib.Core.Bool.{Bool, true, false, false≢true}
use mathlib.Core.List.Memᴰ
use mathlib.Core.List.{[]}
use Rattle.event_log.specs.Log.{Log}
use Rattle.formula.specs.Formula.{Formula}
use Rattle.runs.specs.Lists.{In}
use Rattle.runs.specs.Run.{last}
use Rattle.machine.specs.Configuration.{Config}
use Rattle.machine.specs.Firing.{is_held}
use Rattle.search.specs.inner.Demand.{Names}
use Rattle.analysis.specs.inner.Demand.{Overlapped, Alert}

module _ (g : Log) (f : Formula) (slots : ℕ) where
  module _ (v : ℕ) (tied : In v f.tied) where
    -- an accepting run that lacks it is an alert, whatever came before it
    pub lacking-alert : (i : ℕ) (n : Names g f slots i true) → is_held n.config v ≡ false → Alert g f slots i
    lacking-alert i n h = record { run = n; otherwise = λ o. false≢true (sym h ∙ (o.tied v tied).this_holds) }

    -- whichever run subsumes another one holds it
    pub holding-subsumes : (i : ℕ) (c : Config) (o : Overlapped g f slots i c) → is_held o.run.config v ≡ true
    holding-subsumes i c o = (o.tied v tied).earlier_holds

  -- "A formula without TIED behaves as today": whichever earlier named run ends at or after this start overlaps it, and no more is asked
  pub overlap-alone : f.tied ≡ [] → (i : ℕ) (c : Config) (start : ℕ) → start < i → (accepts : Bool) (n : Names g f slots start accepts)
      → i ≤ last n.trail → Overlapped g f slots i c
  overlap-alone e i c start h accepts n k =
      record { start = start; earlier = h; accepts = accepts; run = n; overlaps = k; tied = λ v m. absurd (Memᴰ.not-nil (rw e at m)) }
