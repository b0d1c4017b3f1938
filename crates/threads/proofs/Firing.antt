-- The steps of a thread that fire, one step number at a time; where none of them ends a run.
use Prim.Native.Nat.{ℕ, zero, suc, ◌+◌, ◌<◌}
use mathlib.Core.Path.{◌≡◌, refl, ap, ◌∙◌}
use mathlib.Core.Bool.{Bool, true, false}
use mathlib.Core.List.{[], ◌++◌}
use mathlib.Core.Option.{Option, none, some}
use native.Mathlib.Omega.{arith}
use Rattle.runs.specs.Machine.{Machine}
use Rattle.runs.specs.inner.Lists.{keep}
use Rattle.event_log.specs.Log.{Log}
use Rattle.formula.specs.Formula.{Formula}
use Rattle.runs.specs.inner.Search as Runs
use Rattle.machine.specs.Configuration.{Config}
use Rattle.machine.specs.Machine.{machine, fire_at}
use Rattle.slots.specs.declared.Thread.{Thread}
use Rattle.threads.specs.inner.Setting.{conf, thread}
use Rattle.threads.specs.inner.Calls.{move_by}

-- the steps from k on: what step k leaves, then those from the next on
pub firing-next : (g : Log) (fm : Formula) (t : Thread) (n k s r : ℕ) → s ≡ suc r
    → Runs.firing (machine g fm) (thread g fm t) n k s ≡ move_by g fm t n k ++ Runs.firing (machine g fm) (thread g fm t) n (suc k) r
unfolding Runs.firing
firing-next g fm t n k s r q = ap (Runs.firing (machine g fm) (thread g fm t) n k) q ∙ by (fire_at g fm (conf g fm t) n k)
  where
    by : (o : Option Config)
        → Runs.arrive (machine g fm) (thread g fm t) n k o (Runs.firing (machine g fm) (thread g fm t) n (suc k) r)
        ≡ Runs.arrive (machine g fm) (thread g fm t) n k o [] ++ Runs.firing (machine g fm) (thread g fm t) n (suc k) r
    by none = refl
    by (some d) = refl

module _ (M : Machine) where
  open M use {Config, committed, final, fire, steps}

  module _ (n : ℕ) (th : Runs.Thread M) where
    -- of so many steps none ends a run: neither what they leave nor the first of it has ended
    firing-open : (k r : ℕ) → ((j : ℕ) → j < k + r → (d : Config) → fire th.config n j ≡ some d → final d ≡ false) → (b : Bool)
        → keep (Runs.ended M) (Runs.chosen M b (Runs.firing M th n k r)) ≡ []
    unfolding Runs.firing keep
    firing-open k zero h true = refl
    firing-open k zero h false = refl
    firing-open k (suc r) h b = go (fire th.config n k) refl b (firing-open (suc k) r (λ j l. h j (omega (arith, l))))
      where
        go : (o : Option Config) → fire th.config n k ≡ o → (c : Bool)
            → ((a : Bool) → keep (Runs.ended M) (Runs.chosen M a (Runs.firing M th n (suc k) r)) ≡ [])
            → keep (Runs.ended M) (Runs.chosen M c (Runs.arrive M th n k o (Runs.firing M th n (suc k) r))) ≡ []
        go none e c ih = ih c
        go (some d) e true ih = rw (h k (omega arith) d e)
        go (some d) e false ih = rw (h k (omega arith) d e) (ih false)

    -- no step ends a run: no move has ended
    pub moves-open : ((k : ℕ) → k < steps → (d : Config) → fire th.config n k ≡ some d → final d ≡ false) → keep (Runs.ended M) (Runs.moves M n th) ≡ []
    unfolding Runs.moves
    moves-open h = firing-open 0 steps (λ k l. h k (omega (arith, l))) (committed th.config)
