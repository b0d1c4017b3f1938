-- The third demand on a search's answer, over the abstract machine.
use Rattle.std.specs.Prelude.{◌≡◌, ◌⊎◌, ℕ}
use Rattle.runs.specs.Machine.{Machine}
use Rattle.runs.specs.Run.{Trail, last, Run}
use Rattle.runs.specs.Order.{Later}
use Rattle.runs.specs.Answer.{Answer, found, absent, crowded}
use Rattle.runs.specs.Demand.{Crowded, Peak, FirstCrowded}

module _ (M : Machine) where
  open M use {Config, events}

  -- 'Otherwise the search gives .. the least run', 'It also carries the width: .. before the run's last event'
  pub record Named (slots i : ℕ) (e : Config) (t : Trail) (p : ℕ) : Type 0 where
    pub roomy : (n : ℕ) → Crowded M slots i n → ⊥
    pub run : Run M i t e
    pub least : (u : Trail) (d : Config) → Run M i u d → (u ≡ t) ⊎ Later t u
    pub peak : Peak M i (last t) p

  -- '.. or none'
  pub record Absent (slots i p : ℕ) : Type 0 where
    pub roomy : (n : ℕ) → Crowded M slots i n → ⊥
    pub none : (u : Trail) (d : Config) → Run M i u d → ⊥
    pub peak : Peak M i events p

  abbrev pub Demand : ℕ → ℕ → Answer M → Type 0
  Demand slots i (found e t p) = Named slots i e t p
  Demand slots i (absent p) = Absent slots i p
  Demand slots i (crowded n) = FirstCrowded M slots i n
