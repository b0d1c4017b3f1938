-- Steps that do not depend on the event, and the search's lists with such steps left out.
use Rattle.std.specs.Prelude.{◌≡◌, Bool, true, false, List, [], ℕ, zero, suc, ◌≤◌, ◌<◌}
use Rattle.std.proofs.Math.Option.{Option, none, some}
use Rattle.runs.specs.inner.Lists.{keep, in_turn}
use Rattle.runs.specs.Machine.{Machine}
use Rattle.runs.specs.inner.Search.{Thread, arrive, chosen, unended, hopeful, end_of}
use Rattle.runs.specs.inner.Threads.{insert_within, chain}
use Rattle.runs.specs.inner.Settle.{stayers}

module _ (M : Machine) where
  open M use {Config, committed, fire, steps}

  -- from event n on, in the stretch of event i, step k of c does the same on every event; where it fires, it leads into an
  -- ordinary state
  pub record Still (i n : ℕ) (c : Config) (k : ℕ) : Type 0 where
    pub same : (m : ℕ) → n ≤ m → m < end_of M i → fire c m k ≡ fire c n k
    pub ordinary : (d : Config) → fire c n k ≡ some d → committed d ≡ false

  abbrev pub unless : Bool → Option Config → Option Config
  unless true o = none
  unless false o = o

  -- what the r steps from k on leave on event n, without the steps that are left out
  unfoldable pub firing_but : (ℕ → Bool) → Thread M → ℕ → ℕ → ℕ → List (Thread M)
  firing_but out th n k zero = []
  firing_but out th n k (suc r) = arrive M th n k (unless (out k) (fire th.config n k)) (firing_but out th n (suc k) r)

  unfoldable pub moves_but : (Thread M → ℕ → Bool) → ℕ → Thread M → List (Thread M)
  moves_but out n th = chosen M (committed th.config) (firing_but (out th) th n 0 steps)

  unfoldable pub arrivals_but : (Thread M → ℕ → Bool) → ℕ → Thread M → List (Thread M)
  arrivals_but out n th = keep (hopeful M n) (keep (unended M) (moves_but out n th))

  unfoldable pub movers_but : (Thread M → ℕ → Bool) → ℕ → List (Thread M) → List (Thread M)
  movers_but out n ths = in_turn (arrivals_but out n) ths

  -- the waiting list after event n, from the moves that are left
  unfoldable pub settle_but : (Thread M → ℕ → Bool) → ℕ → ℕ → List (Thread M) → Option (List (Thread M))
  settle_but out slots n ths = chain M (insert_within M slots [] (movers_but out n ths)) (λ fresh. insert_within M slots (stayers M n ths) fresh)
