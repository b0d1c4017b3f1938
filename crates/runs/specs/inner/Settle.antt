-- The search as a list of threads with those that stay kept first, so that an event on which no thread moves changes
-- nothing: one least trail a configuration, nothing kept whose steps have all expired, and no more threads than slots. It
-- gives what `search` gives.
use Rattle.std.specs.Prelude.{Bool, ◌&&◌, List, [], ℕ, zero, suc, ◌-◌, max, length}
use Rattle.std.proofs.Math.Option.{Option}
use Rattle.runs.specs.inner.Lists.{keep, in_turn}
use Rattle.runs.specs.Machine.{Machine}
use Rattle.runs.specs.Answer.{Answer, absent}
use Rattle.runs.specs.inner.Search.{Thread, moves, stays, unended, endings, least, hopeful, outcome, origin, end_of}
use Rattle.runs.specs.inner.Threads.{insert_within, chain, onward}

module _ (M : Machine) where
  -- whether the thread waits after n as it stands
  unfoldable pub lasts : ℕ → Thread M → Bool
  lasts n th = stays M n th && hopeful M n th

  -- the threads that wait after n as they stand
  unfoldable pub stayers : ℕ → List (Thread M) → List (Thread M)
  stayers n ths = keep (lasts n) ths

  -- what the thread's moves on event n leave that may wait after n
  unfoldable pub arrivals : ℕ → Thread M → List (Thread M)
  arrivals n th = keep (hopeful M n) (keep (unended M) (moves M n th))

  -- the arrivals of every thread, in order
  unfoldable pub movers : ℕ → List (Thread M) → List (Thread M)
  movers n ths = in_turn (arrivals n) ths

  -- the waiting list after event n: the movers, made distinct among themselves, are inserted into the stayers; given up as
  -- soon as either list is longer than there are slots
  unfoldable pub settle : ℕ → ℕ → List (Thread M) → Option (List (Thread M))
  settle slots n ths = chain M (insert_within M slots [] (movers n ths)) (λ fresh. insert_within M slots (stayers n ths) fresh)

  -- from event n on, for so many events: the least ending; else crowded; else the next event
  unfoldable pub pursue : ℕ → ℕ → ℕ → List (Thread M) → ℕ → Answer M
  pursue slots zero n ths peak = absent peak
  pursue slots (suc f) n ths peak =
      let rest = onward M (settle slots n ths) n (λ more. pursue slots f (suc n) more (max peak (length more))) in
      outcome M (least M (endings M n ths)) peak rest

  -- the search from event i with so many slots
  unfoldable pub swift : ℕ → ℕ → Answer M
  swift slots i = pursue slots (end_of M i - i) i (origin M) 0
