-- 'Search': the answer, computed from every live partial run, event by event.
use Rattle.std.specs.Prelude.{Bool, true, false, cond, not, ◌&&◌, ◌||◌, List, [], ◌∷◌, ◌++◌, map, ltb, leb, eqb, length, take}
use Rattle.std.proofs.Math.Option.{Option, none, some}
use Prim.Native.Nat.{ℕ, zero, suc, ◌-◌, max, Ordering}
use Rattle.runs.specs.inner.Lists.{only, keep, in_turn, distinct}
use Rattle.runs.specs.Machine.{Machine}
use Rattle.runs.specs.Run.{Trail}
use Rattle.runs.specs.inner.Order.{order}
use Rattle.runs.specs.Answer.{Answer, found, absent, crowded}

-- a configuration with a trail that leads to it
pub record ThreadOver (Config : Type 0) : Type 0 where
  pub config : Config
  pub trail : Trail

-- of a machine: machines with one type of configurations have one type of threads
abbrev pub Thread : Machine → Type 0
Thread M = ThreadOver M.Config

abbrev pub begun : Trail → Bool
begun [] = false
begun (x ∷ t) = true

module _ (M : Machine) where
  open M use {Config, same, start, committed, final, fire, expired, steps, stretch, events}

  abbrev pub arrive : Thread M → ℕ → ℕ → Option Config → List (Thread M) → List (Thread M)
  arrive th n k none rest = rest
  arrive th n k (some d) rest = record { config = d; trail = th.trail ++ (record { event = n; step = k } ∷ []) } ∷ rest

  -- what the r steps from k on leave on event n, by rising step number
  unfoldable pub firing : Thread M → ℕ → ℕ → ℕ → List (Thread M)
  firing th n k zero = []
  firing th n k (suc r) = arrive th n k (fire th.config n k) (firing th n (suc k) r)

  -- 'In a committed state the lowest numbered step that fires is taken'
  abbrev pub chosen : Bool → List (Thread M) → List (Thread M)
  chosen false ms = ms
  chosen true ms = take 1 ms

  unfoldable pub moves : ℕ → Thread M → List (Thread M)
  moves n th = chosen (committed th.config) (firing th n 0 steps)

  -- whether the event may be passed over, by what would fire on it
  abbrev pub passes_over : Bool → List (Thread M) → Bool
  passes_over false ms = true
  passes_over true [] = true
  passes_over true (m ∷ ms) = false

  -- 'steps may be passed over'; not in a committed state where one fires, and never before the first step
  unfoldable pub stays : ℕ → Thread M → Bool
  stays n th = begun th.trail && passes_over (committed th.config) (firing th n 0 steps)

  -- a partial run that may wait: 'not yet ended', 'of 1 to 31 steps'
  unfoldable pub unended : Thread M → Bool
  unended th = not (final th.config) && leb (length th.trail) 31

  -- the thread as it stands and as it moves on event n
  unfoldable pub offers : ℕ → Thread M → List (Thread M)
  offers n th = only (stays n th) th (keep unended (moves n th))

  unfoldable pub next : ℕ → List (Thread M) → List (Thread M)
  next n ths = in_turn (offers n) ths

  abbrev pub ended : Thread M → Bool
  ended th = final th.config

  -- the runs that end on event n
  unfoldable pub endings : ℕ → List (Thread M) → List (Thread M)
  endings n ths = in_turn (λ (th : Thread M). keep ended (moves n th)) ths

  abbrev pub pick : Ordering → Thread M → Thread M → Thread M
  pick Ordering.lt a b = a
  pick Ordering.eq a b = a
  pick Ordering.gt a b = b

  -- the lesser of what was least so far and one thread more
  unfoldable pub lesser : Option (Thread M) → Thread M → Thread M
  lesser none b = b
  lesser (some a) b = pick (order a.trail b.trail) a b

  unfoldable pub least_from : Option (Thread M) → List (Thread M) → Option (Thread M)
  least_from best [] = best
  least_from best (th ∷ ths) = least_from (some (lesser best th)) ths

  unfoldable pub least : List (Thread M) → Option (Thread M)
  least ths = least_from none ths

  -- some of the first r steps is not expired after n
  unfoldable pub any_alive : Config → ℕ → ℕ → Bool
  any_alive c n zero = false
  any_alive c n (suc r) = not (expired c r n) || any_alive c n r

  unfoldable pub hopeful : ℕ → Thread M → Bool
  hopeful n th = any_alive th.config n steps

  -- the distinct configurations that wait after n
  unfoldable pub waiting : ℕ → List (Thread M) → List Config
  waiting n ths = distinct same (map (λ (th : Thread M). th.config) (keep (hopeful n) ths))

  unfoldable pub waiting_count : ℕ → List (Thread M) → ℕ
  waiting_count n ths = length (waiting n ths)

  abbrev pub overfull : Bool → ℕ → Answer M → Answer M
  overfull true n rest = crowded n
  overfull false n rest = rest

  abbrev pub outcome : Option (Thread M) → ℕ → Answer M → Answer M
  outcome (some th) peak rest = found th.config th.trail peak
  outcome none peak rest = rest

  -- From event n on, for so many events: the least of the runs that end on n; otherwise crowded, if more wait after n
  -- than there are slots; otherwise the next event.
  unfoldable pub scan : (ℕ → List (Thread M) → List (Thread M)) → (ℕ → List (Thread M) → ℕ) → ℕ → ℕ → ℕ → List (Thread M) → ℕ → Answer M
  scan onward count slots zero n ths peak = absent peak
  scan onward count slots (suc f) n ths peak =
      let then-kept = onward n ths in
      let now = count n then-kept in
      let rest = scan onward count slots f (suc n) then-kept (max peak now) in
      let unless-crowded = overfull (ltb slots now) n rest in
      outcome (least (endings n ths)) peak unless-crowded

  -- before the first step
  unfoldable pub origin : List (Thread M)
  origin = record { config = start; trail = [] } ∷ []

  -- the first of at most f events from n on that is not of stretch s; behind them, what follows
  unfoldable pub end_from : ℕ → ℕ → ℕ → ℕ
  end_from s zero n = n
  end_from s (suc f) n = cond (eqb (stretch n) s) (end_from s f (suc n)) n

  -- where the stretch of event i ends
  unfoldable pub end_of : ℕ → ℕ
  end_of i = end_from (stretch i) (events - i) i

  -- the search from event i with so many slots (the paper's seats)
  unfoldable pub search : ℕ → ℕ → Answer M
  search slots i = scan next waiting_count slots (end_of i - i) i origin 0
