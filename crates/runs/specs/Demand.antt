-- Of the third demand: when a search from event i is crowded, and its width, in the words of 'Search and analysis'.
use Rattle.std.specs.Prelude.{◌≡◌, ℕ, ◌≤◌, ◌<◌}
use Rattle.runs.specs.Machine.{Machine}
use Rattle.runs.specs.Run.{Trail, last, Run}
use Rattle.runs.specs.Waiting.{Count}

module _ (M : Machine) where
  open M use {Config, events}

  -- exactly k configurations wait after n, and k is more than there are slots
  pub record More (slots i n : ℕ) : Type 0 where
    pub number : ℕ
    pub count : Count M i n number
    pub over : slots < number

  -- 'after some event n from the start on, no run from the start has ended at or before n and more configurations wait
  -- than there are seats'
  pub record Crowded (slots i n : ℕ) : Type 0 where
    pub from : i ≤ n
    pub there : n < events
    pub unended : (u : Trail) (e : Config) → Run M i u e → n < last u
    pub more : More slots i n

  -- 'the largest number waiting after any event from the start, before' event e; '0 if no such event'
  pub record Reached (i e p : ℕ) : Type 0 where
    pub event : ℕ
    pub from : i ≤ event
    pub before : event < e
    pub count : Count M i event p

  pub record Peak (i e p : ℕ) : Type 0 where
    pub largest : (n k : ℕ) → i ≤ n → n < e → Count M i n k → k ≤ p
    pub reached : i < e → Reached i e p
    pub nothing : e ≤ i → p ≡ 0

  -- 'Refusal 11: ..; n is the first such event'
  pub record FirstCrowded (slots i n : ℕ) : Type 0 where
    pub here : Crowded slots i n
    pub first : (m : ℕ) → m < n → Crowded slots i m → ⊥
