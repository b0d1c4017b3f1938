-- 'Waiting after n': which configurations wait, and how many.
use Rattle.std.specs.Prelude.{◌≡◌, true, false, List, ℕ, ◌≤◌, ◌<◌, length}
use Rattle.runs.specs.Lists.{In, Distinct}
use Rattle.runs.specs.Machine.{Machine}
use Rattle.runs.specs.Run.{Trail, last, Quiet, Partial}

module _ (M : Machine) where
  open M use {Config, committed, expired, steps, stretch}

  -- some step is not expired (hopeless) after n
  pub record Hopeful (c : Config) (n : ℕ) : Type 0 where
    pub step : ℕ
    pub known : step < steps
    pub alive : expired c step n ≡ false

  -- 'Waiting after n are the distinct configurations of partial runs from the search's start, of 1 to 31 steps on events
  -- up to n, in which no committed state has let a firing event pass, and from which some step is not hopeless.'
  pub record Waits (i n : ℕ) (c : Config) : Type 0 where
    pub trail : Trail
    pub partial : Partial M i trail c
    pub most : length trail ≤ 31
    pub upto : last trail ≤ n
    pub patient : committed c ≡ true → (m : ℕ) → last trail < m → m ≤ n → Quiet M c m
    pub hope : Hopeful c n
    -- '.. and no configuration waits across one'
    pub unbroken : stretch n ≡ stretch i

  -- exactly k configurations wait after n: a list without repeats of just these, k long
  pub record Count (i n k : ℕ) : Type 0 where
    pub list : List Config
    pub once : Distinct list
    pub sound : (c : Config) → In c list → Waits i n c
    pub complete : (c : Config) → Waits i n c → In c list
    pub counted : length list ≡ k
