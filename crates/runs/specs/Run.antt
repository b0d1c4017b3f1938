-- 'Runs': trails, what it is to follow one, runs and partial runs.
use Rattle.std.specs.Prelude.{◌≡◌, true, false, List, [], ◌∷◌, ℕ, suc, ◌≤◌, ◌<◌, length}
use Rattle.std.proofs.Math.Option.{none, some}
use Rattle.runs.specs.Machine.{Machine}

-- one step taken: its event and its step number
pub record Entry : Type 0 where
  pub event : ℕ
  pub step : ℕ

-- the steps taken, in time order
abbrev pub Trail : Type 0
Trail = List Entry

-- the last event of a trail; a for the empty one
abbrev pub last_or : ℕ → Trail → ℕ
last_or a [] = a
last_or a (x ∷ t) = last_or x.event t

abbrev pub last : Trail → ℕ
last t = last_or 0 t

-- 'the first on i'
abbrev pub Starts : ℕ → Trail → Type 0
Starts i [] = ⊥
Starts i (x ∷ t) = x.event ≡ i

module _ (M : Machine) where
  open M use {Config, start, committed, final, fire, steps, stretch, events}

  -- no step fires on event n
  abbrev pub Quiet : Config → ℕ → Type 0
  Quiet c n = (k : ℕ) → k < steps → fire c n k ≡ none

  -- From c, with s the first event after arrival, step k is taken on event n and leaves d.
  -- 'In an ordinary state, steps may be passed over. In a committed state the lowest numbered step that fires is
  -- taken, on the first event after arrival on which any fires.'
  pub record Takes (c : Config) (s n k : ℕ) (d : Config) : Type 0 where
    pub going : final c ≡ false
    pub later : s ≤ n
    pub there : n < events
    pub known : k < steps
    pub fires : fire c n k ≡ some d
    pub lowest : committed c ≡ true → (j : ℕ) → j < k → fire c n j ≡ none
    pub prompt : committed c ≡ true → (m : ℕ) → s ≤ m → m < n → Quiet c m

  -- From c, with s the first event after arrival, the trail leads to e: 'strictly rising events, each firing from the
  -- configuration the last one left'.
  abbrev pub Follow : Config → ℕ → Trail → Config → Type 0
  Follow c s [] e = c ≡ e
  Follow c s (x ∷ t) e = (d : Config) × Takes c s x.event x.step d × Follow d (suc x.event) t e

  -- every event of the trail is of event i's stretch
  abbrev pub Unbroken : ℕ → Trail → Type 0
  Unbroken i [] = Unit {0}
  Unbroken i (x ∷ t) = (stretch x.event ≡ stretch i) × Unbroken i t

  -- '1 to 32 steps on strictly rising events, the first on i, each firing from the configuration the last one left'
  pub record Steps (i : ℕ) (t : Trail) (e : Config) : Type 0 where
    pub least : 1 ≤ length t
    pub most : length t ≤ 32
    pub begins : Starts i t
    pub follows : Follow start i t e
    -- 'No run has events on both sides of a mark'
    pub unbroken : Unbroken i t

  -- 'A run from event i has' these 'and ends in accept or reject.'
  pub record Run (i : ℕ) (t : Trail) (e : Config) : Type 0 where
    pub path : Steps i t e
    pub ends : final e ≡ true

  -- 'A partial run is the same, not yet ended.'
  pub record Partial (i : ℕ) (t : Trail) (e : Config) : Type 0 where
    pub path : Steps i t e
    pub going : final e ≡ false
