-- The third demand on an analysis: each kind of row exactly when, by the literal runs alone.
use Rattle.std.specs.Prelude.{ℕ, ◌+◌, ◌*◌, ◌/◌, ◌%◌, ◌^◌, ◌≤◌, ◌<◌, ◌≡◌, ◌↔◌, Bool, true, false, cond, List, length, get_or, drop, replicate, Ok, Err}
use Rattle.refusal.specs.declared.Refusal.TheVariants.{Crowded}
use Rattle.event_log.specs.Log.{Log}
use Rattle.formula.specs.Formula.{Formula}
use Rattle.runs.specs.Lists.{In}
use Rattle.runs.specs.Run.{Trail, last, Run}
use Rattle.runs.specs.Demand as Runs
use Rattle.machine.specs.Configuration.{Config}
use Rattle.machine.specs.Firing.{is_held, value_of}
use Rattle.machine.specs.Machine.{machine}
use Rattle.search.specs.inner.Demand.{Names}
use Rattle.analysis.specs.Analysis.{Analysed}
use Rattle.analysis.specs.Call.{row_at}

-- "every tied variable is held by both with one value" (the same tied values), of one variable v: an earlier run ends in c, this one in d
pub record SameValue (c d : Config) (v : ℕ) : Type 0 where
  pub earlier_holds : is_held c v ≡ true
  pub this_holds : is_held d v ≡ true
  pub one_value : value_of c v ≡ value_of d v

-- "last event, steps, a mask with bit v set if variable v is held, eight values (0 if not held)": the words of a row behind
-- its verdict, of a run that ends in c
pub record Holds (r : List ℕ) (c : Config) (t : Trail) : Type 0 where
  pub last_event : get_or r 1 0 ≡ last t
  pub steps : get_or r 2 0 ≡ length t
  pub mask : (v : ℕ) → v < 8 → get_or r 3 0 / 2 ^ v % 2 ≡ cond (is_held c v) 1 0
  pub eight_bits : get_or r 3 0 < 256
  pub values : (v : ℕ) → v < 8 → is_held c v ≡ true → get_or r (4 + v) 0 ≡ value_of c v
  pub unheld : (v : ℕ) → v < 8 → is_held c v ≡ false → get_or r (4 + v) 0 ≡ 0

-- a log and a formula, so many slots (the paper's seats)
module _ (g : Log) (f : Formula) (slots : ℕ) where
  -- "an earlier start's named run, accepting or rejecting, ends at or after this start (overlaps it)", and "every tied variable is
  -- held by both with one value": c is where the run from i ends
  pub record Overlapped (i : ℕ) (c : Config) : Type 0 where
    pub start : ℕ
    pub earlier : start < i
    pub accepts : Bool
    pub run : Names g f slots start accepts
    pub overlaps : i ≤ last run.trail
    pub tied : (v : ℕ) → In v f.tied → SameValue run.config c v

  -- "An accepting run is subsumed if .."
  pub record Subsumed (i : ℕ) : Type 0 where
    pub run : Names g f slots i true
    pub by : Overlapped i run.config

  -- "otherwise it is an alert"
  pub record Alert (i : ℕ) : Type 0 where
    pub run : Names g f slots i true
    pub otherwise : Overlapped i run.config → ⊥

  -- there is no run from i
  abbrev pub NoRun : ℕ → Type 0
  NoRun i = (t : Trail) (c : Config) → Run (machine g f) i t c → ⊥

  -- "verdict (0 none, 1 alert, 2 subsumed, 3 rejected)": what the row r of start i says
  pub record Row (i : ℕ) (r : List ℕ) : Type 0 where
    pub twelve : length r ≡ 12
    pub none : (get_or r 0 0 ≡ 0) ↔ NoRun i
    pub alert : (get_or r 0 0 ≡ 1) ↔ Alert i
    pub subsumed : (get_or r 0 0 ≡ 2) ↔ Subsumed i
    -- "A rejecting one is rejected"
    pub rejected : (get_or r 0 0 ≡ 3) ↔ Names g f slots i false
    -- "A none row is all 0"
    pub blank : NoRun i → r ≡ replicate 12 0
    -- "Any other row holds its start's named run, the least"
    pub holds : (accepts : Bool) (n : Names g f slots i accepts) → Holds r n.config n.trail

  -- the search from start i is crowded
  pub record CrowdedFrom (i : ℕ) : Type 0 where
    pub event : ℕ
    pub crowded : Runs.Crowded (machine g f) slots i event

  -- i is the first such start
  pub record FirstCrowded (i : ℕ) : Type 0 where
    pub there : i < length g.events
    pub here : CrowdedFrom i
    pub first : (j : ℕ) → j < i → CrowdedFrom j → ⊥

  -- an analysis that was lent these row words
  pub record Demand (lent : List ℕ) (a : Analysed) : Type 0 where
    -- refusal 11, "crowded": its place is "the start in an analysis"
    pub crowded : (i : ℕ) → (a.outcome ≡ Err (Crowded i)) ↔ FirstCrowded i
    pub done : (a.outcome ≡ Ok tt) ↔ ((i : ℕ) → i < length g.events → CrowdedFrom i → ⊥)
    -- "Analysis searches every start in order", "On 11 the rows before that start are written"
    pub rows : (i : ℕ) → i < length g.events → ((j : ℕ) → j ≤ i → CrowdedFrom j → ⊥) → Row i (row_at a.rows i)
    -- "and the rest is untouched"
    pub rest : (i : ℕ) → FirstCrowded i → drop (12 * i) a.rows ≡ drop (12 * i) lent
    -- "Rows need 12 words an event; further words stay untouched"
    pub further : drop (12 * length g.events) a.rows ≡ drop (12 * length g.events) lent
    pub all : length a.rows ≡ length lent
