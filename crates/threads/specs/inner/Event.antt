-- One event of a search: the least run that ends on it, and the waiting list after it.
use Rattle.std.specs.Prelude.{ℕ, ◌*◌, ◌<◌, ◌≤◌, ◌≡◌, List, [], map, length, Option, Some, None}
use Rattle.std.proofs.Math.Option as Model
use Rattle.base.specs.Lists.{All}
use Rattle.event_log.specs.Log.{Log}
use Rattle.formula.specs.Formula.{Formula}
use Rattle.runs.specs.inner.Search as Runs
use Rattle.runs.specs.inner.Settle.{settle}
use Rattle.machine.specs.Machine.{machine}
use Rattle.slots.specs.declared.Thread.{Thread}
use Rattle.slots.specs.inner.Words.{list}
use Rattle.threads.specs.declared.scene.Scene.{Scene}
use Rattle.threads.specs.declared.Seats.{Seats}
use Rattle.threads.specs.inner.Setting.{Stands, Fit, thread}

-- the thread, if there is one, as the theory has it
abbrev pub best_of : (g : Log) (fm : Formula) → Option Thread → Model.Option (Runs.Thread (machine g fm))
best_of g fm None = Model.none
best_of g fm (Some t) = Model.some (thread g fm t)

-- it is one that a search keeps
abbrev pub BestFits : Log → Formula → Option Thread → Type 0
BestFits g fm None = Unit {0}
BestFits g fm (Some t) = Fit g fm t

-- the threads of a waiting list, as the theory has them
abbrev pub waiting_in : (g : Log) (fm : Formula) (half count : ℕ) (work : List ℕ) → List (Runs.Thread (machine g fm))
waiting_in g fm half count work = map (thread g fm) (list half count work)

-- every thread of the list is one that a search keeps, with at most 31 steps
pub record Kept (g : Log) (fm : Formula) (half count : ℕ) (work : List ℕ) : Type 0 where
  pub fit : All (Fit g fm) (list half count work)
  pub short : All (λ (t : Thread). t.steps < 32) (list half count work)

-- no thread of the list ends a run on event n
abbrev pub NoneEnds : (g : Log) (fm : Formula) (n half count : ℕ) (work : List ℕ) → Type 0
NoneEnds g fm n half count work = Runs.endings (machine g fm) n (waiting_in g fm half count work) ≡ []

-- the slots are within the words, the list within the slots
abbrev pub Seated : Seats → List ℕ → Type 0
Seated s work = (s.slots * 192 ≤ length work) × (s.half < 2) × (s.count ≤ s.slots)

-- the least run that ends on the event, of the threads that wait
abbrev pub EndingIs : Scene → Seats → List ℕ → Option Thread → Type 0
EndingIs s z work r =
    (g : Log) (fm : Formula) → Stands g fm s → Kept g fm z.half z.count work
    → (best_of g fm r ≡ Runs.least (machine g fm) (Runs.endings (machine g fm) s.moment.number (waiting_in g fm z.half z.count work)))
    × BestFits g fm r

-- the waiting list that the theory has stands in the half, as a list of r threads; or it has none
abbrev pub Placed : (g : Log) (fm : Formula) (half : ℕ) → Model.Option (List (Runs.Thread (machine g fm))) → List ℕ → Option ℕ → Type 0
Placed g fm half whole work None = whole ≡ Model.none
Placed g fm half whole work (Some r) = (whole ≡ Model.some (waiting_in g fm half r work)) × Kept g fm half r work

-- where no run ends on the event, the next waiting list stands in the same half, or it has more threads than there are slots
abbrev pub SettledTo : (g : Log) (fm : Formula) (n : ℕ) (z : Seats) (before after : List ℕ) (r : Option ℕ) → Type 0
SettledTo g fm n z before after r = Placed g fm z.half (settle (machine g fm) z.slots n (waiting_in g fm z.half z.count before)) after r

abbrev pub SettledIs : Scene → Seats → List ℕ → List ℕ → Option ℕ → Type 0
SettledIs s z before after r =
    (g : Log) (fm : Formula) → Stands g fm s → Kept g fm z.half z.count before → NoneEnds g fm s.moment.number z.half z.count before
    → SettledTo g fm s.moment.number z before after r
