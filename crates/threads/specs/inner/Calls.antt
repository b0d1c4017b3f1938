-- What each function of one event gives, for every log and formula for which its scene stands.
use Rattle.std.specs.Prelude.{ℕ, ◌+◌, ◌-◌, ◌<◌, ◌≤◌, ◌≡◌, Bool, true, false, not, ◌&&◌, List, [], ◌∷◌, ◌++◌, length, get_or, take, eqb, ltb, Option, Some, None, IfSome}
use Rattle.std.proofs.Math.Option as Model
use Rattle.base.specs.Lists.{same_list, some_below}
use Rattle.event_log.specs.Log.{Log, Values, field}
use Rattle.formula.specs.Formula.{Formula}
use Rattle.runs.specs.inner.Lists.{only, keep}
use Rattle.runs.specs.inner.Search as Runs
use Rattle.runs.specs.inner.Threads.{insert_within}
use Rattle.runs.specs.inner.Settle.{stayers, movers, settle}
use Rattle.machine.specs.Configuration.{Config, same}
use Rattle.machine.specs.Machine.{machine, fire_at, final, committed}
use Rattle.machine_code.specs.inner.Bytes.{config_of, offset_of, is_step}
use Rattle.slots.specs.declared.Thread.{Thread}
use Rattle.slots.specs.inner.Threads.{trail_of, same_words, position}
use Rattle.slots.specs.inner.Words.{thread_at, place, list}
use Rattle.threads.specs.declared.Choice.{Choice}
use Rattle.threads.specs.declared.Sifted.{Sifted}
use Rattle.threads.specs.declared.Rules.{Rules}
use Rattle.threads.specs.declared.Seats.{Seats}
use Rattle.threads.specs.declared.scene.Scene.{Scene}
use Rattle.machine.specs.inner.Along.{gathered, tallies, IsFresh}
use Rattle.lists.specs.inner.Words.{Holds}
use Rattle.threads.specs.inner.Setting.{Stands, Fit, conf, thread}
use Rattle.threads.specs.inner.Event.{best_of, BestFits, waiting_in, Kept, NoneEnds, Placed}

-- ---- one step

-- the thread in the configuration that a step leaves, its trail as before
pub record Fired (t : Thread) (d : Config) (r : Thread) : Type 0 where
  pub leaves : config_of d.lists r.config ≡ d
  pub same_steps : r.steps ≡ t.steps
  pub same_trail : r.trail ≡ t.trail
  pub tallied : r.config.tallies ≡ tallies d.lists

abbrev pub FiredBy : Model.Option Config → Thread → Option Thread → Type 0
FiredBy Model.none t r = r ≡ None
FiredBy (Model.some d) t None = ⊥
FiredBy (Model.some d) t (Some r) = Fired t d r

-- what step k of the thread's state leaves on the event, if it fires
abbrev pub FiresIs : Scene → Thread → ℕ → Option Thread → Type 0
FiresIs s t k r = (g : Log) (fm : Formula) → Stands g fm s → Fit g fm t → k < 8 → FiredBy (fire_at g fm (conf g fm t) s.moment.number k) t r

-- where step k of the thread's state fires, it leads to a state that accepts or rejects
abbrev pub EndsIs : Scene → ℕ → ℕ → Bool → Type 0
EndsIs s state k r =
    (g : Log) (fm : Formula) → Stands g fm s → k < 8 → (t : Thread) → t.config.state ≡ state → Fit g fm t → (d : Config)
    → fire_at g fm (conf g fm t) s.moment.number k ≡ Model.some d → final fm d ≡ r

-- where step k fires of a thread in this state that holds these, what it leads to accepts or rejects, or does not
abbrev pub LeadsIs : Scene → ℕ → List Bool → List ℕ → ℕ → Bool → Type 0
LeadsIs s state held prior k b =
    (g : Log) (fm : Formula) → Stands g fm s → (t : Thread) → t.config.state ≡ state → t.config.held ≡ held → t.config.values ≡ prior → Fit g fm t
    → (d : Config) → fire_at g fm (conf g fm t) s.moment.number k ≡ Model.some d → final fm d ≡ b

-- a step that may not end runs does not, and one that may leave nothing that waits ends runs, where it fires at all; one that may stands in the table
abbrev pub MayIs : Scene → ℕ → List Bool → List ℕ → ℕ → Bool → Bool → Type 0
MayIs s state held prior k ends r =
    (r ≡ false → k < 8 → LeadsIs s state held prior k (not ends)) × (r ≡ true → is_step s.formula.now (offset_of s.table.now state k) ≡ true)

abbrev pub CanEndIs : Scene → ℕ → List Bool → List ℕ → Bool → Type 0
CanEndIs s state held prior r = r ≡ false → (k : ℕ) → k < 8 → LeadsIs s state held prior k false

-- no step of the thread's state that fires on event n leads to a state that accepts or rejects
abbrev pub EndsNothing : Log → Formula → Thread → ℕ → Type 0
EndsNothing g fm t n = (k : ℕ) → k < 8 → (d : Config) → fire_at g fm (conf g fm t) n k ≡ Model.some d → final fm d ≡ false

-- step k fires on event n
pub record Fires (g : Log) (fm : Formula) (c : Config) (n k : ℕ) : Type 0 where
  pub left : Config
  pub is : fire_at g fm c n k ≡ Model.some left

-- steps before k, where they fire, lead elsewhere
abbrev pub Passed : Scene → Thread → Bool → ℕ → Type 0
Passed s t ends n =
    (g : Log) (fm : Formula) → Stands g fm s → Fit g fm t → (k : ℕ) → k < n → (d : Config)
    → fire_at g fm (conf g fm t) s.moment.number k ≡ Model.some d → final fm d ≡ not ends

-- and step k, if it was found, fires
abbrev pub FirstTakenIs : Scene → Thread → Bool → Option ℕ → Type 0
FirstTakenIs s t ends None = Passed s t ends 8
FirstTakenIs s t ends (Some k) =
    (k < 8) × Passed s t ends k × ((g : Log) (fm : Formula) → Stands g fm s → Fit g fm t → Fires g fm (conf g fm t) s.moment.number k)

abbrev pub MayEndIs : Scene → Thread → Bool → Type 0
MayEndIs s t r = r ≡ false → (g : Log) (fm : Formula) → Stands g fm s → Fit g fm t → EndsNothing g fm t s.moment.number

-- some step of the thread's state is not expired (the paper's hopeless) after the event
abbrev pub HopefulIs : Scene → Thread → Bool → Type 0
HopefulIs s t r =
    (g : Log) (fm : Formula) → Stands g fm s → Fit g fm t → r ≡ Runs.any_alive (machine g fm) (conf g fm t) s.moment.number 8

-- a thread that a search keeps, with room in its trail for one step more
pub record Going (g : Log) (fm : Formula) (t : Thread) : Type 0 where
  pub fit : Fit g fm t
  pub short : t.steps < 32

-- the thread with step k taken on event n
pub record Stepped (g : Log) (fm : Formula) (t : Thread) (n k : ℕ) (d : Config) (r : Thread) : Type 0 where
  pub is : thread g fm r ≡ record { config = d; trail = trail_of t ++ (record { event = n; step = k } ∷ []) }
  pub fit : Fit g fm r

abbrev pub MovedBy : (g : Log) (fm : Formula) → Model.Option Config → Thread → ℕ → ℕ → Option Thread → Type 0
MovedBy g fm Model.none t n k r = r ≡ None
MovedBy g fm (Model.some d) t n k None = ⊥
MovedBy g fm (Model.some d) t n k (Some r) = Stepped g fm t n k d r

abbrev pub MovedIs : Scene → Thread → ℕ → Option Thread → Type 0
MovedIs s t k r =
    (g : Log) (fm : Formula) → Stands g fm s → Going g fm t → MovedBy g fm (fire_at g fm (conf g fm t) s.moment.number k) t s.moment.number k r

-- "the lowest numbered step that fires", if one does
abbrev pub Lowest : (g : Log) (fm : Formula) (c : Config) (n : ℕ) → Option ℕ → Type 0
Lowest g fm c n None = (j : ℕ) → j < 8 → fire_at g fm c n j ≡ Model.none
Lowest g fm c n (Some k) = ((j : ℕ) → j < k → fire_at g fm c n j ≡ Model.none) × Fires g fm c n k

-- a step number
abbrev pub StepNumber : Option ℕ → Type 0
StepNumber r = IfSome r (λ k. k < 8)

abbrev pub LowestIs : Scene → Thread → Option ℕ → Type 0
LowestIs s t r = StepNumber r × ((g : Log) (fm : Formula) → Stands g fm s → Fit g fm t → Lowest g fm (conf g fm t) s.moment.number r)

-- no move of the thread ends a run on event n
abbrev pub NoEnding : Log → Formula → Thread → ℕ → Type 0
NoEnding g fm t n = keep (Runs.ended (machine g fm)) (Runs.moves (machine g fm) n (thread g fm t)) ≡ []

-- r is the lowest step of a thread in a committed state, if it is known to end no run there
abbrev pub LowestByIs : Scene → Thread → Bool → Option ℕ → Type 0
LowestByIs s t endless r =
    (g : Log) (fm : Formula) → Stands g fm s → Fit g fm t → committed fm (conf g fm t) ≡ true → (endless ≡ true → NoEnding g fm t s.moment.number)
    → Lowest g fm (conf g fm t) s.moment.number r

-- "In an ordinary state, steps may be passed over. In a committed state the lowest numbered step that fires is taken": the moves
-- are those of a range of steps
pub record Chosen (g : Log) (fm : Formula) (t : Thread) (n : ℕ) (r : Choice) : Type 0 where
  pub moves_are : Runs.moves (machine g fm) n (thread g fm t) ≡ Runs.firing (machine g fm) (thread g fm t) n r.from (r.to - r.from)
  pub stays_is : r.stays ≡ Runs.stays (machine g fm) n (thread g fm t)

-- where what was found as the lowest step is that, if the thread is known to end no run
abbrev pub ChoiceIs : Scene → Thread → (Option ℕ → Type 0) → Choice → Type 0
ChoiceIs s t Found r =
    (r.to ≤ 8)
    × ((endless : Bool) → ((k : Option ℕ) → Found k → LowestByIs s t endless k)
    → (g : Log) (fm : Formula) → Stands g fm s → Fit g fm t → (endless ≡ true → NoEnding g fm t s.moment.number) → Chosen g fm t s.moment.number r)

-- ---- the least run that ends

-- the least of the best so far and of those of the threads that have ended
pub record Improved (g : Log) (fm : Formula) (best : Option Thread) (xs : List (Runs.Thread (machine g fm))) (r : Option Thread) : Type 0 where
  pub least : best_of g fm r ≡ Runs.least_from (machine g fm) (best_of g fm best) (keep (Runs.ended (machine g fm)) xs)
  pub fits : BestFits g fm r

-- what step k of the thread's state leaves on event n, as a list of one thread or none
abbrev pub move_by : (g : Log) (fm : Formula) → Thread → ℕ → ℕ → List (Runs.Thread (machine g fm))
move_by g fm t n k = Runs.arrive (machine g fm) (thread g fm t) n k (fire_at g fm (conf g fm t) n k) []

abbrev pub ImprovedIs : Scene → Option Thread → Thread → ((g : Log) (fm : Formula) → List (Runs.Thread (machine g fm))) → Option Thread → Type 0
ImprovedIs s best t xs r = (g : Log) (fm : Formula) → Stands g fm s → Going g fm t → BestFits g fm best → Improved g fm best (xs g fm) r

abbrev pub BetterIs : Scene → Option Thread → Thread → ℕ → Option Thread → Type 0
BetterIs s best t k r = ImprovedIs s best t (λ g fm. move_by g fm t s.moment.number k) r

abbrev pub EndedIs : Scene → Option Thread → Thread → Option Thread → Type 0
EndedIs s best t r = ImprovedIs s best t (λ g fm. Runs.moves (machine g fm) s.moment.number (thread g fm t)) r

-- ---- the waiting list

-- the lists gathered along the thread's trail, as words
abbrev pub ListsIs : Scene → Thread → List ℕ → Type 0
ListsIs s t r = (g : Log) (fm : Formula) → Stands g fm s → Fit g fm t → Holds (gathered g fm (trail_of t)) r

-- which of these values are new to its lists
abbrev pub FreshIs : Scene → Thread → List ℕ → List Bool → Type 0
FreshIs s t values r =
    (g : Log) (fm : Formula) → Stands g fm s → Fit g fm t → (e : Values) → ((k : ℕ) → k < 8 → get_or values k 0 ≡ field e k)
    → IsFresh (gathered g fm (trail_of t)) e r

-- two threads with the same words have gathered the same lists
abbrev pub SameListsIs : Scene → Thread → Thread → Bool → Type 0
SameListsIs s a b r =
    (g : Log) (fm : Formula) → Stands g fm s → Fit g fm a → Fit g fm b → same_words a.config b.config ≡ true
    → r ≡ same_list (same_list eqb) (gathered g fm (trail_of a)) (gathered g fm (trail_of b))

-- threads that stand for the same configuration
abbrev pub same_as : Log → Formula → Thread → Thread → Bool
same_as g fm b a = same (conf g fm a) (conf g fm b)

-- where the first thread of the list stands that stands for b's configuration
abbrev pub FoundIs : Scene → Seats → Thread → List ℕ → Option ℕ → Type 0
FoundIs s z b work r =
    (g : Log) (fm : Formula) → Stands g fm s → Kept g fm z.half z.count work → Fit g fm b
    → r ≡ some_below z.count (position (same_as g fm b) (list z.half z.count work))

-- what inserting into the list of one half leaves of the other words; the count of the list is within the slots
pub record Grown (half slots : ℕ) (before after : List ℕ) (r : Option ℕ) : Type 0 where
  pub most : IfSome r (λ n. n ≤ slots)
  pub other : (m : ℕ) → m ≤ slots → list (1 - half) m after ≡ list (1 - half) m before
  pub sized : length after ≡ length before

-- the threads bs were inserted one by one within the slots: the list of r threads stands in the half, or one slot more was needed
abbrev pub Within : (g : Log) (fm : Formula) (half slots : ℕ) (ths bs : List (Runs.Thread (machine g fm))) (after : List ℕ) (r : Option ℕ) → Type 0
Within g fm half slots ths bs after r = Placed g fm half (insert_within (machine g fm) slots ths bs) after r

-- the same, where a thread has the property, into the list that stood there
abbrev pub InsertedIs : Scene → Seats → (Log → Formula → Type 0) → ((g : Log) (fm : Formula) → List (Runs.Thread (machine g fm))) → List ℕ → List ℕ
    → Option ℕ → Type 0
InsertedIs s z Q bs before after r =
    Grown z.half z.slots before after r
    × ((g : Log) (fm : Formula) → Stands g fm s → Kept g fm z.half z.count before → Q g fm
    → Within g fm z.half z.slots (waiting_in g fm z.half z.count before) (bs g fm) after r)

-- the thread
abbrev pub InsertIs : Scene → Seats → Thread → List ℕ → List ℕ → Option ℕ → Type 0
InsertIs s z b before after r = InsertedIs s z (λ g fm. Going g fm b) (λ g fm. thread g fm b ∷ []) before after r

-- the thread, if some step of its state is not expired
abbrev pub WaitsIs : Scene → Seats → Thread → List ℕ → List ℕ → Option ℕ → Type 0
WaitsIs s z b before after r =
    InsertedIs s z (λ g fm. Going g fm b) (λ g fm. keep (Runs.hopeful (machine g fm) s.moment.number) (thread g fm b ∷ [])) before after r

-- "Waiting after n are the distinct configurations of partial runs .. of 1 to 31 steps .. from which some step is not hopeless":
-- those of the threads that may wait after n
abbrev pub offered : (g : Log) (fm : Formula) → ℕ → List (Runs.Thread (machine g fm)) → List (Runs.Thread (machine g fm))
offered g fm n xs = keep (Runs.hopeful (machine g fm) n) (keep (Runs.unended (machine g fm)) xs)

abbrev pub OfferIs : Scene → Seats → Thread → List ℕ → List ℕ → Option ℕ → Type 0
OfferIs s z b before after r =
    InsertedIs s z (λ g fm. Fit g fm b) (λ g fm. offered g fm s.moment.number (thread g fm b ∷ [])) before after r

-- what the thread's step k leaves, if it may wait
abbrev pub OfferMoveIs : Scene → Seats → Thread → ℕ → List ℕ → List ℕ → Option ℕ → Type 0
OfferMoveIs s z t k before after r =
    InsertedIs s z (λ g fm. Going g fm t) (λ g fm. offered g fm s.moment.number (move_by g fm t s.moment.number k)) before after r

-- what the steps that the thread may take leave, by rising step number
abbrev pub OfferMovesIs : Scene → Seats → Thread → Choice → List ℕ → List ℕ → Option ℕ → Type 0
OfferMovesIs s z t choice before after r =
    InsertedIs s z (λ g fm. Going g fm t)
    (λ g fm. offered g fm s.moment.number (Runs.firing (machine g fm) (thread g fm t) s.moment.number choice.from (choice.to - choice.from))) before after r

-- ---- the threads that stay

-- the thread of slot j was kept at the end of the list, or dropped: r threads are there then; those behind it stay, and the other half
pub record Remained (half count j : ℕ) (t : Thread) (before after : List ℕ) (r : ℕ) : Type 0 where
  pub least : count ≤ r
  pub most : r ≤ count + 1
  pub listed : list half r after ≡ list half count before ++ only (ltb count r) t []
  pub behind : (i : ℕ) → j < i → thread_at after (place half i) ≡ thread_at before (place half i)
  pub other : (m : ℕ) → list (1 - half) m after ≡ list (1 - half) m before
  pub sized : length after ≡ length before

-- it was kept exactly where it may stay and wait
abbrev pub RemainIs : Scene → Seats → Thread → Bool → ℕ → List ℕ → List ℕ → ℕ → Type 0
RemainIs s z t stays j before after r =
    Remained z.half z.count j t before after r
    × ((g : Log) (fm : Formula) → Stands g fm s → Going g fm t
    → ltb z.count r ≡ (stays && Runs.hopeful (machine g fm) s.moment.number (thread g fm t)))

-- the thread has begun, its state has a step that never expires, and the event's table has none of its state
pub record Idle (table : List ℕ) (rules : Rules) (t : Thread) : Type 0 where
  pub begun : 0 < t.steps
  pub lasting : get_or rules.lasting t.config.state false ≡ true
  pub quiet : (k : ℕ) → k < 8 → offset_of table t.config.state k ≡ 0

abbrev pub IdlesIs : List ℕ → Rules → Thread → Bool → Type 0
IdlesIs table rules t r = r ≡ true → Idle table rules t

-- the words while a list of so many threads is sifted: of the first j so many stay, and their moves have left so many; those behind
-- them are as they were
pub record Sifts (z : Seats) (before : List ℕ) (j : ℕ) (a : Sifted) (now : List ℕ) : Type 0 where
  pub seen : j ≤ z.count
  pub front : a.stayed ≤ j
  pub room : a.moved ≤ z.slots
  pub behind : (i : ℕ) → j ≤ i → i < z.count → thread_at now (place z.half i) ≡ thread_at before (place z.half i)
  pub sized : length now ≡ length before

-- what the first j threads leave: those that stay are the front of the half, what their moves leave stands in the other
pub record Sifting (g : Log) (fm : Formula) (n : ℕ) (z : Seats) (before : List ℕ) (j : ℕ) (a : Sifted) (now : List ℕ) : Type 0 where
  pub moved_are : insert_within (machine g fm) z.slots [] (movers (machine g fm) n (take j (waiting_in g fm z.half z.count before)))
      ≡ Model.some (waiting_in g fm (1 - z.half) a.moved now)
  pub moved_kept : Kept g fm (1 - z.half) a.moved now
  pub stayed_are : waiting_in g fm z.half a.stayed now ≡ stayers (machine g fm) n (take j (waiting_in g fm z.half z.count before))
  pub stayed_kept : Kept g fm z.half a.stayed now

-- one thread more was sifted, or what it leaves needs one more slot
abbrev pub SiftedOn : (g : Log) (fm : Formula) (n : ℕ) (z : Seats) (before : List ℕ) (j : ℕ) (r : Option Sifted) (now : List ℕ) → Type 0
SiftedOn g fm n z before j None now = settle (machine g fm) z.slots n (waiting_in g fm z.half z.count before) ≡ Model.none
SiftedOn g fm n z before j (Some r) now = Sifting g fm n z before j r now

abbrev pub SiftOneIs : Scene → Seats → Sifted → ℕ → List ℕ → List ℕ → Option Sifted → Type 0
SiftOneIs s z a j now after r =
    (length after ≡ length now)
    × ((before : List ℕ) → Sifts z before j a now → IfSome r (λ x. Sifts z before (j + 1) x after))
    × ((before : List ℕ) → Sifts z before j a now → (g : Log) (fm : Formula) → Stands g fm s → Kept g fm z.half z.count before
    → NoneEnds g fm s.moment.number z.half z.count before → Sifting g fm s.moment.number z before j a now
    → SiftedOn g fm s.moment.number z before (j + 1) r after)

-- the threads of the half that stay are its front, those that moved stand in the other half, distinct; or more moved than there are slots
abbrev pub SiftedTo : (g : Log) (fm : Formula) (n : ℕ) (z : Seats) (before after : List ℕ) (r : Option Sifted) → Type 0
SiftedTo g fm n z before after None = settle (machine g fm) z.slots n (waiting_in g fm z.half z.count before) ≡ Model.none
SiftedTo g fm n z before after (Some r) =
    (insert_within (machine g fm) z.slots [] (movers (machine g fm) n (waiting_in g fm z.half z.count before))
    ≡ Model.some (waiting_in g fm (1 - z.half) r.moved after))
    × Kept g fm (1 - z.half) r.moved after
    × (waiting_in g fm z.half r.stayed after ≡ stayers (machine g fm) n (waiting_in g fm z.half z.count before))
    × Kept g fm z.half r.stayed after

abbrev pub SiftIs : Scene → Seats → List ℕ → List ℕ → Option Sifted → Type 0
SiftIs s z before after r =
    IfSome r (λ x. (x.stayed ≤ z.count) × (x.moved ≤ z.slots))
    × (length after ≡ length before)
    × ((g : Log) (fm : Formula) → Stands g fm s → Kept g fm z.half z.count before → NoneEnds g fm s.moment.number z.half z.count before
    → SiftedTo g fm s.moment.number z before after r)

-- the threads of the other half were inserted into the list, one by one
abbrev pub MergeIs : Scene → Seats → ℕ → List ℕ → List ℕ → Option ℕ → Type 0
MergeIs s z more before after r =
    InsertedIs s z (λ g fm. Kept g fm (1 - z.half) more before) (λ g fm. waiting_in g fm (1 - z.half) more before) before after r
