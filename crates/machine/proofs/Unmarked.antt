-- A search of a log without 04 is answered as before there were clock marks: by all events from its start on.
use Prim.Native.Nat.{ℕ, suc, ◌-◌}
use mathlib.Core.Path.{◌≡◌, refl, ap, ◌∙◌}
use mathlib.Core.List.{List, [], map}
use native.Mathlib.Omega.{arith}
use lib.ListN.{length, get_or}
use Rattle.event_log.specs.Log.{Kind, Event, Log}
use Rattle.event_log.specs.File.{Payload, values_of, log_of}
use Rattle.event_log.specs.Latest.{latest}
use Rattle.event_log.proofs.Unmarked.{unmarked_file, length-sent, seen_before, event-sent, one-stretch, latest-unmarked}
use Rattle.formula.specs.Formula.{Formula}
use Rattle.formula.specs.Lookup.{step_at}
use Rattle.runs.specs.Machine.{Machine}
use Rattle.runs.specs.Answer.{Answer}
use Rattle.runs.specs.inner.Search.{next, waiting_count, scan, origin, end_of, search}
use Rattle.runs.proofs.Alike.{search-alike}
use Rattle.runs.proofs.Stretch.{end_whole}
use Rattle.machine.specs.Configuration.{Config, same, start}
use Rattle.machine.specs.Machine.{fire_by, fire_at, expired_by, expired_at, committed, final, machine}

-- a log of 02 and 03 alone, by its fields' kinds and what its events send, and a formula
module _ (ks : List Kind) (ps : List Payload) (fm : Formula) where
  -- its machine in the words of before: a step fires by the event's values, and is hopeless by the last present ones of all events up to it
  abbrev pub machine_unmarked : Machine
  machine_unmarked = record {
    Config = Config;
    same = same;
    start = start;
    committed = committed fm;
    final = final fm;
    fire = λ c n k. fire_by (step_at fm c.state k) c (get_or (map values_of ps) n []);
    expired = λ c k n. expired_by ks (step_at fm c.state k) c (seen_before (map values_of ps) (suc n));
    steps = 8;
    stretch = λ n. 0;
    events = length ps;
  }

  -- the search of before, over all events from i on
  abbrev pub search_unmarked : ℕ → ℕ → Answer machine_unmarked
  search_unmarked slots i = scan machine_unmarked (next machine_unmarked) (waiting_count machine_unmarked) slots (length ps - i) i (origin machine_unmarked) 0

  abbrev log : Log
  log = log_of (unmarked_file ks ps)

  fires-unmarked : (c : Config) (n k : ℕ) → fire_at log fm c n k ≡ machine_unmarked.fire c n k
  unfolding fire_at
  fires-unmarked c n k = ap (fire_by (step_at fm c.state k) c) (ap (λ (e : Event). e.values) (event-sent ks ps n))

  expires-unmarked : (c : Config) (k n : ℕ) → expired_at log fm c k n ≡ machine_unmarked.expired c k n
  unfolding expired_at
  expires-unmarked c k n =
      ap (expired_by ks (step_at fm c.state k) c)
      (ap (λ s. latest log s (suc n)) (one-stretch ks ps n) ∙ latest-unmarked ks ps (suc n))

  search-whole : (slots i : ℕ) → search machine_unmarked slots i ≡ search_unmarked slots i
  unfolding search
  search-whole slots i =
      let left : end_of machine_unmarked i - i ≡ length ps - i = omega (arith, end_whole machine_unmarked i (λ n a b. refl)) in
      rw left

  -- A search from any event, with any number of slots, is answered as before.
  pub search-unmarked : (slots i : ℕ) → search (machine (log_of (unmarked_file ks ps)) fm) slots i ≡ search_unmarked slots i
  search-unmarked slots i =
      search-alike (machine log fm) machine_unmarked.fire machine_unmarked.expired (λ c n k h. fires-unmarked c n k)
      (λ c k n h. expires-unmarked c k n) (λ n. 0) (length ps) (one-stretch ks ps) (length-sent ps) slots i
      ∙ search-whole slots i
