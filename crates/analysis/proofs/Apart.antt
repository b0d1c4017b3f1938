-- Of the starts before it only those of its own stretch can subsume a start: a run from another stretch ends before it.
use Prim.Native.Nat.{ℕ, ◌≤◌, ◌<◌}
use mathlib.Core.Path.{◌≡◌}
use mathlib.Core.Bool.{Bool}
use native.Mathlib.Decide.{dec_lt}
use native.Mathlib.Omega.{arith}
use lib.ListN.{length}
use Rattle.event_log.specs.Log.{Log, stretch_at}
use Rattle.event_log.specs.Correct.{Recorded}
use Rattle.formula.specs.Formula.{Formula}
use Rattle.runs.specs.Run.{Trail, last, Run}
use Rattle.runs.proofs.Trails.{run-there}
use Rattle.runs.proofs.Stretch.{run-stretch}
use Rattle.machine.specs.Configuration.{Config}
use Rattle.machine.specs.Machine.{machine}
use Rattle.search.specs.inner.Demand.{Names}
use Rattle.analysis.specs.inner.Demand.{Overlapped}

module _ (g : Log) (f : Formula) (slots : ℕ) (ok : Recorded g) where
  -- an event between a run's start and its last event is of the run's stretch: "No run has events on both sides of a mark"
  between : (j i : ℕ) (t : Trail) (c : Config) → Run (machine g f) j t c → j ≤ i → i ≤ last t → stretch_at g j ≡ stretch_at g i
  between j i t c r a b =
      let there : last t < length g.events = run-there (machine g f) j t c r in
      omega (arith, ok.in_order j i a (omega (arith, b, there)), ok.in_order i (last t) b there, run-stretch (machine g f) j t c r)

  -- An earlier start whose named run overlaps this start is of its stretch;
  pub own-stretch : (i : ℕ) (c : Config) (o : Overlapped g f slots i c) → stretch_at g o.start ≡ stretch_at g i
  own-stretch i c o = between o.start i o.run.trail o.run.config o.run.named.run (omega (arith, o.earlier)) o.overlaps

  -- so that the named run of an earlier start of another stretch ends before this start.
  pub apart : (j i : ℕ) → j < i → ¬ (stretch_at g j ≡ stretch_at g i) → (accepts : Bool) (n : Names g f slots j accepts) → last n.trail < i
  apart j i h other accepts n = go (dec_lt (last n.trail) i)
    where
      go : Dec (last n.trail < i) → last n.trail < i
      go (yes l) = l
      go (no l) = absurd (other (between j i n.trail n.config n.named.run (omega arith) (omega (arith, l))))
