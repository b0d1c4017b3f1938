-- `analysis_code::all_starts` meets its contract: the rows before `start` are written, and what is left is the definition from there on.
use Rattle.std.proofs.Common.{◌≡◌, ◌≤◌, ◌<◌, length}
use Rattle.event_log.specs.Log.{Log}
use Rattle.formula.specs.Formula.{Formula}
use Rattle.search_code.specs.inner.Turn.{seen_to, stretch_end, Given}
use Rattle.analysis_code.specs.inner.Starts.{Ties}
use Rattle.analysis_code.proofs.Turns.{SoFar}
use Rattle.analysis_code.proofs.all_starts.Given as goal

abbrev pub invariant-loop-start : goal.invariant-loop-start
invariant-loop-start l =
    let s = l.files in record {
      work_long : length l.work ≡ length l.initial.work;
      rows_long : length l.rows ≡ length l.initial.rows;
      so_far : (g : Log) (fm : Formula) → Given g fm s.log.now s.places.now s.formula.now s.steps.now s.scope → Ties fm l.tied
          → SoFar g fm s.scope.slots l.initial.rows l.rows l.start;
      seen_is : l.seen ≡ seen_to s.log.now s.places.now s.scope.rules.fields l.start;
      end_inside : l.end ≤ s.scope.events;
      end_is : l.start < l.end → l.end ≡ stretch_end s.log.now s.places.now s.scope l.start;
    }
