-- A walk over a step's clauses, on its way.
use Rattle.std.specs.Prelude.{ℕ, suc, ◌+◌, ◌<◌, ◌≡◌, Bool, List, length}
use Rattle.event_log.specs.Log.{Values}
use Rattle.machine_code.specs.declared.Walked.{Walked}
use Rattle.machine_code.specs.inner.Bytes.{walk_from}

-- a walk from v on that stands at w: what is left to walk is what was left from v
pub record Walking (f prior : List ℕ) (rises : List Bool) (event : Values) (v w : Walked) : Type 0 where
  pub left : ℕ
  pub enough : length f < left + w.at
  pub ahead : walk_from (suc (length f)) f prior rises event v ≡ walk_from left f prior rises event w
