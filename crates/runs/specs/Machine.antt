-- The abstract machine that a search follows.
use Rattle.std.specs.Prelude.{Bool, ℕ}
use Rattle.std.proofs.Math.Option.{Option}

-- A machine. Only events below `events` are ever looked at; the step numbers are those below `steps`.
pub record Machine : Type 1 where
  -- 'a configuration is a state, the held variables with values, and a counter per state'
  pub Config : Type 0
  pub same : Config → Config → Bool
  pub start : Config
  -- the configuration stands in a committed state; in accept or reject
  pub committed : Config → Bool
  pub final : Config → Bool
  -- `fire c n k`: what step k leaves on event n, if it fires; a step that the state lacks never fires
  pub fire : Config → ℕ → ℕ → Option Config
  -- `expired c k n`: step k is expired (the paper's hopeless) after event n; so is a step that the state lacks
  pub expired : Config → ℕ → ℕ → Bool
  pub steps : ℕ
  -- the stretch of event n, between two clock marks: the number of marks before it
  pub stretch : ℕ → ℕ
  pub events : ℕ
