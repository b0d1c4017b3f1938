-- The answers of a search.
use Rattle.std.specs.Prelude.{ℕ}
use Rattle.runs.specs.Machine.{Machine}
use Rattle.runs.specs.Run.{Trail}

-- The answer of a search: the least run with the configuration it ends in, none, or crowded after an event. The number
-- that found and absent carry is the peak (the paper's width).
pub data AnswerOver (Config : Type 0) : Type 0 where
  found : Config → Trail → ℕ → AnswerOver Config
  absent : ℕ → AnswerOver Config
  crowded : ℕ → AnswerOver Config

-- of a machine: machines with one type of configurations have one type of answers
abbrev pub Answer : Machine → Type 0
Answer M = AnswerOver M.Config
