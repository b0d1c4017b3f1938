-- One stretch of a log taken by itself, and an answer carried back.
use Rattle.std.specs.Prelude.{map, ℕ, ◌+◌, ◌-◌}
use Rattle.runs.specs.Machine.{Machine}
use Rattle.runs.specs.Run.{Entry, Trail}
use Rattle.runs.specs.Answer.{AnswerOver, found, absent, crowded}

-- the machine of the events from b on and before e, numbered from 0
abbrev pub moved : Machine → ℕ → ℕ → Machine
moved M b e =
    record {
      Config = M.Config;
      same = M.same;
      start = M.start;
      committed = M.committed;
      final = M.final;
      fire = λ c n k. M.fire c (b + n) k;
      expired = λ c k n. M.expired c k (b + n);
      steps = M.steps;
      stretch = λ n. 0;
      events = e - b;
    }

-- the trail with b added to every event number
abbrev pub carried_trail : ℕ → Trail → Trail
carried_trail b t = map (λ (x : Entry). record { event = b + x.event; step = x.step }) t

-- the answer in the numbers of the whole log
abbrev pub carried : {Config : Type 0} → ℕ → AnswerOver Config → AnswerOver Config
carried b (found c t p) = found c (carried_trail b t) p
carried b (absent p) = absent p
carried b (crowded n) = crowded (b + n)
