-- The third demand on a search's answer, clause by clause, by the literal runs alone.
use Rattle.std.specs.Prelude.{ℕ, ◌≡◌, ◌↔◌, Bool, true, false, length, get_or, Result, Ok, Err, IsOkAnd}
use Rattle.base.specs.Lists.{pad}
use Rattle.refusal.specs.declared.Refusal.{Refusal}
use Rattle.refusal.specs.declared.Refusal.TheVariants.{Crowded}
use Rattle.event_log.specs.Log.{Log}
use Rattle.formula.specs.Formula.{Formula}
use Rattle.runs.specs.Run.{Trail}
use Rattle.runs.specs.Order.{events, numbers}
use Rattle.runs.specs.Demand.{FirstCrowded}
use Rattle.runs.specs.inner.Demand as Runs
use Rattle.machine.specs.Configuration.{Config}
use Rattle.machine.specs.Firing.{is_held, value_of}
use Rattle.machine.specs.Machine.{machine, accepting}
use Rattle.search.specs.declared.Verdict.TheVariants.{Absent, Accept, Reject}
use Rattle.search.specs.declared.SearchAnswer.{SearchAnswer}
use Rattle.search.specs.Search.{without, refusal}

-- a log and a formula, so many slots (the paper's seats), a start
module _ (g : Log) (f : Formula) (slots start : ℕ) where
  -- the start has a least run, which accepts or rejects; the width goes with it
  pub record Names (accepts : Bool) : Type 0 where
    pub config : Config
    pub trail : Trail
    pub width : ℕ
    pub named : Runs.Named (machine g f) slots start config trail width
    pub kind : accepting f config ≡ accepts

  -- the start has no run; the width goes with that
  pub record Nothing : Type 0 where
    pub width : ℕ
    pub absent : Runs.Absent (machine g f) slots start width

  -- "(step count, events, step numbers, held variables; unused entries 0)", "It also carries the width"
  pub record Carries (s : SearchAnswer) (c : Config) (t : Trail) (w : ℕ) : Type 0 where
    pub steps : s.steps ≡ length t
    pub events : s.events ≡ pad 32 0 (events t)
    pub numbers : s.numbers ≡ pad 32 0 (numbers t)
    pub held : (v : ℕ) → get_or s.held v false ≡ is_held c v
    pub values : (v : ℕ) → is_held c v ≡ true → get_or s.values v 0 ≡ value_of c v
    pub unused : (v : ℕ) → is_held c v ≡ false → get_or s.values v 0 ≡ 0
    pub eight : (length s.held ≡ 8) × (length s.values ≡ 8)
    pub width : s.width ≡ w

  pub record Demand (s : Result SearchAnswer Refusal) : Type 0 where
    -- "Refusal 11: after some event n from the start on, no run from the start has ended at or before n and more
    -- configurations wait than there are seats; n is the first such event"
    pub crowded : (n : ℕ) → (s ≡ Err (Crowded n)) ↔ FirstCrowded (machine g f) slots start n
    -- a refusal names file, number and place, and nothing else
    pub refused : (n : ℕ) → FirstCrowded (machine g f) slots start n → s ≡ refusal (Crowded n)
    -- "Otherwise the search gives accept or reject with the least run"
    pub accept : IsOkAnd s (λ a. a.verdict ≡ Accept) ↔ Names true
    pub reject : IsOkAnd s (λ a. a.verdict ≡ Reject) ↔ Names false
    pub run : (c : Config) (t : Trail) (w : ℕ) → Runs.Named (machine g f) slots start c t w → IsOkAnd s (λ a. Carries a c t w)
    -- "or none"
    pub none : IsOkAnd s (λ a. a.verdict ≡ Absent) ↔ Nothing
    -- "unused entries 0", "It also carries the width"
    pub nothing : (w : ℕ) → Runs.Absent (machine g f) slots start w → s ≡ Ok (without w)
