-- The laws that are asked of a machine.
use Rattle.std.specs.Prelude.{◌≡◌, true, false, ℕ, suc, ◌≤◌, ◌<◌}
use Rattle.std.proofs.Math.Option.{none, some}
use Rattle.runs.specs.Machine.{Machine}

-- What a machine must keep for the search to be exact.
pub record Laws (M : Machine) : Type 1 where
  -- two configurations are the same exactly when they are equal
  pub same_equal : (c d : M.Config) → M.same c d ≡ true → c ≡ d
  pub equal_same : (c : M.Config) → M.same c c ≡ true
  -- what holds of every configuration that a run reaches
  pub Valid : M.Config → Type 0
  pub valid_start : Valid M.start
  pub valid_fire : (c d : M.Config) (n k : ℕ) → Valid c → M.fire c n k ≡ some d → Valid d
  -- 'dead start' is refused
  pub start_open : M.final M.start ≡ false
  -- no event stands behind one of a later stretch
  pub ordered : (n m : ℕ) → n ≤ m → m < M.events → M.stretch n ≤ M.stretch m
  -- within a stretch: a step expired after n is expired after every later event, and fires on none
  pub stable : (c : M.Config) (k n m : ℕ) → Valid c → M.stretch n ≡ M.stretch m → n < m → m < M.events → M.expired c k n ≡ true → M.expired c k m ≡ true
  pub silent : (c : M.Config) (k n m : ℕ) → Valid c → M.stretch n ≡ M.stretch m → n < m → m < M.events → M.expired c k n ≡ true → M.fire c m k ≡ none
  -- the number of steps that led to a configuration (its counters added up)
  pub weight : M.Config → ℕ
  pub weight_start : weight M.start ≡ 0
  pub weight_fire : (c d : M.Config) (n k : ℕ) → M.fire c n k ≡ some d → weight d ≡ suc (weight c)
