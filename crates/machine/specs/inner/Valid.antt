-- What holds of every configuration that a run reaches.
use Rattle.std.specs.Prelude.{ℕ, ◌<◌, ◌≡◌, false, length, get_or}
use Rattle.base.specs.Lists.{All}
use Rattle.machine.specs.Configuration.{Config}

-- what holds of every configuration that a run reaches, in a formula with so many states
pub record Valid (states : ℕ) (c : Config) : Type 0 where
  pub declared : c.state < states
  pub held_8 : length c.held ≡ 8
  pub values_8 : length c.values ≡ 8
  pub counters_16 : length c.counters ≡ 16
  pub unheld_0 : (v : ℕ) → get_or c.held v false ≡ false → get_or c.values v 0 ≡ 0
  pub lists_4 : length c.lists ≡ 4
  pub fits : All (λ x. x < 4294967296) c.values
