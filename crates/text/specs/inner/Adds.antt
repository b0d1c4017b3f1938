-- A line grows in lent bytes: what each function that adds to it ensures.
use Rattle.std.specs.Prelude.{ℕ, ◌+◌, ◌≤◌, ◌≡◌, List, ◌++◌, length, take}

-- Of the bytes `before` the first `at` were the text so far; of the bytes `after` the first `to` are that text and `more` behind it, at most
-- `most` bytes.
pub record Adds (most : ℕ) (before : List ℕ) (at : ℕ) (after : List ℕ) (to : ℕ) (more : List ℕ) : Type 0 where
  pub text : take to after ≡ take at before ++ more
  pub room : to ≤ at + most

-- The line is the first `to` of 256 lent bytes.
pub record Written (after : List ℕ) (to : ℕ) (text : List ℕ) : Type 0 where
  pub line : take to after ≡ text
  pub fits : to ≤ 256
  pub bytes : length after ≡ 256
  pub counts : to ≡ length (take to after)
