-- A page grows: what each method that adds to it ensures.
use Rattle.std.specs.Prelude.{ℕ, ◌≡◌, List, length}
use Rattle.text.specs.declared.Page.{Page}
use Rattle.text.specs.inner.Adds.{Adds}

-- The bytes that are lent stay the same ones, and the text on them grows by `more`, at most `most` bytes.
pub record Grows (most : ℕ) (before after : Page) (more : List ℕ) : Type 0 where
  pub adds : Adds most before.out.now before.at after.out.now after.at more
  pub bytes : length after.out.now ≡ length before.out.now
  pub lent : after.out.ghost_name ≡ before.out.ghost_name
