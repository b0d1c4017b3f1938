-- `lists::fresh_of` meets its contract: the marks before the i-th are told.
use Rattle.std.proofs.Common.{◌≡◌, ℕ, ◌<◌, ◌/◌, ◌%◌, false, length, get_or}
use Rattle.lists.specs.inner.Words.{new_in}
use Rattle.lists.proofs.fresh_of.Given as goal

abbrev pub invariant-loop-i : goal.invariant-loop-i
invariant-loop-i l =
    (length l.fresh ≡ 32) × ((j : ℕ) → j < l.i → get_or l.fresh j false ≡ new_in l.lists (j / 8) (get_or l.values (j % 8) 0))
