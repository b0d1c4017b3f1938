-- `slots::compared` meets its contract: what is left of both trails decides.
use Rattle.std.proofs.Common.{◌≡◌, ℕ, ◌+◌, map, length}
use Rattle.runs.specs.inner.Order.{lex}
use Rattle.slots.specs.inner.Threads.{Computes}
use Rattle.slots.proofs.compared.Given as goal

abbrev pub invariant-loop-x : goal.invariant-loop-x
invariant-loop-x g l =
    (goal.iterator-loop-x g).can_next l.x-iterator
    × (goal.iterator-loop-x g).is_finite l.x-iterator
    × (length l.a + length l.x-iterator.b.rest.now ≡ length l.b + length l.x-iterator.a.rest.now)
    × ((k : ℕ → ℕ) → Computes (goal.Key-post g l.key) k → lex (map k l.a) (map k l.b) ≡ lex (map k l.x-iterator.a.rest.now) (map k l.x-iterator.b.rest.now))
