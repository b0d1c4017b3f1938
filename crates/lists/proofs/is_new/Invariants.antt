-- `lists::is_new` meets its contract: what is left of the list decides.
use Rattle.std.proofs.Common.{◌≡◌, ◌+◌, ◌-◌, ◌*◌, get_or}
use mathlib.Core.Bool.{not}
use Rattle.lists.specs.inner.Words.{new_in, meets}
use Rattle.lists.proofs.is_new.Given as goal

abbrev pub invariant-loop-i : goal.invariant-loop-i
invariant-loop-i l = new_in l.lists l.v l.x ≡ not (meets l.lists l.i (l.v * 32 + get_or l.lists (128 + l.v) 0 - l.i) l.x)
