-- `lists::lists_of` meets its contract: what is left of the trail gives the whole.
use Rattle.std.proofs.Common.{◌≡◌, drop, replicate}
use Rattle.lists.specs.inner.Words.{read_back}
use Rattle.lists.proofs.lists_of.Given as goal

abbrev pub invariant-loop-word : goal.invariant-loop-word
invariant-loop-word l =
    read_back l.l l.places l.fields l.f l.table 0 (replicate 132 0) l.word-items
    ≡ read_back l.l l.places l.fields l.f l.table l.state l.lists (drop l.word-index l.word-items)
