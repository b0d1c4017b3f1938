-- "A tie needs a value": pairs of runs that lack it, both or one of them, proved against the definitions.
use Prim.Native.Nat.{ℕ}
use mathlib.Core.Path.{◌≡◌, refl}
use mathlib.Core.List.{List, ◌++◌}
use Rattle.checked_list.proofs.Bench.{definitions, hex, analysed, done, row_of, none}

-- a trip (code 1) binds its time to variable 0, a trip by hand (code 3) binds nothing; then an open (code 2)
abbrev untied : List ℕ
untied = hex "1000 1101 12010000000001 140000 1101 12010000000003 1000 1102 12010000000002 1002 00"

-- .. with TIED 0
abbrev tied : List ℕ
tied = hex "1600" ++ untied

-- events (1,3), (2,3), (3,2): neither run holds a time
abbrev lacking : List ℕ
lacking = hex "0101 0100 020000000100000003 020000000200000003 020000000300000002 00"

-- events (1,1), (2,3), (3,2) and (1,3), (2,1), (3,2): the later run lacks it, the earlier one does
abbrev lacking_later : List ℕ
lacking_later = hex "0101 0100 020000000100000001 020000000200000003 020000000300000002 00"

abbrev lacking_earlier : List ℕ
lacking_earlier = hex "0101 0100 020000000100000003 020000000200000001 020000000300000002 00"

-- events (1,1), (1,3), (1,1), (3,2): first and third hold it with one value
abbrev lacking_between : List ℕ
lacking_between = hex "0101 0100 020000000100000001 020000000100000003 020000000100000001 020000000300000002 00"

-- The list.
pub record LackingTies : Type 0 where
  -- "a new case pairs two runs that lack the value": alert, alert
  pub both-lack : analysed lacking tied 3 ≡ done (row_of 1 2 2 0 0 ++ (row_of 1 2 2 0 0 ++ none))
  -- only one of the two lacks it
  pub later-lacks : analysed lacking_later tied 3 ≡ done (row_of 1 2 2 1 1 ++ (row_of 1 2 2 0 0 ++ none))
  pub earlier-lacks : analysed lacking_earlier tied 3 ≡ done (row_of 1 2 2 0 0 ++ (row_of 1 2 2 1 2 ++ none))
  -- "held by both with one value": subsumed, whatever lies between
  pub both_hold : analysed lacking_between tied 4 ≡ done (row_of 1 3 2 1 1 ++ (row_of 1 3 2 0 0 ++ (row_of 2 3 2 1 1 ++ none)))
  -- "A formula without TIED behaves as today"
  pub without : analysed lacking untied 3 ≡ done (row_of 1 2 2 0 0 ++ (row_of 2 2 2 0 0 ++ none))

-- Each case holds by computing both sides.
pub lacking-ties-hold : LackingTies
unfolding definitions
lacking-ties-hold = record { both-lack = refl; later-lacks = refl; earlier-lacks = refl; both_hold = refl; without = refl }
