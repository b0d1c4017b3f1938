-- "Some input cards send an event with a field missing": cases of readings that never arrived, proved against the definitions.
use Prim.Native.Nat.{ℕ}
use mathlib.Core.Path.{◌≡◌, refl}
use mathlib.Core.List.{List, ◌++◌}
use mathlib.Core.Option.{some}
use Rattle.refusal.specs.Refusals.{line}
use Rattle.std.specs.Prelude.{Ok}
use Rattle.search.specs.Search.{without, search_answer}
use Rattle.checked_list.proofs.Bench.{definitions, hex, F, seats, analysed, done, row_of, none, refused}

-- a trip at 500, a trip whose time is absent, an open at 520; F of the bench: a trip binds its time, then an open
abbrev between : List ℕ
between = hex "0101 0100 02000001F400000001 03020000000000000001 020000020800000002 00"

-- the time falls from 500 to 499 across the absent one, at byte 23
abbrev fallen : List ℕ
fallen = hex "0101 0100 02000001F400000001 03020000000000000001 02000001F300000002 00"

-- two events without a time; with one at 600, and one at 3, before the second
abbrev never : List ℕ
never = hex "0101 0100 03020000000000000001 03020000000000000001 00"

abbrev pub at600 : List ℕ
at600 = hex "0101 0100 020000025800000001 03020000000000000001 00"

abbrev at3 : List ℕ
at3 = hex "0101 0100 020000000300000001 03020000000000000001 00"

-- any event, then a code 9 before 600
abbrev pub before600 : List ℕ
before600 = hex "1000 1101 1000 1102 12000200000258 12010000000009 1002 00"

-- a code gathered, then a time into the same list, while its length stays below 2; while its sum stays below 1
abbrev fewer : List ℕ
fewer = hex "1000 1101 170108 1000 1102 170008 15 25 2D08 2000000002 1002 00"

abbrev less : List ℕ
less = hex "1000 1101 170108 1000 1102 170008 15 25 2C08 2000000001 1002 00"

-- any event, then one with a guard that is 0; the branch not taken names the time bound by the step
abbrev untaken : List ℕ
untaken = hex "1000 1101 1000 1102 140000 15 2B 2000000001 2000000000 26 2100 2000000005 1002 00"

-- a code other than 5; an event that lacks its code, one that lacks both
abbrev not_five : List ℕ
not_five = hex "1000 1101 12010100000005 1002 00"

abbrev nothing : List ℕ
nothing = hex "0101 0100 03010000000100000000 03000000000000000000 00"

-- a bit beyond the two fields; a value byte of an absent field
abbrev beyond : List ℕ
beyond = hex "0101 0100 03040000000000000000 00"

abbrev stray : List ℕ
stray = hex "0101 0100 03020000000100000001 00"

-- The list.
pub record AbsentFields : Type 0 where
  -- the trip without a time starts no run, and the run from the first waits past it
  pub waits : analysed between F 3 ≡ done (row_of 1 2 2 1 500 ++ (none ++ none))
  -- "A rising field is compared with its last present value"
  pub falls : refused fallen F ≡ some (line 1 6 23)
  -- "Hopeless steps are judged by the last present value up to n", also from before the start: dropped; with none: waits
  pub past : search_answer at600 before600 1 (seats 1) ≡ Ok (without 0)
  pub unknown : search_answer never before600 1 (seats 1) ≡ Ok (without 1)
  -- "a guard naming a variable or sum that would take its value, doesn't make the step hopeless; a length counts the value all the same"
  pub by_length : search_answer never fewer 0 (seats 1) ≡ Ok (without 0)
  pub by-sum : search_answer never less 0 (seats 1) ≡ Ok (without 1)
  pub by_name : search_answer never untaken 0 (seats 1) ≡ Ok (without 1)
  pub by_value : search_answer at3 untaken 0 (seats 1) ≡ Ok (without 0)
  -- "unequal" of an absent field does not hold; all bits 0 is a correct event
  pub unequal : analysed nothing not_five 2 ≡ done (none ++ none)
  -- "Bits beyond the fields and value bytes of an absent field must be 0, else number 3"
  pub bit-beyond : refused beyond not_five ≡ some (line 1 3 4)
  pub value-byte : refused stray not_five ≡ some (line 1 3 4)

-- Each case holds by computing both sides.
pub absent-fields-hold : AbsentFields
unfolding definitions
absent-fields-hold =
    record {
      waits = refl;
      falls = refl;
      past = refl;
      unknown = refl;
      by_length = refl;
      by-sum = refl;
      by_name = refl;
      by_value = refl;
      unequal = refl;
      bit-beyond = refl;
      value-byte = refl;
    }
