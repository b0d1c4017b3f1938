-- "Testers add up contact bounces over a sequence": cases of readings gathered along a run, proved against the definitions.
use Prim.Native.Nat.{ℕ}
use mathlib.Core.Path.{◌≡◌, refl}
use mathlib.Core.List.{List, ◌++◌}
use mathlib.Core.Option.{some}
use Rattle.refusal.specs.Refusals.{line}
use Rattle.std.specs.Prelude.{Ok}
use Rattle.search.specs.Search.{without, search_answer}
use Rattle.checked_list.proofs.Bench.{definitions, hex, seats, analysed, done, row_of, none, search_refused, refused}

-- bounces 3, 3 and 4, and one less
abbrev bounces : List ℕ
bounces = hex "0100 0200000003 0200000003 0200000004 00"

abbrev one_fewer : List ℕ
one_fewer = hex "0100 0200000003 0200000003 0200000003 00"

-- every step gathers; accepted with a sum of 10 or more
abbrev at_least_ten : List ℕ
at_least_ten = hex "1000 1101 170008 1000 1101 170008 1102 170008 15 26 200000000A 2C08 1002 00"

-- a first and a second step gather; the third waits for a value that never comes
abbrev two : List ℕ
two = hex "1000 1101 170008 1000 1102 170008 1000 1103 12000000000063 1002 00"

-- the same with three
abbrev three : List ℕ
three = hex "1000 1101 170008 1000 1102 170008 1000 1103 170008 1000 1104 12000000000063 1002 00"

-- readings 1, 2, 3; 1, 2, 2; and 1, 2, 3, 2
abbrev unlike : List ℕ
unlike = hex "0100 0200000001 0200000002 0200000003 00"

abbrev alike : List ℕ
alike = hex "0100 0200000001 0200000002 0200000002 00"

abbrev turned : List ℕ
turned = hex "0100 0200000001 0200000002 0200000003 0200000002 00"

-- a step that gathers into one list twice, and into two lists
abbrev twice : List ℕ
twice = hex "1000 1101 170008 170008 1002 00"

abbrev both : List ℕ
both = hex "1000 1101 170008 170009 1002 00"

-- The list.
pub record Bounces : Type 0 where
  -- a run that accepts by its sum; one bounce less: none
  pub by-sum : analysed bounces at_least_ten 3 ≡ done (row_of 1 2 3 0 0 ++ (none ++ none))
  pub one_less : analysed one_fewer at_least_ten 3 ≡ done (none ++ (none ++ none))
  -- "Two configurations are equal only if their lists are": apart with unlike readings, one with like readings
  pub apart : search_answer unlike two 0 (seats 3) ≡ Ok (without 3)
  pub crowded : search_refused unlike two 0 (seats 2) ≡ some (line 3 11 2)
  pub one : search_answer alike two 0 (seats 2) ≡ Ok (without 2)
  -- lists, not sets: 1, 2, 3 and 1, 3, 2 wait apart
  pub in_order : search_answer turned three 0 (seats 6) ≡ Ok (without 6)
  -- 12 "twice, one STEP gathers a variable a second time, .. at that GATHER"
  pub second : refused bounces twice ≡ some (line 2 12 7)
  pub two-lists : analysed bounces both 3 ≡ done (row_of 1 0 1 0 0 ++ (row_of 1 1 1 0 0 ++ row_of 1 2 1 0 0))

-- Each case holds by computing both sides.
pub bounces-hold : Bounces
unfolding definitions
bounces-hold =
    record {
      by-sum = refl;
      one_less = refl;
      apart = refl;
      crowded = refl;
      one = refl;
      in_order = refl;
      second = refl;
      two-lists = refl;
    }
