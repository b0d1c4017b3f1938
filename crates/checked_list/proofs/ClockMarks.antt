-- "Technicians set the relay clock during tests": cases of clock marks, proved against the definitions.
use Prim.Native.Nat.{ℕ}
use mathlib.Core.Path.{◌≡◌, refl}
use mathlib.Core.List.{List, [], ◌∷◌, ◌++◌}
use mathlib.Core.Option.{some}
use lib.ListN.{replicate}
use Rattle.refusal.specs.Refusals.{line}
use Rattle.std.specs.Prelude.{Ok}
use Rattle.search.specs.Search.{without, search_answer}
use Rattle.checked_list.proofs.Bench.{definitions, hex, F, back, seats, analysed, done, row_of, none, search_refused, refused}
use Rattle.checked_list.proofs.AbsentFields.{at600, before600}

-- a trip at 500, and an open at 499 behind the clock's setting; without the mark it is `back` of the bench. F of the bench: a trip binds its time, then an
-- open
abbrev set_back : List ℕ
set_back = hex "0101 0100 02000001F400000001 04 02000001F300000002 00"

-- a trip and an open, two marks running, a trip at 5 and an open at 9
abbrev again : List ℕ
again = hex "0101 0100 02000001F400000001 02000001FE00000002 04 04 020000000500000001 020000000900000002 00"

-- within the second stretch the time falls, at byte 23
abbrev fallen_again : List ℕ
fallen_again = hex "0101 0100 02000001F400000001 04 020000000900000001 020000000500000002 00"

-- marks before the first event and before END; before the first FIELD; a FIELD behind one
abbrev around : List ℕ
around = hex "0101 0100 04 02000001F400000001 02000001F400000002 04 00"

abbrev mark_first : List ℕ
mark_first = hex "04 0101 00"

abbrev field_behind : List ℕ
field_behind = hex "0101 04 0100 00"

-- a field, so many marks, END
abbrev marked : ℕ → List ℕ
marked n = hex "0101" ++ (replicate n 4 ++ (0 ∷ []))

-- three events, a mark, one event more; any event leads to a state with a bare step to itself
abbrev busy : List ℕ
busy = hex "0100 0200000001 0200000001 0200000001 04 0200000001 00"

abbrev every_event : List ℕ
every_event = hex "1000 1101 1000 1101 00"

-- a time of 600, and behind a mark an event without one; without the mark it is `at600`
abbrev afresh : List ℕ
afresh = hex "0101 0100 020000025800000001 04 03020000000000000001 00"

-- The list.
pub record ClockMarks : Type 0 where
  -- "Rising fields begin afresh after it": accepted across a mark, 6 across none; "No run has events on both sides of a mark"
  pub across : analysed set_back F 2 ≡ done (none ++ none)
  pub across-none : refused back F ≡ some (line 1 6 13)
  pub fresh-once : refused fallen_again F ≡ some (line 1 6 23)
  -- "also twice running"; event numbers run through the whole log
  pub twice : analysed again F 4 ≡ done (row_of 1 1 2 1 500 ++ (none ++ (row_of 1 3 2 1 5 ++ none)))
  -- "allowed anywhere after the FIELDs", "a FIELD behind it is foreign"
  pub anywhere : analysed around F 2 ≡ done (row_of 1 1 2 1 500 ++ none)
  pub too-early : refused mark_first F ≡ some (line 1 2 0)
  pub behind : refused field_behind F ≡ some (line 1 2 3)
  -- "At most 64 marks; the next is number 4"
  pub sixty-four : analysed (marked 64) every_event 0 ≡ done []
  pub sixty-fifth : refused (marked 65) every_event ≡ some (line 1 4 66)
  -- what waits after a stretch's last event counts, and behind it nothing waits: crowded in the first stretch and none in the second
  pub waits : search_answer set_back F 0 (seats 1) ≡ Ok (without 1)
  pub crowded : search_refused busy every_event 0 (seats 1) ≡ some (line 3 11 1)
  pub roomy : search_answer busy every_event 3 (seats 1) ≡ Ok (without 1)
  pub last-of-stretch : search_answer busy every_event 2 (seats 1) ≡ Ok (without 1)
  -- "with no last present value": a step that is hopeless by 600 waits behind the mark
  pub known : search_answer at600 before600 1 (seats 1) ≡ Ok (without 0)
  pub unknown : search_answer afresh before600 1 (seats 1) ≡ Ok (without 1)

-- Each case holds by computing both sides.
pub clock-marks-hold : ClockMarks
unfolding definitions
clock-marks-hold =
    record {
      across = refl;
      across-none = refl;
      fresh-once = refl;
      twice = refl;
      anywhere = refl;
      too-early = refl;
      behind = refl;
      sixty-four = refl;
      sixty-fifth = refl;
      waits = refl;
      crowded = refl;
      roomy = refl;
      last-of-stretch = refl;
      known = refl;
      unknown = refl;
    }
