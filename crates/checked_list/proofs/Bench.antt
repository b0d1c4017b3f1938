-- "Examples from the bench": the cases marked M, proved against the definitions and gathered as one list.
use Prim.Native.Nat.{ℕ, ◌+◌, ◌-◌, ◌*◌}
use Prim.Native.Char.{code}
use Prim.Native.String as Quoted
use Prim.Native.String.{String}
use mathlib.Core.Path.{◌≡◌, refl}
use mathlib.Core.Bool.{cond}
use mathlib.Core.List.{List, [], ◌∷◌, ◌++◌, flat_map}
use Rattle.std.specs.Prelude.{Result, Ok, Err}
use mathlib.Core.Option.{Option, none as Option·none, some}
use lib.ListN.{length, replicate}
use lib.Dec.{leb, eqb}
use Rattle.base.specs.Value.{bytes_of, value_at}
use Rattle.base.specs.Lists.{pad}
use Rattle.base.specs.Mask.{mask, bits_of}
use Rattle.refusal.specs.Refusals.{line, report_of}
use Rattle.refusal.specs.declared.Refusal.{Refusal}
use Rattle.refusal.specs.declared.Report.{Report}
use Rattle.event_log.specs.Log.{plain, rising, event_at}
use Rattle.event_log.specs.Latest as Latest
use Rattle.event_log.specs.File.{full, event, LogFile, events_from, marks_of}
use Rattle.event_log.specs.Encode.{encode_field, encode_payload, encode_entry, encode_body}
use Rattle.event_log.specs.Event.{values_from, together, payload_at}
use Rattle.event_log.specs.Read as LogRead
use Rattle.event_log.specs.Read.{draft_of, falls, beyond, strays, stray_at, next_field, next_event, next_mark, next_end, next_command, read_log}
use Rattle.formula.specs.Formula.{CONST, LEAF, ADD, SUB}
use Rattle.formula.specs.Encode.{guard_commands, step_commands, state_commands, commands, encode_expr, encode_clause, encode_command}
use Rattle.formula.specs.Unbound.{steps_of, binds, edges_from, mark, round, rounds, unbound, is_unbound}
use Rattle.formula.specs.Read as FormulaRead
use Rattle.formula.specs.Lookup.{step_at}
use Rattle.formula.specs.Read.{opcode, operator_of, kind_of, expr_opcode, over, expr_with, read_expr, next, assembly, assemble, first_leaf, first_absent, first_unbound, judge, after_end, read_formula}
use Rattle.machine.specs.Configuration as Configuration
use Rattle.machine.specs.Configuration.{same}
use Rattle.machine.specs.Guard.{value}
use Rattle.machine.specs.Firing.{hold, leave, fires, fire}
use Rattle.machine.specs.Expiry as Expiry
use Rattle.machine.specs.Expiry.{expired}
use Rattle.machine.specs.Machine.{fire_at, expired_at, committed, final, accepting}
use Rattle.runs.specs.inner.Lists.{keep, in_turn, has, distinct}
use Rattle.runs.specs.inner.Order.{lex, order}
use Rattle.runs.specs.inner.Search as Runs
use Rattle.runs.specs.inner.Search.{firing, moves, stays, unended, offers, endings, lesser, least_from, least, any_alive, hopeful, waiting, waiting_count, scan, origin, end_from, end_of, search}
use Rattle.search.specs.Search as Search
use Rattle.search.specs.Search.{slots_of, without, search_answer}
use Rattle.analysis.specs.Rows.{named, tied_alike, subsumes, subsumed, verdict, none_row, row, rows_from}
use Rattle.analysis.specs.Analysis as Analysis
use Rattle.analysis.specs.Analysis.{Analysed, analysis}
use Rattle.text.specs.Text as Text
use Rattle.text.specs.Text.{ascii, digits, decimal, word, spaced, variable, each, held, variables, details, line_in, lines, refused_line, printed}
use Rattle.checked_list.proofs.Exchange.{exchange}

-- every definition on the way from the bytes to an answer: what a case unfolds
unfoldable pub definitions : Unit {0}
unfolding read_log LogRead.read_from draft_of events_from marks_of falls beyond strays stray_at bits_of together payload_at encode_payload next_field next_event
    next_mark next_end next_command encode_field encode_entry encode_body bytes_of value_at values_from pad flat_map read_formula FormulaRead.read_from
    FormulaRead.start opcode operator_of kind_of expr_opcode over expr_with read_expr next assembly assemble first_leaf first_absent first_unbound judge
    after_end guard_commands step_commands state_commands commands encode_expr encode_clause encode_command binds edges_from mark round rounds unbound
    is_unbound Configuration.start same hold leave fires fire step_at steps_of event_at Latest.over Latest.latest fire_at expired_at committed final
    accepting Expiry.rising Expiry.falling Expiry.known expired value keep in_turn has distinct lex order firing moves stays unended offers Runs.next
    endings lesser least_from least any_alive hopeful waiting waiting_count scan origin end_from end_of search slots_of Search.checked search_answer named
    tied_alike subsumes subsumed verdict mask none_row row rows_from Analysis.checked analysis ascii digits decimal word spaced variable each held
    variables details Text.line line_in lines refused_line printed
definitions = tt

-- bytes as the paper writes them, in hexadecimal, with spaces between
abbrev digit : ℕ → ℕ
digit c = cond (leb c 57) (c - 48) (c - 55)

abbrev digits_of : String → List ℕ
digits_of Quoted.[] = []
digits_of (Quoted.◌∷◌ c s) = cond (eqb (code c) 32) (digits_of s) (digit (code c) ∷ digits_of s)

abbrev pairs : List ℕ → List ℕ
pairs [] = []
pairs (a ∷ []) = []
pairs (a ∷ (b ∷ ds)) = (16 * a + b) ∷ pairs ds

abbrev pub hex : String → List ℕ
hex s = pairs (digits_of s)

-- "L, 23 bytes .. (time 500 twice; code 1 trip, 2 open)"
abbrev L : List ℕ
L = hex "0101 0100 02000001F400000001 02000001F400000002 00"

-- "F, 28 bytes"
abbrev pub F : List ℕ
F = hex "1000 1101 12010000000001 140000 1000 1102 12010000000002 1002 00"

-- "G starts on code 2 with the same BIND; its second step is TESTV time equal variable 0, then TEST code 1"
abbrev G : List ℕ
G = hex "1000 1101 12010000000002 140000 1000 1102 13000000 12010000000001 1002 00"

-- "L with its events exchanged"
abbrev exchanged : List ℕ
exchanged = hex "0101 0100 02000001F400000002 02000001F400000001 00"

-- L with "second time 499"
abbrev pub back : List ℕ
back = hex "0101 0100 02000001F400000001 02000001F300000002 00"

-- "G without its BIND"
abbrev unbound_g : List ℕ
unbound_g = hex "1000 1101 12010000000002 1000 1102 13000000 12010000000001 1002 00"

-- "F with first target 5"
abbrev absent_f : List ℕ
absent_f = hex "1000 1105 12010000000001 140000 1000 1102 12010000000002 1002 00"

-- "three events; ordinary state 0 with a bare step to ordinary state 1, which has a bare step to itself"
abbrev three_events : List ℕ
three_events = hex "0100 0200000000 0200000000 0200000000 00"

abbrev bare : List ℕ
bare = hex "1000 1101 1000 1101 00"

-- "events (1,1), (2,1), (3,2)"; F "with TIED 0"
abbrev trips : List ℕ
trips = hex "0101 0100 020000000100000001 020000000200000001 020000000300000002 00"

abbrev tied_f : List ℕ
tied_f = hex "1600 1000 1101 12010000000001 140000 1000 1102 12010000000002 1002 00"

-- work words of so many seats; rows lent for so many events, a 9 in every word
abbrev pub seats : ℕ → ℕ
seats n = n * 192

abbrev pub lent : ℕ → List ℕ
lent events = replicate (12 * events) 9

-- the answer and the rows of an analysis with 64 seats
abbrev pub analysed : List ℕ → List ℕ → ℕ → Analysed
analysed l f events = analysis l f (seats 64) (lent events)

-- all rows are written, and are these
abbrev pub done : List ℕ → Analysed
done rows = record { outcome = Ok tt; rows = rows }

-- a row: verdict, last event, steps, mask, the value of variable 0; a none row
abbrev pub row_of : ℕ → ℕ → ℕ → ℕ → ℕ → List ℕ
row_of v last steps held x = v ∷ last ∷ steps ∷ held ∷ x ∷ replicate 7 0

abbrev pub none : List ℕ
none = replicate 12 0

-- file, number and place that a search and an analysis are refused with
abbrev report : {A : Type 0} → Result A Refusal → Option Report
report (Ok a) = Option·none
report (Err r) = some (report_of r)

abbrev pub search_refused : List ℕ → List ℕ → ℕ → ℕ → Option Report
search_refused l f start words = report (search_answer l f start words)

abbrev pub refused : List ℕ → List ℕ → Option Report
refused l f = report (analysed l f 2).outcome

-- what L says: a rising and a plain field, two events
abbrev relay : LogFile
relay = record { fields = rising ∷ plain ∷ []; entries = event (full (500 ∷ 1 ∷ [])) ∷ event (full (500 ∷ 2 ∷ [])) ∷ [] }

-- The list.
pub record Bench : Type 0 where
  -- "L, 23 bytes", "F, 28 bytes"
  pub l-bytes : length L ≡ 23
  pub f-bytes : length F ≡ 28
  -- "(time 500 twice; code 1 trip, 2 open)", "L with its events exchanged"
  pub l-log : read_log L ≡ LogRead.accepted relay
  pub exchanged-log : read_log exchanged ≡ LogRead.accepted (exchange 0 relay)
  -- "M1 L, F prints exactly `0 alert 1 2 v0=500` and `1 none`"
  pub m1 : printed L F ≡ ascii "0 alert 1 2 v0=500\n1 none\n"
  -- "M2 L, G: two none"
  pub m2 : analysed L G 2 ≡ done (none ++ none)
  -- "M3 L with its events exchanged, G: event 0 alert, last event 1"
  pub m3 : analysed exchanged G 2 ≡ done (row_of 1 1 2 1 500 ++ none)
  -- "M4 second time 499: (1,6,13); 500 is accepted"
  pub m4-499 : refused back F ≡ some (line 1 6 13)
  pub m4-500 : refused L F ≡ Option·none
  -- "M5 empty log: (1,1,0)"
  pub m5 : refused [] F ≡ some (line 1 1 0)
  -- "M6 a byte after L: (1,5,23)", whatever that byte is
  pub m6 : (b : ℕ) → refused (L ++ (b ∷ [])) F ≡ some (line 1 5 23)
  -- "M7 start 2 in L: (3,9,2)"
  pub m7 : search_refused L F 2 (seats 64) ≡ some (line 3 9 2)
  -- "M8 191 work words: (3,10,192)"
  pub m8 : search_refused L F 0 191 ≡ some (line 3 10 192)
  -- "M9 G without its BIND: (2,8,15)"
  pub m9 : refused L unbound_g ≡ some (line 2 8 15)
  -- "M10 F with first target 5": "M10 becomes (2,13,2)"
  pub m10 : refused L absent_f ≡ some (line 2 13 2)
  -- "M11 ADD of 4294967295 and 1 is 4294967295; SUB of 3 and 5 is 0"
  pub m11-add : (c : Configuration.Config) → value c (ADD (LEAF (CONST 4294967295)) (LEAF (CONST 1))) ≡ 4294967295
  pub m11-sub : (c : Configuration.Config) → value c (SUB (LEAF (CONST 3)) (LEAF (CONST 5))) ≡ 0
  -- "M12 .. from 0, two seats give 11 at event 2; three give none, width 3"
  pub m12-two : search_refused three_events bare 0 (seats 2) ≡ some (line 3 11 2)
  pub m12-three : search_answer three_events bare 0 (seats 3) ≡ Ok (without 3)
  -- "M13 events (1,1), (2,1), (3,2) with F: alert, subsumed, none; with TIED 0: alert, alert, none"
  pub m13 : analysed trips F 3 ≡ done (row_of 1 2 2 1 1 ++ (row_of 2 2 2 1 2 ++ none))
  pub m13-tied : analysed trips tied_f 3 ≡ done (row_of 1 2 2 1 1 ++ (row_of 1 2 2 1 2 ++ none))

-- Each case holds by computing both sides.
pub bench : Bench
unfolding definitions
bench =
    record {
      l-bytes = refl;
      f-bytes = refl;
      l-log = refl;
      exchanged-log = refl;
      m1 = refl;
      m2 = refl;
      m3 = refl;
      m4-499 = refl;
      m4-500 = refl;
      m5 = refl;
      m6 = λ b. refl;
      m7 = refl;
      m8 = refl;
      m9 = refl;
      m10 = refl;
      m11-add = λ c. refl;
      m11-sub = λ c. refl;
      m12-two = refl;
      m12-three = refl;
      m13 = refl;
      m13-tied = refl;
    }
