-- "The program reads log.bin and formula.bin, lends 64 seats and prints one line an event": its text, in bytes.
use Rattle.std.specs.Prelude.{ℕ, zero, suc, ◌+◌, ◌*◌, ◌/◌, ◌%◌, ◌^◌, cond, List, [], ◌∷◌, ◌++◌, length, get_or, take, drop, replicate, eqb, ltb, Result, Ok, Err}
use Prim.Native.Char.{code}
use Prim.Native.String as Quoted
use Prim.Native.String.{String}
use Rattle.refusal.specs.declared.Refusal.{Refusal}
use Rattle.refusal.specs.declared.Report.{Report}
use Rattle.refusal.specs.Refusals.{report_of}
use Rattle.event_log.specs.File.{log_of}
use Rattle.event_log.specs.Read.{Reading, accepted, refused, read_log}
use Rattle.analysis.specs.Analysis.{analysis}

-- the bytes of a quoted text of plain characters
unfoldable pub ascii : String → List ℕ
ascii Quoted.[] = []
ascii (Quoted.◌∷◌ c s) = code c ∷ ascii s

-- a number in decimal digits, at most k of them; 20 are enough for 64 bits
unfoldable pub digits : ℕ → ℕ → List ℕ
digits zero n = []
digits (suc k) n = cond (ltb n 10) [] (digits k (n / 10)) ++ ((48 + n % 10) ∷ [])

unfoldable pub decimal : ℕ → List ℕ
decimal n = digits 20 n

-- "verdict word": "0 none, 1 alert, 2 subsumed, 3 rejected"
unfoldable pub word : ℕ → List ℕ
word zero = ascii "none"
word (suc zero) = ascii "alert"
word (suc (suc zero)) = ascii "subsumed"
word (suc (suc (suc v))) = ascii "rejected"

-- "single spaces part them": a number behind a space
unfoldable pub spaced : ℕ → List ℕ
spaced n = ascii " " ++ decimal n

-- "as v, its number, = and its value": variable v, behind a space
unfoldable pub variable : ℕ → ℕ → List ℕ
variable v x = ascii " v" ++ (decimal v ++ (ascii "=" ++ decimal x))

-- a text for each of k numbers from n on, in a row
unfoldable pub each : (ℕ → List ℕ) → ℕ → ℕ → List ℕ
each text zero n = []
each text (suc k) n = text n ++ each text k (suc n)

-- "each held variable by rising number", of a row: its fourth word is the mask, its last eight are the values
unfoldable pub held : List ℕ → ℕ → List ℕ
held r v = cond (eqb (get_or r 3 0 / 2 ^ v % 2) 1) (variable v (get_or r (4 + v) 0)) []

unfoldable pub variables : List ℕ → List ℕ
variables r = each (held r) 8 0

-- "unless none, last event, step count, then each held variable"
unfoldable pub details : List ℕ → List ℕ
details r = cond (eqb (get_or r 0 0) 0) [] (spaced (get_or r 1 0) ++ (spaced (get_or r 2 0) ++ variables r))

-- "number, verdict word and" the details: the line of event n, from the 12 words of its row
unfoldable pub line : ℕ → List ℕ → List ℕ
line n r = decimal n ++ (ascii " " ++ (word (get_or r 0 0) ++ (details r ++ ascii "\n")))

-- "one line an event": of event n, from the rows of all; of so many events
unfoldable pub line_in : List ℕ → ℕ → List ℕ
line_in rows n = line n (take 12 (drop (n * 12) rows))

unfoldable pub lines : ℕ → List ℕ → List ℕ
lines events rows = each (line_in rows) events 0

-- "A refusal prints `refused` and its three numbers only"
unfoldable pub refused_line : Report → List ℕ
refused_line t = ascii "refused" ++ (spaced t.file ++ (spaced t.number ++ (spaced t.place ++ ascii "\n")))

-- all lines, or the refusal's alone
abbrev pub text_of : ℕ → Result Unit Refusal → List ℕ → List ℕ
text_of events (Ok done) rows = lines events rows
text_of events (Err r) rows = refused_line (report_of r)

-- the number of events of a log that is accepted
abbrev pub events_in : Reading → ℕ
events_in (accepted t) = length (log_of t).events
events_in (refused r) = 0

-- What the program prints for two files: it "lends 64 seats", and 12 row words for each of the 1,024 events that a log may have.
unfoldable pub printed : List ℕ → List ℕ → List ℕ
printed l f =
    let a = analysis l f (64 * 192) (replicate (12 * 1024) 0) in
    text_of (events_in (read_log l)) a.outcome a.rows
