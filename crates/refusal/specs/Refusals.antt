-- "An answer names the file (1 log, 2 formula, 3 the call), the number and the place": the table of refusals, by cases.
use Rattle.std.specs.Prelude.{ℕ, ◌≡◌}
use Rattle.refusal.specs.declared.File.{File}
use Rattle.refusal.specs.declared.File.TheVariants.{Log, Formula}
use Rattle.refusal.specs.declared.Refusal.{Refusal}
use Rattle.refusal.specs.declared.Refusal.TheVariants.{CutShort, Foreign, Value, Surplus, Leftover, StepBack, DeadStart, Unbound, Outside, Short, Crowded, Twice, AbsentState}
use Rattle.refusal.specs.declared.Report.{Report}

-- "the file (1 log, 2 formula, 3 the call)": the two that are files; the lines of the call's refusals say 3 themselves
abbrev pub file_number : File → ℕ
file_number Log = 1
file_number Formula = 2

-- a line of the table: file, number and place
abbrev pub line : ℕ → ℕ → ℕ → Report
line f n p = record { file = f; number = n; place = p }

-- The table of refusals, a line each
abbrev pub report_of : Refusal → Report
report_of (CutShort f p) = line (file_number f) 1 p
report_of (Foreign f p) = line (file_number f) 2 p
report_of (Value f p) = line (file_number f) 3 p
report_of (Surplus f p) = line (file_number f) 4 p
report_of (Leftover f p) = line (file_number f) 5 p
report_of (StepBack p) = line 1 6 p
report_of DeadStart = line 2 7 0
report_of (Unbound p) = line 2 8 p
report_of (Outside s) = line 3 9 s
report_of (Short n) = line 3 10 n
report_of (Crowded p) = line 3 11 p
report_of (Twice p) = line 2 12 p
report_of (AbsentState p) = line 2 13 p

-- any refusal but 11: a check refuses, and nothing has run
abbrev pub NotCrowded : Refusal → Type 0
NotCrowded why = (n : ℕ) → why ≡ Crowded n → ⊥
