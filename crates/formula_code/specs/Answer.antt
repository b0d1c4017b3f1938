-- What the reader of a formula answers.
use Rattle.std.specs.Prelude.{ℕ, ◌≡◌, List, map, length, Result, Ok, Err}
use Rattle.base.specs.Lists.{pad}
use Rattle.refusal.specs.declared.Refusal.{Refusal}
use Rattle.formula_code.specs.declared.FormulaReading.{FormulaReading}
use Rattle.formula.specs.Formula.{State, Formula}
use Rattle.formula.specs.Encode.{kind_byte}
use Rattle.formula.specs.Lookup.{step_table, tied_mask}
use Rattle.formula.specs.Read.{Reading, accepted, refused, read_formula}

-- the kinds of the states, 0 where there is none
unfoldable pub kinds_of : List State → List ℕ
kinds_of xs = pad 16 0 (map (λ (x : State). kind_byte x.kind) xs)

-- of an accepted formula its number of states, their kinds, where its steps begin, the mask of its tied variables
unfoldable pub reading_of : Formula → FormulaReading
reading_of f = record { states = length f.states; kinds = kinds_of f.states; table = step_table f; tied = tied_mask f }

-- what is read of an accepted formula, or the refusal
unfoldable pub answer_of : Reading → Result FormulaReading Refusal
answer_of (accepted f) = Ok (reading_of f)
answer_of (refused r) = Err r

-- The contract of the entry `read_formula`: r is the answer for the file's bytes, against a log with so many fields.
abbrev pub ReadsFormula : List ℕ → ℕ → Result FormulaReading Refusal → Type 0
ReadsFormula f fields r = r ≡ answer_of (read_formula fields f)
