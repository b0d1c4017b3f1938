-- What the walk's end comes to: the answer, from what was kept of a file.
use Rattle.std.specs.Prelude.{ℕ, cond, ltb, get_or, Option, Some, None, Result, Ok, Err}
use Rattle.base.specs.Mask.{mask}
use Rattle.refusal.specs.declared.Refusal.{Refusal}
use Rattle.refusal.specs.declared.Refusal.TheVariants.{DeadStart, Unbound, AbsentState}
use Rattle.formula_code.specs.declared.draft.Draft.{Draft}
use Rattle.formula_code.specs.declared.FormulaReading.{FormulaReading}

-- what is read of an accepted formula, from what was kept of it
abbrev pub reading_from : Draft → FormulaReading
reading_from d = record { states = d.summary.states; kinds = d.kinds; table = d.table; tied = mask d.ties }

-- the refusal at a place, or if there is none what comes behind it
abbrev pub unless : {A : Type 0} → Option ℕ → (ℕ → Refusal) → Result A Refusal → Result A Refusal
unless (Some p) refuse rest = Err (refuse p)
unless None refuse rest = rest

-- after END: an absent state, a dead start, an unbound variable, in this order; the first place of each, if there is one
abbrev pub judged : Draft → Option ℕ → Option ℕ → Result FormulaReading Refusal
judged d absent unbound =
    unless absent AbsentState
    (cond (ltb 1 (get_or d.kinds 0 0)) (Err DeadStart)
    (unless unbound Unbound (Ok (reading_from d))))
