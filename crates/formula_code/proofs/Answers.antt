-- What the answer of a formula's reader says of the reading.
use Rattle.std.proofs.Common.{◌≡◌, refl, Ok, Err}
use Rattle.refusal.specs.declared.Refusal.{Refusal}
use Rattle.formula.specs.Formula.{Formula}
use Rattle.formula.specs.Read.{Reading, accepted, refused}
use Rattle.formula_code.specs.declared.FormulaReading.{FormulaReading}
use Rattle.formula_code.specs.Answer.{reading_of, answer_of}

pub formula-refused : (x : Reading) (r : Refusal) → answer_of x ≡ Err r → x ≡ refused r
unfolding answer_of
formula-refused (accepted fm) r e = cc
formula-refused (refused q) r e = cc

-- a reading that was accepted, and what is handed on of it
pub record FormulaTaken (x : Reading) (a : FormulaReading) : Type 0 where
  pub formula : Formula
  pub is : x ≡ accepted formula
  pub reading : a ≡ reading_of formula

pub formula-taken : (x : Reading) (a : FormulaReading) → answer_of x ≡ Ok a → FormulaTaken x a
unfolding answer_of
formula-taken (accepted fm) a e = record { formula = fm; is = refl; reading = cc }
formula-taken (refused q) a e = cc
