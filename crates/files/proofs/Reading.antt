-- The two readings of a call, one after the other: the log's refusal, the formula's, or both files are accepted; and what accepted files are.
use Prim.Native.Nat.{ℕ}
use mathlib.Core.Path.{◌≡◌, refl}
use mathlib.Core.List.{List}
use native.Mathlib.Omega.{arith}
use lib.ListN.{length}
use Rattle.base.specs.Lists.{Bytes}
use Rattle.refusal.specs.declared.Refusal.{Refusal}
use Rattle.event_log.specs.File.{LogFile}
use Rattle.event_log.specs.Correct as LogCorrect
use Rattle.event_log.specs.Read as LogRead
use Rattle.event_log.proofs.Accepted.{accepted-is-encoding}
use Rattle.formula.specs.Formula.{Formula}
use Rattle.formula.specs.Correct as FormulaCorrect
use Rattle.formula.specs.Read as FormulaRead
use Rattle.formula.proofs.Reading.{accepted-correct}
use Rattle.files.specs.Files.{accepted, refused, with_formula, with_log, read_files}

module _ (l f : List ℕ) where
  pub bad-log : (why : Refusal) → LogRead.read_log l ≡ LogRead.refused why → read_files l f ≡ refused why
  bad-log why e = rw e

  module _ (t : LogFile) (log_read : LogRead.read_log l ≡ LogRead.accepted t) where
    pub bad-formula : (why : Refusal) → FormulaRead.read_formula (length t.fields) f ≡ FormulaRead.refused why → read_files l f ≡ refused why
    bad-formula why e = rw (log_read, e)

    pub both_read : (fm : Formula) → FormulaRead.read_formula (length t.fields) f ≡ FormulaRead.accepted fm → read_files l f ≡ accepted t fm
    both_read fm e = rw (log_read, e)

  -- both files are accepted, so each of them is
  pub record Both (t : LogFile) (fm : Formula) : Type 0 where
    pub log_read : LogRead.read_log l ≡ LogRead.accepted t
    pub formula_read : FormulaRead.read_formula (length t.fields) f ≡ FormulaRead.accepted fm

  pub each : (t : LogFile) (fm : Formula) → read_files l f ≡ accepted t fm → Both t fm
  each t fm = go (LogRead.read_log l) refl
    where
      then : (u : LogFile) → LogRead.read_log l ≡ LogRead.accepted u → (y : FormulaRead.Reading) → FormulaRead.read_formula (length u.fields) f ≡ y
          → with_formula u y ≡ accepted t fm → Both t fm
      then u e (FormulaRead.accepted g) q h =
          let a : u ≡ t = cc in
          let b : g ≡ fm = cc in
          rw (← a, ← b) (record { log_read = e; formula_read = q })
      then u e (FormulaRead.refused r) q h = let z : ◌≡◌ {A = ℕ} 0 1 = cc in absurd (omega arith)

      go : (x : LogRead.Reading) → LogRead.read_log l ≡ x → with_log x f ≡ accepted t fm → Both t fm
      go (LogRead.accepted u) e h = then u e (FormulaRead.read_formula (length u.fields) f) refl h
      go (LogRead.refused r) e h = let z : ◌≡◌ {A = ℕ} 0 1 = cc in absurd (omega arith)

  -- accepted files are those of a correct log and a correct formula
  pub files-correct : Bytes l → Bytes f → (t : LogFile) (fm : Formula) → read_files l f ≡ accepted t fm
      → LogCorrect.Correct t × FormulaCorrect.Correct (length t.fields) fm
  files-correct bytes more t fm e =
      let b = each t fm e in (
        (accepted-is-encoding l t bytes b.log_read).1,
        (accepted-correct (length t.fields) f fm more b.formula_read).1,
      )
