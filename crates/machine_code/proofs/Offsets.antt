-- The lookup by state and number: on a correct formula's bytes and its table it finds where each step stands.
use Prim.Native.Nat.{ℕ, ◌<◌}
use mathlib.Core.Path.{◌≡◌, refl, ap, sym, ◌∙◌}
use mathlib.Core.List.{List, [], ◌∷◌}
use mathlib.Core.Option.{Option, none, some}
use native.Mathlib.Omega.{arith}
use native.Mathlib.Decide.{dec_lt}
use lib.ListN.{get_or}
use Rattle.formula.specs.Formula.{Step, Formula}
use Rattle.formula.specs.Encode.{encode}
use Rattle.formula.specs.Correct.{Correct}
use Rattle.formula.specs.Lookup.{step_at, step_place, place_if, step_table}
use Rattle.formula.proofs.Places.{Boundary, boundary-below, step-bytes, step-stands, place-positive, table-place, table-length}
use Rattle.formula.proofs.Steps.{right-step}
use Rattle.machine_code.specs.inner.Bytes.{offset_of}
use Rattle.machine_code.proofs.FiringOnBytes.{StepAt}
use Rattle.machine_code.proofs.StepsByNumber.{offset-over, offset-in, offset-past}
use Rattle.machine_code.proofs.SameMachine.{StepThere, Charted}

boundary-first : (bs : List ℕ) → Boundary bs → get_or bs 0 0 < 0x12
boundary-first [] h = absurd h
boundary-first (b ∷ bs) h = boundary-below b bs h

module _ (fields : ℕ) (fm : Formula) (right : Correct fields fm) where
  -- the bytes at a step's place are those of a correct step
  step-at : (s k : ℕ) (t : Step) → step_at fm s k ≡ some t → StepAt fields (encode fm) (step_place fm s k) t
  step-at s k t e =
      let p = step-stands fm s k t e in
      let r = right-step fields fm s k t right e in
      record {
        after = p.behind;
        bytes = rw (step-bytes t) p.bytes;
        ends = boundary-first p.behind p.boundary;
        exist = r.exist;
        fits = r.fits;
      }

  -- The lookup of a step gives where it stands, 0 where there is none.
  pub offset-place : (s k : ℕ) (o : Option Step) → step_at fm s k ≡ o → offset_of (step_table fm) s k ≡ place_if o (step_place fm s k)
  offset-place s k none e = go (dec_lt k 8) (dec_lt s 16)
    where
      go : Dec (k < 8) → Dec (s < 16) → offset_of (step_table fm) s k ≡ 0
      go (yes h) (yes l) = sym (offset-in (step_table fm) s k h) ∙ table-place fm s k l h ∙ ap (λ o. place_if o (step_place fm s k)) e
      go (yes h) (no l) = sym (offset-past (step_table fm) s k h (omega (arith, table-length fm)))
      go (no h) l = sym (offset-over (step_table fm) s k (omega arith))
  offset-place s k (some t) e =
      let r = right-step fields fm s k t right e in
      sym (offset-in (step_table fm) s k r.number)
      ∙ table-place fm s k (omega (arith, r.state, right.formed.states)) r.number
      ∙ ap (λ o. place_if o (step_place fm s k)) e

  -- The table is right for every step of the formula.
  pub charted : Charted fields fm (encode fm) (step_table fm)
  charted = record { stands = λ s k h. go s k (step_at fm s k) refl }
    where
      go : (s k : ℕ) (o : Option Step) → step_at fm s k ≡ o → StepThere fields (encode fm) (offset_of (step_table fm) s k) o
      go s k none e = offset-place s k none e
      go s k (some t) e = rw (offset-place s k (some t) e) (omega (arith, place-positive fm s k), step-at s k t e)
