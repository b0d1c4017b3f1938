-- States some step of which never expires, marked step by step.
use Prim.Native.Nat.{ℕ, ◌+◌, ◌*◌, ◌/◌, ◌%◌, ◌<◌}
use mathlib.Core.Path.{◌≡◌, refl, sym, ap, ◌∙◌, subst}
use mathlib.Core.Bool.{Bool, true, false}
use mathlib.Core.List.{List}
use native.Mathlib.Omega.{arith}
use lib.ListN.{length, get_or, set}
use lib.Seq.{get_or-set_other}
use lib.Dec.{eqb}
use borrow.Author.Tests.{ne_eqb, lt-ltb, eqb-true, eqb-false}
use Rattle.machine_code.specs.inner.Bytes.{is_step}
use Rattle.machine_code.proofs.StepsByNumber.{offset-in}
use Rattle.threads.specs.inner.Setting.{LastingStep, LastingState, LastingIs}

-- an offset inside the formula is that of a step
pub is-there : (f : List ℕ) (at : ℕ) → (at ≡ 0 → ⊥) → at < length f → is_step f at ≡ true
unfolding is_step
is-there f at z h = rw (ne_eqb at 0 z, lt-ltb at (length f) h)

-- a state is marked for a step that never expires
pub lasting-more : (f steps : List ℕ) (rises states : List Bool) (i : ℕ) → i < 128 → LastingIs f steps rises states
    → LastingStep f (get_or steps i 0) rises → LastingIs f steps rises (set states (i / 8) true)
lasting-more f steps rises states i h l o s e = go (eqb s (i / 8)) refl
  where
    go : (b : Bool) → eqb s (i / 8) ≡ b → LastingState f steps rises s
    go true q =
        let k : i % 8 < 8 = omega arith in
        let at : s * 8 + i % 8 ≡ i = omega (arith, eqb-true s (i / 8) q) in
        record {
          step = i % 8;
          known = k;
          lasts = subst (λ x. LastingStep f x rises) (ap (λ j. get_or steps j 0) (sym at) ∙ offset-in steps s (i % 8) k) o;
        }
    go false q = l s (sym (get_or-set_other states (i / 8) s true false (eqb-false s (i / 8) q)) ∙ e)
