-- A field as the code reads it: whether it is present, and its value.
use Prim.Native.Nat.{ℕ}
use mathlib.Core.Path.{◌≡◌, ap, sym, ◌∙◌}
use mathlib.Core.Bool.{Bool, true, false}
use mathlib.Core.List.{List}
use lib.ListN.{get_or}
use Rattle.event_log.specs.Log.{Values, present, field}
use Rattle.event_log.specs.Event.{together}
use Rattle.event_log.proofs.Fields.{present-together, field-together}

module _ (there : List Bool) (values : List ℕ) (fields : Values) (are : together there values ≡ fields) (n : ℕ) where
  pub has-read : (b : Bool) → b ≡ get_or there n false → b ≡ present fields n
  has-read b e = rw (← are) (e ∙ sym (present-together there values n))

  pub reading-there : (x : ℕ) → true ≡ present fields n → x ≡ get_or values n 0 → x ≡ field fields n
  reading-there x h e =
      let p : get_or there n false ≡ true = sym (present-together there values n) ∙ ap (λ v. present v n) are ∙ sym h in
      rw (← are, field-together there values n, p) e
