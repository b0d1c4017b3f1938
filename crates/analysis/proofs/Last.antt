-- A run's last event stands last among the events that a search's answer carries.
use Prim.Native.Nat.{suc, ◌-◌, ◌≤◌}
use native.Mathlib.Omega.{arith}
use mathlib.Core.Path.{◌≡◌, refl, ap, ◌∙◌}
use mathlib.Core.List.{[], ◌∷◌}
use lib.ListN.{length, get_or}
use Rattle.base.specs.Lists.{pad}
use Rattle.base.proofs.Lists.{get_d-pad}
use Rattle.runs.specs.Run.{Entry, Trail, last_or, last}
use Rattle.runs.specs.Order.{events}

events-last : (x : Entry) (t : Trail) → get_or (events (x ∷ t)) (length t) 0 ≡ last_or x.event t
events-last x [] = refl
events-last x (y ∷ t) = events-last y t

pub last-is : (t : Trail) → length t ≤ 32 → get_or (pad 32 0 (events t)) (length t - 1) 0 ≡ last t
unfolding pad
last-is [] h = refl
last-is (x ∷ t) h =
    let q : suc (length t) - 1 ≡ length t = omega arith in
    ap (λ i. get_or (pad 32 0 (events (x ∷ t))) i 0) q ∙ get_d-pad 32 0 (events (x ∷ t)) (length t) (omega arith) ∙ events-last x t
