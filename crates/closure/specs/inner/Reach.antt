-- The states that paths reach without binding a variable, worked out on the steps as the reader keeps them.
use Rattle.std.specs.Prelude.{ℕ, zero, suc, ◌+◌, ◌*◌, ◌<◌, ◌≡◌, Bool, true, false, cond, not, ◌&&◌, List, ◌∷◌, get_or, set, replicate, fold}
use Rattle.closure.specs.declared.Edge.{Edge}

-- a step from a marked state that does not bind variable v marks its target
abbrev pub mark : ℕ → List Bool → Edge → List Bool
mark v m e = cond (get_or m e.from false && not (get_or e.binds v false)) (set m e.to true) m

-- n rounds over the steps in their order
unfoldable pub rounds : ℕ → ℕ → List Edge → List Bool → List Bool
rounds zero v es m = m
rounds (suc n) v es m = rounds n v es (fold (mark v) m es)

-- the states reached without binding variable v
unfoldable pub reach_of : List Edge → ℕ → List Bool
reach_of es v = rounds 16 v es (true ∷ replicate 15 false)

-- at v * 16 + s stands whether some path to state s binds v nowhere
pub record Free (es : List Edge) (r : List Bool) : Type 0 where
  pub is : (v s : ℕ) → v < 8 → s < 16 → get_or r (v * 16 + s) false ≡ get_or (reach_of es v) s false
