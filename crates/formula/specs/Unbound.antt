-- "A variable is unbound at a TESTV if some path of steps from state 0 to that step's state binds it nowhere": the paths themselves, and the states
-- that such paths reach, computed.
use Rattle.std.specs.Prelude.{ℕ, zero, suc, ◌≡◌, Bool, true, false, cond, not, ◌&&◌, ◌||◌, eqb, get_or, set, replicate}
use mathlib.Core.List.{List, [], ◌∷◌, ◌++◌, map, Memᴰ}
use Rattle.base.specs.Lists.{All}
use Rattle.formula.specs.Formula.{Clause, TEST, TESTV, BIND, GATHER, Step, ordinary, State, Formula}

-- some BIND among the clauses binds the variable
unfoldable pub binds : ℕ → List Clause → Bool
binds v [] = false
binds v (TEST f o x ∷ cs) = binds v cs
binds v (TESTV f o w ∷ cs) = binds v cs
binds v (BIND f w ∷ cs) = eqb w v || binds v cs
binds v (GATHER f w ∷ cs) = binds v cs

-- the steps of state s, none where there is no such state
unfoldable pub steps_of : Formula → ℕ → List Step
steps_of f s = (get_or f.states s (record { kind = ordinary; steps = [] })).steps

-- "Paths ignore tests and guards; the empty path reaches state 0": the steps p lead from state s to state t
abbrev pub IsPath : Formula → ℕ → List Step → ℕ → Type 0
IsPath f s [] t = s ≡ t
IsPath f s (x ∷ p) t = Memᴰ x (steps_of f s) × IsPath f x.target p t

-- "some path of steps from state 0 to that step's state binds it nowhere"
pub record Unbound (f : Formula) (v : ℕ) (s : ℕ) : Type 0 where
  pub path : List Step
  pub leads : IsPath f 0 path s
  pub nowhere : All (λ (x : Step). binds v x.clauses ≡ false) path

-- a step with the number of the state it stands in
pub record Edge : Type 0 where
  pub from : ℕ
  pub step : Step

-- every step in file order, the states numbered from s on
unfoldable pub edges_from : ℕ → List State → List Edge
edges_from s [] = []
edges_from s (x ∷ xs) = map (λ (t : Step). record { from = s; step = t }) x.steps ++ edges_from (suc s) xs

-- a step from a marked state that does not bind v marks its target
unfoldable pub mark : ℕ → List Bool → Edge → List Bool
mark v m e = cond (get_or m e.from false && not (binds v e.step.clauses)) (set m e.step.target true) m

-- one round over the steps in file order
unfoldable pub round : ℕ → List Edge → List Bool → List Bool
round v [] m = m
round v (e ∷ es) m = round v es (mark v m e)

unfoldable pub rounds : ℕ → ℕ → List Edge → List Bool → List Bool
rounds zero v es m = m
rounds (suc n) v es m = rounds n v es (round v es m)

-- the states, 16 marks, that some path reaches without binding v: state 0, then 16 rounds
unfoldable pub unbound : Formula → ℕ → List Bool
unbound f v = rounds 16 v (edges_from 0 f.states) (true ∷ replicate 15 false)

-- some path to state s binds v nowhere, by the marks
unfoldable pub is_unbound : Formula → ℕ → ℕ → Bool
is_unbound f v s = get_or (unbound f v) s false
