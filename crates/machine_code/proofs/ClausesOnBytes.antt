-- Walking a step's clauses over its bytes: what each function of the code computes, and that on a step's bytes it is the definition's walk.
use Prim.Native.Nat.{ℕ, zero, suc, ◌+◌, ◌-◌, ◌<◌, ◌≤◌}
use mathlib.Core.Path.{◌≡◌, refl, ap, sym, ◌∙◌}
use mathlib.Core.Bool.{Bool, true, false, cond}
use mathlib.Core.List.{List}
use native.Mathlib.Omega.{arith}
use borrow.Author.Tests.{lt-ltb, le-ltb, ne_eqb, ltb-true, ltb-false}
use lib.ListN.{length, get_or, get_or-eq_default}
use lib.Dec.{eqb, ltb}
use Rattle.base.specs.Value.{value_at}
use Rattle.event_log.specs.Log.{Values}
use Rattle.machine_code.specs.declared.Configuration.{Configuration}
use Rattle.machine_code.specs.declared.Walked.{Walked}
use Rattle.machine_code.specs.inner.Bytes.{is_clause, tested, bound, noted, met, clause_on, clause_at}
use Rattle.machine_code.specs.inner.Bytes.{walk_from, begun, walked}
use Rattle.machine_code.specs.inner.Walking.{Walking}

-- what holds of two walks holds of either
pub either : (P : Walked → Type 0) (t : Bool) (a b : Walked) → P a → P b → P (cond t a b)
either P true a b p q = p
either P false a b p q = q

pub clause-gather : (c : ℕ) → c ≡ 0x17 → true ≡ is_clause c
unfolding is_clause
clause-gather c h = rw h

pub clause-in : (c : ℕ) → 0x12 ≤ c → c < 0x15 → true ≡ is_clause c
unfolding is_clause
clause-in c h k = rw (ne_eqb c 0x17 (λ e. omega arith), le-ltb c 0x12 h, lt-ltb c 0x15 k)

pub clause-low : (c : ℕ) → c < 0x12 → false ≡ is_clause c
unfolding is_clause
clause-low c h = rw (ne_eqb c 0x17 (λ e. omega arith), lt-ltb c 0x12 h)

pub clause-high : (c : ℕ) → (c ≡ 0x17 → ⊥) → 0x15 ≤ c → false ≡ is_clause c
unfolding is_clause
clause-high c n h = rw (ne_eqb c 0x17 n, le-ltb c 0x12 (omega arith), le-ltb c 0x15 h)

-- there is a byte where a clause stands
pub clause-inside : (f : List ℕ) (at : ℕ) → is_clause (get_or f at 0) ≡ true → at < length f
clause-inside f at h = go (ltb at (length f)) refl
  where
    go : (b : Bool) → ltb at (length f) ≡ b → at < length f
    go true e = ltb-true at (length f) e
    go false e =
        let q : get_or f at 0 ≡ 0 = get_or-eq_default f 0 (ltb-false at (length f) e) in
        let z : true ≡ false = sym h ∙ ap is_clause q ∙ sym (clause-low 0 (omega arith)) in
        let n : ◌≡◌ {A = ℕ} 0 1 = cc in absurd (omega arith)

-- the clause's operands as the code reads them
module _ (f prior : List ℕ) (w : Walked) (x o c : ℕ) (r : Bool) (e₄ : o ≡ get_or f (w.at + 2) 0) (e₅ : c ≡ get_or f w.at 0) where
  pub clause-test : (y : ℕ) (d : Walked) → c ≡ 0x12 → y ≡ value_at f (w.at + 3) → d ≡ tested w (w.at + 7) o x y r → d ≡ clause_on f prior w x r
  unfolding clause_on
  clause-test y d k e g = rw (← e₅, k, ← e₄, ← e) g

  pub clause-testv : (v y : ℕ) (d : Walked) → c ≡ 0x13 → v ≡ get_or f (w.at + 3) 0 → y ≡ get_or prior v 0 → d ≡ tested w (w.at + 4) o x y r
      → d ≡ clause_on f prior w x r
  unfolding clause_on
  clause-testv v y d k e₆ e g = rw (← e₅, k, ← e₄, ← e₆, ← e) g

  pub clause-note : (d : Walked) → c ≡ 0x17 → d ≡ noted w (w.at + 3) → d ≡ clause_on f prior w x r
  unfolding clause_on
  clause-note d k g = rw (← e₅, k) g

  pub clause-bind : (d : Walked) → (c ≡ 0x12 → ⊥) → (c ≡ 0x13 → ⊥) → (c ≡ 0x17 → ⊥) → d ≡ bound w (w.at + 3) o x r → d ≡ clause_on f prior w x r
  unfolding clause_on
  clause-bind d n m k g = rw (← e₅, ne_eqb c 0x12 n, ne_eqb c 0x13 m, ne_eqb c 0x17 k, ← e₄) g

-- a clause takes at least 3 bytes
pub clause-progress : (f prior : List ℕ) (rises : List Bool) (event : Values) (w : Walked) → w.at + 3 ≤ (clause_at f prior rises event w).at
unfolding clause_at clause_on met tested bound noted
clause-progress f prior rises event w =
    let c = get_or f w.at 0 in
    either (λ d. w.at + 3 ≤ d.at) (eqb c 0x12) _ _ (omega arith)
    (either (λ d. w.at + 3 ≤ d.at) (eqb c 0x13) _ _ (omega arith)
    (either (λ d. w.at + 3 ≤ d.at) (eqb c 0x17) _ _ (omega arith) (omega arith)))

module _ (f prior : List ℕ) (rises : List Bool) (event : Values) (v : Walked) where
  pub walking_start : Walking f prior rises event v v
  walking_start = record { left = suc (length f); enough = omega arith; ahead = refl }

  step : (n : ℕ) (w : Walked) → 0 < n → is_clause (get_or f w.at 0) ≡ true
      → walk_from n f prior rises event w ≡ walk_from (n - 1) f prior rises event (clause_at f prior rises event w)
  unfolding walk_from
  step zero w h e = absurd (omega arith)
  step (suc n) w h e = let q : suc n - 1 ≡ n = omega arith in rw (e, q)

  stop : (n : ℕ) (w : Walked) → is_clause (get_or f w.at 0) ≡ false → walk_from n f prior rises event w ≡ w
  unfolding walk_from
  stop zero w e = refl
  stop (suc n) w e = rw e

  pub walking-more : (w d : Walked) → Walking f prior rises event v w → is_clause (get_or f w.at 0) ≡ true → d ≡ clause_at f prior rises event w
      → Walking f prior rises event v d
  walking-more w d h e q =
      let i = clause-inside f w.at e in
      let p : w.at + 3 ≤ d.at = rw q (clause-progress f prior rises event w) in
      let n : 0 < h.left = omega (arith, h.enough) in
      record {
        left = h.left - 1;
        enough = omega (arith, h.enough);
        ahead = h.ahead ∙ step h.left w n e ∙ ap (walk_from (h.left - 1) f prior rises event) (sym q);
      }

  pub walking-done : (w : Walked) → Walking f prior rises event v w → is_clause (get_or f w.at 0) ≡ false
      → w ≡ walk_from (suc (length f)) f prior rises event v
  walking-done w h e = sym (h.ahead ∙ stop h.left w e)

  pub walking-less : (w d : Walked) → is_clause (get_or f w.at 0) ≡ true → d ≡ clause_at f prior rises event w → length f - d.at < length f - w.at
  walking-less w d e q =
      let i = clause-inside f w.at e in
      let p : w.at + 3 ≤ d.at = rw q (clause-progress f prior rises event w) in
      omega arith

pub walked_from : (f : List ℕ) (at : ℕ) (c : Configuration) (rises : List Bool) (event : Values) (v w : Walked) → v ≡ begun at c
    → w ≡ walk_from (suc (length f)) f c.values rises event v → w ≡ walked f at c rises event
unfolding walked
walked_from f at c rises event v w p q = rw (← p) q
