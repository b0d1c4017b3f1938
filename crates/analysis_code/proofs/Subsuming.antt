-- Subsumption over a list of runs that grows by a row, and the verdict.
use Prim.Native.Nat.{ℕ, zero, suc, ◌+◌, ◌-◌, ◌*◌, ◌<◌, ◌≤◌}
use mathlib.Core.Path.{◌≡◌, refl, ap, sym, ◌∙◌}
use mathlib.Core.Bool.{Bool, true, false, cond, ◌||◌, or-false, or_assoc}
use mathlib.Core.List.{List, [], ◌∷◌, ◌++◌}
use native.Mathlib.Numerals.{add-one}
use native.Mathlib.Omega.{arith}
use borrow.Author.Tests.{le-leb, lt-leb, eq-eqb, ne_eqb}
use lib.ListN.{get_or, take, drop}
use Rattle.std.specs.List.{list_any}
use Rattle.analysis.specs.Rows.{NamedRun, tied_alike, subsumes, subsumed, verdict}
use Rattle.analysis_code.specs.inner.Starts.{run_if, runs_of}

module _ (tied : List ℕ) (start : ℕ) (this : NamedRun) where
  subsumed-append : (xs ys : List NamedRun) → subsumed tied start this (xs ++ ys) ≡ (subsumed tied start this xs || subsumed tied start this ys)
  unfolding subsumed
  subsumed-append [] ys = refl
  subsumed-append (x ∷ xs) ys =
      ap (λ b. subsumes tied start this x || b) (subsumed-append xs ys) ∙ sym
      (or_assoc (subsumes tied start this x) (subsumed tied start this xs) (subsumed tied start this ys))

  -- a row without a run subsumes nothing, one with a run by that run alone
  pub by-none : (ws : List ℕ) → [] ≡ run_if ws → false ≡ subsumed tied start this (run_if ws)
  unfolding subsumed
  by-none ws e = rw (← e)

  pub by-run : (ws : List ℕ) (r : NamedRun) → r ∷ [] ≡ run_if ws → subsumes tied start this r ≡ subsumed tied start this (run_if ws)
  unfolding subsumed
  by-run ws r e = rw (← e) (sym (or-false (subsumes tied start this r)))

  -- rows subsume where any of them does
  pub any-row : (rows : List (List ℕ)) → list_any (λ ws. subsumed tied start this (run_if ws)) rows ≡ subsumed tied start this (runs_of rows)
  unfolding runs_of subsumed
  any-row [] = refl
  any-row (ws ∷ rows) = ap (λ b. subsumed tied start this (run_if ws) || b) (any-row rows) ∙ sym (subsumed-append (run_if ws) (runs_of rows))

-- the tied variables matter to the verdict only by the tie rule
subsumed-same : (ws vs : List ℕ) (start : ℕ) (this : NamedRun) → ((a b : NamedRun) → tied_alike ws a b ≡ tied_alike vs a b) → (es : List NamedRun)
    → subsumed ws start this es ≡ subsumed vs start this es
unfolding subsumed subsumes
subsumed-same ws vs start this f [] = refl
subsumed-same ws vs start this f (e ∷ es) = rw (f e this, subsumed-same ws vs start this f es)

pub verdict-same : (ws vs : List ℕ) (start : ℕ) (this : NamedRun) (earlier : List NamedRun) → ((a b : NamedRun) → tied_alike ws a b ≡ tied_alike vs a b)
    → verdict ws start this earlier ≡ verdict vs start this earlier
unfolding verdict
verdict-same ws vs start this earlier f = rw (subsumed-same ws vs start this f earlier)
