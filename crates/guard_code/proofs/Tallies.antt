-- What stands where in the tallies of 4 lists: sums at v, lengths at 4 + v, numbers of different values at 8 + v.
use Prim.Native.Nat.{ℕ, ◌+◌, ◌<◌}
use mathlib.Core.Path.{◌≡◌, ◌∙◌}
use mathlib.Core.List.{List, [], ◌++◌, map}
use native.Mathlib.Omega.{arith}
use lib.ListN.{length, get_or, length-map, get_or-append, get_or-map}
use lib.Seq.{get_or-append-add}
use Rattle.machine.specs.Configuration.{list_of}
use Rattle.machine.specs.Guard.{sum, different}
use Rattle.machine.specs.inner.Along.{tallies}

-- in the first part, and behind it
before : (a b : List ℕ) (v : ℕ) → length a ≡ 4 → v < 4 → get_or (a ++ b) v 0 ≡ get_or a v 0
before a b v e h = get_or-append a b 0 v (omega arith)

behind : (a b : List ℕ) (v : ℕ) → length a ≡ 4 → get_or (a ++ b) (4 + v) 0 ≡ get_or b v 0
behind a b v e = rw (← e) (get_or-append-add a b v 0)

module _ (ls : List (List ℕ)) (four : length ls ≡ 4) where
  kept : (f : List ℕ → ℕ) → length (map f ls) ≡ 4
  kept f = length-map ls f ∙ four

  pub sum-at : (v : ℕ) → v < 4 → get_or (tallies ls) v 0 ≡ sum (list_of ls v)
  sum-at v h = before (map sum ls) (map length ls ++ map different ls) v (kept sum) h ∙ get_or-map sum ls v []

  pub length_at : (v : ℕ) → v < 4 → get_or (tallies ls) (4 + v) 0 ≡ length (list_of ls v)
  length_at v h =
      behind (map sum ls) (map length ls ++ map different ls) v (kept sum) ∙ before (map length ls) (map different ls) v (kept length) h
      ∙ get_or-map length ls v []

  pub different-at : (v : ℕ) → get_or (tallies ls) (8 + v) 0 ≡ different (list_of ls v)
  different-at v =
      let e : 8 + v ≡ 4 + (4 + v) = omega arith in
      rw e
      (behind (map sum ls) (map length ls ++ map different ls) (4 + v) (kept sum) ∙ behind (map length ls) (map different ls) v (kept length)
      ∙ get_or-map different ls v [])
