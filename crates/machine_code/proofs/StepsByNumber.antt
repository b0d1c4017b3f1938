-- The steps of a state by number: where they stand, and which of them fires.
use Prim.Native.Nat.{ℕ, ◌+◌, ◌*◌, ◌<◌, ◌≤◌}
use mathlib.Core.Path.{◌≡◌, refl, ap, sym, ◌∙◌}
use mathlib.Core.Bool.{Bool, true, false, cond, false≢true}
use mathlib.Core.List.{List}
use borrow.Author.Tests.{le-leb, lt-leb, ltb-true, eq-eqb}
use lib.ListN.{length, get_or, replicate, get_or-eq_default}
use lib.Dec.{eqb, ltb}
use Rattle.event_log.specs.Log.{Values}
use Rattle.machine_code.specs.declared.Configuration.{Configuration}
use Rattle.machine_code.specs.declared.Walked.{Walked}
use Rattle.machine_code.specs.inner.Bytes.{is_clause, begun, kept, gained, raised, guard_behind, Firing, fired, offset_of, is_step, fires_at}
use Rattle.machine_code.specs.inner.Walking.{Walking}
use Rattle.machine_code.proofs.ClausesOnBytes.{walking-done, walked_from}
use Rattle.machine_code.proofs.EventAlone.{stopped-fails}
use Rattle.machine_code.proofs.FiringOnBytes.{fired-failed, fired-guard}

pub offset-over : (table : List ℕ) (s k : ℕ) → 8 ≤ k → 0 ≡ offset_of table s k
unfolding offset_of
offset-over table s k h = rw (le-leb 8 k h)

pub offset-in : (table : List ℕ) (s k : ℕ) → k < 8 → get_or table (s * 8 + k) 0 ≡ offset_of table s k
unfolding offset_of
offset-in table s k h = rw (lt-leb 8 k h)

pub offset-past : (table : List ℕ) (s k : ℕ) → k < 8 → length table ≤ s * 8 + k → 0 ≡ offset_of table s k
offset-past table s k h q = sym (get_or-eq_default table 0 q) ∙ offset-in table s k h

pub step-none : (f : List ℕ) (at : ℕ) → at ≡ 0 → false ≡ is_step f at
unfolding is_step
step-none f at h = rw (eq-eqb at 0 h)

pub step-inside : (f : List ℕ) (at : ℕ) → is_step f at ≡ true → at < length f
unfolding is_step
step-inside f at h = go (eqb at 0) h
  where
    go : (b : Bool) → cond b false (ltb at (length f)) ≡ true → at < length f
    go true e = absurd (false≢true e)
    go false e = ltb-true at (length f) e

-- how one step of the search ends
module _ (f table : List ℕ) (c : Configuration) (fresh : List Bool) (event : Values) (k at : ℕ) (place : at ≡ offset_of table c.state k) where
  pub fires-absent : is_step f at ≡ false → fires_at f table c fresh event k ≡ false
  unfolding fires_at
  fires-absent h = rw (← place, h)

  module _ (there : is_step f at ≡ true) (w : Walked) (way : Walking f c.values (replicate 8 false) event (begun at c) w) where
    fires-fired : (b : Bool) → b ≡ (fired f at c fresh event).fires → fires_at f table c fresh event k ≡ b
    unfolding fires_at
    fires-fired b h = rw (← place, there) (sym h)

    -- a test that fails
    pub fires-failed : w.passes ≡ false → fires_at f table c fresh event k ≡ false
    fires-failed h =
        let z = stopped-fails f at c (replicate 8 false) event (λ (v : Walked). v.passes ≡ false) (w, way, h) (λ v q. q) in
        fires-fired false (ap (λ (x : Firing). x.fires) (fired-failed f at c fresh event (step-inside f at there) z))

    -- every test passes, and the guard decides
    pub fires-guard : (counters : List ℕ) (b : Bool) → w.passes ≡ true → is_clause (get_or f w.at 0) ≡ false → counters ≡ raised c.counters c.state
        → b ≡ guard_behind f w counters (cond w.gathers (gained f at c.tallies fresh (replicate 8 false) event) (kept c.tallies)).tallies
        → fires_at f table c fresh event k ≡ b
    fires-guard counters b h stop e q =
        let i =
        walked_from f at c (replicate 8 false) event (begun at c) w refl (walking-done f c.values (replicate 8 false) event (begun at c) w way stop) in
        fires-fired b
        (ap (λ (x : Firing). x.fires) (fired-guard f at c fresh event (step-inside f at there) w counters _ _ b i h e refl refl q))
