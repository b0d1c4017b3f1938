-- "Firing finds its steps by it alone": by an entry of the table a step fires, and is expired, as its own bytes from the target on say, whatever stands
-- in the file before them.
use Prim.Native.Nat.{ℕ, zero, suc, ◌+◌, ◌-◌, ◌≤◌}
use mathlib.Core.Path.{◌≡◌, refl, sym, ap, ◌∙◌}
use mathlib.Core.Bool.{Bool, true, false, cond}
use mathlib.Core.List.{List}
use native.Mathlib.Omega.{arith}
use lib.ListN.{length, get_or, drop, replicate}
use lib.Seq.{get_or-drop, drop-drop}
use Rattle.base.specs.Value.{value_at}
use Rattle.event_log.specs.Log.{Values}
use Rattle.machine_code.specs.declared.Configuration.{Configuration}
use Rattle.machine_code.specs.declared.Gained.{Gained}
use Rattle.machine_code.specs.declared.Walked.{Walked}
use Rattle.guard_code.specs.inner.Bytes.{guard_at, falls_at}
use Rattle.machine_code.specs.inner.Bytes.{is_clause, width_of, met, clause_on, clause_at, walk_from, begun, walked, gain_at, gain_from, gained, fired, lapsed}
use Rattle.machine_code.specs.inner.Bytes.{offset_of, is_step, fires_at, expires_at}
use Rattle.machine_code.proofs.EventAlone.{clause-width, clause-place}

-- two files of one length that agree from n on
module _ (f g : List ℕ) (n : ℕ) (long : length f ≡ length g) (rest : drop n f ≡ drop n g) where
  byte-alone : (i : ℕ) → n ≤ i → get_or f i 0 ≡ get_or g i 0
  byte-alone i h =
      let e : n + (i - n) ≡ i = omega arith in
      rw (← e) (sym (get_or-drop n f (i - n) 0) ∙ (ap (λ l. get_or l (i - n) 0) rest ∙ get_or-drop n g (i - n) 0))

  drop-alone : (i : ℕ) → n ≤ i → drop i f ≡ drop i g
  drop-alone i h =
      let e : n + (i - n) ≡ i = omega arith in
      rw (← e) (sym (drop-drop (i - n) n f) ∙ (ap (drop (i - n)) rest ∙ drop-drop (i - n) n g))

  value-alone : (i : ℕ) → n ≤ i → value_at f i ≡ value_at g i
  unfolding value_at
  value-alone i h = rw (byte-alone i h, byte-alone (i + 1) (omega arith), byte-alone (i + 2) (omega arith), byte-alone (i + 3) (omega arith))

  -- a walk over clauses
  module _ (prior : List ℕ) (rises : List Bool) (event : Values) where
    clause-alone : (w : Walked) → n ≤ w.at → clause_at f prior rises event w ≡ clause_at g prior rises event w
    unfolding clause_at clause_on met
    clause-alone w h =
        rw (
          byte-alone w.at h,
          byte-alone (w.at + 1) (omega arith),
          byte-alone (w.at + 2) (omega arith),
          byte-alone (w.at + 3) (omega arith),
          value-alone (w.at + 3) (omega arith),
        )

    walk-alone : (m : ℕ) (w : Walked) → n ≤ w.at
        → (walk_from m f prior rises event w ≡ walk_from m g prior rises event w) × (n ≤ (walk_from m f prior rises event w).at)
    unfolding walk_from
    walk-alone zero w h = (refl, h)
    walk-alone (suc m) w h =
        rw (← byte-alone w.at h, ← clause-alone w h)
        (go (is_clause (get_or f w.at 0)) refl (clause_at f prior rises event w) (clause-place f prior rises event w)
        (walk-alone m (clause_at f prior rises event w)))
      where
        go : (b : Bool) → is_clause (get_or f w.at 0) ≡ b → (v : Walked)
            → ((width_of (get_or f w.at 0) ≡ 0 → ⊥) → v.at ≡ w.at + width_of (get_or f w.at 0))
            → (n ≤ v.at → (walk_from m f prior rises event v ≡ walk_from m g prior rises event v) × (n ≤ (walk_from m f prior rises event v).at))
            → (cond b (walk_from m f prior rises event v) w ≡ cond b (walk_from m g prior rises event v) w)
            × (n ≤ (cond b (walk_from m f prior rises event v) w).at)
        go false q v p next = (refl, h)
        go true q v p next =
            let u = clause-width (get_or f w.at 0) q in
            let e = p (λ z. omega arith) in
            next (omega arith)

  -- what its clauses gather
  gain-alone : (fresh rises : List Bool) (event : Values) (m i : ℕ) (a : Gained) → n ≤ i
      → gain_from m f fresh rises event i a ≡ gain_from m g fresh rises event i a
  unfolding gain_from gain_at
  gain-alone fresh rises event zero i a h = refl
  gain-alone fresh rises event (suc m) i a h =
      rw (
        byte-alone i h,
        byte-alone (i + 1) (omega arith),
        byte-alone (i + 2) (omega arith),
        gain-alone fresh rises event m (i + width_of (get_or g i 0)) (gain_at g fresh rises event i a) (omega arith),
      )

-- the STEP at an offset, in two files of one length that agree from its target on
module _ (f g : List ℕ) (at : ℕ) (long : length f ≡ length g) (rest : drop (suc at) f ≡ drop (suc at) g) (c : Configuration) (fresh : List Bool)
    (event : Values) where
  walked-alone : (rises : List Bool) → (walked f at c rises event ≡ walked g at c rises event) × (suc at ≤ (walked f at c rises event).at)
  unfolding walked begun
  walked-alone rises = rw (← long) (walk-alone f g (suc at) long rest c.values rises event (suc (length f)) (begun at c) (omega arith))

  gained-alone : (rises : List Bool) → gained f at c.tallies fresh rises event ≡ gained g at c.tallies fresh rises event
  unfolding gained
  gained-alone rises = rw (← long) (gain-alone f g (suc at) long rest fresh rises event (suc (length f)) (at + 2) _ (omega arith))

  fired-alone : fired f at c fresh event ≡ fired g at c fresh event
  unfolding fired guard_at
  fired-alone =
      let w = walked-alone (replicate 8 false) in
      let i = w.1 in
      rw (
        byte-alone f g (suc at) long rest (walked f at c (replicate 8 false) event).at i,
        drop-alone f g (suc at) long rest ((walked f at c (replicate 8 false) event).at + 1) (omega arith),
        byte-alone f g (suc at) long rest (at + 1) (omega arith),
        w.0,
        gained-alone (replicate 8 false),
        long,
      )

  lapsed-alone : (rises : List Bool) → lapsed f at c fresh rises event ≡ lapsed g at c fresh rises event
  unfolding lapsed guard_at falls_at
  lapsed-alone rises =
      let w = walked-alone rises in
      let i = w.1 in
      rw (
        byte-alone f g (suc at) long rest (walked f at c rises event).at i,
        drop-alone f g (suc at) long rest ((walked f at c rises event).at + 1) (omega arith),
        w.0,
        gained-alone rises,
        long,
      )

-- Step k of a state, by the table: it fires, and is expired, alike in two files of one length that agree from its target on.
module _ (f g table : List ℕ) (c : Configuration) (k : ℕ) (long : length f ≡ length g)
    (rest : drop (suc (offset_of table c.state k)) f ≡ drop (suc (offset_of table c.state k)) g) (fresh : List Bool) (event : Values) where
  pub fires-alone : fires_at f table c fresh event k ≡ fires_at g table c fresh event k
  unfolding fires_at is_step
  fires-alone = rw (fired-alone f g (offset_of table c.state k) long rest c fresh event, long)

  pub expires-alone : (rises : List Bool) → expires_at f table c fresh rises event k ≡ expires_at g table c fresh rises event k
  unfolding expires_at is_step
  expires-alone rises = rw (lapsed-alone f g (offset_of table c.state k) long rest c fresh event rises, long)
