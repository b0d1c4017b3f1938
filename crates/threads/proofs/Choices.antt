-- What a thread may do on an event: its moves are those of a range of steps; and whether it may stay.
use Prim.Native.Nat.{ℕ, zero, suc, ◌+◌, ◌-◌, ◌<◌, ◌≤◌}
use mathlib.Core.Path.{◌≡◌, refl, ap, sym, ◌∙◌}
use mathlib.Core.Bool.{Bool, true, false, ◌&&◌, and-true, true≢false, false≢true}
use mathlib.Core.List.{[], ◌∷◌, cons≢nil}
use mathlib.Core.Option.{Option, none, some}
use native.Mathlib.Omega.{arith}
use Rattle.std.specs.Prelude.{Option as Maybe, Some, None}
use lib.Dec.{ltb}
use borrow.Author.Tests.{ltb-true, ltb-false, lt-ltb}
use Rattle.base.specs.Lists.{some_below}
use Rattle.base.proofs.Tests.{cond-holds}
use Rattle.event_log.specs.Log.{Log}
use Rattle.formula.specs.Formula.{Formula}
use Rattle.runs.specs.inner.Lists.{keep}
use Rattle.runs.specs.inner.Search as Runs
use Rattle.runs.proofs.Moves.{firing-quiet, stepped}
use Rattle.runs.proofs.Growth.{firing-fires, moves-ordinary, moves-quiet, moves-lowest, leaves}
use Rattle.machine.specs.Machine.{machine, fire_at, committed, final}
use Rattle.machine.specs.Configuration.{Config}
use Rattle.slots.specs.declared.Thread.{Thread}
use Rattle.slots.specs.inner.Threads.{trail_of}
use Rattle.threads.specs.inner.Setting.{Fit, conf, thread}
use Rattle.machine_code.proofs.SameMachine as Code
use Rattle.machine_code.proofs.SameMachine.{is_fired}
use Rattle.threads.specs.declared.scene.Scene.{Scene}
use Rattle.threads.specs.inner.Calls.{Fires, FirstTakenIs, Lowest, LowestByIs, NoEnding, Chosen}
use Rattle.threads.proofs.Below.{below_next}
use Rattle.threads.proofs.Steps.{begun-steps}

module _ (g : Log) (fm : Formula) (t : Thread) (n : ℕ) where
  -- ---- the lowest step that fires

  silent : (k : ℕ) → is_fired (fire_at g fm (conf g fm t) n k) ≡ false → fire_at g fm (conf g fm t) n k ≡ none
  silent k e = by (fire_at g fm (conf g fm t) n k) e
    where
      by : (o : Option Config) → is_fired o ≡ false → o ≡ none
      by none q = refl
      by (some d) q = absurd (true≢false q)

  pub firing : (k : ℕ) → is_fired (fire_at g fm (conf g fm t) n k) ≡ true → Fires g fm (conf g fm t) n k
  firing k e = by (fire_at g fm (conf g fm t) n k) refl e
    where
      by : (o : Option Config) → fire_at g fm (conf g fm t) n k ≡ o → is_fired o ≡ true → Fires g fm (conf g fm t) n k
      by none q x = absurd (false≢true x)
      by (some d) q x = record { left = d; is = q }

  pub lowest-found : (k : ℕ) → Code.Lowest (λ j. is_fired (fire_at g fm (conf g fm t) n j)) k → k < 8 → Lowest g fm (conf g fm t) n (Some k)
  lowest-found k low h = (λ j l. silent j (low.before j l), firing k (low.here h))

  pub lowest-none : (k : ℕ) → Code.Lowest (λ j. is_fired (fire_at g fm (conf g fm t) n j)) k → 8 ≤ k → Lowest g fm (conf g fm t) n None
  lowest-none k low h j l = silent j (low.before j (omega (arith, l, h)))

  -- in a committed state, where no move ends a run: steps before k that end runs, where they fire, do not fire
  quiet-before : committed fm (conf g fm t) ≡ true → NoEnding g fm t n → (k : ℕ) → k ≤ 8
      → ((j : ℕ) → j < k → (d : Config) → fire_at g fm (conf g fm t) n j ≡ some d → final fm d ≡ true) → (j : ℕ) → j < k → fire_at g fm (conf g fm t) n j ≡ none
  unfolding keep
  quiet-before e o zero l h = λ j b. absurd (omega (arith, b))
  quiet-before e o (suc k) l h = go (quiet-before e o k (omega (arith, l)) (λ j b. h j (omega (arith, b))))
    where
      ended-one : (d : Config) → final fm d ≡ true → keep (Runs.ended (machine g fm)) (stepped (machine g fm) (thread g fm t) n k d ∷ []) ≡ [] → ⊥
      ended-one d q = rw q (λ z. cons≢nil z)

      here : ((j : ℕ) → j < k → fire_at g fm (conf g fm t) n j ≡ none) → (x : Option Config) → fire_at g fm (conf g fm t) n k ≡ x → x ≡ none
      here before none q = refl
      here before (some d) q =
          absurd (ended-one d (h k (omega arith) d q)
          (ap (keep (Runs.ended (machine g fm))) (sym (moves-lowest (machine g fm) n (thread g fm t) k d e (omega (arith, l)) q before)) ∙ o))

      go : ((j : ℕ) → j < k → fire_at g fm (conf g fm t) n j ≡ none) → (j : ℕ) → j < suc k → fire_at g fm (conf g fm t) n j ≡ none
      go before j b =
          below_next (λ z. fire_at g fm (conf g fm t) n z ≡ none) k before (here before (fire_at g fm (conf g fm t) n k) refl) j (omega (arith, b))

  -- the lowest of the steps that end no run is the lowest of all
  pub lowest-open : committed fm (conf g fm t) ≡ true → NoEnding g fm t n → (k : ℕ) → k ≤ 8
      → ((j : ℕ) → j < k → (d : Config) → fire_at g fm (conf g fm t) n j ≡ some d → final fm d ≡ true) → (k < 8 → Fires g fm (conf g fm t) n k)
      → Lowest g fm (conf g fm t) n (some_below 8 k)
  lowest-open e o k l h f =
      cond-holds (Lowest g fm (conf g fm t) n) (ltb k 8) (Some k) None (λ b. (quiet-before e o k l h, f (ltb-true k 8 b)))
      (λ b j m. quiet-before e o k l h j (omega (arith, ltb-false k 8 b, m)))

  -- ---- what may be taken

  module _ (h : Fit g fm t) where
    pub ordinary-choice : committed fm (conf g fm t) ≡ false → Chosen g fm t n (record { from = 0; to = 8; stays = ltb 0 t.steps })
    unfolding Runs.stays
    ordinary-choice e =
        record {
          moves_are = moves-ordinary (machine g fm) n (thread g fm t) e;
          stays_is =
              begun-steps g fm t h ∙ sym (and-true (Runs.begun (trail_of t)))
              ∙ ap (λ b. Runs.begun (trail_of t) && Runs.passes_over (machine g fm) b (Runs.firing (machine g fm) (thread g fm t) n 0 8)) (sym e);
        }

    -- none of its steps fires
    pub quiet-choice : ((k : ℕ) → k < 8 → fire_at g fm (conf g fm t) n k ≡ none) → Chosen g fm t n (record { from = 8; to = 8; stays = ltb 0 t.steps })
    unfolding Runs.stays Runs.firing
    quiet-choice quiet =
        record {
          moves_are = moves-quiet (machine g fm) n (thread g fm t) quiet;
          stays_is =
              begun-steps g fm t h ∙ sym (and-true (Runs.begun (trail_of t)))
              ∙ ap (λ b. Runs.begun (trail_of t) && b) (sym (passes (committed fm (conf g fm t))))
              ∙ ap (λ l. Runs.begun (trail_of t) && Runs.passes_over (machine g fm) (committed fm (conf g fm t)) l)
              (sym (firing-quiet (machine g fm) (thread g fm t) n 0 8 (λ j p l. quiet j l)));
        }
      where
        passes : (b : Bool) → Runs.passes_over (machine g fm) b [] ≡ true
        passes true = refl
        passes false = refl

    pub lowest-choice : (k : ℕ) → committed fm (conf g fm t) ≡ true → k < 8 → Lowest g fm (conf g fm t) n (Some k)
        → Chosen g fm t n (record { from = k; to = k + 1; stays = false })
    unfolding Runs.firing
    lowest-choice k e l low =
        let x = low.1 in
        let one : k + 1 - k ≡ 1 = omega arith in
        record {
          moves_are = moves-lowest (machine g fm) n (thread g fm t) k x.left e l x.is low.0
              ∙ sym (firing-fires (machine g fm) (thread g fm t) n k (k + 1 - k) 0 x.left one x.is);
          stays_is = sym (leaves (machine g fm) n (thread g fm t) k x.left e l x.is low.0);
        }

-- what the code finds among the steps that end no run is the lowest of all
pub open-lowest : (s : Scene) (t : Thread) (r : Maybe ℕ) → FirstTakenIs s t false r → LowestByIs s t true r
open-lowest s t None x g fm stands w e o = lowest-open g fm t s.moment.number e (o refl) 8 (omega arith) (x g fm stands w) (λ b. absurd (omega (arith, b)))
open-lowest s t (Some k) x g fm stands w e o =
    let low = lowest-open g fm t s.moment.number e (o refl) k (omega (arith, x.0)) (x.1 g fm stands w) (λ b. x.2 g fm stands w) in
    rw (lt-ltb k 8 x.0) at low
