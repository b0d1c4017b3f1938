-- Threads stand for the same configuration where their words hold the same and their lists are the same.
use mathlib.Core.Path.{◌≡◌, refl, ap, sym, ◌∙◌}
use mathlib.Core.Bool.{Bool, true, false, ◌&&◌, beq, and-false}
use mathlib.Core.List.{List}
use Prim.Native.Nat.{ℕ}
use lib.Dec.{eqb}
use borrow.Author.Tests.{eqb-true, eq-eqb}
use Rattle.base.specs.Lists.{same_list}
use Rattle.base.proofs.Same.{list-equal, list_same}
use Rattle.event_log.specs.Log.{Log}
use Rattle.formula.specs.Formula.{Formula}
use Rattle.machine.specs.Configuration.{same}
use Rattle.machine.specs.inner.Along.{gathered, tallies}
use Rattle.slots.specs.declared.Thread.{Thread}
use Rattle.slots.specs.inner.Threads.{trail_of, same_words}
use Rattle.threads.specs.inner.Setting.{Fit}
use Rattle.threads.specs.inner.Calls.{same_as}

-- lists that are the same have the same tallies: that test may stand before theirs
beside : (x : Bool) (ms ns : List (List ℕ))
    → (x && same_list (same_list eqb) ms ns) ≡ ((x && same_list eqb (tallies ms) (tallies ns)) && same_list (same_list eqb) ms ns)
beside x ms ns = go (same_list (same_list eqb) ms ns) refl
  where
    numbers : (n : ℕ) → eqb n n ≡ true
    numbers n = eq-eqb n n refl

    both : (b : Bool) → b ≡ true → (x && true) ≡ ((x && b) && true)
    both b e = rw e (twice x)
      where
        twice : (y : Bool) → (y && true) ≡ ((y && true) && true)
        twice true = refl
        twice false = refl

    go : (b : Bool) → same_list (same_list eqb) ms ns ≡ b → (x && b) ≡ ((x && same_list eqb (tallies ms) (tallies ns)) && b)
    go true e =
        let q : ms ≡ ns = list-equal (same_list eqb) (list-equal eqb eqb-true) ms ns e in
        both (same_list eqb (tallies ms) (tallies ns))
        (ap (λ (z : List (List ℕ)). same_list eqb (tallies z) (tallies ns)) q ∙ list_same eqb numbers (tallies ns))
    go false e = and-false x ∙ sym (and-false (x && same_list eqb (tallies ms) (tallies ns)))

pub same-is : (g : Log) (fm : Formula) (a b : Thread) → Fit g fm a → Fit g fm b
    → same_as g fm b a ≡ (same_words a.config b.config && same_list (same_list eqb) (gathered g fm (trail_of a)) (gathered g fm (trail_of b)))
unfolding same same_words trail_of
same-is g fm a b v w =
    rw (v.tallies_are, w.tallies_are)
    (beside
    (eqb a.config.state b.config.state
    && same_list beq a.config.held b.config.held
    && same_list eqb a.config.values b.config.values
    && same_list eqb a.config.counters b.config.counters)
    (gathered g fm (trail_of a)) (gathered g fm (trail_of b)))
