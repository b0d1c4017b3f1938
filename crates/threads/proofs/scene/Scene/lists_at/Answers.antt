-- `lists_at` meets its contract: what is read back holds the lists.
use mathlib.Core.Path.{ap, sym, subst, ◌∙◌}
use Prim.Native.Nat.{ℕ, min}
use mathlib.Core.List.{List}
use lib.ListN.{take, replicate}
use Rattle.base.proofs.Lists.{rest-drop}
use Rattle.machine.specs.inner.Along.{gathered}
use Rattle.slots.specs.inner.Threads.{trail_of}
use Rattle.lists.specs.inner.Words.{Holds, read_back}
use Rattle.threads.proofs.Lists.{back}
use Rattle.threads.proofs.scene.Scene.lists_at.Goals as goal

pub returns : goal.returns
returns c =
    let s = c.args.self.now in
    let t = c.args.t.now in
    let read : List ℕ → List ℕ =
    λ x. read_back s.log.now s.places.now s.rules.fields s.formula.now x 0 (replicate 132 0) (take (min t.steps 32) t.trail) in
    λ g fm stands w.
    subst (Holds (gathered g fm (trail_of t))) (sym (c.lists_of.ensures ∙ ap read (rest-drop s.table.now 256)))
    (back g fm s.formula.now s.table.now s.rules s.moment stands t w)
