-- `fresh_at` meets its contract: by whether anything was gathered.
use Rattle.machine.specs.inner.Along.{gathered}
use Rattle.slots.specs.inner.Threads.{trail_of}
use Rattle.lists.proofs.Holding.{fresh-is}
use Rattle.threads.proofs.Lists.{none-gathered}
use Rattle.threads.proofs.scene.Scene.fresh_at.Goals as goal

pub returns-then-is_empty : goal.returns-then-is_empty
returns-then-is_empty c =
    let s = c.args.self.now in
    λ g fm stands w values same.
    none-gathered g fm s.formula.now s.table.now s.rules s.moment stands c.args.t.now w (c.is_empty.ensures c.if-is_empty.true) values

pub returns : goal.returns
returns c =
    let a = c.args in
    let p = c.lists_at in
    λ g fm stands w values same.
    fresh-is (gathered g fm (trail_of a.t.now)) p.result a.values.now values c.fresh_of.result (p.ensures g fm stands w) same c.fresh_of.ensures
