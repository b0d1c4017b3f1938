-- `Scene::gain_all` meets its contract: what is left of the clauses gives the whole.
use mathlib.Core.Path.{◌≡◌, sym, ap, ◌∙◌}
use native.Mathlib.Omega.{arith}
use lib.ListN.{get_or}
use Rattle.machine_code.specs.inner.Bytes.{width_of}
use Rattle.machine_code.proofs.ClausesOnBytes.{clause-inside}
use Rattle.machine_code.proofs.EventAlone.{width-most, clause-width}
use Rattle.machine_code.proofs.GainingOnBytes.{left-next, left-done, gained-from}
use Rattle.machine_code.proofs.Scene.gain_all.Goals as goal

pub gain-requires : goal.gain-requires
gain-requires c = clause-inside c.args.self.now.f.now c.loop-g.place (sym c.is_clause.ensures ∙ c.loop-g-test.true)

pub overflow_add-place-in-loop-g : goal.overflow_add-place-in-loop-g
overflow_add-place-in-loop-g c =
    let i = clause-inside c.args.self.now.f.now c.loop-g.place (sym c.is_clause.ensures ∙ c.loop-g-test.true) in
    omega (arith, i, width-most c.byte_at.result c.width-place.result c.width-place.ensures, c.well_formed)

pub loop-g-smaller : goal.loop-g-smaller
loop-g-smaller c =
    let f = c.args.self.now.f.now in
    let p = c.loop-g.place in
    let e = sym c.is_clause.ensures ∙ c.loop-g-test.true in
    let w : c.width-place.result ≡ width_of (get_or f p 0) = c.width-place.ensures ∙ ap width_of c.byte_at.ensures.0 in
    omega (arith, w, clause-inside f p e, clause-width (get_or f p 0) e)

pub loop-g-preserved : goal.loop-g-preserved
loop-g-preserved c =
    let s = c.args.self.now in
    let l = c.loop-g in
    left-next s.f.now s.fresh.now s.rises.now s.fields _ l.place l.g l.invariant _ _ (sym c.is_clause.ensures ∙ c.loop-g-test.true)
    (c.width-place.ensures ∙ ap width_of c.byte_at.ensures.0) c.gain.ensures

pub returns : goal.returns
returns c =
    let s = c.args.self.now in
    let l = c.loop-g in
    gained-from s.f.now s.fresh.now s.rises.now s.fields c.args.at s.c.now.tallies c.nothing-g.result _ c.nothing-g.ensures
    (left-done s.f.now s.fresh.now s.rises.now s.fields _ l.place l.g l.invariant (sym c.is_clause.ensures ∙ c.loop-g-test.false))
