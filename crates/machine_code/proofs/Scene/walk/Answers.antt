-- `Scene::walk` meets its contract: what is left to walk stays what was left at the start.
use mathlib.Core.Path.{sym, ◌∙◌}
use borrow.Author.Rules.{rules}
use Rattle.machine_code.proofs.ClausesOnBytes.{clause-inside, walking_start, walking-more, walking-done, walking-less, walked_from}
use Rattle.machine_code.proofs.Scene.walk.Goals as goal

pub loop-w-init : goal.loop-w-init
loop-w-init g c = let s = c.args.self.now in walking_start s.f.now s.c.now.values s.rises.now s.fields _

pub clause-requires : goal.clause-requires
clause-requires g c =
    clause-inside c.args.self.now.f.now c.loop-w.w.at (sym c.is_clause.ensures ∙ c.if-not-is_clause.false)

pub loop-w-smaller : goal.loop-w-smaller
loop-w-smaller g c =
    let s = c.args.self.now in
    walking-less s.f.now s.c.now.values s.rises.now s.fields c.begin-w.result c.loop-w.w _ (sym c.is_clause.ensures ∙ c.if-not-is_clause.false) c.clause.ensures

pub loop-w-preserved : goal.loop-w-preserved
loop-w-preserved g c =
    let s = c.args.self.now in
    walking-more s.f.now s.c.now.values s.rises.now s.fields _ c.loop-w.w _ c.loop-w.invariant (sym c.is_clause.ensures ∙ c.if-not-is_clause.false)
    c.clause.ensures

pub returns-then-not-is_clause : goal.returns-then-not-is_clause
returns-then-not-is_clause g c =
    let s = c.args.self.now in (
      walked_from s.f.now c.args.at s.c.now s.rises.now s.fields _ _ c.begin-w.ensures
          (walking-done s.f.now s.c.now.values s.rises.now s.fields _ c.loop-w.w c.loop-w.invariant (sym c.is_clause.ensures ∙ c.if-not-is_clause.true)),
      search rules,
    )
