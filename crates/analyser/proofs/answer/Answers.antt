-- `analyser::answer` meets its contract: the rows of an accepted log, which fit, or the refusal.
use native.Mathlib.Omega.{arith}
use mathlib.Core.Path.{refl}
use Rattle.base.proofs.Lists.{all-bytes}
use Rattle.text.proofs.Growing.{same_text}
use Rattle.analyser.proofs.Printed.{few-events, done-text, refused-text}
use borrow.Author.Rules.{rules}
use Rattle.analyser.proofs.answer.Goals as goal

pub lines_in-requires : goal.lines_in-requires
lines_in-requires c =
    let l = c.args.l.now in
    let b = all-bytes l (λ i. omega (arith, c.type_inv.l i)) in
    (rw c.events_in.ensures (few-events l b), search rules, search rules)

pub returns-in-Ok : goal.returns-in-Ok
returns-in-Ok c = let g = c.args in
    same_text (done-text g.l.now g.f.now c.analyse.ensures refl refl _ c.in-Ok.is c.events_in.ensures) (omega arith) c.lines_in.ensures

pub returns-in-Err : goal.returns-in-Err
returns-in-Err c = let g = c.args in
    same_text (refused-text g.l.now g.f.now c.analyse.ensures refl refl _ c.in-Err.is) (omega arith) c.refusal_in.ensures
