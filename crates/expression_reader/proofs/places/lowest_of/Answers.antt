-- `places::lowest_of` meets its contract: the lowest place so far and those from the key on make the lowest of all.
use mathlib.Core.Bool.{Bool, true, false}
use mathlib.Core.Path.{sym, ◌∙◌}
use native.Mathlib.Omega.{arith}
use borrow.Author.Rules.{rules}
use Rattle.expression_reader.specs.inner.Places.{nowhere, picked, lowest_of}
use Rattle.expression_reader.proofs.LowestPlace.{lowest-none, lowest-on, lowest-end}
use Rattle.expression_reader.proofs.places.lowest_of.Goals as goal
use Rattle.expression_reader.proofs.places.lowest_of.Goals.{then-is_picked, else-is_picked}

pub loop-key-init : goal.loop-key-init
unfolding nowhere
loop-key-init c = (omega arith, lowest-none (picked c.args.free c.args.from) c.args.places.now)

pub loop-key-preserved : goal.loop-key-preserved
loop-key-preserved c =
    let i = c.loop-key.invariant in
    let on = λ (b : Bool). lowest-on (picked c.args.free c.args.from) c.args.places.now c.loop-key.key c.loop-key.lowest b c.loop-key-test.true i.0 in
    elim c.if-is_picked.branch [
      | then-is_picked w ↦ let e = on true (sym c.is_picked.ensures ∙ w.if-is_picked.true) in (omega arith, cc)
      | else-is_picked w ↦ let e = on false (sym c.is_picked.ensures ∙ w.if-is_picked.false) in (omega arith, cc)
    ]

pub returns : goal.returns
unfolding nowhere lowest_of
returns c =
    let i = c.loop-key.invariant in
    let e = lowest-end (picked c.args.free c.args.from) c.args.places.now c.loop-key.key c.loop-key.lowest c.loop-key-test.false i.0 in
    rw (← i.1, e) (search rules)
