-- `analyser::lines_in` meets its contract: after n turns the first n lines stand there.
use Prim.Native.Nat.{◌/◌, ◌<◌, ◌≤◌}
use mathlib.Core.Path.{◌≡◌, ap, ◌∙◌}
use mathlib.Core.List.{[]}
use lib.ListN.{length, get_or}
use lib.Seq.{length-take-le}
use native.Mathlib.Omega.{arith}
use Rattle.std.proofs.lemmas.List.{get_or-take}
use Rattle.text.proofs.Growing.{same_text}
use Rattle.text.proofs.Parts.{none_yet, one_more}
use Rattle.text.specs.Text.{each, line, line_in, lines}
use Rattle.analyser.proofs.Printed.{row-of}
use Rattle.analyser.proofs.lines_in.Goals as goal

pub loop-n-init : goal.loop-n-init
loop-n-init c = none_yet (line_in c.args.rows.now) c.args.out.now 0

pub loop-n-preserved : goal.loop-n-preserved
unfolding line_in
loop-n-preserved c =
    let n = c.loop-n.n in
    let rows = c.args.rows.now in
    let chunks = c.as_chunks.result.0.now in
    let there : c.args.events ≤ length chunks = omega (arith, c.as_chunks.ensures.front_len, c.requires.0, c.requires.1) in
    let below : n < length rows / 12 = omega (arith, c.as_chunks.ensures.front_len, length-take-le c.args.events chunks there, c.loop-n-test.true) in
    let row = get_or-take c.args.events chunks n [] (omega (arith, length-take-le c.args.events chunks there, c.loop-n-test.true))
    ∙ ap (λ l. get_or l n []) c.as_chunks.ensures.front ∙ row-of (length rows / 12) n rows [] below in
    one_more (line_in rows) n (ap (line n) row) c.loop-n.invariant c.add_line-at.ensures

pub returns : goal.returns
unfolding lines
returns c =
    let chunks = c.as_chunks.result.0.now in
    let there : c.args.events ≤ length chunks = omega (arith, c.as_chunks.ensures.front_len, c.requires.0, c.requires.1) in
    let e : c.loop-n.n ≡ c.args.events =
    omega (arith, length-take-le c.args.events chunks there, c.loop-n.auto.n-end, c.loop-n-test.false) in
    same_text (ap (λ k. each (line_in c.args.rows.now) k 0) e) (omega (arith, c.requires.0)) c.loop-n.invariant
