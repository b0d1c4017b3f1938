-- `analysis_code::all_starts` meets its contract: the rows before `start` are written, and what is left is the definition from there on.
use Rattle.std.proofs.Common.{◌≤◌, ◌+◌, ◌*◌, refl, length, arith, rules}
use Rattle.runs.specs.inner.Search as Runs
use Rattle.machine.specs.Machine.{machine}
use Rattle.search_code.specs.inner.Turn.{Told}
use Rattle.search_code.proofs.Turns.{seen_start, seen_next_lem, end_later}
use Rattle.analysis_code.proofs.Fitting.{given-fits}
use Rattle.analysis_code.proofs.Turns.{so-far-none, so-far-all, so-far-crowded, so-far-next, turn-crowded, turn-written, end-here}
use Rattle.analysis_code.proofs.all_starts.Goals as goal

pub loop-start-init : goal.loop-start-init
loop-start-init c =
    let a = c.args in
    let s = a.files.now in
    record {
      work_long = refl;
      rows_long = refl;
      so_far = λ g fm given ties. so-far-none g fm s.scope.slots a.rows.now;
      seen_is = seen_start s.log.now s.places.now s.scope.rules.fields _ c.none_seen-seen.ensures;
      end_inside = omega arith;
      end_is = λ h. absurd (omega (arith, h));
    }

pub loop-start-preserved : goal.loop-start-preserved
loop-start-preserved c =
    let a = c.args in
    let s = a.files.now in
    let i = c.loop-start in
    let h = c.loop-start-test.true in
    let answer = c.in-Ok.answer in
    let end = c.end_at-end.result in
    let told : Told s.log.now s.places.now s.scope i.start end i.seen =
    record { there = h; end_is = end-here i.start i.end end _ i.invariant.end_is c.end_at-end.ensures.0; seen_is = i.invariant.seen_is } in
    let k : i.start * 12 + 12 ≤ length i.rows = omega (arith, c.requires.2, i.invariant.rows_long, h) in
    record {
      work_long = search rules;
      rows_long = search rules;
      so_far = λ g fm given ties.
          let x = Runs.search (machine g fm) s.scope.slots i.start in
          let fits = given-fits g fm s.log.now s.places.now s.formula.now s.steps.now s.scope given i.start h in
          let is = c.in-Ok.ensures.searched_from g fm given told in
          so-far-next g fm s.scope.slots a.rows.now i.rows i.start (omega (arith, given.events_are, h)) (i.invariant.so_far g fm given ties) _ fits k
          (turn-written g fm i.start i.rows a.tied.now x answer _ fits ties is c.write_row.ensures);
      seen_is = seen_next_lem s.log.now s.places.now s.scope.rules.fields i.start i.seen _ i.invariant.seen_is c.seen_after-seen.ensures;
      end_inside = c.end_at-end.ensures.1;
      end_is = end_later s.log.now s.places.now s.scope i.start end h told.end_is;
    }

pub returns-in_default : goal.returns-in_default
returns-in_default c =
    let a = c.args in
    let s = a.files.now in
    let i = c.loop-start in
    let h = c.loop-start-test.true in
    let end = c.end_at-end.result in
    let told : Told s.log.now s.places.now s.scope i.start end i.seen =
    record { there = h; end_is = end-here i.start i.end end _ i.invariant.end_is c.end_at-end.ensures.0; seen_is = i.invariant.seen_is } in
    λ g fm given ties. so-far-crowded g fm s.scope.slots a.rows.now i.rows i.start (omega (arith, given.events_are, h)) (i.invariant.so_far g fm given ties) _
    (turn-crowded g fm i.start i.rows (Runs.search (machine g fm) s.scope.slots i.start) c.in_default.field-0 (c.in_default.ensures.searched_from g fm given told))

pub returns : goal.returns
returns c =
    let a = c.args in
    let s = a.files.now in
    let i = c.loop-start in
    λ g fm given ties.
    so-far-all g fm s.scope.slots a.rows.now i.rows i.start (omega (arith, given.events_are, c.loop-start-test.false)) (i.invariant.so_far g fm given ties)
