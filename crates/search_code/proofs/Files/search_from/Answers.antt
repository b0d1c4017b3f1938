-- `search_code::Files::search_from` meets its contract: before each event the waiting list and the largest width so far lead to the search's answer.
use Rattle.std.proofs.Common.{◌≡◌, ◌+◌, refl, sym, ap, arith, rules, cond, eqb, max, ◌∙◌}
use borrow.Author.Tests.{ne_eqb}
use Rattle.search.specs.Search.{without}
use Rattle.search_code.proofs.Turns.{searching-start, searching-over, searching-next, searching-found, searching-crowded}
use Rattle.search_code.proofs.Files.search_from.Goals as goal
use Rattle.search_code.proofs.Files.search_from.Goals.{else-loop-n-test, then-loop-n-test+in-Waiting+then-more-eq0}

pub loop-n-init : goal.loop-n-init
loop-n-init c =
    let a = c.args in
    let s = a.self.now in
    let o = c.origin_in in
    record {
      count_fits = omega (arith, c.requires);
      width_fits = omega arith;
      long = refl;
      searching = searching-start s.log.now s.places.now s.formula.now s.steps.now s.scope a.start a.end a.before o.new.work o.ensures.0;
    }

pub returns-in-Found-clause-searched_from : goal.returns-in-Found-clause-searched_from
returns-in-Found-clause-searched_from c =
    let a = c.args in
    let s = a.self.now in
    let i = c.loop-n in
    let at = c.at_event in
    searching-found s.log.now s.places.now s.formula.now s.steps.now s.scope a.start a.end a.before i.n 0 i.count i.width i.work i.seen i.invariant.searching
    c.loop-n-test.true c.event_at-loaded.result c.event_at-loaded.ensures c.moment_of-moment.result c.moment_of-moment.ensures at.new.work at.result
    (at.ensures.by_index s.steps.now c.widened-wide.ensures) c.in-Found.least c.named.result c.in-Found.is c.named.ensures

pub returns-in-Crowded-clause-searched_from : goal.returns-in-Crowded-clause-searched_from
returns-in-Crowded-clause-searched_from c =
    let a = c.args in
    let s = a.self.now in
    let i = c.loop-n in
    let at = c.at_event in
    searching-crowded s.log.now s.places.now s.formula.now s.steps.now s.scope a.start a.end a.before i.n 0 i.count i.width i.work i.seen i.invariant.searching
    c.loop-n-test.true c.event_at-loaded.result c.event_at-loaded.ensures c.moment_of-moment.result c.moment_of-moment.ensures at.new.work at.result
    (at.ensures.by_index s.steps.now c.widened-wide.ensures) c.in-Crowded.is

pub loop-n-preserved : goal.loop-n-preserved
loop-n-preserved c =
    let a = c.args in
    let s = a.self.now in
    let i = c.loop-n in
    let at = c.at_event in
    let more = c.in-Waiting.more in
    let onward : i.n + 1 ≡ cond (eqb more 0) a.end (i.n + 1) = sym (ap (λ b. cond b a.end (i.n + 1)) (ne_eqb more 0 c.if-more-eq0.false)) in
    record {
      count_fits = c.in-Waiting.ensures.fits.0;
      width_fits = omega (arith, c.max-width.ensures, c.in-Waiting.ensures.fits.0, i.invariant.width_fits);
      long = at.ensures.fits.1 ∙ i.invariant.long;
      searching =
          rw c.max-width.ensures
          (searching-next s.log.now s.places.now s.formula.now s.steps.now s.scope a.start a.end a.before i.n 0 i.count i.width i.work i.seen
          i.invariant.searching c.loop-n-test.true c.event_at-loaded.result c.event_at-loaded.ensures c.moment_of-moment.result c.moment_of-moment.ensures
          at.new.work at.result (at.ensures.by_index s.steps.now c.widened-wide.ensures) more (i.n + 1) c.in-Waiting.is onward);
    }

pub returns-clause-searched_from : goal.returns-clause-searched_from
returns-clause-searched_from c =
    let a = c.args in
    let s = a.self.now in
    let i = c.loop-n in
    elim c.loop-n-test.branch [
      | else-loop-n-test w ↦
          searching-over s.log.now s.places.now s.formula.now s.steps.now s.scope a.start a.end a.before i.n 0 i.count i.width i.work i.seen
          i.invariant.searching c.no_run.result w.loop-n-test.false c.no_run.ensures
      | then-loop-n-test+in-Waiting+then-more-eq0 w ↦
          let at = w.at_event in
          let more = w.in-Waiting.more in
          let onward : a.end ≡ cond (eqb more 0) a.end (i.n + 1) = rw w.if-more-eq0.true in
          let none : max i.width more ≡ i.width = omega (arith, w.if-more-eq0.true) in
          let next = searching-next s.log.now s.places.now s.formula.now s.steps.now s.scope a.start a.end a.before i.n 0 i.count i.width i.work i.seen
          i.invariant.searching w.loop-n-test.true w.event_at-loaded.result w.event_at-loaded.ensures w.moment_of-moment.result w.moment_of-moment.ensures
          at.new.work at.result (at.ensures.by_index s.steps.now c.widened-wide.ensures) more a.end w.in-Waiting.is onward in
          searching-over s.log.now s.places.now s.formula.now s.steps.now s.scope a.start a.end a.before a.end 0 more (max i.width more) at.new.work
          w.moment_of-moment.result.latest next c.no_run.result (omega arith) (rw none c.no_run.ensures)
    ]
