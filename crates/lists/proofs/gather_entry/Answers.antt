-- `lists::gather_entry` meets its contract: by whether there is a step.
use Rattle.std.proofs.Common.{◌∙◌}
use Rattle.lists.proofs.Steps.{entry-none, entry_past, entry-there}
use Rattle.lists.proofs.gather_entry.Goals as goal
use Rattle.lists.proofs.gather_entry.Goals.{else-at-ne0-via-then-at-ne0+else-at-f, else-at-ne0-via-else-at-ne0}

pub returns-then-at-f : goal.returns-then-at-f
returns-then-at-f c =
    let a = c.args in
    let e = c.event_at-loaded in
    c.gather_step.ensures
    ∙ entry-there a.l.now a.places.now a.fields a.f.now a.at a.event a.lists.now c.if-at-ne0.true c.if-at-f.true c.get_or.result e.result
    c.get_or.ensures e.ensures

pub returns-else-at-ne0 : goal.returns-else-at-ne0
returns-else-at-ne0 c =
    let a = c.args in
    elim c.else-at-ne0.branch [
      | else-at-ne0-via-then-at-ne0+else-at-f w ↦
          entry_past a.l.now a.places.now a.fields a.f.now a.at a.event a.lists.now w.if-at-ne0.true w.if-at-f.false
      | else-at-ne0-via-else-at-ne0 w ↦ entry-none a.l.now a.places.now a.fields a.f.now a.at a.event a.lists.now w.if-at-ne0.false
    ]
