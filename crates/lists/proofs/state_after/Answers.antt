-- `lists::state_after` meets its contract: by whether there is a step.
use Rattle.lists.proofs.Steps.{target_none, target-there, target_past}
use Rattle.lists.proofs.state_after.Goals as goal
use Rattle.lists.proofs.state_after.Goals.{else-at-ne0-via-then-at-ne0+else-at-f, else-at-ne0-via-else-at-ne0}

pub returns-then-at-f : goal.returns-then-at-f
returns-then-at-f c = target-there c.args.f.now c.args.at c.args.state c.byte_at.result c.if-at-ne0.true c.if-at-f.true c.byte_at.ensures.0

pub returns-else-at-ne0 : goal.returns-else-at-ne0
returns-else-at-ne0 c =
    let a = c.args in
    elim c.else-at-ne0.branch [
      | else-at-ne0-via-then-at-ne0+else-at-f w ↦ target_past a.f.now a.at a.state w.if-at-ne0.true w.if-at-f.false
      | else-at-ne0-via-else-at-ne0 w ↦ target_none a.f.now a.at a.state w.if-at-ne0.false
    ]
