-- `lists::gather` meets its contract: by the command and its operand.
use Rattle.std.proofs.Common.{◌∙◌}
use Rattle.lists.proofs.Steps.{gather-adds, gather-low, gather-other}
use Rattle.lists.proofs.gather.Goals as goal
use Rattle.lists.proofs.gather.Goals.{else-f-at-eq23-via-then-f-at-eq23+else-operand-ge8, else-f-at-eq23-via-else-f-at-eq23}

pub returns-then-operand-ge8 : goal.returns-then-operand-ge8
returns-then-operand-ge8 c =
    let a = c.args in
    let o = c.byte_at-operand in
    c.add.ensures
    ∙ gather-adds a.f.now a.values.now a.at a.lists.now o.result o.ensures.0 c.byte_at.result c.get_or-x.result c.if-f-at-eq23.true
    c.if-operand-ge8.true c.byte_at.ensures.0 c.get_or-x.ensures

pub returns-else-f-at-eq23 : goal.returns-else-f-at-eq23
returns-else-f-at-eq23 c =
    let a = c.args in
    let o = c.byte_at-operand in
    elim c.else-f-at-eq23.branch [
      | else-f-at-eq23-via-then-f-at-eq23+else-operand-ge8 w ↦
          gather-low a.f.now a.values.now a.at a.lists.now o.result o.ensures.0 w.if-f-at-eq23.true w.if-operand-ge8.false
      | else-f-at-eq23-via-else-f-at-eq23 w ↦ gather-other a.f.now a.values.now a.at a.lists.now w.if-f-at-eq23.false
    ]
