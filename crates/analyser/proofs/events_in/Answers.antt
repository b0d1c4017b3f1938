-- `analyser::events_in` meets its contract: what the reader counts.
use mathlib.Core.Path.{ap, ◌∙◌}
use Rattle.event_log.specs.Read.{read_log}
use Rattle.analyser.proofs.Printed.{counted, events_are}
use Rattle.analyser.proofs.events_in.Goals as goal

pub returns-in-Ok : goal.returns-in-Ok
returns-in-Ok c = ap counted c.in-Ok.ensures ∙ events_are (read_log c.args.l.now)

pub returns-in-Err : goal.returns-in-Err
returns-in-Err c = ap counted c.in-Err.ensures ∙ events_are (read_log c.args.l.now)
