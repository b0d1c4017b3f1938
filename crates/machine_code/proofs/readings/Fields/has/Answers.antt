-- `Fields::has` meets its contract: a field is present where its flag is set.
use Rattle.machine_code.proofs.OneField.{has-read}
use Rattle.machine_code.proofs.readings.Fields.has.Goals as goal

pub returns : goal.returns
returns c = has-read _ _ _ c.self.view_is _ _ c.get_or.ensures
