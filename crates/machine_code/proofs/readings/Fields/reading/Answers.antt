-- `Fields::reading` meets its contract: a value that is absent counts 0.
use mathlib.Core.Path.{sym, ◌∙◌}
use Rattle.machine_code.proofs.OneField.{reading-there}
use Rattle.machine_code.proofs.readings.Fields.reading.Goals as goal

pub returns-then-has : goal.returns-then-has
returns-then-has c = reading-there _ _ _ c.self.view_is _ _ (sym c.if-has.true ∙ c.has.ensures) c.get_or.ensures
