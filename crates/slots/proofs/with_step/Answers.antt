-- `slots::with_step` meets its contract.
use Rattle.slots.proofs.Trails.{extended}
use borrow.Author.Rules.{rules}
use Rattle.slots.proofs.with_step.Goals as goal

pub returns : goal.returns
returns c = extended c.args.t c.args.event c.args.number (search rules) c.requires.0 c.requires.2
