-- `text::Page::variables` meets its contract: after v turns the first v variables stand behind the text.
use mathlib.Core.Path.{◌≡◌, refl}
use native.Mathlib.Omega.{arith}
use Rattle.text.proofs.Parts.{page_yet, page_more}
use Rattle.text.specs.Text.{held, variables}
use Rattle.text.proofs.Page.variables.Goals as goal

pub loop-v-init : goal.loop-v-init
loop-v-init c = page_yet (held c.args.row.now) c.args.self.now

pub loop-v-preserved : goal.loop-v-preserved
unfolding held
loop-v-preserved c = page_more (held c.args.row.now) c.loop-v.v refl c.loop-v.invariant c.variable.ensures

pub returns : goal.returns
unfolding variables
returns c = let e : c.loop-v.v ≡ 8 = omega arith in rw e at c.loop-v.invariant
