-- `analysis_code::Earlier::row_of` meets its contract: the words of a row, one by one.
use Rattle.std.proofs.Common.{◌≡◌, ◌+◌, refl, append-nil}
use denote.Enum.Declared.{tag_of}
use Rattle.analysis_code.specs.contracts.RowVerdict.{the_type}
use Rattle.analysis_code.specs.declared.RowVerdict.{RowVerdict}
use Rattle.analysis_code.specs.declared.RowVerdict.TheVariants.{Alert, Subsumed, Rejected}
use Rattle.analysis.specs.Rows.{row}
use Rattle.analysis_code.specs.inner.Starts.{said}
use Rattle.analysis_code.proofs.Earlier.row_of.Goals as goal

-- the number of a verdict is its word
number : (v : RowVerdict) → tag_of the_type v + 1 ≡ said v
number Alert = refl
number Subsumed = refl
number Rejected = refl

pub returns : goal.returns
unfolding row
returns c = rw (number c.verdict.result, c.verdict.ensures, c.mask_of.ensures, c.copy_from_slice.ensures.after, append-nil c.args.run.now.values)
