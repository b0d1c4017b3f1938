-- `analysis_code::Earlier::row` meets its contract: without a run every word is 0.
use Rattle.analysis.specs.Rows.{none_row}
use Rattle.analysis_code.proofs.Earlier.row.Goals as goal

pub returns-in-Absent : goal.returns-in-Absent
unfolding none_row
returns-in-Absent c = rw c.in-Absent.is
