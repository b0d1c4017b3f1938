-- `analysis_code::write_row` meets its contract: the row is that of the rows before it, and stands where the start has its own.
use Rattle.std.proofs.Common.{◌≡◌, ◌+◌, ◌-◌, ◌*◌, ◌≤◌, ◌∙◌, sym, ap, length, arith, rules}
use lib.Seq.{length-take-le}
use Rattle.slots.specs.inner.Words.{put}
use Rattle.slots.proofs.Parts.{mid-put}
use Rattle.analysis_code.specs.inner.Starts.{variables, row_by, runs_of}
use Rattle.analysis_code.proofs.Reading.{earlier-runs}
use Rattle.analysis_code.proofs.write_row.Goals as goal

pub returns : goal.returns
returns c =
    let a = c.args in
    let rows = a.rows.now in
    let at = a.start * 12 in
    let answer = a.answer.now in
    let h : at ≤ length rows = omega arith in
    let n : length c.row-row.result ≡ 12 = search rules in
    let m : at + 12 - at ≡ 12 = omega arith in
    let k : length c.as_chunks.result.0.now ≡ a.start = omega (arith, c.as_chunks.ensures.front_len, length-take-le at rows h) in
    let r = earlier-runs a.start rows _ h c.as_chunks.ensures.front in
    mid-put at (at + 12 - at) rows _ c.row-row.result c.copy_from_slice.ensures.after (n ∙ sym m)
    ∙ ap (put rows at)
    (c.row-row.ensures ∙ ap (λ n. row_by (variables a.tied.now) n (runs_of c.as_chunks.result.0.now) answer answer.verdict) k
    ∙ ap (λ rs. row_by (variables a.tied.now) a.start rs answer answer.verdict) r)
