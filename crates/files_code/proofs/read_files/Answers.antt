-- `files_code::read_files` meets its contract: a refusal of either reader is handed on, the log's first.
use Rattle.std.proofs.lemmas.Result.{err_from_is_err_and}
use Rattle.base.proofs.Lists.{all-bytes}
use Rattle.files_code.proofs.Answers.{log-first, formula-then, both-read}
use Rattle.files_code.proofs.read_files.Goals as goal

pub returns-in_err-log : goal.returns-in_err-log
returns-in_err-log c =
    let a = c.args in
    let p = err_from_is_err_and c.from_residual.result c.from_residual.ensures.1 in
    rw (p.1, p.2) (log-first a.l.now a.f.now _ c.in_err-log.ensures)

pub returns-in_err-formula : goal.returns-in_err-formula
returns-in_err-formula c =
    let a = c.args in
    let r = c.from_residual-in_err-formula in
    let p = err_from_is_err_and r.result r.ensures.1 in
    rw (p.1, p.2) (formula-then a.l.now a.f.now c.in_ok-log.log c.in_ok-log.ensures _ c.in_err-formula.ensures)

pub returns : goal.returns
returns c =
    let a = c.args in
    let bytes = all-bytes a.l.now (λ i. (c.type_inv.l i).fits) in
    let more = all-bytes a.f.now (λ i. (c.type_inv.f i).fits) in
    both-read a.l.now a.f.now c.in_ok-log.log c.in_ok-log.ensures c.in_ok-formula.formula bytes more c.in_ok-formula.ensures
