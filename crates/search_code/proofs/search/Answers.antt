-- `search_code::search` meets its contract: a file's refusal is handed on, and behind both files the call's own checks follow.
use Rattle.std.proofs.Common.{refl}
use Rattle.std.proofs.lemmas.Result.{err_from_is_err_and}
use Rattle.files_code.proofs.Answers.{few-events}
use Rattle.search_code.proofs.Calls.{by-files, by-search}
use Rattle.search_code.proofs.search.Goals as goal

pub returns-in_err-files : goal.returns-in_err-files
returns-in_err-files c =
    let a = c.args in
    let p = err_from_is_err_and c.from_residual.result c.from_residual.ensures.1 in
    rw (p.1, p.2) (record {
      answer = by-files a.l.now a.f.now a.start a.work.now _ c.in_err-files.ensures;
      untouched = λ why v u. refl;
      number = refl;
      within = tt;
    })

pub checked-requires : goal.checked-requires
checked-requires c = few-events c.args.l.now c.args.f.now c.in_ok-files.files c.in_ok-files.ensures

pub returns : goal.returns
returns c =
    let a = c.args in
    let k = c.checked in
    let r = by-search a.l.now a.f.now a.start a.work.now c.in_ok-files.files c.in_ok-files.ensures _ k.result k.ensures.checked_is in
    record { answer = r.0; untouched = r.1; number = k.ensures.work_len_unchanged.0; within = k.ensures.work_len_unchanged.1 }
