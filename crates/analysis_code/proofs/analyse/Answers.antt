-- `analysis_code::analyse` meets its contract: the first refusal of a file, 10 for work words, 10 for rows, then every start.
use Rattle.std.proofs.Common.{length, ap, ◌∙◌, false}
use Rattle.std.proofs.lemmas.Result.{err_from_is_err_and}
use Rattle.base.specs.Mask.{bits_of}
use Rattle.base.proofs.Lists.{pad-whole}
use Rattle.base.proofs.Masks.{length-bits}
use Rattle.event_log.specs.File.{log_of}
use Rattle.event_log.specs.Read.{reading_of}
use Rattle.event_log.specs.declared.LogReading.{LogReading}
use Rattle.files_code.proofs.Answers.{few-events}
use Rattle.search_code.proofs.Calls.{slots-fit, handed}
use Rattle.analysis_code.proofs.Calls.{short_work, short_rows, enough, mask-ties, by-files, by-checks}
use Rattle.analysis_code.proofs.analyse.Goals as goal

pub returns-in_err-log : goal.returns-in_err-log
returns-in_err-log c =
    let a = c.args in
    let p = err_from_is_err_and c.from_residual.result c.from_residual.ensures.1 in
    rw (p.1, p.2) (by-files a.l.now a.f.now a.work.now a.rows.now _ c.in_err-log.ensures)

pub returns-then-words-lt192 : goal.returns-then-words-lt192
returns-then-words-lt192 c =
    let a = c.args in
    by-checks a.l.now a.f.now a.work.now a.rows.now c.in_ok-log.field-0 c.in_ok-log.ensures _ _ _
    (λ t fm x. short_work (log_of t) fm a.work.now a.rows.now c.if-words-lt192.true)

pub returns-then-rows-needed : goal.returns-then-rows-needed
returns-then-rows-needed c =
    let a = c.args in
    let r = c.in_ok-log.field-0 in
    by-checks a.l.now a.f.now a.work.now a.rows.now r c.in_ok-log.ensures _ _ _
    (λ t fm x. short_rows (log_of t) fm a.work.now a.rows.now r.log.events (ap (λ (y : LogReading). y.events) x.log_read) c.if-words-lt192.false
    c.if-rows-needed.true)

pub all_starts-requires : goal.all_starts-requires
all_starts-requires c =
    let s = slots-fit (length c.args.work.now) c.if-words-lt192.false in
    rw (c.scope_of.ensures, c.slots_of-slots.ensures) (s.0, s.1, c.if-rows-needed.false, few-events c.args.l.now c.args.f.now c.in_ok-log.field-0 c.in_ok-log.ensures)

pub returns : goal.returns
returns c =
    let a = c.args in
    let r = c.in_ok-log.field-0 in
    let n = c.slots_of-slots in
    let k = c.lasting_of-lasting in
    let tied = c.bits_of-tied.ensures ∙ pad-whole 8 false (bits_of 8 r.formula.tied) (length-bits 8 r.formula.tied) in
    let all = rw c.scope_of.ensures at c.all_starts.ensures in
    by-checks a.l.now a.f.now a.work.now a.rows.now r c.in_ok-log.ensures _ _ _
    (λ t fm x. enough (log_of t) fm a.work.now a.rows.now r.log.events n.result _ _ _ (ap (λ (y : LogReading). y.events) x.log_read)
    c.if-words-lt192.false c.if-rows-needed.false n.ensures c.all_starts.auto.work
    (all (log_of t) fm (handed t fm a.l.now a.f.now r.log r.formula k.result n.result k.ensures x)
    (mask-ties t fm a.l.now a.f.now r.log r.formula c.bits_of-tied.result x tied)))
