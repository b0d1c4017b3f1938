-- `search_code::checked` meets its contract.
use Rattle.std.proofs.Common.{◌≡◌, ap, arith, rules, length, refl}
use Rattle.search_code.specs.declared.Scope.{Scope}
use Rattle.search_code.specs.inner.Turn.{scope_of, Told}
use Rattle.search_code.proofs.Calls.{slots-fit, outside, too_short, searched}
use Rattle.search_code.proofs.checked.Goals as goal

pub returns-then-files-start-clause-checked_is : goal.returns-then-files-start-clause-checked_is
returns-then-files-start-clause-checked_is c =
    let a = c.args in outside a.l.now a.f.now a.files.now a.start a.work.now (omega (arith, c.if-files-start.true))

pub returns-then-words-lt192-clause-checked_is : goal.returns-then-words-lt192-clause-checked_is
returns-then-words-lt192-clause-checked_is c =
    let a = c.args in too_short a.l.now a.f.now a.files.now a.start a.work.now c.if-files-start.false (omega (arith, c.if-words-lt192.true))

pub stretch_end-end-requires : goal.stretch_end-end-requires
stretch_end-end-requires c = rw c.scope_of.ensures (omega (arith, c.if-files-start.false))

pub search_from-requires : goal.search_from-requires
search_from-requires c =
    let k = slots-fit (length c.args.work.now) c.if-words-lt192.false in
    let events = ap (λ (x : Scope). x.events) c.scope_of.ensures in
    rw (c.scope_of.ensures, c.slots_of.ensures) (k.0, k.1, omega (arith, c.stretch_end-end.ensures.1, events, c.requires))

pub returns-clause-checked_is : goal.returns-clause-checked_is
returns-clause-checked_is c =
    let a = c.args in
    let files = a.files.now in
    let n = c.slots_of in
    let k = c.lasting_of-lasting in
    let s = c.scope_of in
    let x = c.seen_before-seen in
    let e = c.stretch_end-end in
    let r = c.search_from in
    let told : Told a.l.now files.log.places (scope_of files.log files.formula k.result n.result) a.start e.result x.result =
    record { there = c.if-files-start.false; end_is = rw s.ensures at e.ensures.0; seen_is = rw s.ensures at x.ensures } in
    searched a.l.now a.f.now files a.start a.work.now k.result n.result e.result _ x.result r.result c.if-words-lt192.false
    n.ensures k.ensures told (rw s.ensures at r.ensures.searched_from)

pub returns-clause-work_len_unchanged : goal.returns-clause-work_len_unchanged
returns-clause-work_len_unchanged c =
    let r = c.search_from.ensures.width_le_slots in
    (r.1, rw (← c.slots_of.ensures) (rw c.scope_of.ensures at r.0))
