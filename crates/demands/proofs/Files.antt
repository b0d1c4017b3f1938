-- The first and the second demand on files: whatever meets the contract of `read_log` or `read_formula` tells a refusal by file, number and place,
-- and accepts exactly the encodings of correct logs and formulas, each read as the one that it encodes.
use Prim.Native.Nat.{ℕ, ◌+◌, ◌*◌, ◌/◌, ◌%◌, ◌<◌, ◌≤◌}
use Rattle.std.specs.Prelude.{Result, Ok, Err, IsOk, IsOkAnd, IfOk}
use mathlib.Core.Path.{◌≡◌, refl, sym, ap, subst, ◌∙◌}
use mathlib.Core.Bool.{true}
use mathlib.Core.List.{List, [], ◌∷◌, ◌++◌, flat_map, append_assoc}
use native.Mathlib.Omega.{arith}
use borrow.Author.Tests.{eqb-true, eq-eqb}
use lib.Dec.{eqb}
use lib.ListN.{length, get_or}
use lib.Seq.{ext_get_or}
use Rattle.base.specs.Lists.{Bytes}
use Rattle.refusal.specs.declared.Refusal.{Refusal}
use Rattle.refusal.specs.declared.Refusal.TheVariants.{AbsentState}
use Rattle.refusal.specs.Refusals.{report_of}
use Rattle.event_log.specs.declared.LogReading.{LogReading}
use Rattle.event_log.specs.Log.{Event}
use Rattle.event_log.specs.File.{event, LogFile, events_from, events_of, marks_of, log_of}
use Rattle.event_log.specs.Encode as LogEncode
use Rattle.event_log.specs.Read as LogRead
use Rattle.event_log.proofs.Encoding.{at_entry, events-append}
use Rattle.event_log.proofs.Places.{file-standing, event_is, table-place}
use Rattle.event_log.proofs.Accepted as LogLaws
use Rattle.event_log.proofs.Answers.{log-taken}
use Rattle.event_log.proofs.Refusals.{LogRefusal, log-refusal}
use Rattle.formula.specs.Formula.{Formula}
use Rattle.formula.specs.Located.{Located}
use Rattle.formula.specs.Read as FormulaRead
use Rattle.formula.proofs.Basics.{all_left}
use Rattle.formula.proofs.Reading as FormulaLaws
use Rattle.formula.proofs.CommandRefusals.{CommandRefusal}
use Rattle.formula.proofs.Places.{table-length}
use Rattle.formula.proofs.Located.{table-located, located-only, begins-entered}
use Rattle.formula.proofs.Refusals.{FormulaRefusal, of-command, formula-refusal}
use Rattle.formula.proofs.Absent.{absent-there, absent-lowest, absent-answered}
use Rattle.formula_code.specs.declared.FormulaReading.{FormulaReading}
use Rattle.formula_code.specs.Answer as FormulaAnswer
use Rattle.formula_code.proofs.Answers.{formula-taken, formula-refused}
use Rattle.runs.specs.inner.Lists.{has}
use Rattle.runs.proofs.Lists.{has_in}
use Rattle.demands.specs.Demands.{IsLog, IsFormula, Told, FirstOfFile, FirstOfLog, FirstOfFormula, AbsentOfFormula, SomeLog, SomeFormula, Recorded, SecondOfLog, SecondOfFormula, StepsOfFormula}

-- FIRST DEMAND

tell : {file n : ℕ} {allowed : List ℕ} {why : Refusal} → (report_of why).file ≡ file → has eqb (report_of why).number allowed ≡ true → (report_of why).place ≤ n
    → Told file allowed n why
tell f i p = record { names_file = f; names_number = has_in eqb eqb-true (λ k. eq-eqb k k refl) _ _ i; names_place = omega arith }

log-told : (l : List ℕ) (r : Result LogReading Refusal) (why : Refusal) → r ≡ Err why → LogRefusal (length l) why → FirstOfLog l r
unfolding has
log-told l r why v (LogRefusal.cut_short h) = FirstOfFile.refused why v (tell refl refl h)
log-told l r why v (LogRefusal.foreign h) = FirstOfFile.refused why v (tell refl refl h)
log-told l r why v (LogRefusal.value h) = FirstOfFile.refused why v (tell refl refl h)
log-told l r why v (LogRefusal.surplus h) = FirstOfFile.refused why v (tell refl refl h)
log-told l r why v (LogRefusal.leftover h) = FirstOfFile.refused why v (tell refl refl h)
log-told l r why v (LogRefusal.step_back h) = FirstOfFile.refused why v (tell refl refl h)

-- A log is accepted, or refused with file 1, a number from 1 to 6 and a place.
pub log-first : (l : List ℕ) (r : Result LogReading Refusal) → LogRead.ReadsLog l r → FirstOfLog l r
unfolding LogRead.answer_of
log-first l r reads = go (LogRead.read_log l) refl reads
  where
    go : (x : LogRead.Reading) → LogRead.read_log l ≡ x → r ≡ LogRead.answer_of x → FirstOfLog l r
    go (LogRead.accepted t) q a = FirstOfFile.accepted (LogRead.reading_of t) a
    go (LogRead.refused why) q a = log-told l r why a (log-refusal l why q)

formula-told : (f : List ℕ) (r : Result FormulaReading Refusal) (why : Refusal) → r ≡ Err why → FormulaRefusal (length f) why → FirstOfFormula f r
unfolding has
formula-told f r why v (of-command (CommandRefusal.cut_short h)) = FirstOfFile.refused why v (tell refl refl h)
formula-told f r why v (of-command (CommandRefusal.foreign h)) = FirstOfFile.refused why v (tell refl refl h)
formula-told f r why v (of-command (CommandRefusal.value h)) = FirstOfFile.refused why v (tell refl refl h)
formula-told f r why v (of-command (CommandRefusal.surplus h)) = FirstOfFile.refused why v (tell refl refl h)
formula-told f r why v (FormulaRefusal.leftover h) = FirstOfFile.refused why v (tell refl refl h)
formula-told f r why v FormulaRefusal.dead-start = FirstOfFile.refused why v (tell refl refl (omega arith))
formula-told f r why v (FormulaRefusal.unbound h) = FirstOfFile.refused why v (tell refl refl h)
formula-told f r why v (of-command (CommandRefusal.twice h)) = FirstOfFile.refused why v (tell refl refl h)
formula-told f r why v (FormulaRefusal.absent-state h) = FirstOfFile.refused why v (tell refl refl h)

-- A formula is accepted, or refused with file 2, a number from 1 to 5, 7, 8, 12 or 13, and a place.
pub formula-first : (f : List ℕ) (fields : ℕ) (r : Result FormulaReading Refusal) → FormulaAnswer.ReadsFormula f fields r → FirstOfFormula f r
unfolding FormulaAnswer.answer_of
formula-first f fields r reads = go (FormulaRead.read_formula fields f) refl reads
  where
    go : (x : FormulaRead.Reading) → FormulaRead.read_formula fields f ≡ x → r ≡ FormulaAnswer.answer_of x → FirstOfFormula f r
    go (FormulaRead.accepted g) q a = FirstOfFile.accepted (FormulaAnswer.reading_of g) a
    go (FormulaRead.refused why) q a = formula-told f r why a (formula-refusal fields f why q)

-- A formula is refused with 13 exactly when it is well formed up to END, nothing is left over, and it has an absent state; the place is the first.
pub formula-absent : (f : List ℕ) (fields : ℕ) (r : Result FormulaReading Refusal) → Bytes f → FormulaAnswer.ReadsFormula f fields r → AbsentOfFormula f fields r
unfolding FormulaAnswer.answer_of
formula-absent f fields r bytes reads =
    record {
      exactly = (
        λ s. record { place = s.place; is = absent-there fields f bytes s.place (refused-so s.place s.says) },
        λ s.
            let a = absent-answered fields f s.place s.is in
            record { place = a.0; says = reads ∙ ap FormulaAnswer.answer_of a.1 },
      );
      there = λ p e. absent-there fields f bytes p (refused-so p e);
      first = λ p q e. absent-lowest fields f p q (refused-so p e);
    }
  where
    refused-so : (p : ℕ) → r ≡ Err (AbsentState p) → FormulaRead.read_formula fields f ≡ FormulaRead.refused (AbsentState p)
    refused-so p e = formula-refused (FormulaRead.read_formula fields f) (AbsentState p) (sym reads ∙ e)

-- SECOND DEMAND

-- an answer that is no refusal is what it holds
ok_is : {A : Type 0} (r : Result A Refusal) → IsOk r → (a : A) × (r ≡ Ok a)
ok_is (Ok a) h = (a, refl)
ok_is (Err why) h = cc

module _ (l : List ℕ) (r : Result LogReading Refusal) (reads : LogRead.ReadsLog l r) where
  -- an accepted log is the encoding of a correct one
  accepted-log : Bytes l → IsOk r → SomeLog l
  accepted-log bytes v =
      let a = ok_is r v in
      let t = log-taken (LogRead.read_log l) a.0 (sym reads ∙ a.1) in
      let k = LogLaws.accepted-is-encoding l t.file bytes t.is in
      record { file = t.file; is = record { correct = k.1; encoded = k.0 } }

  -- the encoding of a correct log is answered as that log
  log-answer : (t : LogFile) → IsLog l t → r ≡ Ok (LogRead.reading_of t)
  unfolding LogRead.answer_of
  log-answer t is = reads ∙ ap LogRead.answer_of (ap LogRead.read_log is.encoded ∙ LogLaws.encoding-is-accepted t is.correct)

-- event n stands behind the fields and all events and marks before it
log-recorded : (l : List ℕ) (t : LogFile) → IsLog l t → (n : ℕ) → n < length (log_of t).events → Recorded l t n
unfolding LogEncode.encode_body
log-recorded l t is n h =
    let x = file-standing t n h in
    let here = event_is t n is.correct h in
    let rest = event x.sent ∷ x.behind in
    let whole = is.correct.recorded.one_per_field in
    record {
      before = x.before;
      sent = x.sent;
      values = ap (λ (e : Event). e.values) (sym here);
      marks = ap (λ (e : Event). e.stretch) (sym here);
      behind = flat_map LogEncode.encode_entry x.behind ++ (0 ∷ []);
      count = x.count;
      whole =
          all_left _ (events_of x.before) (events_from (0 + marks_of x.before) rest) (rw (← events-append 0 x.before rest, ← x.split) whole);
      stands = rw append_assoc at (is.encoded ∙ at_entry t x.before (event x.sent) x.behind x.split);
    }

-- A log is accepted exactly when it is the encoding of a correct one, and read as that one, its events in recorded order.
pub log-second : (l : List ℕ) (r : Result LogReading Refusal) → Bytes l → LogRead.ReadsLog l r → SecondOfLog l r
log-second l r bytes reads =
    let answer : (t : LogFile) → IsLog l t → r ≡ Ok (LogRead.reading_of t) = log-answer l r reads in
    record {
      accepts = (accepted-log l r reads bytes, λ s. rw (answer s.file s.is));
      one = λ t u i j. LogLaws.encode-once t u i.correct j.correct (sym i.encoded ∙ j.encoded);
      fields = λ t i. rw (answer t i);
      rising = λ t i. rw (answer t i);
      events = λ t i. rw (answer t i);
      places = λ t i n h. rw (answer t i) (table-place t i.correct n h);
      recorded = log-recorded l;
    }

module _ (f : List ℕ) (fields : ℕ) (r : Result FormulaReading Refusal) (reads : FormulaAnswer.ReadsFormula f fields r) where
  -- an accepted formula is the encoding of a correct one
  accepted-formula : Bytes f → IsOk r → SomeFormula fields f
  accepted-formula bytes v =
      let a = ok_is r v in
      let t = formula-taken (FormulaRead.read_formula fields f) a.0 (sym reads ∙ a.1) in
      let k = FormulaLaws.accepted-correct fields f t.formula bytes t.is in
      record { formula = t.formula; is = record { correct = k.1; encoded = k.0 } }

  -- the encoding of a correct formula is answered as that formula
  formula-answer : (g : Formula) → IsFormula fields f g → r ≡ Ok (FormulaAnswer.reading_of g)
  unfolding FormulaAnswer.answer_of
  formula-answer g is =
      reads ∙ ap FormulaAnswer.answer_of (ap (FormulaRead.read_formula fields) is.encoded ∙ FormulaLaws.correct-accepted fields g is.correct)

-- The table has for every state and step number the offset of that STEP or that there is none.
pub formula-steps : (f : List ℕ) (fields : ℕ) (r : Result FormulaReading Refusal) → FormulaAnswer.ReadsFormula f fields r → StepsOfFormula f fields r
unfolding FormulaAnswer.answer_of FormulaAnswer.reading_of
formula-steps f fields r reads =
    let answer : (g : Formula) → IsFormula fields f g → r ≡ Ok (FormulaAnswer.reading_of g) = formula-answer f fields r reads in
    record {
      entries = rw reads (long (FormulaRead.read_formula fields f));
      located = λ g i s k h l. rw (answer g i) (table-located g s k h l);
      entered = λ g i s k p b. rw (answer g i, i.encoded) (begins-entered fields g i.correct s k p b);
    }
  where
    long : (x : FormulaRead.Reading) → IfOk (FormulaAnswer.answer_of x) (λ a. length a.table ≡ 128)
    long (FormulaRead.accepted g) = table-length g
    long (FormulaRead.refused why) = tt

-- no other table of so many entries does
pub formula-steps-only : (f : List ℕ) (fields : ℕ) (r : Result FormulaReading Refusal) → FormulaAnswer.ReadsFormula f fields r → (fm : Formula)
    → IsFormula fields f fm → (table : List ℕ) → length table ≡ 128
    → ((s k : ℕ) → s < 16 → k < 8 → Located fm s k (get_or table (s * 8 + k) 0)) → IsOkAnd r (λ a. table ≡ a.table)
unfolding FormulaAnswer.reading_of
formula-steps-only f fields r reads fm is table n says =
    let there = (FormulaAnswer.reading_of fm).table in
    rw (formula-answer f fields r reads fm is) (ext_get_or 0 table there (n ∙ sym (table-length fm)) (λ i h.
    let e : i / 8 * 8 + i % 8 ≡ i = omega arith in
    let a = says (i / 8) (i % 8) (omega arith) (omega arith) in
    let b = table-located fm (i / 8) (i % 8) (omega arith) (omega arith) in
    subst (λ j. get_or table j 0 ≡ get_or there j 0) e
    (located-only fm (i / 8) (i % 8) (get_or table (i / 8 * 8 + i % 8) 0) (get_or there (i / 8 * 8 + i % 8) 0) a b)))

-- A formula is accepted exactly when it is the encoding of a correct one, and read as that one.
pub formula-second : (f : List ℕ) (fields : ℕ) (r : Result FormulaReading Refusal) → Bytes f → FormulaAnswer.ReadsFormula f fields r
    → SecondOfFormula f fields r
unfolding FormulaAnswer.reading_of
formula-second f fields r bytes reads =
    let answer : (g : Formula) → IsFormula fields f g → r ≡ Ok (FormulaAnswer.reading_of g) = formula-answer f fields r reads in
    record {
      accepts = (accepted-formula f fields r reads bytes, λ s. rw (answer s.formula s.is));
      one = λ g h i j. FormulaLaws.encode_injective fields g h i.correct j.correct (sym i.encoded ∙ j.encoded);
      states = λ g i. rw (answer g i);
      state_kinds = λ g i. rw (answer g i);
      tied = λ g i. rw (answer g i);
    }
