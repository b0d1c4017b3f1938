-- The first demand on the calls: their checks in order, and what a refusal leaves; and the second on what a search names.
use Prim.Native.Nat.{ℕ, ◌*◌, ◌≤◌, ◌<◌}
use Rattle.std.specs.Prelude.{Result, Ok, Err, IfOk}
use mathlib.Core.Path.{◌≡◌, refl, sym, ap, ◌∙◌}
use mathlib.Core.List.{List, []}
use native.Mathlib.Decide.{dec_lt}
use native.Mathlib.Omega.{arith}
use lib.ListN.{length, drop}
use Rattle.base.specs.Lists.{Bytes}
use Rattle.refusal.specs.declared.Refusal.{Refusal}
use Rattle.refusal.specs.declared.Refusal.TheVariants.{Outside, Short, Crowded}
use Rattle.refusal.specs.Refusals.{NotCrowded}
use Rattle.event_log.specs.declared.LogReading.{LogReading}
use Rattle.event_log.specs.Log.{Log}
use Rattle.event_log.specs.File.{LogFile, log_of}
use Rattle.event_log.specs.Read as LogRead
use Rattle.event_log.proofs.Answers.{log-refused, log-taken}
use Rattle.formula.specs.Formula.{Formula}
use Rattle.formula.specs.Read as FormulaRead
use Rattle.formula_code.specs.declared.FormulaReading.{FormulaReading}
use Rattle.formula_code.specs.Answer.{answer_of as formula_answer}
use Rattle.formula_code.proofs.Answers.{formula-refused, formula-taken}
use Rattle.files.specs.Files.{Files, accepted, refused, read_files}
use Rattle.files.proofs.Reading.{bad-log, bad-formula, both_read}
use Rattle.runs.specs.inner.Search.{search}
use Rattle.machine.specs.Machine.{machine}
use Rattle.search.specs.declared.SearchAnswer.{SearchAnswer}
use Rattle.search.specs.Search as S
use Rattle.search.specs.Call.{Searched}
use Rattle.search.proofs.Checks as SearchChecks
use Rattle.search.proofs.Premises as P
use Rattle.search.proofs.Demand.{search-runs, only-crowded, met}
use Rattle.analysis.specs.Analysis as A
use Rattle.analysis.specs.Call.{Analyses}
use Rattle.analysis.specs.Rows.{rows_from}
use Rattle.analysis.proofs.Checks as AnalysisChecks
use Rattle.analysis.proofs.Demand as AnalysisRuns
use Rattle.demands.specs.Demands.{Accepted, FileRefused, by_log, by_formula, FirstOfSearch, FirstOfAnalysis, SecondOfSearch}
use Rattle.demands.proofs.Search.{second-by}

-- what the readers' answers say of the files
record Good (l f : List ℕ) (count : ℕ) : Type 0 where
  pub file : LogFile
  pub formula : Formula
  pub read : read_files l f ≡ accepted file formula
  pub events : count ≡ length (log_of file).events

good : (l f : List ℕ) (a : LogReading) (b : FormulaReading) → Accepted l f a b → Good l f a.events
good l f a b x =
    let t = log-taken (LogRead.read_log l) a (sym x.log) in
    let k = x.formula ∙ ap (λ (y : LogReading). formula_answer (FormulaRead.read_formula y.fields f)) t.says in
    let u = formula-taken (FormulaRead.read_formula (length t.file.fields) f) b (sym k) in
    record {
      file = t.file;
      formula = u.formula;
      read = both_read l f t.file t.is u.formula u.is;
      events = ap (λ (y : LogReading). y.events) t.says;
    }

good_of : {l f : List ℕ} (g : Log) (fm : Formula) → P.Accepted l f g fm → Good l f (length g.events)
good_of g fm a = record { file = a.file; formula = fm; read = a.read; events = ap (λ (x : Log). length x.events) a.records }

-- a file that is refused
bad : (l f : List ℕ) (why : Refusal) → FileRefused l f why → read_files l f ≡ refused why
bad l f why (by_log e) = bad-log l f why (log-refused (LogRead.read_log l) why (sym e))
bad l f why (by_formula a e k) =
    let t = log-taken (LogRead.read_log l) a (sym e) in
    let r = k ∙ ap (λ (y : LogReading). formula_answer (FormulaRead.read_formula y.fields f)) t.says in
    bad-formula l f t.file t.is why (formula-refused (FormulaRead.read_formula (length t.file.fields) f) why (sym r))

module _ (l f : List ℕ) (start words : ℕ) where
  module _ (count : ℕ) (x : Good l f count) where
    outside : count ≤ start → S.search_answer l f start words ≡ S.refusal (Outside start)
    outside h = SearchChecks.outside l f start words x.file x.formula x.read (omega (arith, x.events, h))

    short : start < count → words < 192 → S.search_answer l f start words ≡ S.refusal (Short 192)
    short h k = SearchChecks.short l f start words x.file x.formula x.read (omega (arith, x.events, h)) k

    -- behind the checks nothing is refused but crowded
    runs : start < count → 192 ≤ words → (why : Refusal) → S.search_answer l f start words ≡ Err why → NotCrowded why → ⊥
    runs h k why v u =
        let q = SearchChecks.searched l f start words x.file x.formula x.read (omega (arith, x.events, h)) k in
        only-crowded (log_of x.file) x.formula (search (machine (log_of x.file) x.formula) (S.slots_of words) start) why
        (sym q ∙ v) u

  pub search-first : (r : Result SearchAnswer Refusal) (work after : List ℕ) → words ≡ length work → Searched l f start work after r → FirstOfSearch l f start work after r
  search-first r work after w c =
      let a : r ≡ S.search_answer l f start words = rw w c.answer in
      record {
        file = λ why x. a ∙ SearchChecks.bad-file l f start words why (bad l f why x);
        outside = λ x y z h. a ∙ outside x.events (good l f x y z) h;
        short = λ x y z h k. a ∙ short x.events (good l f x y z) h (rw w k);
        runs = λ x y z h k why v u. runs x.events (good l f x y z) h (rw w k) why (sym a ∙ v) u;
        untouched = c.untouched;
        number = c.number;
      }

  -- a call ends before it runs, or runs
  pub search-second : Bytes l → Bytes f → IfOk (S.search_answer l f start words) (SecondOfSearch start)
  search-second b d = go (read_files l f) refl
    where
      unrun : (why : Refusal) → S.search_answer l f start words ≡ S.refusal why → IfOk (S.search_answer l f start words) (SecondOfSearch start)
      unrun why e = rw e tt

      run : (g : Log) (fm : Formula) → P.Accepted l f g fm → Dec (start < length g.events) → Dec (words < 192)
          → IfOk (S.search_answer l f start words) (SecondOfSearch start)
      run g fm a (no h) k = unrun (Outside start) (outside (length g.events) (good_of g fm a) (omega (arith, h)))
      run g fm a (yes h) (yes k) = unrun (Short 192) (short (length g.events) (good_of g fm a) h k)
      run g fm a (yes h) (no k) =
          rw (search-runs l f g fm start words a h (omega (arith, k)))
          (second-by g fm (S.slots_of words) start (search (machine g fm) (S.slots_of words) start)
          (met g fm (P.accepted-premises l f g fm a) (S.slots_of words) start h))

      go : (x : Files) → read_files l f ≡ x → IfOk (S.search_answer l f start words) (SecondOfSearch start)
      go (refused why) e = unrun why (SearchChecks.bad-file l f start words why e)
      go (accepted t fm) e =
          run (log_of t) fm (record { log_bytes = b; formula_bytes = d; file = t; records = refl; read = e })
          (dec_lt start (length (log_of t).events)) (dec_lt words 192)

module _ (l f : List ℕ) (words : ℕ) (rows : List ℕ) where
  module _ (count : ℕ) (x : Good l f count) where
    short_work : words < 192 → A.analysis l f words rows ≡ A.refusal (Short 192) rows
    short_work h = AnalysisChecks.short_work l f words rows x.file x.formula x.read h

    short_rows : 192 ≤ words → length rows < 12 * count → A.analysis l f words rows ≡ A.refusal (Short (12 * count)) rows
    short_rows h k =
        rw x.events (AnalysisChecks.short_rows l f words rows x.file x.formula x.read h (omega (arith, x.events, k)))

    -- behind the checks nothing is refused but crowded
    rows_run : 192 ≤ words → 12 * count ≤ length rows → (why : Refusal) → (A.analysis l f words rows).outcome ≡ Err why → NotCrowded why → ⊥
    rows_run h k why v u =
        let g = log_of x.file in
        let w = rows_from g x.formula (search (machine g x.formula) (S.slots_of words)) (length g.events) 0 [] in
        let q = AnalysisChecks.analysed l f words rows x.file x.formula x.read h (omega (arith, x.events, k)) in
        AnalysisRuns.only-crowded w rows why (ap (λ (y : A.Analysed). y.outcome) (sym q) ∙ v) u

  -- a call ends before it runs and leaves the rows alone, or runs
  data Ended : Type 0 where
    unrun : (why : Refusal) → A.analysis l f words rows ≡ A.refusal why rows → Ended
    ran : (g : Log) (fm : Formula) → P.Accepted l f g fm → 192 ≤ words → 12 * length g.events ≤ length rows → Ended

  ended : Bytes l → Bytes f → Ended
  ended b d = go (read_files l f) refl
    where
      run : (g : Log) (fm : Formula) → P.Accepted l f g fm → Dec (words < 192) → Dec (length rows < 12 * length g.events) → Ended
      run g fm a (yes h) k = unrun (Short 192) (short_work (length g.events) (good_of g fm a) h)
      run g fm a (no h) (yes k) = unrun (Short (12 * length g.events)) (short_rows (length g.events) (good_of g fm a) (omega (arith, h)) k)
      run g fm a (no h) (no k) = ran g fm a (omega (arith, h)) (omega (arith, k))

      go : (x : Files) → read_files l f ≡ x → Ended
      go (refused why) e = unrun why (AnalysisChecks.bad-file l f words rows why e)
      go (accepted t fm) e =
          run (log_of t) fm (record { log_bytes = b; formula_bytes = d; file = t; records = refl; read = e }) (dec_lt words 192)
          (dec_lt (length rows) (12 * length (log_of t).events))

  -- what the rows are after a call that is refused
  rows-untouched : Ended → (why : Refusal) → (A.analysis l f words rows).outcome ≡ Err why → NotCrowded why
      → (A.analysis l f words rows).rows ≡ rows
  rows-untouched (unrun r e) why v u = ap (λ (y : A.Analysed). y.rows) e
  rows-untouched (ran g fm a h k) why v u = absurd (rows_run (length g.events) (good_of g fm a) h k why v u)

  rows-number : Ended → length (A.analysis l f words rows).rows ≡ length rows
  rows-number (unrun r e) = ap (λ (y : A.Analysed). length y.rows) e
  rows-number (ran g fm a h k) = (AnalysisRuns.third-demand l f g fm words rows a h k).all

  rows-rest : Ended → (i : ℕ) → (A.analysis l f words rows).outcome ≡ Err (Crowded i)
      → drop (12 * i) (A.analysis l f words rows).rows ≡ drop (12 * i) rows
  rows-rest (unrun r e) i v = ap (λ (y : A.Analysed). drop (12 * i) y.rows) e
  rows-rest (ran g fm a h k) i v = let d = AnalysisRuns.third-demand l f g fm words rows a h k in d.rest i ((d.crowded i).0 v)

  pub analysis-first : (work work-after rows-after : List ℕ) (r : Result Unit Refusal) → words ≡ length work → Bytes l → Bytes f
      → Analyses l f work work-after rows rows-after r → FirstOfAnalysis l f work work-after rows rows-after r
  analysis-first work work-after rows-after r w b d c =
      let a : r ≡ (A.analysis l f words rows).outcome = rw w c.outcome in
      let m : rows-after ≡ (A.analysis l f words rows).rows = rw w c.rows in
      let x = ended b d in
      record {
        file = λ why y. a ∙ ap (λ (z : A.Analysed). z.outcome) (AnalysisChecks.bad-file l f words rows why (bad l f why y));
        short_work = λ p q y h. a ∙ ap (λ (z : A.Analysed). z.outcome) (short_work p.events (good l f p q y) (rw w h));
        short_rows = λ p q y h k. a ∙ ap (λ (z : A.Analysed). z.outcome) (short_rows p.events (good l f p q y) (rw w h) k);
        runs = λ p q y h k why v u. rows_run p.events (good l f p q y) (rw w h) k why (sym a ∙ v) u;
        untouched = λ why v u. (c.untouched why v u, m ∙ rows-untouched x why (sym a ∙ v) u);
        number = (c.number, ap length m ∙ rows-number x);
        rest = λ i v. ap (drop (12 * i)) m ∙ rows-rest x i (sym a ∙ v);
      }
