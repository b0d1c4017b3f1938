-- One start is one turn of the definition, and the starts in order are the definition's rows.
use Prim.Native.Nat.{ℕ, suc, ◌+◌, ◌-◌, ◌*◌, ◌<◌, ◌≤◌, min}
use Rattle.std.specs.Prelude.{Ok, Err}
use mathlib.Core.Path.{◌≡◌, refl, ap, sym, ◌∙◌}
use mathlib.Core.Bool.{Bool, true, false, cond}
use mathlib.Core.List.{List, [], ◌∷◌, ◌++◌, append-nil}
use native.Mathlib.Numerals.{add-one}
use native.Mathlib.Nat.{zero-add}
use native.Mathlib.Omega.{arith}
use lib.ListN.{length, take, drop}
use lib.Seq.{drop-drop}
use lib.Dec.{ltb}
use borrow.Author.Tests.{ltb-true}
use Rattle.refusal.specs.declared.Refusal.{Refusal}
use Rattle.refusal.specs.declared.Refusal.TheVariants.{Crowded}
use Rattle.event_log.specs.Log.{Log}
use Rattle.formula.specs.Formula.{Formula}
use Rattle.runs.specs.Run.{Trail}
use Rattle.runs.specs.inner.Search.{search}
use Rattle.runs.specs.Answer.{Answer, found, absent, crowded}
use Rattle.machine.specs.Configuration.{Config}
use Rattle.machine.specs.Machine.{machine, accepting}
use Rattle.slots.specs.inner.Words.{put}
use Rattle.search.specs.declared.Verdict.TheVariants.{Accept, Reject}
use Rattle.search.specs.declared.SearchAnswer.{SearchAnswer}
use Rattle.search.specs.Search.{answer_of, named as search_named, without}
use Rattle.analysis.specs.Rows.{NamedRun, named, verdict, none_row, row, Written, all, upto, before, one, rows_from}
use Rattle.analysis.specs.Analysis.{Analysed, written_into}
use Rattle.analysis.proofs.Last.{last-is}
use Rattle.analysis_code.specs.inner.Starts.{variables, run_if, runs_in, run_of, row_by, accepts, Turn, turn_of, resumed, Fitting, Ties}
use Rattle.analysis_code.proofs.Subsuming.{verdict-same}
use Rattle.analysis_code.proofs.Reading.{put-put, put-nothing, runs-more, row_back, none-back}

module _ (g : Log) (fm : Formula) where
  -- the run of a search's answer is the named one
  answer-run : (c : Config) (t : Trail) (width : ℕ) → length t ≤ 32 → run_of (search_named fm c t width) ≡ named fm c t
  unfolding named
  answer-run c t width h =
      let q : min (length t) 32 ≡ length t = omega arith in
      rw (told (accepting fm c), q, last-is t h)
    where
      told : (b : Bool) → accepts (cond b Accept Reject) ≡ b
      told true = refl
      told false = refl

  answer-row : (ws : List ℕ) (start : ℕ) (earlier : List NamedRun) (c : Config) (t : Trail) (width : ℕ) → length t ≤ 32
      → row_by ws start earlier (search_named fm c t width) (cond (accepting fm c) Accept Reject)
      ≡ row (verdict ws start (named fm c t) earlier) (named fm c t)
  answer-row ws start earlier c t width h = go (accepting fm c) ∙ ap (λ r. row (verdict ws start r earlier) r) (answer-run c t width h)
    where
      go : (b : Bool) → row_by ws start earlier (search_named fm c t width) (cond b Accept Reject)
          ≡ row (verdict ws start (run_of (search_named fm c t width)) earlier) (run_of (search_named fm c t width))
      go true = refl
      go false = refl

  module _ (start : ℕ) (rows : List ℕ) where
    -- crowded: no word is written
    pub turn-crowded : (a : Answer (machine g fm)) (why : Refusal) → Err why ≡ answer_of g fm a
        → ◌≡◌ {A = Turn} (record { written = false; rows = rows }) (turn_of g fm start rows a)
    turn-crowded (found c t width) why e = cc
    turn-crowded (absent width) why e = cc
    turn-crowded (crowded n) why e = refl

    -- otherwise: the row is written
    pub turn-written : (tied : List Bool) (a : Answer (machine g fm)) (r : SearchAnswer) (after : List ℕ) → Fitting g fm a
        → Ties fm tied → Ok r ≡ answer_of g fm a → after ≡ put rows (start * 12) (row_by (variables tied) start (runs_in start rows) r r.verdict)
        → ◌≡◌ {A = Turn} (record { written = true; rows = after }) (turn_of g fm start rows a)
    turn-written tied (found c t width) r after fit same e p =
        let s : r ≡ search_named fm c t width = cc in
        let q = answer-row (variables tied) start (runs_in start rows) c t width fit.short in
        let v = verdict-same (variables tied) fm.tied start (named fm c t) (runs_in start rows) same in
        ap (λ l. record { written = true; rows = l }) (rw s at p ∙ ap (put rows (start * 12)) (q ∙ ap (λ n. row n (named fm c t)) v))
    turn-written tied (absent width) r after fit same e p =
        let s : r ≡ without width = cc in
        ap (λ l. record { written = true; rows = l }) (rw s at p)
    turn-written tied (crowded n) r after fit same e p = cc

-- the end kept while a start stands before it, or found anew, is that of the start's stretch
pub end-here : (start end r e : ℕ) → (start < end → end ≡ e) → r ≡ cond (ltb start end) end e → r ≡ e
end-here start end r e kept q = go (ltb start end) refl q
  where
    go : (b : Bool) → ltb start end ≡ b → r ≡ cond b end e → r ≡ e
    go true t p = p ∙ kept (ltb-true start end t)
    go false t p = p

-- the words of the starts that follow, behind a row that is written
resumed-next : (w : Written) (ws rows : List ℕ) (start : ℕ) → length ws ≡ 12 → start * 12 + 12 ≤ length rows
    → resumed start (before ws w) rows ≡ resumed (suc start) w (put rows (start * 12) ws)
resumed-next (all vs) ws rows start n h =
    let m : start * 12 + length ws ≡ suc start * 12 = omega arith in
    ap (λ l. record { outcome = Ok tt; rows = l }) (rw m at (put-put rows (start * 12) ws vs (omega arith)))
resumed-next (upto i vs) ws rows start n h =
    let m : start * 12 + length ws ≡ suc start * 12 = omega arith in
    ap (λ l. record { outcome = Err (Crowded i); rows = l }) (rw m at (put-put rows (start * 12) ws vs (omega arith)))

resumed-first : (w : Written) (rows : List ℕ) → written_into w rows ≡ resumed 0 w rows
unfolding put
resumed-first (all ws) rows = ap (λ i. record { outcome = Ok tt; rows = ws ++ drop i rows }) (sym (zero-add (length ws)))
resumed-first (upto i ws) rows = ap (λ j. record { outcome = Err (Crowded i); rows = ws ++ drop j rows }) (sym (zero-add (length ws)))

length-row : (v : ℕ) (r : NamedRun) → length r.values ≡ 8 → length (row v r) ≡ 12
unfolding row
length-row v r h = omega arith

length_none : length none_row ≡ 12
unfolding none_row
length_none = refl

held-named : (fm : Formula) (c : Config) (t : Trail) → length c.held ≡ 8 → length (named fm c t).held ≡ 8
unfolding named
held-named fm c t e = e

values-named : (fm : Formula) (c : Config) (t : Trail) → length c.values ≡ 8 → length (named fm c t).values ≡ 8
unfolding named
values-named fm c t e = e

module _ (g : Log) (fm : Formula) (slots : ℕ) where
  abbrev answer : ℕ → Answer (machine g fm)
  answer = search (machine g fm) slots

  -- one turn of the definition: where the row is written it goes on behind it, over the runs that the rows now hold
  turn_on : (start : ℕ) (rows : List ℕ) (rest : List NamedRun → Written) (a : Answer (machine g fm)) → Fitting g fm a → start * 12 + 12 ≤ length rows
      → (turn_of g fm start rows a).written ≡ true
      → resumed start (one g fm answer start (runs_in start rows) rest a) rows
      ≡ resumed (suc start) (rest (runs_in (suc start) (turn_of g fm start rows a).rows)) (turn_of g fm start rows a).rows
  turn_on start rows rest (found c t width) fit h k =
      let r = named fm c t in
      let es = runs_in start rows in
      let v = verdict fm.tied start r es in
      let w : length r.values ≡ 8 = values-named fm c t fit.values_8 in
      let n : length (row v r) ≡ 12 = length-row v r w in
      let b : run_if (row v r) ≡ r ∷ [] = row_back fm.tied start r es (held-named fm c t fit.held_8) w in
      let m : runs_in (suc start) (put rows (start * 12) (row v r)) ≡ es ++ (r ∷ []) = runs-more rows start (row v r) n h ∙ ap (λ l. es ++ l) b in
      resumed-next (rest (es ++ (r ∷ []))) (row v r) rows start n h ∙ ap (λ l. resumed (suc start) (rest l) (put rows (start * 12) (row v r))) (sym m)
  turn_on start rows rest (absent width) fit h k =
      let m : runs_in (suc start) (put rows (start * 12) none_row) ≡ runs_in start rows = runs-more rows start none_row length_none h
      ∙ ap (λ l. runs_in start rows ++ l) none-back ∙ append-nil (runs_in start rows) in
      resumed-next (rest (runs_in start rows)) none_row rows start length_none h ∙ ap (λ l. resumed (suc start) (rest l) (put rows (start * 12) none_row)) (sym m)
  turn_on start rows rest (crowded n) fit h k = let x : ◌≡◌ {A = ℕ} 0 1 = cc in absurd (omega arith)

  -- and where it is not, the start is crowded and no word behind it is written
  turn-stop : (start : ℕ) (rows : List ℕ) (rest : List NamedRun → Written) (a : Answer (machine g fm)) → (turn_of g fm start rows a).written ≡ false
      → ◌≡◌ {A =
      Analysed} (record { outcome = Err (Crowded start); rows = (turn_of g fm start rows a).rows }) (resumed start
      (one g fm answer start (runs_in start rows) rest a) rows)
  turn-stop start rows rest (found c t width) k = let x : ◌≡◌ {A = ℕ} 0 1 = cc in absurd (omega arith)
  turn-stop start rows rest (absent width) k = let x : ◌≡◌ {A = ℕ} 0 1 = cc in absurd (omega arith)
  turn-stop start rows rest (crowded n) k = ap (λ l. record { outcome = Err (Crowded start); rows = l }) (sym (put-nothing rows (start * 12)))

  -- The starts so far: what is left to do is the definition from here on, over these rows.
  pub record SoFar (rows₀ rows : List ℕ) (start : ℕ) : Type 0 where
    pub rest : written_into (rows_from g fm answer (length g.events) 0 []) rows₀
        ≡ resumed start (rows_from g fm answer (length g.events - start) start (runs_in start rows)) rows

  pub so-far-none : (rows : List ℕ) → SoFar rows rows 0
  unfolding runs_in
  so-far-none rows =
      let z : length g.events - 0 ≡ length g.events = omega arith in
      record { rest = rw z (resumed-first (rows_from g fm answer (length g.events) 0 []) rows) }

  pub so-far-all : (rows₀ rows : List ℕ) (start : ℕ) → length g.events ≤ start → SoFar rows₀ rows start
      → ◌≡◌ {A = Analysed} (record { outcome = Ok tt; rows = rows }) (written_into (rows_from g fm answer (length g.events) 0 []) rows₀)
  unfolding rows_from
  so-far-all rows₀ rows start h s =
      let z : length g.events - start ≡ 0 = omega arith in
      let e : resumed start (rows_from g fm answer (length g.events - start) start (runs_in start rows)) rows ≡ record { outcome = Ok tt; rows = rows } =
      rw z (ap (λ l. record { outcome = Ok tt; rows = l }) (put-nothing rows (start * 12))) in
      sym (s.rest ∙ e)

  module _ (rows₀ rows : List ℕ) (start : ℕ) (here : start < length g.events) (s : SoFar rows₀ rows start) where
    one_more : written_into (rows_from g fm answer (length g.events) 0 []) rows₀
        ≡ resumed start
        (one g fm answer start (runs_in start rows) (λ now. rows_from g fm answer (length g.events - (start + 1)) (suc start) now) (answer start)) rows
    unfolding rows_from
    one_more = let z : length g.events - start ≡ suc (length g.events - (start + 1)) = omega arith in rw z at s.rest

    pub so-far-crowded : (after : List ℕ) → ◌≡◌ {A = Turn} (record { written = false; rows = after }) (turn_of g fm start rows (answer start))
        → ◌≡◌ {A = Analysed} (record { outcome = Err (Crowded start); rows = after })
        (written_into (rows_from g fm answer (length g.events) 0 []) rows₀)
    so-far-crowded after t =
        ap (λ (u : Turn). record { outcome = Err (Crowded start); rows = u.rows }) t
        ∙ turn-stop start rows (λ now. rows_from g fm answer (length g.events - (start + 1)) (suc start) now) (answer start)
        (sym (ap (λ (u : Turn). u.written) t))
        ∙ sym one_more

    pub so-far-next : (after : List ℕ) → Fitting g fm (answer start) → start * 12 + 12 ≤ length rows
        → ◌≡◌ {A = Turn} (record { written = true; rows = after }) (turn_of g fm start rows (answer start)) → SoFar rows₀ after (start + 1)
    so-far-next after fit h t =
        let w : after ≡ (turn_of g fm start rows (answer start)).rows = ap (λ (u : Turn). u.rows) t in
        let q = turn_on start rows (λ now. rows_from g fm answer (length g.events - (start + 1)) (suc start) now) (answer start) fit h
        (sym (ap (λ (u : Turn). u.written) t)) in
        record { rest = rw (w, add-one start) (rw (add-one start) at (one_more ∙ q)) }
