-- The reader's answer is the definition's: by the walk over the file to END, and what is judged after it.
use Prim.Native.Nat.{ℕ, suc, ◌+◌, ◌*◌, ◌^◌, ◌<◌, ◌≤◌}
use mathlib.Core.Path.{◌≡◌, refl, sym, ap, ◌∙◌, subst}
use mathlib.Core.Bool.{Bool, true, false, cond}
use mathlib.Core.Logic.{⊎_elim}
use mathlib.Core.List.{List, [], ◌∷◌, flat_map}
use mathlib.Core.Option.{Option, none, some}
use native.Mathlib.Omega.{arith}
use native.Mathlib.Nat.{zero-add}
use native.Mathlib.Numerals.{add-one}
use borrow.Author.Tests.{lt-ltb}
use lib.Dec.{ltb}
use lib.ListN.{length, get_or, drop, replicate, length-append, length-drop}
use Rattle.std.specs.Prelude.{Option as Found, Some, None, Ok, Err}
use Rattle.std.specs.List.{AllZip}
use Rattle.base.specs.Lists.{Bytes, pad, some_below}
use Rattle.base.specs.Mask.{mask}
use Rattle.refusal.specs.declared.File.TheVariants.{Formula as InFormula}
use Rattle.refusal.specs.declared.Refusal.{Refusal}
use Rattle.refusal.specs.declared.Refusal.TheVariants.{Leftover, DeadStart, Unbound as UnboundAt, AbsentState}
use Rattle.formula_code.specs.declared.draft.Draft.{Draft}
use Rattle.formula.specs.Formula.{TEST, TESTV, BIND, GATHER, State, Formula}
use Rattle.formula.specs.Encode.{Command, TIED, STATE, STEP, CLAUSE, GUARD, encode_command, commands}
use Rattle.formula.specs.Unbound.{edges_from, is_unbound}
use Rattle.formula.specs.Correct.{dead_start}
use Rattle.formula.specs.Lookup.{step_table, tied_mask}
use Rattle.formula.specs.declared.Summary.{Summary}
use Rattle.formula.specs.Read.{Reading, accepted, refused, start, assemble, first_absent, first_unbound, refused_at, judge, after_end, seen_after, read_formula}
use Rattle.expression_reader.specs.inner.Places.{nowhere, lowest_of}
use Rattle.formula_code.specs.inner.Scan.{empty_draft, scan_file, Scanned}
use Rattle.closure.specs.inner.Reach.{Free}
use Rattle.formula_code.specs.Answer.{kinds_of, reading_of, answer_of}
use Rattle.formula_code.specs.inner.Judge.{reading_from, unless, judged}
use Rattle.formula.proofs.Assembling.{commands-assemble}
use Rattle.formula.proofs.Reading.{advances, states-passed, reached-start, Complete, reached-end}
use Rattle.formula.proofs.Table.{fill, fill-table}
use Rattle.formula_code.proofs.SameCommands.{add_c, draft_after, final-kind, summary-after, at_after, Whole, Broken, Outcome, outcome}
use Rattle.formula_code.proofs.Outline.{table-after, kinds-after, mask-after}
use Rattle.expression_reader.proofs.NotedPlaces.{num, Below}
use Rattle.formula_code.proofs.FirstBad.{places_from, absent-place, unbound-place, absent-below, unbound-below}
use Rattle.formula_code.proofs.Edges.{kept, Same, steps-kept, reach-is}

-- the answer of a refusal
answer-of : (x : Reading) (r : Refusal) → x ≡ refused r → Err r ≡ answer_of x
unfolding answer_of
answer-of x r e = ap answer_of (sym e)

module _ (fields : ℕ) (l : List ℕ) (bytes : Bytes l) where
  -- the whole file
  read-outcome : Outcome fields l (suc (length l)) start [] 0 l
  read-outcome = outcome fields l (suc (length l)) start [] 0 l bytes (reached-start fields l)

  -- a walk that is refused, and the definition refuses the file so
  pub refused-so : (r : Refusal) → scan_file fields l ≡ Err r → read_formula fields l ≡ refused r
  unfolding read_formula scan_file draft_after
  refused-so r e =
      ⊎_elim
      (λ (w : Whole fields l (suc (length l)) start [] 0 l). let s = w.scans in cc)
      (λ (b : Broken fields l (suc (length l)) start [] 0 l). let s = b.scans in let t = b.reads in cc)
      read-outcome

  -- a walk that reaches END
  pub whole_of : (d : Draft) → scan_file fields l ≡ Ok d → Whole fields l (suc (length l)) start [] 0 l
  unfolding scan_file draft_after
  whole_of d e =
      ⊎_elim
      (λ (w : Whole fields l (suc (length l)) start [] 0 l). w)
      (λ (b : Broken fields l (suc (length l)) start [] 0 l). let s = b.scans in cc)
      read-outcome

-- the number of states after one more command
seen-add : (d : Draft) (c : Command) → (add_c d c).summary.states ≡ seen_after d.summary.states c
seen-add d (TIED v) = refl
seen-add d (STATE k) = add-one d.summary.states
seen-add d (STEP t) = refl
seen-add d (CLAUSE (TEST f o x)) = refl
seen-add d (CLAUSE (TESTV f o v)) = refl
seen-add d (CLAUSE (BIND f v)) = refl
seen-add d (CLAUSE (GATHER f v)) = refl
seen-add d (GUARD e) = refl

-- the places after the commands behind a draft
places-after : (d : Draft) (cs : List Command) → (draft_after d cs).places ≡ places_from d.summary.states d.own d.at d.places cs
unfolding draft_after places_from
places-after d [] = refl
places-after d (c ∷ cs) = places-after (add_c d c) cs ∙ ap (λ n. places_from n (add_c d c).own (add_c d c).at (add_c d c).places cs) (seen-add d c)

-- 5: bytes after END
after_more : (f : Formula) (at : ℕ) (bs : List ℕ) → 0 < length bs → after_end f at bs ≡ refused (Leftover InFormula at)
unfolding after_end
after_more f at [] h = absurd (omega arith)
after_more f at (b ∷ bs) h = refl

after_none : (f : Formula) (at : ℕ) (bs : List ℕ) → length bs ≡ 0 → after_end f at bs ≡ judge f
unfolding after_end
after_none f at [] h = refl
after_none f at (b ∷ bs) h = absurd (omega arith)

-- a place of the definition as the code finds it
abbrev given : Option ℕ → Found ℕ
given none = None
given (some p) = Some p

-- a place that was found is below nowhere
found : (x : Option ℕ) → Below nowhere x → some_below nowhere (num x) ≡ given x
unfolding nowhere
found none h = refl
found (some p) h = rw (lt-ltb p nowhere h)

-- the answer of the definition's order: absent, dead start, unbound
in-order : (d : Draft) (f : Formula) (x y : Option ℕ) (b : Bool) → reading_from d ≡ reading_of f
    → unless (given x) AbsentState (cond b (Err DeadStart) (unless (given y) UnboundAt (Ok (reading_from d))))
    ≡ answer_of (refused_at x AbsentState (cond b (refused DeadStart) (refused_at y UnboundAt (accepted f))))
unfolding answer_of
in-order d f (some p) y b e = refl
in-order d f none y true e = refl
in-order d f none (some p) false e = refl
in-order d f none none false e = ap Ok e

-- state 0 by its kind's byte
dead-start : (xs : List State) → 1 ≤ length xs → ltb 1 (get_or (kinds_of xs) 0 0) ≡ dead_start xs
unfolding kinds_of pad
dead-start [] h = absurd (omega arith)
dead-start (x ∷ xs) h = final-kind x.kind

module _ (fields : ℕ) (l : List ℕ) (w : Whole fields l (suc (length l)) start [] 0 l) where
  abbrev read_as : Formula
  read_as = assemble w.es

  same-commands : commands read_as ≡ w.es
  same-commands = commands-assemble w.es w.reached.follows

  complete : Complete fields l read_as (drop 1 w.left)
  complete = reached-end fields l w.summary w.es w.place w.left w.reached w.ended

  -- the end of the file behind END
  length-is : length l ≡ w.place + 1 + length (drop 1 w.left)
  length-is =
      let a = ap length w.reached.bytes ∙ length-append (flat_map encode_command w.es) w.left in
      let b = ap length w.ended.bytes in
      let c = length-drop 1 w.left in
      let p = w.reached.place in
      omega arith

  abbrev draft : Draft
  draft = draft_after empty_draft w.es

  place_is : draft.at ≡ w.place
  unfolding empty_draft
  place_is = at_after empty_draft w.es ∙ zero-add (length (flat_map encode_command w.es)) ∙ sym w.reached.place

  states-is : draft.summary.states ≡ length read_as.states
  unfolding empty_draft start
  states-is =
      ap (λ (s : Summary). s.states) (summary-after empty_draft w.es)
      ∙ ap (λ cs. (advances start cs).states) (sym same-commands)
      ∙ states-passed read_as

  kinds-is : draft.kinds ≡ kinds_of read_as.states
  unfolding empty_draft start pad kinds_of assemble
  kinds-is = kinds-after empty_draft w.es [] refl refl w.reached.follows

  table_is : draft.table ≡ step_table read_as
  unfolding empty_draft start
  table_is = table-after empty_draft w.es ∙ ap (fill start 0 (replicate 128 0)) (sym same-commands) ∙ fill-table fields read_as complete.formed

  tied_is : mask draft.ties ≡ tied_mask read_as
  unfolding assemble tied_mask
  tied_is = mask-after w.es

  -- what was kept is the formula's
  reading-is : reading_from draft ≡ reading_of read_as
  unfolding reading_of
  reading-is = rw (states-is, kinds-is, table_is, tied_is)

  -- the steps were kept, so the marks worked out on them are the definition's
  marks-are : (r : List Bool) → Free (kept draft) r → (v s : ℕ) → v < 8 → s < 16 → get_or r (v * 16 + s) false ≡ is_unbound read_as v s
  unfolding is_unbound
  marks-are r h v s k m =
      h.is v s k m
      ∙ ap (λ z. get_or z s false)
      (reach-is v k (kept draft) read_as
      (subst (λ cs. AllZip Same (kept (draft_after empty_draft cs)) (edges_from 0 read_as.states)) same-commands
      (steps-kept fields read_as complete.formed)))

  -- the places are those of the commands
  places_is : draft.places ≡ places_from 0 (replicate 8 false) 0 (replicate 145 nowhere) w.es
  unfolding empty_draft
  places_is = places-after empty_draft w.es

  -- the file's bytes can be counted
  short : length l < 2 ^ 64 → length (flat_map encode_command w.es) ≤ nowhere
  unfolding nowhere
  short h = let a = length-is in let p = w.reached.place in omega (arith, a, p, h)

  -- after END: what is judged is the first absent state, a dead start, the first unbound variable
  judge-is : length l < 2 ^ 64 → (free : List Bool) → Free (kept draft) free
      → judged draft (some_below nowhere (lowest_of (replicate 128 false) (128 + draft.summary.states) draft.places))
      (some_below nowhere (lowest_of free 145 draft.places))
      ≡ answer_of (judge read_as)
  unfolding judge
  judge-is h free m =
      let n = states-is in
      let cs = w.es in
      let few : length read_as.states ≤ 16 = complete.formed.states in
      let x = first_absent (length read_as.states) 0 cs in
      let y = first_unbound (is_unbound read_as) 0 [] 0 cs in
      let a : lowest_of (replicate 128 false) (128 + draft.summary.states) draft.places ≡ num x =
      ap (λ k. lowest_of (replicate 128 false) (128 + k) draft.places) n
      ∙ ap (lowest_of (replicate 128 false) (128 + length read_as.states)) places_is
      ∙ absent-place fields (length read_as.states) cs w.reached.operands w.reached.follows few (short h) in
      let u : lowest_of free 145 draft.places ≡ num y =
      ap (lowest_of free 145) places_is
      ∙ unbound-place fields free (is_unbound read_as) (marks-are free m) cs w.reached.operands w.reached.follows (short h) in
      let z = ap (λ k. ltb 1 (get_or k 0 0)) kinds-is ∙ dead-start read_as.states complete.formed.nonempty in
      rw (
        a,
        u,
        z,
        same-commands,
        found x (absent-below fields (length read_as.states) cs w.reached.operands w.reached.follows few (short h)),
        found y (unbound-below fields free (is_unbound read_as) (marks-are free m) cs w.reached.operands w.reached.follows (short h)),
      )
      (in-order draft read_as x y (dead_start read_as.states) reading-is)

module _ (fields : ℕ) (l : List ℕ) (bytes : Bytes l) where
  -- a refused walk
  pub answer-refused : (r : Refusal) → Scanned fields l (Err r) → Err r ≡ answer_of (read_formula fields l)
  answer-refused r h = answer-of (read_formula fields l) r (refused-so fields l bytes r (sym h.is))

  -- the draft of a walk that reached END
  module _ (d : Draft) (h : Scanned fields l (Ok d)) where
    found-whole : Whole fields l (suc (length l)) start [] 0 l
    found-whole = whole_of fields l bytes d (sym h.is)

    walked : d ≡ draft_after empty_draft found-whole.es
    unfolding scan_file draft_after
    walked = let e = h.is ∙ found-whole.scans in cc

    at-is : d.at ≡ found-whole.place
    at-is = ap (λ (x : Draft). x.at) walked ∙ place_is fields l found-whole

    read-so : read_formula fields l ≡ after_end (assemble found-whole.es) (d.at + 1) (drop 1 found-whole.left)
    unfolding read_formula
    read-so = found-whole.reads ∙ ap (λ n. after_end (assemble found-whole.es) (n + 1) (drop 1 found-whole.left)) (sym at-is)

    length-so : length l ≡ d.at + 1 + length (drop 1 found-whole.left)
    length-so = length-is fields l found-whole ∙ ap (λ n. n + 1 + length (drop 1 found-whole.left)) (sym at-is)

    -- bytes behind END
    pub answer-leftover : d.at + 1 < length l → Err (Leftover InFormula (d.at + 1)) ≡ answer_of (read_formula fields l)
    answer-leftover k =
        answer-of (read_formula fields l) (Leftover InFormula (d.at + 1))
        (read-so ∙ after_more (assemble found-whole.es) (d.at + 1) (drop 1 found-whole.left) (let n = length-so in omega arith))

    -- nothing behind END: what was kept is judged
    pub answer-judged : length l < 2 ^ 64 → length l ≤ d.at + 1 → (free : List Bool) → Free (kept d) free
        → judged d (some_below nowhere (lowest_of (replicate 128 false) (128 + d.summary.states) d.places))
        (some_below nowhere (lowest_of free 145 d.places))
        ≡ answer_of (read_formula fields l)
    answer-judged s k free q =
        ap
        (λ (x : Draft).
        judged x (some_below nowhere (lowest_of (replicate 128 false) (128 + x.summary.states) x.places))
        (some_below nowhere (lowest_of free 145 x.places)))
        walked
        ∙ judge-is fields l found-whole s free (subst (λ (x : Draft). Free (kept x) free) walked q)
        ∙ sym
        (ap answer_of (read-so ∙ after_none (assemble found-whole.es) (d.at + 1) (drop 1 found-whole.left) (let n = length-so in omega arith)))
