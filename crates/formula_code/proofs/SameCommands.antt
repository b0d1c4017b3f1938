-- The walk keeps the commands that the definition reads: both end at END behind the same commands, or with the same refusal.
use Prim.Native.Nat.{ℕ, zero, suc, ◌+◌, ◌-◌}
use mathlib.Core.Path.{◌≡◌, refl, sym, ap, ◌∙◌}
use mathlib.Core.Logic.{◌⊎◌, inl, inr, ⊎_elim}
use mathlib.Core.List.{List, [], ◌∷◌, ◌++◌, flat_map}
use native.Mathlib.Omega.{arith}
use native.Mathlib.Nat.{zero-add}
use native.Mathlib.Numerals.{add-one}
use lib.Dec.{ltb}
use lib.ListN.{length, drop, length-append}
use lib.Seq.{drop-append_seam}
use Rattle.std.specs.Prelude.{Ok, Err}
use Rattle.base.specs.Lists.{Bytes}
use Rattle.refusal.specs.declared.File.TheVariants.{Formula as InFormula}
use Rattle.refusal.specs.declared.Refusal.{Refusal}
use Rattle.refusal.specs.declared.Refusal.TheVariants.{CutShort}
use Rattle.formula_code.specs.declared.draft.Draft.{Draft}
use Rattle.formula.specs.Formula.{TEST, TESTV, BIND, GATHER, StateKind, ordinary, committed, accept, reject}
use Rattle.formula.specs.Encode.{Command, TIED, STATE, STEP, CLAUSE, GUARD, kind_byte, encode_command}
use Rattle.formula.specs.Correct.{is_final}
use Rattle.formula.specs.declared.Summary.{Summary}
use Rattle.formula.specs.Read.{refused, start, advance, Next, command, end, bad, next, assemble, after_end, follow, read_from}
use Rattle.command_reader.specs.inner.Take.{command_shape, guard_noted, next_shape}
use Rattle.formula_code.specs.inner.Scan.{added, empty_draft, onward, next_from, scan_from}
use Rattle.formula.proofs.Basics.{bytes_drop}
use Rattle.formula.proofs.Commands.{Taken, Ended, Takes, next-taken}
use Rattle.formula.proofs.Reading.{advances, Reached, reached-next}

-- the draft after one more command of the definition, and after several
abbrev pub add_c : Draft → Command → Draft
add_c d c = added d (command_shape c) (length (encode_command c)) (guard_noted (d.summary.states - 1) d.own d.at d.places c)

unfoldable pub draft_after : Draft → List Command → Draft
draft_after d [] = d
draft_after d (c ∷ cs) = draft_after (add_c d c) cs

pub final-kind : (k : StateKind) → ltb 1 (kind_byte k) ≡ is_final k
final-kind ordinary = refl
final-kind committed = refl
final-kind accept = refl
final-kind reject = refl

after-snoc : (d : Draft) (cs : List Command) (c : Command) → draft_after d (cs ++ (c ∷ [])) ≡ add_c (draft_after d cs) c
unfolding draft_after
after-snoc d [] c = refl
after-snoc d (b ∷ cs) c = after-snoc (add_c d b) cs c

pub summary-add : (d : Draft) (c : Command) → (add_c d c).summary ≡ advance d.summary c
summary-add d (TIED v) = rw (add-one d.summary.tied)
summary-add d (STATE k) = rw (add-one d.summary.states, final-kind k)
summary-add d (STEP t) = rw (add-one d.summary.steps)
summary-add d (CLAUSE (TEST f o x)) = rw (add-one d.summary.clauses)
summary-add d (CLAUSE (TESTV f o v)) = rw (add-one d.summary.clauses)
summary-add d (CLAUSE (BIND f v)) = rw (add-one d.summary.clauses)
summary-add d (CLAUSE (GATHER f v)) = rw (add-one d.summary.clauses)
summary-add d (GUARD e) = refl

pub summary-after : (d : Draft) (cs : List Command) → (draft_after d cs).summary ≡ advances d.summary cs
unfolding draft_after
summary-after d [] = refl
summary-after d (c ∷ cs) = summary-after (add_c d c) cs ∙ ap (λ s. advances s cs) (summary-add d c)

pub at_after : (d : Draft) (cs : List Command) → (draft_after d cs).at ≡ d.at + length (flat_map encode_command cs)
unfolding draft_after flat_map
at_after d [] = omega arith
at_after d (c ∷ cs) = let l = length-append (encode_command c) (flat_map encode_command cs) in at_after (add_c d c) cs ∙ omega arith

-- what stands next is the same
next-same : (fields : ℕ) (l : List ℕ) (s : Summary) (cs : List Command) (at : ℕ) (rest : List ℕ) → Reached fields l s cs at rest
    → let d = draft_after empty_draft cs in next_from fields l d ≡ next_shape (d.summary.states - 1) d.own d.at d.places (next fields s at rest)
unfolding next_from empty_draft start
next-same fields l s cs at rest r =
    let d = draft_after empty_draft cs in
    let e : d.summary ≡ s = summary-after empty_draft cs ∙ sym r.summary in
    let p : d.at ≡ at = at_after empty_draft cs ∙ zero-add (length (flat_map encode_command cs)) ∙ sym r.place in
    let q : drop d.at l ≡ rest =
    ap (λ n. drop n l) (p ∙ r.place)
    ∙ ap (drop (length (flat_map encode_command cs))) r.bytes
    ∙ drop-append_seam (flat_map encode_command cs) rest in
    ap (λ x. next_shape (d.summary.states - 1) d.own d.at d.places x)
    (ap (λ t. next fields t d.at (drop d.at l)) e ∙ ap (λ n. next fields s n (drop d.at l)) p ∙ ap (next fields s at) q)

-- END is reached behind the commands es, by the definition and by the walk
pub record Whole (fields : ℕ) (l : List ℕ) (fuel : ℕ) (s : Summary) (cs : List Command) (at : ℕ) (rest : List ℕ) : Type 0 where
  pub es : List Command
  pub summary : Summary
  pub place : ℕ
  pub left : List ℕ
  pub reached : Reached fields l summary es place left
  pub ended : Ended summary left
  pub reads : read_from fuel fields s cs at rest ≡ after_end (assemble es) (place + 1) (drop 1 left)
  pub scans : scan_from fuel fields l (draft_after empty_draft cs) ≡ Ok (draft_after empty_draft es)

-- the same refusal ends the definition and the walk
pub record Broken (fields : ℕ) (l : List ℕ) (fuel : ℕ) (s : Summary) (cs : List Command) (at : ℕ) (rest : List ℕ) : Type 0 where
  pub refusal : Refusal
  pub reads : read_from fuel fields s cs at rest ≡ refused refusal
  pub scans : scan_from fuel fields l (draft_after empty_draft cs) ≡ Err refusal

abbrev pub Outcome : ℕ → List ℕ → ℕ → Summary → List Command → ℕ → List ℕ → Type 0
Outcome fields l fuel s cs at rest = Whole fields l fuel s cs at rest ⊎ Broken fields l fuel s cs at rest

module _ (fields : ℕ) (l : List ℕ) where
  -- one step of the walk, by what stands next
  scan-by : (n : ℕ) (s : Summary) (cs : List Command) (at : ℕ) (rest : List ℕ) (x : Next) → Reached fields l s cs at rest → next fields s at rest ≡ x
      → let d = draft_after empty_draft cs in scan_from (suc n) fields l d ≡ onward (scan_from n fields l) d
      (next_shape (d.summary.states - 1) d.own d.at d.places x)
  unfolding scan_from
  scan-by n s cs at rest x r e =
      let d = draft_after empty_draft cs in
      ap (onward (scan_from n fields l) d) (next-same fields l s cs at rest r ∙ ap (next_shape (d.summary.states - 1) d.own d.at d.places) e)

  -- a command: both go on behind it
  scan-on : (n : ℕ) (s : Summary) (cs : List Command) (at : ℕ) (rest : List ℕ) (c : Command) (u : ℕ) → Reached fields l s cs at rest
      → next fields s at rest ≡ command c u → u ≡ length (encode_command c)
      → scan_from (suc n) fields l (draft_after empty_draft cs) ≡ scan_from n fields l (draft_after empty_draft (cs ++ (c ∷ [])))
  scan-on n s cs at rest c u r e h =
      let d = draft_after empty_draft cs in
      scan-by n s cs at rest (command c u) r e
      ∙ ap (λ k. scan_from n fields l (added d (command_shape c) k (guard_noted (d.summary.states - 1) d.own d.at d.places c))) h
      ∙ ap (scan_from n fields l) (sym (after-snoc empty_draft cs c))

  go_on : (n : ℕ) (s : Summary) (cs : List Command) (at : ℕ) (rest : List ℕ) (c : Command) (u : ℕ) → Reached fields l s cs at rest
      → next fields s at rest ≡ command c u → u ≡ length (encode_command c)
      → Outcome fields l n (advance s c) (cs ++ (c ∷ [])) (at + u) (drop u rest) → Outcome fields l (suc n) s cs at rest
  unfolding read_from
  go_on n s cs at rest c u r e h =
      ⊎_elim
      (λ (w : Whole fields l n (advance s c) (cs ++ (c ∷ [])) (at + u) (drop u rest)).
      inl
      (record {
        es = w.es;
        summary = w.summary;
        place = w.place;
        left = w.left;
        reached = w.reached;
        ended = w.ended;
        reads = ap (follow (read_from n fields) s cs at rest) e ∙ w.reads;
        scans = scan-on n s cs at rest c u r e h ∙ w.scans;
      }))
      (λ (b : Broken fields l n (advance s c) (cs ++ (c ∷ [])) (at + u) (drop u rest)).
      inr
      (record {
        refusal = b.refusal;
        reads = ap (follow (read_from n fields) s cs at rest) e ∙ b.reads;
        scans = scan-on n s cs at rest c u r e h ∙ b.scans;
      }))

  by_next : (n : ℕ) (s : Summary) (cs : List Command) (at : ℕ) (rest : List ℕ) → Reached fields l s cs at rest → (x : Next)
      → next fields s at rest ≡ x → Takes fields s rest x
      → ((c : Command) (u : ℕ) → Taken fields s rest c u → Outcome fields l n (advance s c) (cs ++ (c ∷ [])) (at + u) (drop u rest))
      → Outcome fields l (suc n) s cs at rest
  unfolding read_from
  by_next n s cs at rest r (command c u) e t k = go_on n s cs at rest c u r e t.used (k c u t)
  by_next n s cs at rest r end e t k =
      inl
      (record {
        es = cs;
        summary = s;
        place = at;
        left = rest;
        reached = r;
        ended = t;
        reads = ap (follow (read_from n fields) s cs at rest) e;
        scans = scan-by n s cs at rest end r e;
      })
  by_next n s cs at rest r (bad q) e t k =
      inr
      (record {
        refusal = q;
        reads = ap (follow (read_from n fields) s cs at rest) e;
        scans = scan-by n s cs at rest (bad q) r e;
      })

  place_same : (s : Summary) (cs : List Command) (at : ℕ) (rest : List ℕ) → Reached fields l s cs at rest → (draft_after empty_draft cs).at ≡ at
  unfolding empty_draft
  place_same s cs at rest r = at_after empty_draft cs ∙ zero-add (length (flat_map encode_command cs)) ∙ sym r.place

  -- reading on behind the commands cs
  pub outcome : (n : ℕ) (s : Summary) (cs : List Command) (at : ℕ) (rest : List ℕ) → Bytes rest → Reached fields l s cs at rest
      → Outcome fields l n s cs at rest
  unfolding read_from scan_from
  outcome zero s cs at rest b r =
      inr (record { refusal = CutShort InFormula at; reads = refl; scans = ap (λ n. Err (CutShort InFormula n)) (place_same s cs at rest r) })
  outcome (suc n) s cs at rest b r =
      by_next n s cs at rest r (next fields s at rest) refl (next-taken fields s at rest b)
      (λ c u t. outcome n (advance s c) (cs ++ (c ∷ [])) (at + u) (drop u rest) (bytes_drop u rest b) (reached-next fields l s cs at rest c u r t))
