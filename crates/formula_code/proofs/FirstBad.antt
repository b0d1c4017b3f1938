-- The lowest place of the states that are absent, and of the variables that are unbound, in the table after all commands is the definition's first bad place.
use Prim.Native.Nat.{ℕ, suc, ◌+◌, ◌-◌, ◌*◌, ◌<◌, ◌≤◌}
use mathlib.Core.Path.{◌≡◌, refl, sym, ap, ◌∙◌, subst}
use mathlib.Core.Bool.{Bool, true, false, not, ◌||◌, or-false}
use mathlib.Core.List.{List, [], ◌∷◌, flat_map}
use native.Mathlib.Omega.{arith}
use borrow.Author.Tests.{lt-ltb, le-ltb}
use lib.Dec.{ltb, eqb}
use lib.ListN.{length, get_or, replicate, length-append, length-set, get_or-replicate}
use Rattle.base.specs.Lists.{All}
use Rattle.formula.specs.Formula.{Leaf, CONST, VAR, COUNT, SUM, LENGTH, DIFFERENT, Clause, TEST, TESTV, BIND, GATHER}
use Rattle.formula.specs.Encode.{Command, TIED, STATE, STEP, CLAUSE, GUARD, encode_clause, encode_command}
use Rattle.formula.specs.Unbound.{binds}
use Rattle.formula.specs.Correct.{LeafExists, Exists}
use Rattle.formula.specs.declared.Summary.{Summary}
use Rattle.formula.specs.Read.{start, advance, absent_leaf, absent_in, first_absent, seen_after, own_after, unbound_leaf, unbound_in, first_unbound}
use Rattle.formula.proofs.Commands.{Fits}
use Rattle.formula.proofs.Assembling.{Follows}
use Rattle.expression_reader.specs.inner.Places.{nowhere, state_key, picked, lowest_of}
use Rattle.command_reader.specs.inner.Take.{command_shape, guard_noted}
use Rattle.formula_code.specs.inner.Scan.{own_with, places_with}
use Rattle.formula_code.proofs.Outline.{set-mark}
use Rattle.formula_code.proofs.Edges.{binds-snoc}
use Rattle.expression_reader.proofs.NotedPlaces.{num, Below, Holds, Reads, held, idle, notes, behind, then, state-key, Marks, LeafNotes, var-notes, expr-reads}

-- the places after a command at `at`, and after several
abbrev pub places_by : ℕ → List Bool → ℕ → Command → List ℕ → List ℕ
places_by seen own at c t = places_with (guard_noted (seen - 1) own at t c) seen at (command_shape c)

unfoldable pub places_from : ℕ → List Bool → ℕ → List ℕ → List Command → List ℕ
places_from seen own at t [] = t
places_from seen own at t (c ∷ cs) = places_from (seen_after seen c) (own_with own (command_shape c)) (at + length (encode_command c)) (places_by seen own at c t) cs

-- the states counted are those seen, and the marks those of the last step's clauses
record Kept (s : Summary) (seen : ℕ) (own : List Bool) (clauses : List Clause) : Type 0 where
  states : seen ≡ s.states
  most : seen ≤ 16
  size : length own ≡ 8
  marks : Marks own clauses

kept_on : (s : Summary) (seen : ℕ) (own : List Bool) (clauses : List Clause) (c : Command) → Fits s c → Kept s seen own clauses
    → Kept (advance s c) (seen_after seen c) (own_with own (command_shape c)) (own_after clauses c)
unfolding binds
kept_on s seen own clauses (TIED v) f h = record { states = h.states; most = h.most; size = h.size; marks = h.marks }
kept_on s seen own clauses (STATE k) f h =
    let e = h.states in
    record { states = ap suc e; most = omega arith; size = refl; marks = λ v l. get_or-replicate 8 v false false l }
kept_on s seen own clauses (STEP t) f h = record { states = h.states; most = h.most; size = refl; marks = λ v l. get_or-replicate 8 v false false l }
kept_on s seen own clauses (CLAUSE (TEST g o x)) f h =
    record {
      states = h.states;
      most = h.most;
      size = h.size;
      marks = λ v l. h.marks v l ∙ sym (binds-snoc v clauses (TEST g o x) ∙ or-false (binds v clauses));
    }
kept_on s seen own clauses (CLAUSE (TESTV g o w)) f h =
    record {
      states = h.states;
      most = h.most;
      size = h.size;
      marks = λ v l. h.marks v l ∙ sym (binds-snoc v clauses (TESTV g o w) ∙ or-false (binds v clauses));
    }
kept_on s seen own clauses (CLAUSE (GATHER g w)) f h =
    record {
      states = h.states;
      most = h.most;
      size = h.size;
      marks = λ v l. h.marks v l ∙ sym (binds-snoc v clauses (GATHER g w) ∙ or-false (binds v clauses));
    }
kept_on s seen own clauses (CLAUSE (BIND g w)) f h =
    record {
      states = h.states;
      most = h.most;
      size = length-set own w true ∙ h.size;
      marks = λ v l.
          set-mark own w v (subst (λ n. v < n) (sym h.size) l)
          ∙ ap (λ b. b || eqb w v) (h.marks v l)
          ∙ sym (binds-snoc v clauses (BIND g w) ∙ ap (λ b. binds v clauses || b) (or-false (eqb w v)));
    }
kept_on s seen own clauses (GUARD e) f h = record { states = h.states; most = h.most; size = h.size; marks = h.marks }

kept-start : Kept start 0 (replicate 8 false) []
unfolding start binds
kept-start = record { states = refl; most = omega arith; size = refl; marks = λ v l. get_or-replicate 8 v false false l }

-- which keys are looked at
picked-var : (free : List Bool) (from v s : ℕ) → v < 8 → s < 16 → picked free from (v * 16 + s) ≡ get_or free (v * 16 + s) false
unfolding picked
picked-var free from v s h l = rw (lt-ltb (v * 16 + s) 128 (omega arith))

picked-state : (free : List Bool) (from t : ℕ) → picked free from (state_key t) ≡ not (ltb (state_key t) from)
unfolding picked
picked-state free from t = rw (le-ltb (state_key t) 128 (state-key t).least)

-- the first STEP or COUNT naming an absent state
module _ (fields n : ℕ) (most : n ≤ 16) where
  abbrev late : ℕ → Bool
  late = picked (replicate 128 false) (128 + n)

  late-var : (v s : ℕ) → v < 8 → s < 16 → late (v * 16 + s) ≡ false
  late-var v s h l = picked-var (replicate 128 false) (128 + n) v s h l ∙ get_or-replicate 128 (v * 16 + s) false false (omega arith)

  late-state : (t : ℕ) → late (state_key t) ≡ not (ltb t n)
  late-state t = picked-state (replicate 128 false) (128 + n) t ∙ ap not ((state-key t).below n most)

  absent-leaf : (s : ℕ) (own : List Bool) → s < 16 → (l : Leaf) → LeafExists l → LeafNotes late s own (absent_leaf n) l
  absent-leaf s own low (CONST x) k = idle late _
  absent-leaf s own low (VAR v) k = var-notes late s own v false (get_or own v false) (late-var v s k low) refl k low
  absent-leaf s own low (COUNT t) k = notes late 2 (state_key t) (not (ltb t n)) (late-state t) (state-key t).most (omega arith)
  absent-leaf s own low (SUM v) k = idle late _
  absent-leaf s own low (LENGTH v) k = idle late _
  absent-leaf s own low (DIFFERENT v) k = idle late _

  absent-in : (s : Summary) (seen : ℕ) (own : List Bool) (clauses : List Clause) (c : Command) → Kept s seen own clauses → Exists fields c
      → Reads late (length (encode_command c)) (λ at t. places_by seen own at c t) (λ at. absent_in n at c)
  unfolding encode_command encode_clause
  absent-in s seen own clauses (TIED v) h k = idle late _
  absent-in s seen own clauses (STATE x) h k = idle late _
  absent-in s seen own clauses (STEP t) h k = notes late 2 (state_key t) (not (ltb t n)) (late-state t) (state-key t).most (omega arith)
  absent-in s seen own clauses (CLAUSE (TEST f o x)) h k = idle late _
  absent-in s seen own clauses (CLAUSE (TESTV f o v)) h k =
      notes late 4 (v * 16 + (seen - 1)) false (late-var v (seen - 1) k.1 (omega (arith, h.most))) (omega (arith, h.most)) (omega arith)
  absent-in s seen own clauses (CLAUSE (BIND f v)) h k = idle late _
  absent-in s seen own clauses (CLAUSE (GATHER f v)) h k = idle late _
  absent-in s seen own clauses (GUARD e) h k =
      behind late (expr-reads late (seen - 1) own (absent_leaf n) (absent-leaf (seen - 1) own (omega (arith, h.most))) e k)

  absent-all : (s : Summary) (seen : ℕ) (own : List Bool) (clauses : List Clause) (cs : List Command) → Kept s seen own clauses
      → All (Exists fields) cs → Follows s cs
      → Reads late (length (flat_map encode_command cs)) (λ at t. places_from seen own at t cs) (λ at. first_absent n at cs)
  unfolding places_from first_absent flat_map
  absent-all s seen own clauses [] h k f = idle late _
  absent-all s seen own clauses (c ∷ cs) h k f =
      rw (length-append (encode_command c) (flat_map encode_command cs))
      (then late (absent-in s seen own clauses c h k.0)
      (absent-all (advance s c) (seen_after seen c) (own_with own (command_shape c)) (own_after clauses c) cs (kept_on s seen own clauses c f.0 h)
      k.1 f.1))

module _ (fields n : ℕ) (cs : List Command) (k : All (Exists fields) cs) (f : Follows start cs) (most : n ≤ 16)
    (l : length (flat_map encode_command cs) ≤ nowhere) where
  absent-held : Holds (late fields n most) (places_from 0 (replicate 8 false) 0 (replicate 145 nowhere) cs) nowhere (first_absent n 0 cs)
  absent-held = held (late fields n most) (absent-all fields n most start 0 (replicate 8 false) [] cs kept-start k f) l

  pub absent-place : lowest_of (replicate 128 false) (128 + n) (places_from 0 (replicate 8 false) 0 (replicate 145 nowhere) cs) ≡ num (first_absent n 0 cs)
  unfolding lowest_of
  absent-place = absent-held.place

  pub absent-below : Below nowhere (first_absent n 0 cs)
  absent-below = absent-held.below

-- the first unbound TESTV or VAR
module _ (fields : ℕ) (free : List Bool) (un : ℕ → ℕ → Bool) (same : (v s : ℕ) → v < 8 → s < 16 → get_or free (v * 16 + s) false ≡ un v s) where
  abbrev loose : ℕ → Bool
  loose = picked free 145

  loose-var : (v s : ℕ) → v < 8 → s < 16 → loose (v * 16 + s) ≡ un v s
  loose-var v s h l = picked-var free 145 v s h l ∙ same v s h l

  loose-state : (t : ℕ) → loose (state_key t) ≡ false
  loose-state t = picked-state free 145 t ∙ ap not (lt-ltb (state_key t) 145 (state-key t).most)

  unbound-leaf : (seen : ℕ) (own : List Bool) (clauses : List Clause) → Marks own clauses → seen - 1 < 16 → (l : Leaf) → LeafExists l
      → LeafNotes loose (seen - 1) own (unbound_leaf un seen clauses) l
  unbound-leaf seen own clauses marks low (CONST x) k = idle loose _
  unbound-leaf seen own clauses marks low (VAR v) k =
      var-notes loose (seen - 1) own v (un v (seen - 1)) (binds v clauses) (loose-var v (seen - 1) k low) (marks v k) k low
  unbound-leaf seen own clauses marks low (COUNT t) k = notes loose 2 (state_key t) false (loose-state t) (state-key t).most (omega arith)
  unbound-leaf seen own clauses marks low (SUM v) k = idle loose _
  unbound-leaf seen own clauses marks low (LENGTH v) k = idle loose _
  unbound-leaf seen own clauses marks low (DIFFERENT v) k = idle loose _

  unbound-in : (s : Summary) (seen : ℕ) (own : List Bool) (clauses : List Clause) (c : Command) → Kept s seen own clauses → Exists fields c
      → Reads loose (length (encode_command c)) (λ at t. places_by seen own at c t) (λ at. unbound_in un seen clauses at c)
  unfolding encode_command encode_clause
  unbound-in s seen own clauses (TIED v) h k = idle loose _
  unbound-in s seen own clauses (STATE x) h k = idle loose _
  unbound-in s seen own clauses (STEP t) h k = notes loose 2 (state_key t) false (loose-state t) (state-key t).most (omega arith)
  unbound-in s seen own clauses (CLAUSE (TEST f o x)) h k = idle loose _
  unbound-in s seen own clauses (CLAUSE (TESTV f o v)) h k =
      notes loose 4 (v * 16 + (seen - 1)) (un v (seen - 1)) (loose-var v (seen - 1) k.1 (omega (arith, h.most))) (omega (arith, h.most))
      (omega arith)
  unbound-in s seen own clauses (CLAUSE (BIND f v)) h k = idle loose _
  unbound-in s seen own clauses (CLAUSE (GATHER f v)) h k = idle loose _
  unbound-in s seen own clauses (GUARD e) h k =
      behind loose
      (expr-reads loose (seen - 1) own (unbound_leaf un seen clauses) (unbound-leaf seen own clauses h.marks (omega (arith, h.most))) e k)

  unbound-all : (s : Summary) (seen : ℕ) (own : List Bool) (clauses : List Clause) (cs : List Command) → Kept s seen own clauses
      → All (Exists fields) cs → Follows s cs
      → Reads loose (length (flat_map encode_command cs)) (λ at t. places_from seen own at t cs) (λ at. first_unbound un seen clauses at cs)
  unfolding places_from first_unbound flat_map
  unbound-all s seen own clauses [] h k f = idle loose _
  unbound-all s seen own clauses (c ∷ cs) h k f =
      rw (length-append (encode_command c) (flat_map encode_command cs))
      (then loose (unbound-in s seen own clauses c h k.0)
      (unbound-all (advance s c) (seen_after seen c) (own_with own (command_shape c)) (own_after clauses c) cs (kept_on s seen own clauses c f.0 h)
      k.1 f.1))

  module _ (cs : List Command) (k : All (Exists fields) cs) (f : Follows start cs) (l : length (flat_map encode_command cs) ≤ nowhere) where
    unbound-held : Holds loose (places_from 0 (replicate 8 false) 0 (replicate 145 nowhere) cs) nowhere (first_unbound un 0 [] 0 cs)
    unbound-held = held loose (unbound-all start 0 (replicate 8 false) [] cs kept-start k f) l

    pub unbound-place : lowest_of free 145 (places_from 0 (replicate 8 false) 0 (replicate 145 nowhere) cs) ≡ num (first_unbound un 0 [] 0 cs)
    unfolding lowest_of
    unbound-place = unbound-held.place

    pub unbound-below : Below nowhere (first_unbound un 0 [] 0 cs)
    unbound-below = unbound-held.below
