-- 13 is answered exactly where the file is well formed up to END, nothing is left over, and some STEP or COUNT names a state that it does not
-- declare; its place is the first of those.
use Prim.Native.Nat.{ℕ, ◌+◌, ◌<◌, ◌≤◌}
use mathlib.Core.Path.{◌≡◌, refl, sym, ap, subst, ◌∙◌}
use mathlib.Core.Logic.{inl, inr}
use mathlib.Core.Bool.{Bool, true, false, not}
use mathlib.Core.List.{List, [], ◌∷◌, append-nil}
use mathlib.Core.Option.{Option, none, some}
use native.Mathlib.Omega.{arith}
use borrow.Author.Tests.{ltb-true, lt-ltb, not-false}
use lib.Dec.{ltb}
use lib.ListN.{length}
use Rattle.base.specs.Lists.{Bytes}
use Rattle.refusal.specs.declared.Refusal.{Refusal}
use Rattle.refusal.specs.declared.File.TheVariants.{Formula as InFormula}
use Rattle.refusal.specs.declared.Refusal.TheVariants.{Leftover, AbsentState}
use Rattle.refusal.specs.Refusals.{report_of}
use Rattle.formula.specs.Formula.{Formula}
use Rattle.formula.specs.Encode.{Command, TIED, STATE, STEP, CLAUSE, GUARD, commands, encode_command, encode}
use Rattle.formula.specs.Correct.{LeafDeclared, dead_start}
use Rattle.formula.specs.Unbound.{is_unbound}
use Rattle.formula.specs.Absent.{CommandNames, NamesFrom, AbsentAt}
use Rattle.formula.specs.Read.{Reading, refused, absent_leaf, absent_in, first_absent, first_unbound, judge, after_end, read_formula}
use Rattle.formula.proofs.Order.{then-absent, then-dead-start, then-unbound, then-accepted}
use Rattle.formula.proofs.Leaves.{First, else-first, when-first, Inside, leaf-inside, leaf_first}
use Rattle.formula.proofs.AfterEnd.{absent-leaf, declared-leaf}
use Rattle.formula.proofs.CommandRefusals.{CommandRefusal, cut_short, foreign, value, surplus, twice}
use Rattle.formula.proofs.Reading.{Complete, reading-holds, formed-judged}

module _ (states : ℕ) where
  command-inside : (at : ℕ) (c : Command) (q : ℕ) → CommandNames states at c q → Inside at (length (encode_command c)) q
  unfolding encode_command
  command-inside at (TIED v) q h = absurd h
  command-inside at (STATE k) q h = absurd h
  command-inside at (STEP t) q h = (omega (arith, h.0), omega (arith, h.0))
  command-inside at (CLAUSE c) q h = absurd h
  command-inside at (GUARD e) q h =
      let k = leaf-inside (λ l. ¬ LeafDeclared states l) q (at + 1) e h in (omega (arith, k.0), omega (arith, k.1))

  command-first : (at : ℕ) (c : Command) → First (CommandNames states at c) (absent_in states at c)
  command-first at (TIED v) = λ q h. h
  command-first at (STATE k) = λ q h. h
  command-first at (STEP t) =
      when-first (not (ltb t states)) at (t < states) (λ e. ltb-true t states (not-false (ltb t states) e)) (λ d. rw (lt-ltb t states d))
  command-first at (CLAUSE c) = λ q h. h
  command-first at (GUARD e) = leaf_first (absent_leaf states) (LeafDeclared states) (absent-leaf states) (declared-leaf states) (at + 1) e

  names-from : (at : ℕ) (cs : List Command) (q : ℕ) → NamesFrom states at cs q → at ≤ q
  names-from at [] q h = absurd h
  names-from at (c ∷ cs) q (inl h) = (command-inside at c q h).0
  names-from at (c ∷ cs) q (inr h) = omega (arith, names-from (at + length (encode_command c)) cs q h)

  -- the place that reading finds is the first at which a STEP or COUNT names an absent state
  names-first : (at : ℕ) (cs : List Command) → First (NamesFrom states at cs) (first_absent states at cs)
  unfolding first_absent
  names-first at [] = λ q h. h
  names-first at (c ∷ cs) =
      let i = at + length (encode_command c) in
      else-first (CommandNames states at c) (NamesFrom states i cs) (absent_in states at c) (first_absent states i cs) (command-first at c) (names-first i cs)
      (λ q r h k. omega (arith, (command-inside at c q h).1, names-from i cs r k))

-- where 13 is answered, the place is the one that is found
judged-place : (f : Formula) (p : ℕ) → judge f ≡ refused (AbsentState p) → first_absent (length f.states) 0 (commands f) ≡ some p
unfolding after_end
judged-place f p e = go (first_absent (length f.states) 0 (commands f)) refl
  where
    unbound : first_absent (length f.states) 0 (commands f) ≡ none → dead_start f.states ≡ false → (u : Option ℕ)
        → first_unbound (is_unbound f) 0 [] 0 (commands f) ≡ u → none ≡ some p
    unbound a d none q = let x = then-accepted f 0 a d q in cc
    unbound a d (some k) q = let x = then-unbound f 0 k a d q in cc

    go : (o : Option ℕ) → first_absent (length f.states) 0 (commands f) ≡ o → o ≡ some p
    go (some k) q = let x = then-absent f 0 k q in cc
    go none q = dead (dead_start f.states) refl
      where
        dead : (d : Bool) → dead_start f.states ≡ d → none ≡ some p
        dead true d = let x = then-dead-start f 0 q d in cc
        dead false d = unbound q d (first_unbound (is_unbound f) 0 [] 0 (commands f)) refl

-- which is the first at which a STEP or COUNT names an absent state
judged-first : (f : Formula) (p : ℕ) → judge f ≡ refused (AbsentState p) → First (NamesFrom (length f.states) 0 (commands f)) (some p)
judged-first f p e =
    subst (First (NamesFrom (length f.states) 0 (commands f))) (judged-place f p e) (names-first (length f.states) 0 (commands f))

-- where a STEP or COUNT names an absent state, the formula is refused with it
judged-absent : (f : Formula) (q : ℕ) → NamesFrom (length f.states) 0 (commands f) q → (p : ℕ) × (judge f ≡ refused (AbsentState p))
unfolding after_end
judged-absent f q h = go (first_absent (length f.states) 0 (commands f)) refl (names-first (length f.states) 0 (commands f))
  where
    go : (o : Option ℕ) → first_absent (length f.states) 0 (commands f) ≡ o → First (NamesFrom (length f.states) 0 (commands f)) o
        → (p : ℕ) × (judge f ≡ refused (AbsentState p))
    go none e n = absurd (n q h)
    go (some p) e n = (p, then-absent f 0 p e)

-- no refusal with a lower number is this one
lower : (r : Refusal) (p : ℕ) → (report_of r).number < 13 → refused r ≡ refused (AbsentState p) → ⊥
lower r p h e =
    let q : r ≡ AbsentState p = cc in
    omega (arith, ap (λ (x : Refusal). (report_of x).number) q)

module _ (fields : ℕ) (file : List ℕ) where
  abbrev Told : Reading → Type 0
  Told x = (p : ℕ) → x ≡ refused (AbsentState p) → AbsentAt fields file p

  -- no command is refused with it, and nothing is left over behind END
  not-a-command : (n : ℕ) (r : Refusal) → CommandRefusal n r → Told (refused r)
  not-a-command n r (cut_short h) p e = absurd (lower r p (omega arith) e)
  not-a-command n r (foreign h) p e = absurd (lower r p (omega arith) e)
  not-a-command n r (value h) p e = absurd (lower r p (omega arith) e)
  not-a-command n r (surplus h) p e = absurd (lower r p (omega arith) e)
  not-a-command n r (twice h) p e = absurd (lower r p (omega arith) e)

  behind-end : (f : Formula) (at : ℕ) (after : List ℕ) → Complete fields file f after → Told (after_end f at after)
  unfolding after_end
  behind-end f at [] c p e =
      record { formula = f; encoded = c.bytes ∙ append-nil (encode f); formed = c.formed; names = (judged-first f p e).0 }
  behind-end f at (b ∷ bs) c p e = absurd (lower (Leftover InFormula at) p (omega arith) e)

  -- refused with 13 at p: a STEP or COUNT at p names an absent state
  pub absent-there : Bytes file → (p : ℕ) → read_formula fields file ≡ refused (AbsentState p) → AbsentAt fields file p
  absent-there b = reading-holds fields file Told not-a-command behind-end b

  -- and none before it does
  pub absent-lowest : (p q : ℕ) → read_formula fields file ≡ refused (AbsentState p) → AbsentAt fields file q → p ≤ q
  absent-lowest p q h a =
      (judged-first a.formula p (sym (formed-judged fields a.formula a.formed) ∙ (ap (read_formula fields) (sym a.encoded) ∙ h))).1 q a.names

  -- where one does, 13 is answered
  pub absent-answered : (q : ℕ) → AbsentAt fields file q → (p : ℕ) × (read_formula fields file ≡ refused (AbsentState p))
  absent-answered q a =
      let j = judged-absent a.formula q a.names in
      (j.0, ap (read_formula fields) a.encoded ∙ (formed-judged fields a.formula a.formed ∙ j.1))
