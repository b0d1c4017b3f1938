-- What the walk keeps is what the definition assembles: the table, the kinds, the tied variables, the first absent state.
use Prim.Native.Nat.{ℕ, ◌+◌, ◌*◌, ◌<◌}
use mathlib.Core.Path.{◌≡◌, refl, sym, ap, ◌∙◌, subst}
use mathlib.Core.Bool.{Bool, true, false, ◌||◌, or-true, or-false, or_assoc}
use mathlib.Core.List.{List, [], ◌∷◌, ◌++◌, map, append-nil}
use native.Mathlib.Omega.{arith}
use native.Mathlib.Nat.{zero-add, one-mul}
use borrow.Author.Tests.{eqb-true, eqb-false}
use lib.Dec.{eqb}
use lib.ListN.{length, get_or, set, length-append, length-set, get_or-replicate}
use lib.Seq.{get_or-set_same, get_or-set_other, append_snoc}
use Rattle.base.specs.Lists.{pad}
use Rattle.base.specs.Mask.{mask}
use Rattle.base.proofs.Lists.{set-pad}
use Rattle.formula_code.specs.declared.draft.Draft.{Draft}
use Rattle.formula.specs.Formula.{TEST, TESTV, BIND, GATHER, State}
use Rattle.formula.specs.Encode.{Command, TIED, STATE, STEP, CLAUSE, GUARD, kind_byte, encode_command}
use Rattle.formula.specs.Lookup.{is_tied, mask_from}
use Rattle.formula.specs.Read.{advance, assembly}
use Rattle.formula_code.specs.inner.Scan.{empty_draft}
use Rattle.formula.proofs.Assembling.{Follows}
use Rattle.formula.proofs.Table.{filled, fill}
use Rattle.formula.proofs.Ties.{mask-from}
use Rattle.formula_code.proofs.SameCommands.{add_c, draft_after, summary-add}

-- a mark set in a list
pub set-mark : (m : List Bool) (v w : ℕ) → w < length m → get_or (set m v true) w false ≡ (get_or m w false || eqb v w)
set-mark m v w h = by-test (eqb v w) refl
  where
    by-test : (b : Bool) → eqb v w ≡ b → get_or (set m v true) w false ≡ (get_or m w false || b)
    by-test true e =
        subst (λ k. get_or (set m k true) w false ≡ (get_or m w false || true)) (sym (eqb-true v w e))
        (get_or-set_same m w true false h ∙ sym (or-true (get_or m w false)))
    by-test false e = get_or-set_other m v w true false (λ q. eqb-false v w e (sym q)) ∙ sym (or-false (get_or m w false))

-- the table is filled by each STEP
table-add : (d : Draft) (c : Command) → (add_c d c).table ≡ filled d.summary d.at c d.table
table-add d (TIED v) = refl
table-add d (STATE k) = refl
table-add d (STEP t) = refl
table-add d (CLAUSE (TEST f o x)) = refl
table-add d (CLAUSE (TESTV f o v)) = refl
table-add d (CLAUSE (BIND f v)) = refl
table-add d (CLAUSE (GATHER f v)) = refl
table-add d (GUARD e) = refl

pub table-after : (d : Draft) (cs : List Command) → (draft_after d cs).table ≡ fill d.summary d.at d.table cs
unfolding draft_after fill
table-after d [] = refl
table-after d (c ∷ cs) =
    table-after (add_c d c) cs
    ∙ ap (λ s. fill s (d.at + length (encode_command c)) (add_c d c).table cs) (summary-add d c)
    ∙ ap (λ t. fill (advance d.summary c) (d.at + length (encode_command c)) t cs) (table-add d c)

abbrev kinds_in : List State → List ℕ
kinds_in xs = map (λ (x : State). kind_byte x.kind) xs

-- the kinds are those of the states
pub kinds-after : (d : Draft) (cs : List Command) (ks : List ℕ) → d.kinds ≡ pad 16 0 ks → d.summary.states ≡ length ks → Follows d.summary cs
    → (draft_after d cs).kinds ≡ pad 16 0 (ks ++ kinds_in (assembly cs).states)
unfolding draft_after assembly
kinds-after d [] ks e n h = e ∙ ap (pad 16 0) (sym (append-nil ks))
kinds-after d (TIED v ∷ cs) ks e n h = kinds-after (add_c d (TIED v)) cs ks e n (subst (λ s. Follows s cs) (sym (summary-add d (TIED v))) h.1)
kinds-after d (STATE k ∷ cs) ks e n h =
    kinds-after (add_c d (STATE k)) cs (ks ++ (kind_byte k ∷ []))
    (ap (λ l. set l d.summary.states (kind_byte k)) e
    ∙ ap (λ j. set (pad 16 0 ks) j (kind_byte k)) n
    ∙ set-pad 16 0 ks (kind_byte k) (subst (λ j. j < 16) n h.0))
    (let l = length-append ks (kind_byte k ∷ []) in omega arith)
    (subst (λ s. Follows s cs) (sym (summary-add d (STATE k))) h.1)
    ∙ ap (pad 16 0) (append_snoc ks (kind_byte k) (kinds_in (assembly cs).states))
kinds-after d (STEP t ∷ cs) ks e n h = kinds-after (add_c d (STEP t)) cs ks e n (subst (λ s. Follows s cs) (sym (summary-add d (STEP t))) h.1)
kinds-after d (CLAUSE (TEST f o x) ∷ cs) ks e n h =
    kinds-after (add_c d (CLAUSE (TEST f o x))) cs ks e n (subst (λ s. Follows s cs) (sym (summary-add d (CLAUSE (TEST f o x)))) h.1)
kinds-after d (CLAUSE (TESTV f o v) ∷ cs) ks e n h =
    kinds-after (add_c d (CLAUSE (TESTV f o v))) cs ks e n (subst (λ s. Follows s cs) (sym (summary-add d (CLAUSE (TESTV f o v)))) h.1)
kinds-after d (CLAUSE (BIND f v) ∷ cs) ks e n h =
    kinds-after (add_c d (CLAUSE (BIND f v))) cs ks e n (subst (λ s. Follows s cs) (sym (summary-add d (CLAUSE (BIND f v)))) h.1)
kinds-after d (CLAUSE (GATHER f v) ∷ cs) ks e n h =
    kinds-after (add_c d (CLAUSE (GATHER f v))) cs ks e n (subst (λ s. Follows s cs) (sym (summary-add d (CLAUSE (GATHER f v)))) h.1)
kinds-after d (GUARD x ∷ cs) ks e n h = kinds-after (add_c d (GUARD x)) cs ks e n (subst (λ s. Follows s cs) (sym (summary-add d (GUARD x))) h.1)

-- a variable is tied if it was or is
ties-at : (d : Draft) (cs : List Command) (w : ℕ) → w < length d.ties
    → get_or (draft_after d cs).ties w false ≡ (get_or d.ties w false || is_tied w (assembly cs).tied)
unfolding draft_after assembly is_tied
ties-at d [] w h = sym (or-false (get_or d.ties w false))
ties-at d (TIED v ∷ cs) w h =
    ties-at (add_c d (TIED v)) cs w (subst (λ n. w < n) (sym (length-set d.ties v true)) h)
    ∙ ap (λ b. b || is_tied w (assembly cs).tied) (set-mark d.ties v w h)
    ∙ or_assoc (get_or d.ties w false) (eqb v w) (is_tied w (assembly cs).tied)
ties-at d (STATE k ∷ cs) w h = ties-at (add_c d (STATE k)) cs w h
ties-at d (STEP t ∷ cs) w h = ties-at (add_c d (STEP t)) cs w h
ties-at d (CLAUSE (TEST f o x) ∷ cs) w h = ties-at (add_c d (CLAUSE (TEST f o x))) cs w h
ties-at d (CLAUSE (TESTV f o v) ∷ cs) w h = ties-at (add_c d (CLAUSE (TESTV f o v))) cs w h
ties-at d (CLAUSE (BIND f v) ∷ cs) w h = ties-at (add_c d (CLAUSE (BIND f v))) cs w h
ties-at d (CLAUSE (GATHER f v) ∷ cs) w h = ties-at (add_c d (CLAUSE (GATHER f v))) cs w h
ties-at d (GUARD x ∷ cs) w h = ties-at (add_c d (GUARD x)) cs w h

ties-length : (d : Draft) (cs : List Command) → length (draft_after d cs).ties ≡ length d.ties
unfolding draft_after
ties-length d [] = refl
ties-length d (TIED v ∷ cs) = ties-length (add_c d (TIED v)) cs ∙ length-set d.ties v true
ties-length d (STATE k ∷ cs) = ties-length (add_c d (STATE k)) cs
ties-length d (STEP t ∷ cs) = ties-length (add_c d (STEP t)) cs
ties-length d (CLAUSE (TEST f o x) ∷ cs) = ties-length (add_c d (CLAUSE (TEST f o x))) cs
ties-length d (CLAUSE (TESTV f o v) ∷ cs) = ties-length (add_c d (CLAUSE (TESTV f o v))) cs
ties-length d (CLAUSE (BIND f v) ∷ cs) = ties-length (add_c d (CLAUSE (BIND f v))) cs
ties-length d (CLAUSE (GATHER f v) ∷ cs) = ties-length (add_c d (CLAUSE (GATHER f v))) cs
ties-length d (GUARD x ∷ cs) = ties-length (add_c d (GUARD x)) cs

-- marks that are those of the tied variables make their mask
mask_is : (m : List Bool) (ws : List ℕ) → length m ≡ 8 → ((w : ℕ) → w < 8 → get_or m w false ≡ is_tied w ws) → mask m ≡ mask_from ws 0 8
mask_is m ws n h =
    let e : mask_from ws 0 (length m) ≡ 1 * mask m = mask-from ws 0 m (λ w i. h w (omega arith) ∙ ap (λ v. is_tied v ws) (sym (zero-add w))) in
    sym (subst (λ k. mask_from ws 0 k ≡ mask m) n (e ∙ one-mul (mask m)))

-- the mask is that of the TIEDs
pub mask-after : (cs : List Command) → mask (draft_after empty_draft cs).ties ≡ mask_from (assembly cs).tied 0 8
unfolding empty_draft
mask-after cs =
    mask_is (draft_after empty_draft cs).ties (assembly cs).tied (ties-length empty_draft cs)
    (λ w h. ties-at empty_draft cs w h ∙ ap (λ b. b || is_tied w (assembly cs).tied) (get_or-replicate 8 w false false h))
