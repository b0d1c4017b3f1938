-- What a step's bytes alone say of its expiry: with no guard, and no TEST or TESTV with less or at most of a rising field, it never is.
use Prim.Native.Nat.{ℕ, ◌+◌, ◌<◌}
use mathlib.Core.Path.{◌≡◌, refl, sym}
use mathlib.Core.Bool.{Bool, true, false, cond, not, ◌&&◌, ◌||◌, true≢false}
use mathlib.Core.List.{List}
use native.Mathlib.Omega.{arith}
use borrow.Author.Tests.{ne_eqb}
use lib.ListN.{length, get_or}
use lib.Dec.{eqb, ltb, leb}
use Rattle.event_log.specs.Log.{Values}
use Rattle.base.proofs.Tests.{and-false, or-false, not-true-false}
use Rattle.guard_code.specs.inner.Bytes.{falls_at}
use Rattle.machine_code.specs.declared.Configuration.{Configuration}
use Rattle.machine_code.specs.declared.Gained.{Gained}
use Rattle.machine_code.specs.declared.Walked.{Walked}
use Rattle.machine_code.specs.inner.Bytes.{missed_by, is_clause, width_of, tested, holding, bound, noted, met, clause_on, clause_at, begun, gained, kept, lapsed}
use Rattle.machine_code.specs.inner.Bytes.{falls_behind}
use Rattle.machine_code.specs.inner.Marks.{ages_at}
use Rattle.machine_code.proofs.ClausesOnBytes.{either, walking-done, walked_from}
use Rattle.machine_code.proofs.EventAlone.{clause-width, Standing, stand-start, stand-on}
use Rattle.machine_code.proofs.ExpiryOnBytes.{lapsed-not}

-- a walk that is not past due
abbrev pub Early : Walked → Type 0
Early w = w.due ≡ false

-- a test with another operator, or of a field that does not rise, misses nothing
unmissed : (o x y : ℕ) (r p : Bool) → ((eqb o 2 || eqb o 4) && r) ≡ false → ((r && p) && missed_by o x y) ≡ false
unfolding missed_by
unmissed o x y r p h = go (eqb o 2) (eqb o 4) r h
  where
    go : (s t r : Bool) → ((s || t) && r) ≡ false → ((r && p) && cond s (not (ltb x y)) (cond t (not (leb x y)) false)) ≡ false
    go s t false h = refl
    go true t true h = absurd (true≢false h)
    go false true true h = absurd (true≢false h)
    go false false true h = and-false (true && p) false refl

test-early : (w : Walked) (next o x y : ℕ) (r p : Bool) → Early w → ((eqb o 2 || eqb o 4) && r) ≡ false → Early (tested w next o x y (r && p))
unfolding tested
test-early w next o x y r p e h = or-false w.due _ e (unmissed o x y r p h)

note-early : (w : Walked) (next : ℕ) → Early w → Early (noted w next)
unfolding noted
note-early w next e = e

bind-early : (w : Walked) (next v x : ℕ) (r : Bool) → Early w → Early (bound w next v x r)
unfolding bound holding
bind-early w next v x r e = either Early (get_or w.held v false) w _ e e

-- behind a clause that cannot be missed
clause-early : (f prior : List ℕ) (rises : List Bool) (event : Values) (w : Walked) → ages_at f (get_or f w.at 0) w.at rises ≡ false → Early w
    → Early (clause_at f prior rises event w)
unfolding clause_at clause_on met ages_at
clause-early f prior rises event w h e =
    let c = get_or f w.at 0 in
    go (eqb c 0x12) (eqb c 0x13) _ _ _ _ h (test-early _ _ _ _ _ _ _ e) (test-early _ _ _ _ _ _ _ e)
    (either Early (eqb c 0x17) _ _ (note-early _ _ e) (bind-early _ _ _ _ _ e))
  where
    go : (s t q : Bool) (a b d : Walked) → ((s || t) && q) ≡ false → (q ≡ false → Early a) → (q ≡ false → Early b) → Early d → Early (cond s a (cond t b d))
    go true t q a b d h i j k = i h
    go false true q a b d h i j k = j h
    go false false q a b d h i j k = k

-- no walk of the step at `at` is past due where it stands at the place
abbrev pub Lasting : List ℕ → List Bool → ℕ → ℕ → Type 0
Lasting f rises at place = (latest : Values) (c : Configuration) → Standing Early f latest at place c rises

module _ (f : List ℕ) (rises : List Bool) (at : ℕ) where
  pub lasting-start : Lasting f rises at (at + 2)
  unfolding begun
  lasting-start latest c = stand-start Early f latest at c rises refl

  -- over a clause
  pub lasting-on : (place : ℕ) → (width_of (get_or f place 0) ≡ 0 → ⊥) → ages_at f (get_or f place 0) place rises ≡ false → Lasting f rises at place
      → Lasting f rises at (place + width_of (get_or f place 0))
  lasting-on place n k l latest c =
      let s = l latest c in
      let a : ages_at f (get_or f s.w.at 0) s.w.at rises ≡ false = rw s.stands k in
      stand-on Early f latest at c rises place n s (clause-early f c.values rises latest s.w a s.so)

  -- behind the clauses, where no guard stands
  pub lasting-end : (place : ℕ) → at < length f → width_of (get_or f place 0) ≡ 0 → Lasting f rises at place → (get_or f place 0 ≡ 0x15 → ⊥)
      → (fresh : List Bool) (c : Configuration) (latest : Values) → lapsed f at c fresh rises latest ≡ false
  unfolding falls_at
  lasting-end place i z l g fresh c latest =
      let s = l latest c in
      let stop : is_clause (get_or f s.w.at 0) ≡ false =
      not-true-false _ (λ (h : is_clause (get_or f s.w.at 0) ≡ true).
      let m = clause-width (get_or f s.w.at 0) h in
      let o : width_of (get_or f s.w.at 0) ≡ 0 = rw s.stands z in
      omega (arith, m, o)) in
      let e = walked_from f at c rises latest (begun at c) s.w refl (walking-done f c.values rises latest (begun at c) s.w s.walking stop) in
      let b : Gained = cond s.w.gathers (gained f at c.tallies fresh rises latest) (kept c.tallies) in
      let q : false ≡ falls_behind f s.w.at c.held s.w.grows b = rw (s.stands, ne_eqb (get_or f place 0) 0x15 g) in
      sym (lapsed-not f at c fresh rises latest i s.w e b refl false s.so q refl)
