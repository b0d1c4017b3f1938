-- What the first clause that a test picks says of a step: it keeps it from firing, or makes it past due.
use Prim.Native.Nat.{ℕ, ◌+◌, ◌<◌, ◌≤◌}
use mathlib.Core.Path.{◌≡◌, refl, ◌∙◌}
use mathlib.Core.Bool.{Bool, true, false, not}
use mathlib.Core.List.{List}
use native.Mathlib.Omega.{arith}
use borrow.Author.Tests.{ltb-true, ltb-false, eqb-false, not-true}
use lib.ListN.{length, get_or, get_or-eq_default}
use lib.Dec.{ltb, eqb}
use Rattle.std.specs.Prelude.{Result, Ok, Err, MatchResult}
use Rattle.std.specs.Result.{is_ok, result_ok}
use Rattle.event_log.specs.Log.{Values}
use Rattle.machine_code.specs.inner.Bytes.{width_of}
use Rattle.machine_code.specs.inner.Marks.{fails_at, misses_at, denies_at, ages_at, Reaches, begins, onward, Passed, start, over, PickedIs, EndedIs, BarredIs, BarsIs, DueIs, LastsIs}
use Rattle.machine_code.proofs.EventAlone.{reached, silent-here, denied-here, late-here}
use Rattle.machine_code.proofs.BytesAlone.{Lasting, lasting-start, lasting-on, lasting-end}

module _ (test : ℕ → ℕ → Bool → Type 0) (f : List ℕ) where
  -- the clauses passed are clauses of the step
  passed-reaches : (from place at : ℕ) → Passed test f from place → Reaches f at from → Reaches f at place
  passed-reaches from _ at start r = r
  passed-reaches from _ at (over place p n t) r = onward place (passed-reaches from place at p r) n

  pub barred-first : (at : ℕ) (event : Values) (r : Result ℕ ℕ) → ((c p : ℕ) → test c p true → fails_at f c p event ≡ true)
      → MatchResult r (PickedIs test f (at + 2)) (EndedIs test f (at + 2) 7) → BarredIs f at event (result_ok r)
  barred-first at event (Ok place) says h =
      let w = passed-reaches (at + 2) place at h.0 begins in (silent-here f event at place h.1 (reached f at place w event) (says _ _ h.2), w)
  barred-first at event (Err place) says h = tt

  pub bars-first : (at : ℕ) (held : List Bool) (prior : List ℕ) (event : Values) (r : Result ℕ ℕ)
      → ((c p : ℕ) → test c p true → denies_at f c p held prior event ≡ true)
      → MatchResult r (PickedIs test f (at + 2)) (EndedIs test f (at + 2) 4) → BarsIs f at held prior event (is_ok r)
  bars-first at held prior event (Ok place) says h e =
      denied-here f event at place h.1 (reached f at place (passed-reaches (at + 2) place at h.0 begins) event) held prior (says _ _ h.2)
  bars-first at held prior event (Err place) says h e = absurd (cc)

  pub due-first : (from : ℕ) (rises : List Bool) (latest : Values) (r : Result ℕ ℕ) → ((c p : ℕ) → test c p true → misses_at f c p rises latest ≡ true)
      → MatchResult r (PickedIs test f from) (EndedIs test f from 7) → DueIs f from rises latest (is_ok r)
  due-first from rises latest (Ok place) says h e at w =
      late-here f latest at place h.1 (reached f at place (passed-reaches from place at h.0 w) latest) rises (says _ _ h.2)
  due-first from rises latest (Err place) says h e at w = absurd (cc)

  passed-lasting : (rises : List Bool) (at from place : ℕ) → ((c p : ℕ) → test c p false → ages_at f c p rises ≡ false) → Passed test f from place
      → Lasting f rises at from → Lasting f rises at place
  passed-lasting rises at from _ says start l = l
  passed-lasting rises at from _ says (over place p n t) l =
      lasting-on f rises at place n (says _ _ t) (passed-lasting rises at from place says p l)

  -- no clause stands where fewer bytes than one are left
  none-left : (place : ℕ) → (place + 1 ≤ length f → width_of (get_or f place 0) ≡ 0) → width_of (get_or f place 0) ≡ 0
  unfolding width_of
  none-left place h = go (ltb place (length f)) refl
    where
      go : (b : Bool) → ltb place (length f) ≡ b → width_of (get_or f place 0) ≡ 0
      go true e = h (omega (arith, ltb-true place (length f) e))
      go false e = rw (get_or-eq_default f 0 (ltb-false place (length f) e))

  pub lasts-end : (rises : List Bool) (at place n : ℕ) → ((c p : ℕ) → test c p false → ages_at f c p rises ≡ false) → at < length f
      → EndedIs test f (at + 2) 1 place → n ≡ get_or f place 0 → LastsIs f at rises (not (eqb n 0x15))
  lasts-end rises at place n says i h e t =
      lasting-end f rises at place i (none-left place h.1) (passed-lasting rises at (at + 2) place says h.0 (lasting-start f rises at))
      (λ q. eqb-false n 0x15 (not-true _ t) (e ∙ q))
