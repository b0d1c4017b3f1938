-- What a tie that needs a value changes: where every run holds the tied variables, as by a formula without TIED, an analysis is answered, and its rows are
-- written, as before; elsewhere a verdict stays, or is alert where it was subsumed.
use Prim.Native.Nat.{ℕ, zero, suc, ◌*◌}
use mathlib.Core.Path.{◌≡◌, refl, ap₂}
use mathlib.Core.Logic.{◌⊎◌, inl, inr}
use mathlib.Core.Bool.{Bool, true, false, cond, not, ◌&&◌, ◌||◌, false≢true}
use mathlib.Core.List.Memᴰ
use mathlib.Core.List.{List, [], ◌∷◌, ◌++◌}
use lib.ListN.{length, get_or}
use lib.Dec.{leb, ltb, eqb}
use Rattle.base.proofs.Tests.{and_left, and_right, and-true, or_right}
use Rattle.refusal.specs.declared.Refusal.TheVariants.{Short}
use Rattle.event_log.specs.Log.{Log}
use Rattle.event_log.specs.File.{LogFile, log_of}
use Rattle.formula.specs.Formula.{Formula}
use Rattle.files.specs.Files.{accepted, read_files}
use Rattle.runs.specs.Lists.{In}
use Rattle.runs.specs.Run.{Trail}
use Rattle.runs.specs.Answer.{Answer, found, absent, crowded}
use Rattle.runs.specs.inner.Search.{search}
use Rattle.machine.specs.Configuration.{Config}
use Rattle.machine.specs.Firing.{is_held}
use Rattle.machine.specs.Machine.{machine}
use Rattle.search.specs.Search.{slots_of}
use Rattle.analysis.specs.Rows.{NamedRun, named, alike, tied_alike, subsumes, subsumed, verdict, none_row, row, Written, all, upto, before, one, rows_from}
use Rattle.analysis.specs.Analysis.{Analysed, refusal, written_into, checked, analysis}

-- The rule of before: "each tied variable is held by both with one value or by neither (the same tied values)"
abbrev pub alike_before : Bool → Bool → ℕ → ℕ → Bool
alike_before a b x y = cond a (b && eqb x y) (not b)

unfoldable pub tied_before : List ℕ → NamedRun → NamedRun → Bool
tied_before [] a b = true
tied_before (v ∷ vs) a b = alike_before (get_or a.held v false) (get_or b.held v false) (get_or a.values v 0) (get_or b.values v 0) && tied_before vs a b

unfoldable pub subsumed_before : List ℕ → ℕ → NamedRun → List NamedRun → Bool
subsumed_before tied start this [] = false
subsumed_before tied start this (e ∷ es) = (leb start e.last && tied_before tied e this) || subsumed_before tied start this es

unfoldable pub verdict_before : List ℕ → ℕ → NamedRun → List NamedRun → ℕ
verdict_before tied start this earlier = cond this.accepts (cond (subsumed_before tied start this earlier) 2 1) 3

-- What was not subsumed before is not subsumed now.
alike-less : (a b : Bool) (x y : ℕ) → alike a b x y ≡ true → alike_before a b x y ≡ true
alike-less true b x y h = h
alike-less false b x y h = absurd (false≢true h)

tied-less : (vs : List ℕ) (a b : NamedRun) → tied_alike vs a b ≡ true → tied_before vs a b ≡ true
unfolding tied_alike tied_before
tied-less [] a b h = refl
tied-less (v ∷ vs) a b h =
    let x = alike (get_or a.held v false) (get_or b.held v false) (get_or a.values v 0) (get_or b.values v 0) in
    and-true (alike_before (get_or a.held v false) (get_or b.held v false) (get_or a.values v 0) (get_or b.values v 0)) (tied_before vs a b)
    (alike-less (get_or a.held v false) (get_or b.held v false) (get_or a.values v 0) (get_or b.values v 0) (and_left x (tied_alike vs a b) h))
    (tied-less vs a b (and_right x (tied_alike vs a b) h))

subsumed-less : (vs : List ℕ) (start : ℕ) (this : NamedRun) (es : List NamedRun) → subsumed vs start this es ≡ true → subsumed_before vs start this es ≡ true
unfolding subsumed subsumes subsumed_before
subsumed-less vs start this [] h = h
subsumed-less vs start this (e ∷ es) h = go (leb start e.last) (tied_alike vs e this) (tied-less vs e this) (subsumed-less vs start this es) h
  where
    go : (x y : Bool) → (y ≡ true → tied_before vs e this ≡ true) → (subsumed vs start this es ≡ true → subsumed_before vs start this es ≡ true)
        → ((x && y) || subsumed vs start this es) ≡ true → ((x && tied_before vs e this) || subsumed_before vs start this es) ≡ true
    go true true f rest k = rw (f refl)
    go true false f rest k = or_right (tied_before vs e this) (subsumed_before vs start this es) (rest k)
    go false y f rest k = rest k

-- A verdict stays, or is 1 alert where it was 2 subsumed.
pub verdict-less : (vs : List ℕ) (start : ℕ) (this : NamedRun) (es : List NamedRun)
    → (verdict vs start this es ≡ verdict_before vs start this es) ⊎ ((verdict vs start this es ≡ 1) × (verdict_before vs start this es ≡ 2))
unfolding verdict verdict_before
verdict-less vs start this es =
    go this.accepts (subsumed vs start this es) (subsumed_before vs start this es) (subsumed-less vs start this es)
  where
    says : Bool → Bool → ℕ
    says a x = cond a (cond x 2 1) 3

    go : (a x y : Bool) → (x ≡ true → y ≡ true) → (says a x ≡ says a y) ⊎ ((says a x ≡ 1) × (says a y ≡ 2))
    go false x y f = inl refl
    go true true true f = inl refl
    go true true false f = absurd (false≢true (f refl))
    go true false true f = inr (refl, refl)
    go true false false f = inl refl

-- It stays where this run holds every tied variable, whatever the earlier ones hold.
abbrev pub Holding : List ℕ → NamedRun → Type 0
Holding vs this = (v : ℕ) → In v vs → get_or this.held v false ≡ true

alike-held : (a b : Bool) (x y : ℕ) → b ≡ true → alike a b x y ≡ alike_before a b x y
alike-held true b x y h = refl
alike-held false b x y h = rw h

tied-held : (vs : List ℕ) (a b : NamedRun) → Holding vs b → tied_alike vs a b ≡ tied_before vs a b
unfolding tied_alike tied_before
tied-held [] a b h = refl
tied-held (v ∷ vs) a b h =
    ap₂ ◌&&◌ (alike-held (get_or a.held v false) (get_or b.held v false) (get_or a.values v 0) (get_or b.values v 0) (h v (Memᴰ.head refl)))
    (tied-held vs a b (λ w m. h w (Memᴰ.tail m)))

subsumed-held : (vs : List ℕ) (start : ℕ) (this : NamedRun) (es : List NamedRun) → Holding vs this → subsumed vs start this es ≡ subsumed_before vs start this es
unfolding subsumed subsumes subsumed_before
subsumed-held vs start this [] h = refl
subsumed-held vs start this (e ∷ es) h = rw (tied-held vs e this h, subsumed-held vs start this es h)

pub verdict-held : (vs : List ℕ) (start : ℕ) (this : NamedRun) (es : List NamedRun) → Holding vs this
    → verdict vs start this es ≡ verdict_before vs start this es
unfolding verdict verdict_before
verdict-held vs start this es h = rw (subsumed-held vs start this es h)

-- the rows of before
module _ (g : Log) (f : Formula) (answer : ℕ → Answer (machine g f)) where
  abbrev pub one_before : ℕ → List NamedRun → (List NamedRun → Written) → Answer (machine g f) → Written
  one_before start earlier rest (found c t width) =
      before (row (verdict_before f.tied start (named f c t) earlier) (named f c t)) (rest (earlier ++ (named f c t ∷ [])))
  one_before start earlier rest (absent width) = before none_row (rest earlier)
  one_before start earlier rest (crowded n) = upto start []

  unfoldable pub rows_before : ℕ → ℕ → List NamedRun → Written
  rows_before zero start earlier = all []
  rows_before (suc n) start earlier = one_before start earlier (λ now. rows_before n (suc start) now) (answer start)

  -- every run that is named holds the tied variables
  abbrev pub AllHold : Type 0
  AllHold = (start : ℕ) (c : Config) (t : Trail) (w : ℕ) → answer start ≡ found c t w → (v : ℕ) → In v f.tied → is_held c v ≡ true

  rows-held : AllHold → (n start : ℕ) (earlier : List NamedRun) → rows_from g f answer n start earlier ≡ rows_before n start earlier
  unfolding rows_from rows_before named
  rows-held h zero start earlier = refl
  rows-held h (suc n) start earlier = go (rows-held h n (suc start)) (answer start) refl
    where
      go : ((now : List NamedRun) → rows_from g f answer n (suc start) now ≡ rows_before n (suc start) now) → (a : Answer (machine g f)) → answer start ≡ a
          → one g f answer start earlier (λ now. rows_from g f answer n (suc start) now) a
          ≡ one_before start earlier (λ now. rows_before n (suc start) now) a
      go rest (found c t w) e = rw (verdict-held f.tied start (named f c t) earlier (h start c t w e), rest (earlier ++ (named f c t ∷ [])))
      go rest (absent w) e = rw (rest earlier)
      go rest (crowded m) e = refl

-- the call's own checks, and the rows of before
abbrev pub analysed_before : Log → Formula → ℕ → List ℕ → Analysed
analysed_before g f words rows =
    cond (ltb words 192) (refusal (Short 192) rows)
    (cond (ltb (length rows) (12 * length g.events)) (refusal (Short (12 * length g.events)) rows)
    (written_into (rows_before g f (search (machine g f) (slots_of words)) (length g.events) 0 []) rows))

module _ (l f : List ℕ) (t : LogFile) (fm : Formula) (read : read_files l f ≡ accepted t fm) (words : ℕ) (rows : List ℕ) where
  pub analysed-held : AllHold (log_of t) fm (search (machine (log_of t) fm) (slots_of words)) → analysis l f words rows ≡ analysed_before (log_of t) fm words rows
  unfolding checked analysis
  analysed-held h = rw (read, rows-held (log_of t) fm (search (machine (log_of t) fm) (slots_of words)) h (length (log_of t).events) 0 [])

  -- "A formula without TIED behaves as today"
  pub analysed-untied : fm.tied ≡ [] → analysis l f words rows ≡ analysed_before (log_of t) fm words rows
  analysed-untied e = analysed-held (λ start c u w q v m. absurd (Memᴰ.not-nil (rw e at m)))
