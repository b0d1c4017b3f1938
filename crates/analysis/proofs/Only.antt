-- Only one answer with its rows meets the third demand on an analysis.
use Prim.Native.Nat.{ℕ, zero, suc, ◌+◌, ◌*◌, ◌/◌, ◌%◌, ◌^◌, ◌≤◌, ◌<◌}
use native.Mathlib.Nat.{div-div-eq-div-mul, pow-succ', lt_of_le_of_lt, lt_trans}
use native.Mathlib.Decide.{ℕ_discrete}
use native.Mathlib.Omega.{arith}
use mathlib.Core.Path.{◌≡◌, refl, sym, ◌∙◌}
use mathlib.Core.Logic.{◌⊎◌, inl, inr}
use mathlib.Core.Bool.{Bool, true, false}
use mathlib.Core.List.{List, ◌++◌}
use lib.ListN.{length, get_or, take, drop, take-append-drop}
use lib.Seq.{ext_get_or, drop-drop}
use Rattle.event_log.specs.Log.{Log}
use Rattle.formula.specs.Formula.{Formula}
use Rattle.runs.specs.Run.{Trail}
use Rattle.runs.specs.inner.Search.{search}
use Rattle.runs.specs.Answer.{Answer, found, absent, crowded}
use Rattle.runs.specs.inner.Demand as Runs
use Rattle.machine.specs.Configuration.{Config}
use Rattle.machine.specs.Firing.{is_held}
use Rattle.machine.specs.Machine.{machine, accepting}
use Rattle.machine.proofs.Machine.{Premises}
use Rattle.search.specs.Search.{slots_of}
use Rattle.search.specs.inner.Demand.{Names}
use Rattle.search.proofs.Premises.{Accepted, accepted-premises}
use Rattle.search.proofs.Demand.{met}
use Rattle.analysis.specs.Analysis.{Analysed, analysis}
use Rattle.analysis.specs.Call.{row_at}
use Rattle.analysis.specs.inner.Demand.{Holds, Alert, Row, CrowdedFrom, Demand}
use Rattle.analysis.proofs.Demand.{FirstStart, crowding, third-demand}

-- numbers with the same bits are the same
bits-one : (n a b : ℕ) → a < 2 ^ n → b < 2 ^ n → ((v : ℕ) → v < n → a / 2 ^ v % 2 ≡ b / 2 ^ v % 2) → a ≡ b
bits-one zero a b h k e = omega arith
bits-one (suc n) a b h k e =
    let double = pow-succ' 2 n in
    let low : a / 1 % 2 ≡ b / 1 % 2 = e 0 (omega arith) in
    let high : a / 2 ≡ b / 2 = bits-one n (a / 2) (b / 2) (omega arith) (omega arith)
    (λ v l. rw (div-div-eq-div-mul a 2 (2 ^ v), div-div-eq-div-mul b 2 (2 ^ v), ← pow-succ' 2 v) (e (suc v) (omega arith))) in
    omega arith

-- a row's words are told by its verdict and its run
same-words : (r s : List ℕ) (c : Config) (t : Trail) → length r ≡ 12 → length s ≡ 12 → get_or r 0 0 ≡ get_or s 0 0 → Holds r c t → Holds s c t → r ≡ s
same-words r s c t m n e a b = ext_get_or 0 r s (m ∙ sym n) (λ k l. word k (rw m at l))
  where
    value : (v : ℕ) → v < 8 → (x : Bool) → is_held c v ≡ x → get_or r (4 + v) 0 ≡ get_or s (4 + v) 0
    value v l true h = a.values v l h ∙ sym (b.values v l h)
    value v l false h = a.unheld v l h ∙ sym (b.unheld v l h)

    word : (k : ℕ) → k < 12 → get_or r k 0 ≡ get_or s k 0
    word zero l = e
    word (suc zero) l = a.last_event ∙ sym b.last_event
    word (suc (suc zero)) l = a.steps ∙ sym b.steps
    word (suc (suc (suc zero))) l = bits-one 8 (get_or r 3 0) (get_or s 3 0) a.eight_bits b.eight_bits (λ v h. a.mask v h ∙ sym (b.mask v h))
    word (suc (suc (suc (suc v)))) l = let four : 4 + v ≡ suc (suc (suc (suc v))) = omega arith in rw four at (value v (omega arith) (is_held c v) refl)

-- words are told by their first m rows and the words behind these
row-behind : (xs : List ℕ) (i : ℕ) → row_at (drop 12 xs) i ≡ row_at xs (suc i)
unfolding row_at
row-behind xs i = let place : 12 + 12 * i ≡ 12 * suc i = omega arith in rw (drop-drop (12 * i) 12 xs, place)

same_rows : (m : ℕ) (xs ys : List ℕ) → ((i : ℕ) → i < m → row_at xs i ≡ row_at ys i) → drop (12 * m) xs ≡ drop (12 * m) ys → xs ≡ ys
unfolding row_at
same_rows zero xs ys h e = e
same_rows (suc m) xs ys h e =
    let place : 12 + 12 * m ≡ 12 * suc m = omega arith in
    let front : take 12 xs ≡ take 12 ys = h 0 (omega arith) in
    let behind : drop 12 xs ≡ drop 12 ys = same_rows m (drop 12 xs) (drop 12 ys) (λ i l. row-behind xs i ∙ h (suc i) (omega arith) ∙ sym (row-behind ys i))
    (rw (drop-drop (12 * m) 12 xs, drop-drop (12 * m) 12 ys, place) e) in
    sym (take-append-drop 12 xs) ∙ (λ x. front x ++ behind x) ∙ take-append-drop 12 ys

module _ (log : Log) (formula : Formula) (P : Premises log formula) (slots : ℕ) where
  -- one verdict for a start with a run
  one-verdict : (i : ℕ) (c : Config) (t : Trail) (w : ℕ) → Runs.Named (machine log formula) slots i c t w → (r s : List ℕ) → Row log formula slots i r
      → Row log formula slots i s → get_or r 0 0 ≡ get_or s 0 0
  one-verdict i c t w d r s a b = go (accepting formula c) refl (ℕ_discrete (get_or s 0 0) 2)
    where
      me : (x : Bool) → accepting formula c ≡ x → Names log formula slots i x
      me x e = record { config = c; trail = t; width = w; named = d; kind = e }

      go : (x : Bool) → accepting formula c ≡ x → Dec (get_or s 0 0 ≡ 2) → get_or r 0 0 ≡ get_or s 0 0
      go false e q = a.rejected.1 (me false e) ∙ sym (b.rejected.1 (me false e))
      go true e (yes q) = a.subsumed.1 (b.subsumed.0 q) ∙ sym q
      go true e (no q) =
          let alert : Alert log formula slots i = record { run = me true e; otherwise = λ o. q (b.subsumed.1 (record { run = me true e; by = o })) } in
          a.alert.1 alert ∙ sym (b.alert.1 alert)

  -- one row for a start that is not crowded
  one-row : (i : ℕ) → i < length log.events → (CrowdedFrom log formula slots i → ⊥) → (r s : List ℕ) → Row log formula slots i r → Row log formula slots i s
      → r ≡ s
  one-row i h n r s a b = go (search (machine log formula) slots i) (met log formula P slots i h)
    where
      go : (x : Answer (machine log formula)) → Runs.Demand (machine log formula) slots i x → r ≡ s
      go (found c t w) d =
          let me : Names log formula slots i (accepting formula c) = record { config = c; trail = t; width = w; named = d; kind = refl } in
          same-words r s c t a.twelve b.twelve (one-verdict i c t w d r s a b) (a.holds (accepting formula c) me) (b.holds (accepting formula c) me)
      go (absent w) d = a.blank d.none ∙ sym (b.blank d.none)
      go (crowded m) d = absurd (n (record { event = m; crowded = d.here }))

  pub only-analysis : (lent : List ℕ) (a b : Analysed) → Demand log formula slots lent a → Demand log formula slots lent b → a ≡ b
  only-analysis lent a b x y = go (crowding log formula P slots)
    where
      go : ((i : ℕ) → i < length log.events → CrowdedFrom log formula slots i → ⊥) ⊎ FirstStart log formula P slots → a ≡ b
      go (inl n) = λ z. record { outcome = outcome z; rows = rows z }
        where
          outcome : a.outcome ≡ b.outcome
          outcome = x.done.1 n ∙ sym (y.done.1 n)

          row : (i : ℕ) → i < length log.events → row_at a.rows i ≡ row_at b.rows i
          row i l =
              let none : (j : ℕ) → j ≤ i → CrowdedFrom log formula slots j → ⊥ = λ j k. n j (lt_of_le_of_lt k l) in
              one-row i l (n i l) (row_at a.rows i) (row_at b.rows i) (x.rows i l none) (y.rows i l none)

          rows : a.rows ≡ b.rows
          rows = same_rows (length log.events) a.rows b.rows row (x.further ∙ sym y.further)
      go (inr f) = λ z. record { outcome = outcome z; rows = rows z }
        where
          outcome : a.outcome ≡ b.outcome
          outcome = (x.crowded f.start).1 f.first ∙ sym ((y.crowded f.start).1 f.first)

          row : (i : ℕ) → i < f.start → row_at a.rows i ≡ row_at b.rows i
          row i l =
              let there : i < length log.events = lt_trans l f.first.there in
              let none : (j : ℕ) → j ≤ i → CrowdedFrom log formula slots j → ⊥ = λ j k. f.first.first j (lt_of_le_of_lt k l) in
              one-row i there (f.first.first i l) (row_at a.rows i) (row_at b.rows i) (x.rows i there none) (y.rows i there none)

          rows : a.rows ≡ b.rows
          rows = same_rows f.start a.rows b.rows row (x.rest f.start f.first ∙ sym (y.rest f.start f.first))

-- No other answer and no other rows meet the third demand.
pub third-demand-only : (l f : List ℕ) (log : Log) (formula : Formula) (words : ℕ) (lent : List ℕ) → Accepted l f log formula → 192 ≤ words
    → 12 * length log.events ≤ length lent → (a : Analysed) → Demand log formula (slots_of words) lent a → a ≡ analysis l f words lent
third-demand-only l f log formula words lent acc h k a d =
    only-analysis log formula (accepted-premises l f log formula acc) (slots_of words) lent a (analysis l f words lent) d
    (third-demand l f log formula words lent acc h k)
