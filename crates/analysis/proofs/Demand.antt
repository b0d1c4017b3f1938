-- The analysis over accepted files meets the third demand.
use Prim.Native.Nat.{ℕ, zero, suc, ◌+◌, ◌*◌, ◌-◌, ◌≤◌, ◌<◌}
use native.Mathlib.Nat.{zero-add, add-zero, eq-or-lt_of_le, le_antisymm, le_of_eq, le_trans}
use native.Mathlib.Decide.{dec_lt}
use native.Mathlib.Omega.{arith}
use Rattle.std.specs.Prelude.{Result, Ok, Err}
use mathlib.Core.Path.{◌≡◌, refl, sym, ◌∙◌, subst}
use mathlib.Core.Logic.{◌⊎◌, inl, inr}
use mathlib.Core.Bool.{Bool}
use mathlib.Core.List.Memᴰ
use mathlib.Core.List.{List, [], ◌∷◌, ◌++◌}
use lib.ListN.{length, drop, length-append, length-drop}
use lib.Seq.{take_at, take-append-le, drop-append-le, drop-append-add, drop-drop}
use Rattle.refusal.specs.declared.Refusal.{Refusal}
use Rattle.refusal.specs.declared.Refusal.TheVariants.{Crowded}
use Rattle.refusal.specs.Refusals.{NotCrowded}
use Rattle.event_log.specs.Log.{Log}
use Rattle.formula.specs.Formula.{Formula}
use Rattle.runs.specs.Lists.{In}
use Rattle.runs.specs.Run.{Trail}
use Rattle.runs.specs.inner.Search.{search}
use Rattle.runs.specs.Answer.{Answer, found, absent, crowded}
use Rattle.runs.specs.inner.Demand as Runs
use Rattle.machine.specs.Configuration.{Config}
use Rattle.machine.specs.Machine.{machine, accepting}
use Rattle.machine.proofs.Machine.{Premises}
use Rattle.search.specs.Search.{slots_of}
use Rattle.search.specs.inner.Demand.{Names}
use Rattle.search.proofs.Premises.{Accepted, accepted-premises}
use Rattle.search.proofs.Demand.{met}
use Rattle.analysis.specs.Rows.{NamedRun, named, verdict, none_row, row, Written, all, upto, before, one, rows_from}
use Rattle.analysis.specs.Analysis.{written_into, analysis}
use Rattle.analysis.specs.Call.{row_at}
use Rattle.analysis.specs.inner.Demand.{Row, CrowdedFrom, FirstCrowded, Demand}
use Rattle.analysis.proofs.Checks.{analysed}
use Rattle.analysis.proofs.Row.{Source, Known, one-named, row-none, row-found}

-- an analysis that runs is refused with nothing but crowded
pub only-crowded : (w : Written) (rows : List ℕ) (why : Refusal) → (written_into w rows).outcome ≡ Err why → NotCrowded why → ⊥
only-crowded (all ws) rows why e h = cc
only-crowded (upto i ws) rows why e h = h i (cc)

-- ---- rows in words

row_first : (r ws : List ℕ) → length r ≡ 12 → row_at (r ++ ws) 0 ≡ r
unfolding row_at
row_first r ws e = take_at r ws 12 e

row_next : (r ws : List ℕ) (k : ℕ) → length r ≡ 12 → row_at (r ++ ws) (suc k) ≡ row_at ws k
unfolding row_at
row_next r ws k e =
    let place : 12 * suc k ≡ length r + 12 * k = omega arith in
    rw (place, drop-append-add r ws (12 * k))

row-front : (ws rest : List ℕ) (i : ℕ) → 12 * suc i ≤ length ws → row_at (ws ++ rest) i ≡ row_at ws i
unfolding row_at
row-front ws rest i h =
    rw (drop-append-le (12 * i) ws rest (omega arith)) (take-append-le 12 (drop (12 * i) ws) rest (omega (arith, length-drop (12 * i) ws)))

-- words written at the front leave the others
untouched : (ws lent : List ℕ) (n : ℕ) → length ws ≤ n → drop n (ws ++ drop (length ws) lent) ≡ drop n lent
untouched ws lent n h =
    let place : n ≡ length ws + (n - length ws) = omega arith in
    rw place (drop-append-add ws (drop (length ws) lent) (n - length ws) ∙ drop-drop (n - length ws) (length ws) lent)

same_length : (ws lent : List ℕ) → length ws ≤ length lent → length (ws ++ drop (length ws) lent) ≡ length lent
same_length ws lent h = omega (arith, length-append ws (drop (length ws) lent), length-drop (length ws) lent)

-- ---- numbers

lt-down : {a b : ℕ} → suc a < suc b → a < b
lt-down h = omega arith

lt_up : {a b : ℕ} → a < b → suc a < suc b
lt_up h = omega arith

zero-lt : (n : ℕ) → 0 < suc n
zero-lt n = omega arith

not-lt-zero : (k : ℕ) → k < 0 → ⊥
not-lt-zero k l = omega arith

add-suc-left : (a k : ℕ) → a + suc k ≡ suc a + k
add-suc-left a k = omega arith

le_of_not_lt : (i j : ℕ) → ¬ (i < j) → j ≤ i
le_of_not_lt i j h = omega arith

size-more : (r ws : List ℕ) (m : ℕ) → length r ≡ 12 → length ws ≡ 12 * m → length (r ++ ws) ≡ 12 * suc m
size-more r ws m h k = omega (arith, length-append r ws)

-- the row of start i is inside m rows; m rows are inside all
inside-rows : (i m n : ℕ) → i < m → n ≡ 12 * m → 12 * suc i ≤ n
inside-rows i m n h e = omega arith

before-end : (j m n : ℕ) → n ≡ 12 * j → j < m → n ≤ 12 * m
before-end j m n e h = omega arith

-- ---- outcomes

done≢refused : {i : ℕ} → ◌≡◌ {A = Result Unit Refusal} (Ok tt) (Err (Crowded i)) → ⊥
done≢refused e = cc

same_start : {i j : ℕ} → ◌≡◌ {A = Result Unit Refusal} (Err (Crowded i)) (Err (Crowded j)) → i ≡ j
same_start e = cc

module _ (log : Log) (formula : Formula) (P : Premises log formula) (slots : ℕ) where
  -- ---- the runs named before the next start

  source-later : (i : ℕ) (e : NamedRun) → Source log formula P slots i e → Source log formula P slots (suc i) e
  source-later i e s = record { origin = s.origin; before = omega (arith, s.before); accepts = s.accepts; run = s.run; is-named = s.is-named }

  known-found : (i : ℕ) (earlier : List NamedRun) → i < length log.events → Known log formula P slots i earlier → (c : Config) (t : Trail) (w : ℕ)
      → Runs.Named (machine log formula) slots i c t w → Known log formula P slots (suc i) (earlier ++ (named formula c t ∷ []))
  known-found i earlier h k c t w d =
      record { sound = λ e m. sound e (Memᴰ.append_cases earlier m); complete = λ j l b n. complete j b n (eq-or-lt_of_le l) }
    where
      sound : (e : NamedRun) → In e earlier ⊎ In e (named formula c t ∷ []) → Source log formula P slots (suc i) e
      sound e (inl m) = source-later i e (k.sound e m)
      sound e (inr m) =
          record {
            origin = i;
            before = omega arith;
            accepts = accepting formula c;
            run =
                record { config = c; trail = t; width = w; named = d; kind = refl };
            is-named = Memᴰ.eq_of_singleton m;
          }

      complete : (j : ℕ) (b : Bool) (n : Names log formula slots j b) → (suc j ≡ suc i) ⊎ (suc j < suc i)
          → In (named formula n.config n.trail) (earlier ++ (named formula c t ∷ []))
      complete j b n (inl e) =
          let q : j ≡ i = omega arith in
          let o = one-named log formula P slots j (omega arith) c t w (rw q d) b n in
          Memᴰ.append_right earlier (Memᴰ.head (λ x. named formula (sym o.configs x) (sym o.trails x)))
      complete j b n (inr l) = Memᴰ.append_left (named formula c t ∷ []) (k.complete j (omega arith) b n)

  known-none : (i : ℕ) (earlier : List NamedRun) → Known log formula P slots i earlier → (w : ℕ) → Runs.Absent (machine log formula) slots i w
      → Known log formula P slots (suc i) earlier
  known-none i earlier k w d = record { sound = λ e m. source-later i e (k.sound e m); complete = λ j l b n. complete j b n (eq-or-lt_of_le l) }
    where
      complete : (j : ℕ) (b : Bool) (n : Names log formula slots j b) → (suc j ≡ suc i) ⊎ (suc j < suc i) → In (named formula n.config n.trail) earlier
      complete j b n (inl e) =
          let q : j ≡ i = omega arith in
          absurd (d.none n.trail n.config (rw q at n.named.run))
      complete j b n (inr l) = k.complete j (omega arith) b n

  -- ---- m rows from a start on

  record Part (start m : ℕ) (ws : List ℕ) : Type 0 where
    size : length ws ≡ 12 * m
    rows : (k i : ℕ) → k < m → i ≡ start + k → Row log formula slots i (row_at ws k)
    roomy : (k i : ℕ) → k < m → i ≡ start + k → CrowdedFrom log formula slots i → ⊥

  -- of n rows from a start on, only those before a crowded start j
  record Stopped (n start j : ℕ) (ws : List ℕ) : Type 0 where
    number : ℕ
    place : j ≡ start + number
    short : number < n
    part : Part start number ws
    here : CrowdedFrom log formula slots j

  abbrev Good : ℕ → ℕ → Written → Type 0
  Good n start (all ws) = Part start n ws
  Good n start (upto j ws) = Stopped n start j ws

  part_none : (start : ℕ) → Part start 0 []
  part_none start = record { size = refl; rows = λ k i l. absurd (not-lt-zero k l); roomy = λ k i l. absurd (not-lt-zero k l) }

  part-more : (start m : ℕ) (r ws : List ℕ) → Row log formula slots start r → (CrowdedFrom log formula slots start → ⊥) → Part (suc start) m ws
      → Part start (suc m) (r ++ ws)
  part-more start m r ws h q p = record { size = size-more r ws m h.twelve p.size; rows = rows; roomy = roomy }
    where
      rows : (k i : ℕ) → k < suc m → i ≡ start + k → Row log formula slots i (row_at (r ++ ws) k)
      rows zero i l e = rw (e ∙ add-zero start, row_first r ws h.twelve) h
      rows (suc k) i l e = rw (row_next r ws k h.twelve) (p.rows k i (lt-down l) (e ∙ add-suc-left start k))

      roomy : (k i : ℕ) → k < suc m → i ≡ start + k → CrowdedFrom log formula slots i → ⊥
      roomy zero i l e = rw (e ∙ add-zero start) q
      roomy (suc k) i l e = p.roomy k i (lt-down l) (e ∙ add-suc-left start k)

  good_more : (n start : ℕ) (r : List ℕ) (w : Written) → Row log formula slots start r → (CrowdedFrom log formula slots start → ⊥) → Good n (suc start) w
      → Good (suc n) start (before r w)
  good_more n start r (all ws) h q p = part-more start n r ws h q p
  good_more n start r (upto j ws) h q p =
      record {
        number = suc p.number;
        place = p.place ∙ sym (add-suc-left start p.number);
        short = lt_up p.short;
        part =
            part-more start p.number r ws h q p.part;
        here = p.here;
      }

  -- one start, where what follows it is good
  one-good : (n start : ℕ) (earlier : List NamedRun) (rest : List NamedRun → Written) → start < length log.events → Known log formula P slots start earlier
      → ((es : List NamedRun) → Known log formula P slots (suc start) es → Good n (suc start) (rest es)) → (a : Answer (machine log formula))
      → Runs.Demand (machine log formula) slots start a
      → Good (suc n) start (one log formula (search (machine log formula) slots) start earlier rest a)
  one-good n start earlier rest h k good (found c t w) d =
      let this = named formula c t in
      let now = earlier ++ (this ∷ []) in
      good_more n start (row (verdict formula.tied start this earlier) this) (rest now) (row-found log formula P slots start h earlier k c t w d)
      (λ x. d.roomy x.event x.crowded) (good now (known-found start earlier h k c t w d))
  one-good n start earlier rest h k good (absent w) d =
      good_more n start none_row (rest earlier) (row-none log formula P slots start d.none) (λ x. d.roomy x.event x.crowded)
      (good earlier (known-none start earlier k w d))
  one-good n start earlier rest h k good (crowded m) d =
      record { number = 0; place = sym (add-zero start); short = zero-lt n; part = part_none start; here = record { event = m; crowded = d.here } }

  rows-good : (n start : ℕ) (earlier : List NamedRun) → start + n ≡ length log.events → Known log formula P slots start earlier
      → Good n start (rows_from log formula (search (machine log formula) slots) n start earlier)
  unfolding rows_from
  rows-good zero start earlier h k = part_none start
  rows-good (suc n) start earlier h k =
      one-good n start earlier (λ es. rows_from log formula (search (machine log formula) slots) n (suc start) es) (omega arith) k
      (λ es. rows-good n (suc start) es (omega arith)) (search (machine log formula) slots start) (met log formula P slots start (omega arith))

  -- the first m rows are written over words that were lent
  front : (lent ws : List ℕ) (m : ℕ) → Part 0 m ws → (i : ℕ) → i < m → Row log formula slots i (row_at (ws ++ drop (length ws) lent) i)
  front lent ws m p i l = rw (row-front ws (drop (length ws) lent) i (inside-rows i m (length ws) l p.size)) (p.rows i i l (sym (zero-add i)))

  all-meets : (lent ws : List ℕ) → 12 * length log.events ≤ length lent → Part 0 (length log.events) ws
      → Demand log formula slots lent (written_into (all ws) lent)
  all-meets lent ws h p =
      record {
        crowded = λ i. (λ e. absurd (done≢refused e), λ c. absurd (none i c.there c.here));
        done = (λ e. none, λ n. refl);
        rows = λ i l n. front lent ws (length log.events) p i l;
        rest = λ i c. absurd (none i c.there c.here);
        further = untouched ws lent (12 * length log.events) (le_of_eq p.size);
        all = same_length ws lent (rw p.size h);
      }
    where
      none : (i : ℕ) → i < length log.events → CrowdedFrom log formula slots i → ⊥
      none i l = p.roomy i i l (sym (zero-add i))

  -- where the rows before a crowded start j are written, j is the first
  first : (j m : ℕ) (ws : List ℕ) → j ≡ m → m < length log.events → Part 0 m ws → CrowdedFrom log formula slots j → FirstCrowded log formula slots j
  first j m ws e l p c = record { there = rw e l; here = c; first = λ i k. p.roomy i i (rw e at k) (sym (zero-add i)) }

  one-first : (i j : ℕ) → FirstCrowded log formula slots i → FirstCrowded log formula slots j → i ≡ j
  one-first i j a b = go (dec_lt i j) (dec_lt j i)
    where
      go : Dec (i < j) → Dec (j < i) → i ≡ j
      go (yes l) k = absurd (b.first i l a.here)
      go (no k) (yes l) = absurd (a.first j l b.here)
      go (no k) (no l) = le_antisymm (le_of_not_lt j i l) (le_of_not_lt i j k)

  upto-meets : (lent ws : List ℕ) (j : ℕ) → 12 * length log.events ≤ length lent → length ws ≡ 12 * j → FirstCrowded log formula slots j
      → ((i : ℕ) → i < j → Row log formula slots i (row_at (ws ++ drop (length ws) lent) i)) → Demand log formula slots lent (written_into (upto j ws) lent)
  upto-meets lent ws j h size c rows =
      record {
        crowded = λ i. (λ e. subst (FirstCrowded log formula slots) (same_start e) c, λ d. rw (one-first i j d c));
        done = (λ e. absurd (done≢refused (sym e)), λ n. absurd (n j c.there c.here));
        rows = λ i l n. row_of i (dec_lt i j) n;
        rest = λ i d. rw (one-first i j d c) (untouched ws lent (12 * j) (le_of_eq size));
        further = untouched ws lent (12 * length log.events) (before-end j (length log.events) (length ws) size c.there);
        all = same_length ws lent (le_trans (before-end j (length log.events) (length ws) size c.there) h);
      }
    where
      row_of : (i : ℕ) → Dec (i < j) → ((k : ℕ) → k ≤ i → CrowdedFrom log formula slots k → ⊥) → Row log formula slots i (row_at (ws ++ drop (length ws) lent) i)
      row_of i (yes l) n = rows i l
      row_of i (no l) n = absurd (n j (le_of_not_lt i j l) c.here)

  stopped-meets : (lent ws : List ℕ) (j : ℕ) → 12 * length log.events ≤ length lent → Stopped (length log.events) 0 j ws
      → Demand log formula slots lent (written_into (upto j ws) lent)
  stopped-meets lent ws j h s =
      let e : j ≡ s.number = s.place ∙ zero-add s.number in
      upto-meets lent ws j h (rw e s.part.size) (first j s.number ws e s.short s.part s.here)
      (λ i l. front lent ws s.number s.part i (rw e at l))

  -- all rows
  abbrev written : Written
  written = rows_from log formula (search (machine log formula) slots) (length log.events) 0 []

  written-good : Good (length log.events) 0 written
  written-good =
      rows-good (length log.events) 0 [] (zero-add (length log.events))
      (record { sound = λ e m. absurd (Memᴰ.not-nil m); complete = λ j l. absurd (not-lt-zero j l) })

  pub meets : (lent : List ℕ) → 12 * length log.events ≤ length lent → Demand log formula slots lent (written_into written lent)
  meets lent h = go written written-good
    where
      go : (w : Written) → Good (length log.events) 0 w → Demand log formula slots lent (written_into w lent)
      go (all ws) p = all-meets lent ws h p
      go (upto j ws) p = stopped-meets lent ws j h p

  -- no start is crowded, or one of them is the first
  pub record FirstStart : Type 0 where
    pub start : ℕ
    pub first : FirstCrowded log formula slots start

  pub crowding : ((i : ℕ) → i < length log.events → CrowdedFrom log formula slots i → ⊥) ⊎ FirstStart
  crowding = go written written-good
    where
      go : (w : Written) → Good (length log.events) 0 w → ((i : ℕ) → i < length log.events → CrowdedFrom log formula slots i → ⊥) ⊎ FirstStart
      go (all ws) p = inl (λ i l. p.roomy i i l (sym (zero-add i)))
      go (upto j ws) p = inr (record { start = j; first = first j p.number ws (p.place ∙ zero-add p.number) p.short p.part p.here })

-- of accepted files, 192 work words or more and 12 row words an event or more, the analysis writes the rows of the runs
pub analysis-runs : (l f : List ℕ) (log : Log) (formula : Formula) (words : ℕ) (lent : List ℕ) → Accepted l f log formula → 192 ≤ words
    → 12 * length log.events ≤ length lent
    → analysis l f words lent ≡ written_into (rows_from log formula (search (machine log formula) (slots_of words)) (length log.events) 0 []) lent
analysis-runs l f log formula words lent a h k =
    subst (λ (g : Log). 12 * length g.events ≤ length lent → analysis l f words lent
    ≡ written_into (rows_from g formula (search (machine g formula) (slots_of words)) (length g.events) 0 []) lent) (sym a.records)
    (λ i. analysed l f words lent a.file formula a.read h i) k

-- The third demand on an analysis.
pub third-demand : (l f : List ℕ) (log : Log) (formula : Formula) (words : ℕ) (lent : List ℕ) → Accepted l f log formula → 192 ≤ words
    → 12 * length log.events ≤ length lent → Demand log formula (slots_of words) lent (analysis l f words lent)
third-demand l f log formula words lent a h k =
    rw (analysis-runs l f log formula words lent a h k) (meets log formula (accepted-premises l f log formula a) (slots_of words) lent k)
