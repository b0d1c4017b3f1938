-- The rows of an analysis over accepted files meet the third demand as the page states it, by the search's answers, and only they do.
use Prim.Native.Nat.{ℕ, ◌*◌, ◌≤◌, ◌<◌}
use native.Mathlib.Nat.{le_refl, lt_trans, lt_of_le_of_lt}
use Rattle.std.specs.Prelude.{Result}
use mathlib.Core.Path.{◌≡◌, ap}
use mathlib.Core.Logic.Iff
use mathlib.Core.Logic.{◌↔◌}
use mathlib.Core.List.{List}
use lib.ListN.{length}
use Rattle.event_log.specs.Log.{Log}
use Rattle.formula.specs.Formula.{Formula}
use Rattle.search.specs.Search.{slots_of}
use Rattle.search.proofs.Premises.{Accepted}
use Rattle.refusal.specs.declared.Refusal.{Refusal}
use Rattle.analysis.specs.Analysis.{Analysed, analysis}
use Rattle.analysis.specs.Call.{row_at}
use Rattle.analysis.specs.inner.Demand.{CrowdedFrom, FirstCrowded, Demand}
use Rattle.analysis.proofs.Demand.{third-demand}
use Rattle.analysis.proofs.Only.{third-demand-only}
use Rattle.demands.specs.Demands.{answer, SaysCrowded, ThirdOfRows}
use Rattle.demands.proofs.Translation.{crowded-same, row_in, row_out}

module _ (l f : List ℕ) (g : Log) (fm : Formula) (words : ℕ) (acc : Accepted l f g fm) (enough : 192 ≤ words) where
  -- none of the starts with a property, all of them in the log, is crowded
  roomy-same : (P : ℕ → Type 0) → ((j : ℕ) → P j → j < length g.events)
      → ((j : ℕ) → P j → SaysCrowded (answer l f words j) → ⊥) ↔ ((j : ℕ) → P j → CrowdedFrom g fm (slots_of words) j → ⊥)
  roomy-same P there = (
    λ n j p c. n j p ((crowded-same l f g fm words acc enough j (there j p)).1 c),
    λ
        n j p s. n j p ((crowded-same l f g fm words acc enough j (there j p)).0 s),
  )

  all-roomy : ((j : ℕ) → j < length g.events → SaysCrowded (answer l f words j) → ⊥)
      ↔ ((j : ℕ) → j < length g.events → CrowdedFrom g fm (slots_of words) j → ⊥)
  all-roomy = roomy-same (λ j. j < length g.events) (λ j p. p)

  upto-roomy : (i : ℕ) → i < length g.events
      → ((j : ℕ) → j ≤ i → SaysCrowded (answer l f words j) → ⊥) ↔ ((j : ℕ) → j ≤ i → CrowdedFrom g fm (slots_of words) j → ⊥)
  upto-roomy i h = roomy-same (λ j. j ≤ i) (λ j p. lt_of_le_of_lt p h)

  -- the first crowded start
  first-same : (i : ℕ)
      → ((i < length g.events) × SaysCrowded (answer l f words i) × ((j : ℕ) → j < i → SaysCrowded (answer l f words j) → ⊥))
      ↔ FirstCrowded g fm (slots_of words) i
  first-same i = (
    λ s. record { there = s.0; here = (here s.0).0 s.1; first = (before s.0).0 s.2 },
    λ
        c. (c.there, (here c.there).1 c.here, (before c.there).1 c.first),
  )
    where
      here : i < length g.events → SaysCrowded (answer l f words i) ↔ CrowdedFrom g fm (slots_of words) i
      here h = crowded-same l f g fm words acc enough i h

      before : i < length g.events → ((j : ℕ) → j < i → SaysCrowded (answer l f words j) → ⊥) ↔ ((j : ℕ) → j < i → CrowdedFrom g fm (slots_of words) j → ⊥)
      before h = roomy-same (λ j. j < i) (λ j p. lt_trans p h)

  -- the demand by the runs, in the page's words and back
  to-page : (lent : List ℕ) (a : Analysed) → Demand g fm (slots_of words) lent a → ThirdOfRows l f words fm (length g.events) lent a.rows a.outcome
  to-page lent a d =
      record {
        crowded = λ i. Iff.trans (d.crowded i) (Iff.symm (first-same i));
        done = Iff.trans d.done (Iff.symm all-roomy);
        written = λ i h n. let m = (upto-roomy i h).0 n in row_out l f g fm words acc enough i h (m i (le_refl i)) (row_at a.rows i) (d.rows i h m);
        rest = λ i e. d.rest i ((d.crowded i).0 e);
        further = d.further;
        number = d.all;
      }

  to-runs : (lent after : List ℕ) (r : Result Unit Refusal) → ThirdOfRows l f words fm (length g.events) lent after r
      → Demand g fm (slots_of words) lent (record { outcome = r; rows = after })
  to-runs lent after r t =
      record {
        crowded = λ i. Iff.trans (t.crowded i) (first-same i);
        done = Iff.trans t.done all-roomy;
        rows = λ i h m. row_in l f g fm words acc enough i h (m i (le_refl i)) (row_at after i) (t.written i h ((upto-roomy i h).1 m));
        rest = λ i c. t.rest i ((t.crowded i).1 ((first-same i).1 c));
        further = t.further;
        all = t.number;
      }

-- The rows meet the demand.
pub rows-meet : (l f : List ℕ) (g : Log) (fm : Formula) (work rows : List ℕ) → Accepted l f g fm → 192 ≤ length work → 12 * length g.events ≤ length rows
    → ThirdOfRows l f (length work) fm (length g.events) rows (analysis l f (length work) rows).rows (analysis l f (length work) rows).outcome
rows-meet l f g fm work rows acc h k =
    to-page l f g fm (length work) acc h rows (analysis l f (length work) rows) (third-demand l f g fm (length work) rows acc h k)

-- No other rows and no other answer do.
pub rows-only : (l f : List ℕ) (g : Log) (fm : Formula) (work rows : List ℕ) → Accepted l f g fm → 192 ≤ length work → 12 * length g.events ≤ length rows
    → (after : List ℕ) (r : Result Unit Refusal)
    → ThirdOfRows l f (length work) fm (length g.events) rows after r → (r ≡ (analysis l f (length work) rows).outcome)
    × (after ≡ (analysis l f (length work) rows).rows)
rows-only l f g fm work rows acc h k after r t =
    let one = third-demand-only l f g fm (length work) rows acc h k (record { outcome = r; rows = after }) (to-runs l f g fm (length work) acc h rows after r t)
    in
    (ap (λ (a : Analysed). a.outcome) one, ap (λ (a : Analysed). a.rows) one)
