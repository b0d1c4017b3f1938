-- A state's kind word says whether it is final, and whether it is committed.
use Prim.Native.Nat.{ℕ, zero, suc, ◌<◌}
use mathlib.Core.Path.{◌≡◌, refl, ap, ◌∙◌}
use mathlib.Core.Bool.{Bool}
use mathlib.Core.List.{List, [], ◌∷◌, map}
use native.Mathlib.Omega.{arith}
use lib.Dec.{leb, eqb}
use lib.ListN.{length, get_or, get_elem?}
use Rattle.base.proofs.Lists.{get_d-pad}
use Rattle.event_log.specs.Log.{Log}
use Rattle.formula.specs.Formula.{Formula, State, StateKind, ordinary, committed as committed_kind, accept, reject}
use Rattle.formula.specs.Encode.{kind_byte}
use Rattle.formula.specs.Correct.{is_final}
use Rattle.machine.specs.Configuration.{Config}
use Rattle.machine.specs.Machine.{kind_is, is_committed, final, committed}
use Rattle.slots.specs.declared.Thread.{Thread}
use Rattle.threads.specs.declared.Rules.{Rules}
use Rattle.threads.specs.inner.Setting.{Setting, Fit, conf}

-- the kind words of the states
abbrev words : List State → List ℕ
words xs = map (λ (s : State). kind_byte s.kind) xs

-- a test on the words that says of each kind what a property says, says it of each declared state
word-is : (test : ℕ → Bool) (p : StateKind → Bool) → ((k : StateKind) → test (kind_byte k) ≡ p k) → (xs : List State) (s : ℕ) → s < length xs
    → test (get_or (words xs) s 0) ≡ kind_is p (get_elem? xs s)
word-is test p h [] s l = absurd (omega arith)
word-is test p h (x ∷ xs) zero l = h x.kind
word-is test p h (x ∷ xs) (suc s) l = word-is test p h xs s (omega arith)

by-final : (k : StateKind) → leb 2 (kind_byte k) ≡ is_final k
by-final ordinary = refl
by-final committed_kind = refl
by-final accept = refl
by-final reject = refl

by-committed : (k : StateKind) → eqb (kind_byte k) 1 ≡ is_committed k
by-committed ordinary = refl
by-committed committed_kind = refl
by-committed accept = refl
by-committed reject = refl

module _ (g : Log) (fm : Formula) (f table : List ℕ) (rules : Rules) (s : Setting g fm f table rules) where
  word_at : (i : ℕ) → i < length fm.states → get_or rules.kinds i 0 ≡ get_or (words fm.states) i 0
  word_at i h = ap (λ (l : List ℕ). get_or l i 0) s.kinds_are ∙ get_d-pad 16 0 (words fm.states) i (omega (arith, s.formula.formed.states))

  pub final-at : (d : Config) → d.state < length fm.states → leb 2 (get_or rules.kinds d.state 0) ≡ final fm d
  unfolding final
  final-at d h = ap (leb 2) (word_at d.state h) ∙ word-is (leb 2) is_final by-final fm.states d.state h

module _ (g : Log) (fm : Formula) (f table : List ℕ) (rules : Rules) (s : Setting g fm f table rules) (t : Thread) (h : Fit g fm t) where
  pub final-word : leb 2 (get_or rules.kinds t.config.state 0) ≡ final fm (conf g fm t)
  final-word = final-at g fm f table rules s (conf g fm t) h.valid.declared

  pub committed-word : eqb (get_or rules.kinds t.config.state 0) 1 ≡ committed fm (conf g fm t)
  unfolding committed
  committed-word =
      ap (λ w. eqb w 1) (word_at g fm f table rules s t.config.state h.valid.declared)
      ∙ word-is (λ w. eqb w 1) is_committed by-committed fm.states t.config.state h.valid.declared
