-- One start: the row that its answer gives says what the paper says, by the runs named before.
use Prim.Native.Nat.{ℕ, suc, ◌+◌, ◌<◌}
use native.Mathlib.Omega.{arith}
use mathlib.Core.Path.{◌≡◌, refl, sym, ◌∙◌}
use mathlib.Core.Logic.{◌↔◌}
use mathlib.Core.Bool.{Bool, true, false, cond, false≢true, true≢false}
use mathlib.Core.List.{List}
use lib.ListN.{length}
use Rattle.base.proofs.Masks.{mask_below, mask-bit}
use Rattle.event_log.specs.Log.{Log}
use Rattle.formula.specs.Formula.{Formula}
use Rattle.runs.specs.Lists.{In}
use Rattle.runs.specs.Run.{Trail}
use Rattle.runs.specs.Answer.{found}
use Rattle.runs.specs.inner.Demand as Runs
use Rattle.machine.specs.Configuration.{Config}
use Rattle.machine.specs.Machine.{machine, accepting}
use Rattle.machine.proofs.Machine.{Premises}
use Rattle.search.specs.inner.Demand.{Names}
use Rattle.search.proofs.Premises.{ends-valid}
use Rattle.search.proofs.Demand.{is-answer}
use Rattle.analysis.specs.Rows.{NamedRun, named, subsumed, verdict, none_row, row}
use Rattle.analysis.specs.inner.Demand.{Holds, Overlapped, Subsumed, Alert, NoRun, Row}
use Rattle.analysis.proofs.Ties.{subsumes-in, subsumes-out, subsumed-in, subsumed-out}

-- a number that is k, of which A holds exactly then
is : {A : Type 0} {v k : ℕ} → v ≡ k → A → (v ≡ k) ↔ A
is e a = (λ q. a, λ b. e)

is-not : {A : Type 0} {v k : ℕ} → (v ≡ k → ⊥) → (A → ⊥) → (v ≡ k) ↔ A
is-not e a = (λ q. absurd (e q), λ b. absurd (a b))

module _ (log : Log) (formula : Formula) (P : Premises log formula) (slots : ℕ) where
  -- an entry of the runs named before a start
  pub record Source (start : ℕ) (e : NamedRun) : Type 0 where
    pub origin : ℕ
    pub before : origin < start
    pub accepts : Bool
    pub run : Names log formula slots origin accepts
    pub is-named : e ≡ named formula run.config run.trail

  -- the list has exactly the runs named before a start
  pub record Known (start : ℕ) (earlier : List NamedRun) : Type 0 where
    pub sound : (e : NamedRun) → In e earlier → Source start e
    pub complete : (j : ℕ) → j < start → (b : Bool) (n : Names log formula slots j b) → In (named formula n.config n.trail) earlier

  -- a start has one named run
  pub record Same (c d : Config) (t u : Trail) : Type 0 where
    pub configs : c ≡ d
    pub trails : t ≡ u

  pub one-named : (i : ℕ) → i < length log.events → (c : Config) (t : Trail) (w : ℕ) → Runs.Named (machine log formula) slots i c t w
      → (b : Bool) (n : Names log formula slots i b) → Same c n.config t n.trail
  one-named i h c t w d b n =
      let x = is-answer log formula P slots i h (found c t w) d in
      let y = is-answer log formula P slots i h (found n.config n.trail n.width) n.named in
      record { configs = (cc); trails = (cc) }

  module _ (i : ℕ) (earlier : List NamedRun) (known : Known i earlier) (c : Config) (t : Trail) where
    overlap-in : subsumed formula.tied i (named formula c t) earlier ≡ true → Overlapped log formula slots i c
    overlap-in h =
        let s = subsumed-in formula.tied i (named formula c t) earlier h in
        let o = known.sound s.run s.member in
        let k = subsumes-in formula o.run.config c o.run.trail t formula.tied i (rw o.is-named at s.subsuming) in
        record { start = o.origin; earlier = o.before; accepts = o.accepts; run = o.run; overlaps = k.0; tied = k.1 }

    overlap-out : Overlapped log formula slots i c → subsumed formula.tied i (named formula c t) earlier ≡ true
    overlap-out o =
        subsumed-out formula.tied i (named formula c t) (named formula o.run.config o.run.trail) earlier
        (known.complete o.start o.earlier o.accepts o.run)
        (subsumes-out formula o.run.config c o.run.trail t formula.tied i o.overlaps o.tied)

  -- the words of a row behind its verdict
  row-holds : (i v : ℕ) (c : Config) (t : Trail) (w : ℕ) → Runs.Named (machine log formula) slots i c t w → Holds (row v (named formula c t)) c t
  unfolding row named
  row-holds i v c t w d =
      let k = ends-valid log formula P c i t d.run.path.follows in
      record {
        last_event = refl;
        steps = refl;
        mask = λ x h. mask-bit c.held x;
        eight_bits = mask_below c.held 8 (omega (arith, k.held_8));
        values = λ x h e. let four : 4 + x ≡ suc (suc (suc (suc x))) = omega arith in rw four;
        unheld = λ x h e. let four : 4 + x ≡ suc (suc (suc (suc x))) = omega arith in rw four (k.unheld_0 x e);
      }

  -- a start without a run has a none row
  pub row-none : (i : ℕ) → NoRun log formula slots i → Row log formula slots i none_row
  unfolding none_row
  row-none i h =
      record {
        twelve = refl;
        none = is refl h;
        alert = is-not (λ e. omega arith) (λ a. h a.run.trail a.run.config a.run.named.run);
        subsumed = is-not (λ e. omega arith) (λ a. h a.run.trail a.run.config a.run.named.run);
        rejected = is-not (λ e. omega arith) (λ n. h n.trail n.config n.named.run);
        blank = λ n. refl;
        holds = λ b n. absurd (h n.trail n.config n.named.run);
      }

  -- a start with a run has a row with that run, and the verdict of the runs named before
  module _ (i : ℕ) (h : i < length log.events) (earlier : List NamedRun) (known : Known i earlier) (c : Config) (t : Trail) (w : ℕ)
      (d : Runs.Named (machine log formula) slots i c t w) where
    -- a named run of the start accepts if this one does
    kind : (b : Bool) → Names log formula slots i b → accepting formula c ≡ b
    kind b n = rw (one-named i h c t w d b n).configs n.kind

    -- so two of its named runs do not differ in that
    differ : (a b : Bool) → accepting formula c ≡ a → Names log formula slots i b → a ≡ b
    differ a b e n = sym e ∙ kind b n

    abbrev me : (b : Bool) → accepting formula c ≡ b → Names log formula slots i b
    me b e = record { config = c; trail = t; width = w; named = d; kind = e }

    ran : NoRun log formula slots i → ⊥
    ran n = n t c d.run

    with-verdict : (v : ℕ) → (v ≡ 0 → ⊥) → (v ≡ 1) ↔ Alert log formula slots i → (v ≡ 2) ↔ Subsumed log formula slots i
        → (v ≡ 3) ↔ Names log formula slots i false → Row log formula slots i (row v (named formula c t))
    unfolding row named
    with-verdict v n a s r =
        let k = ends-valid log formula P c i t d.run.path.follows in
        record {
          twelve = omega (arith, k.values_8);
          none = is-not n ran;
          alert = a;
          subsumed = s;
          rejected = r;
          blank = λ z. absurd (ran z);
          holds = λ b m. let o = one-named i h c t w d b m in rw (← o.configs, ← o.trails) (row-holds i v c t w d);
        }

    pub row-found : Row log formula slots i (row (verdict formula.tied i (named formula c t) earlier) (named formula c t))
    unfolding verdict named
    row-found = go (accepting formula c) refl (subsumed formula.tied i (named formula c t) earlier) refl
      where
        go : (a : Bool) → accepting formula c ≡ a → (s : Bool) → subsumed formula.tied i (named formula c t) earlier ≡ s
            → Row log formula slots i (row (cond a (cond s 2 1) 3) (named formula c t))
        go true a true s =
            with-verdict 2 (λ e. omega arith)
            (is-not (λ e. omega arith) (λ x. x.otherwise (rw (one-named i h c t w d true x.run).configs at (overlap-in i earlier known c t s))))
            (is refl (record { run = me true a; by = overlap-in i earlier known c t s }))
            (is-not (λ e. omega arith) (λ n. true≢false (differ true false a n)))
        go true a false s =
            with-verdict 1 (λ e. omega arith)
            (is refl (record { run = me true a; otherwise = λ o. false≢true (sym s ∙ overlap-out i earlier known c t o) }))
            (is-not (λ e. omega arith)
            (λ x. false≢true (sym s ∙ overlap-out i earlier known c t (rw (one-named i h c t w d true x.run).configs x.by))))
            (is-not (λ e. omega arith) (λ n. true≢false (differ true false a n)))
        go false a s e =
            with-verdict 3 (λ e. omega arith)
            (is-not (λ e. omega arith) (λ x. false≢true (differ false true a x.run)))
            (is-not (λ e. omega arith) (λ x. false≢true (differ false true a x.run)))
            (is refl (me false a))
