-- The third demand on a search: its answer meets it, and no other answer does; and the second: the events that it names rise.
use Prim.Native.Nat.{ℕ, zero, suc, ◌≤◌, ◌<◌, zero-le}
use Rattle.std.specs.Prelude.{Result, Ok, Err, IfOk}
use mathlib.Core.Path.{◌≡◌, refl, sym, ap, ◌∙◌, subst}
use mathlib.Core.Bool.{Bool, true, false, cond}
use mathlib.Core.List.{List, [], ◌∷◌}
use native.Mathlib.Omega.{arith}
use lib.ListN.{length, get_or}
use Rattle.base.proofs.Lists.{get_d-pad}
use Rattle.refusal.specs.declared.Refusal.{Refusal}
use Rattle.refusal.specs.declared.Refusal.TheVariants.{Crowded}
use Rattle.event_log.specs.Log.{Log}
use Rattle.formula.specs.Formula.{Formula}
use Rattle.runs.specs.Run.{Trail, Starts}
use Rattle.runs.specs.Order.{events}
use Rattle.runs.specs.inner.Search.{search}
use Rattle.runs.specs.Answer.{Answer, found, absent, crowded}
use Rattle.runs.specs.Demand.{FirstCrowded}
use Rattle.runs.specs.inner.Demand as Runs
use Rattle.runs.proofs.Comparison.{Rising}
use Rattle.runs.proofs.Trails.{follow-rising}
use Rattle.runs.proofs.Meets.{count-one}
use Rattle.runs.proofs.Counts.{some-count}
use Rattle.runs.proofs.Unique.{only_one}
use Rattle.runs.proofs.Within.{peak-within}
use Rattle.machine.specs.Machine.{machine, accepting}
use Rattle.machine.proofs.Machine.{Premises, laws}
use Rattle.search.specs.declared.SearchAnswer.{SearchAnswer}
use Rattle.search.specs.Search.{slots_of, answer_of, search_answer}
use Rattle.search.proofs.Premises.{Accepted, accepted-premises, ends-valid}
use Rattle.search.proofs.Demand.{search-runs, ends-not-absent, met}
use Rattle.demands.specs.Demands.{SomeCrowded, Counted, ThirdOfSearch, SecondOfSearch}

-- an answer is no refusal
ok_not_err : {A : Type 0} {a : A} {why : Refusal} → ◌≡◌ {A = Result A Refusal} (Ok a) (Err why) → ⊥
ok_not_err e = cc

module _ (g : Log) (fm : Formula) (P : Premises g fm) (seats start : ℕ) where
  counted : (n : ℕ) → start ≤ n → n < length g.events → Counted g fm seats start n
  counted n h k =
      let s = some-count (machine g fm) (laws g fm P) start n h k in
      record { count = s.number; is = s.count; only = λ j c. count-one (machine g fm) start n j s.number c s.count }

  -- what meets the demand of the theory of runs meets that of the page
  third-by : (a : Answer (machine g fm)) → Runs.Demand (machine g fm) seats start a → ThirdOfSearch g fm seats start (answer_of g fm a)
  third-by (found c t w) d =
      record {
        counted = counted;
        crowded = (λ s. absurd (ok_not_err s.says), λ s. absurd (d.roomy s.event s.crowded));
        first = λ n e. absurd (ok_not_err e);
        none = λ h. (λ e. absurd (ends-not-absent (accepting fm c) e), λ no. absurd (no t c d.run));
        nothing = λ e. absurd (ends-not-absent (accepting fm c) e);
        named = λ h k. record {
          trail = t;
          config = c;
          run = d.run;
          least = d.least;
          verdict = refl;
          steps = refl;
          event_list = refl;
          number_list = refl;
          held = refl;
          values = refl;
          unused = (ends-valid g fm P c start t d.run.path.follows).unheld_0;
          width = d.peak;
        };
        within = peak-within (machine g fm) seats start (found c t w) d;
      }
  third-by (absent w) d =
      record {
        counted = counted;
        crowded = (λ s. absurd (ok_not_err s.says), λ s. absurd (d.roomy s.event s.crowded));
        first = λ n e. absurd (ok_not_err e);
        none = λ h. (λ e. d.none, λ no. refl);
        nothing = λ e. (refl, d.peak);
        named = λ h k. absurd (k d.none);
        within = peak-within (machine g fm) seats start (absent w) d;
      }
  third-by (crowded n) d =
      record {
        counted = counted;
        crowded = (λ s. here, λ s. record { place = n; says = refl });
        first = λ m e. subst (FirstCrowded (machine g fm) seats start) (same m e) d;
        none = λ h. absurd (h here);
        nothing = λ e. absurd e;
        named = λ h k. absurd (h here);
        within = tt;
      }
    where
      here : SomeCrowded g fm seats start
      here = record { event = n; crowded = d.here }

      same : (m : ℕ) → ◌≡◌ {A = Result SearchAnswer Refusal} (Err (Crowded n)) (Err (Crowded m)) → n ≡ m
      same m e = cc

  -- and what meets that of the page is the answer
  is : {s : Result SearchAnswer Refusal} (b a : Answer (machine g fm)) → a ≡ b → s ≡ answer_of g fm b → s ≡ answer_of g fm a
  is {s} b a e q = subst (λ (x : Answer (machine g fm)). s ≡ answer_of g fm x) (sym e) q

  only-by : (s : Result SearchAnswer Refusal) → ThirdOfSearch g fm seats start s → (a : Answer (machine g fm)) → Runs.Demand (machine g fm) seats start a
      → s ≡ answer_of g fm a
  only-by (Ok s) q (found c t w) d =
      let n = q.named (λ x. d.roomy x.event x.crowded) (λ no. no t c d.run) in
      let e = only_one (machine g fm) seats start (found c t w) (found n.config n.trail s.width) d
      (record { roomy = d.roomy; run = n.run; least = n.least; peak = n.width }) in
      is (found n.config n.trail s.width) (found c t w) e (ap Ok (λ i. record {
        verdict = n.verdict i;
        steps = n.steps i;
        events = n.event_list i;
        numbers = n.number_list i;
        held = n.held i;
        values = n.values i;
        width = s.width;
      }))
  only-by (Err why) q (found c t w) d = absurd (q.named (λ x. d.roomy x.event x.crowded) (λ no. no t c d.run))
  only-by (Ok s) q (absent w) d =
      let b = q.nothing ((q.none (λ x. d.roomy x.event x.crowded)).1 d.none) in
      let e = only_one (machine g fm) seats start (absent w) (absent s.width) d (record { roomy = d.roomy; none = d.none; peak = b.1 }) in
      is (absent s.width) (absent w) e (ap Ok b.0)
  only-by (Err why) q (absent w) d = absurd ((q.none (λ x. d.roomy x.event x.crowded)).1 d.none)
  only-by s q (crowded n) d =
      let c = q.crowded.1 (record { event = n; crowded = d.here }) in
      let e = only_one (machine g fm) seats start (crowded n) (crowded c.place) d (q.first c.place c.says) in
      is (crowded c.place) (crowded n) e c.says

-- the events of a trail that rises, told by their places in the list
rising-at : (s : ℕ) (t : Trail) (k : ℕ) → Rising s t → suc k < length t → get_or (events t) k 0 < get_or (events t) (suc k) 0
rising-at s [] k r h = absurd (omega (arith, h))
rising-at s (x ∷ []) k r h = absurd (omega (arith, h))
rising-at s (x ∷ (y ∷ t)) zero r h = omega (arith, r.1.0)
rising-at s (x ∷ (y ∷ t)) (suc k) r h = rising-at (suc x.event) (y ∷ t) k r.1 (omega (arith, h))

begins-at : (i : ℕ) (t : Trail) → Starts i t → get_or (events t) 0 0 ≡ i
begins-at i [] h = absurd h
begins-at i (x ∷ t) h = h

module _ (g : Log) (fm : Formula) (seats start : ℕ) where
  -- the named events rise
  pub second-by : (a : Answer (machine g fm)) → Runs.Demand (machine g fm) seats start a → IfOk (answer_of g fm a) (SecondOfSearch start)
  second-by (found c t w) d =
      let p = d.run.path in
      record {
        begins = λ h. get_d-pad 32 0 (events t) 0 (omega arith) ∙ begins-at start t p.begins;
        rise = λ k h. rw (get_d-pad 32 0 (events t) k (omega (arith, h, p.most)), get_d-pad 32 0 (events t) (suc k) (omega (arith, h, p.most)))
            (rising-at start t k (follow-rising (machine g fm) _ c start t p.follows) h);
      }
  second-by (absent w) d = record { begins = λ h. absurd (omega (arith, h)); rise = λ k h. absurd (omega (arith, h)) }
  second-by (crowded n) d = tt

module _ (l f : List ℕ) (g : Log) (fm : Formula) (start words : ℕ) (a : Accepted l f g fm) (inside : start < length g.events) (seat : 192 ≤ words) where
  pub search-meet : ThirdOfSearch g fm (slots_of words) start (search_answer l f start words)
  search-meet =
      let P = accepted-premises l f g fm a in
      rw (search-runs l f g fm start words a inside seat)
      (third-by g fm P (slots_of words) start (search (machine g fm) (slots_of words) start) (met g fm P (slots_of words) start inside))

  pub search-only : (s : Result SearchAnswer Refusal) → ThirdOfSearch g fm (slots_of words) start s → s ≡ search_answer l f start words
  search-only s q =
      let P = accepted-premises l f g fm a in
      rw (search-runs l f g fm start words a inside seat)
      (only-by g fm P (slots_of words) start s q (search (machine g fm) (slots_of words) start) (met g fm P (slots_of words) start inside))
