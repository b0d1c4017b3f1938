-- The search over accepted files meets the third demand, and only its answer does.
use Prim.Native.Nat.{ℕ, ◌≤◌, ◌<◌}
use Rattle.std.specs.Prelude.{Result, Ok, Err, IsOkAnd}
use mathlib.Core.Path.{◌≡◌, refl, sym, ap, subst, ◌∙◌}
use mathlib.Core.Bool.{Bool, true, false, cond}
use mathlib.Core.List.{List}
use native.Mathlib.Omega.{arith}
use lib.ListN.{length, get_or}
use lib.Seq.{ext_get_or}
use Rattle.refusal.specs.declared.Refusal.{Refusal}
use Rattle.refusal.specs.declared.Refusal.TheVariants.{Crowded}
use Rattle.refusal.specs.Refusals.{NotCrowded}
use Rattle.event_log.specs.Log.{Log}
use Rattle.formula.specs.Formula.{Formula}
use Rattle.runs.specs.Run.{Trail}
use Rattle.runs.specs.inner.Search.{search}
use Rattle.runs.specs.Answer.{Answer, found, absent, crowded}
use Rattle.runs.specs.Demand.{FirstCrowded}
use Rattle.runs.specs.inner.Demand as Runs
use Rattle.runs.proofs.Meets.{search-meets}
use Rattle.runs.proofs.Unique.{only_one}
use Rattle.machine.specs.Configuration.{Config}
use Rattle.machine.specs.Firing.{is_held}
use Rattle.machine.specs.Machine.{machine, accepting}
use Rattle.machine.proofs.Machine.{Premises, laws}
use Rattle.search.specs.declared.Verdict.TheVariants.{Absent, Accept, Reject}
use Rattle.search.specs.declared.SearchAnswer.{SearchAnswer}
use Rattle.search.specs.Search.{slots_of, named, answer_of, search_answer}
use Rattle.search.specs.inner.Demand.{Names, Nothing, Carries, Demand}
use Rattle.search.proofs.Checks.{searched}
use Rattle.search.proofs.Premises.{Accepted, accepted-premises, ends-valid}

-- of accepted files, a start below the event count and 192 words or more, the answer is that of the runs
pub search-runs : (l f : List ℕ) (log : Log) (formula : Formula) (start words : ℕ) → Accepted l f log formula → start < length log.events → 192 ≤ words
    → search_answer l f start words ≡ answer_of log formula (search (machine log formula) (slots_of words) start)
search-runs l f log formula start words a h k =
    subst (λ (g : Log). start < length g.events → search_answer l f start words ≡ answer_of g formula (search (machine g formula) (slots_of words) start))
    (sym a.records)
    (λ i. searched l f start words a.file formula a.read i k) h

-- a search that runs is refused with nothing but crowded
pub only-crowded : (g : Log) (fm : Formula) (a : Answer (machine g fm)) (why : Refusal) → answer_of g fm a ≡ Err why → NotCrowded why → ⊥
only-crowded g fm (found c t w) why e h = cc
only-crowded g fm (absent w) why e h = cc
only-crowded g fm (crowded n) why e h = h n (cc)

-- a run's end is not none
pub ends-not-absent : (b : Bool) → cond b Accept Reject ≡ Absent → ⊥
ends-not-absent true e = cc
ends-not-absent false e = cc

module _ (log : Log) (formula : Formula) (P : Premises log formula) (slots start : ℕ) (inside : start < length log.events) where
  -- the answer of the runs, and as the search gives it
  abbrev found-answer : Answer (machine log formula)
  found-answer = search (machine log formula) slots start

  abbrev given : Result SearchAnswer Refusal
  given = answer_of log formula found-answer

  -- it meets the demand of the theory of runs
  pub met : Runs.Demand (machine log formula) slots start found-answer
  met = search-meets (machine log formula) (laws log formula P) slots start (omega arith)

  -- what meets it is the answer
  pub is-answer : (a : Answer (machine log formula)) → Runs.Demand (machine log formula) slots start a → found-answer ≡ a
  is-answer a d = only_one (machine log formula) slots start found-answer a met d

  -- what an answer says, told back
  verdict-crowded : (a : Answer (machine log formula)) (n : ℕ) → Runs.Demand (machine log formula) slots start a
      → answer_of log formula a ≡ Err (Crowded n) → FirstCrowded (machine log formula) slots start n
  verdict-crowded (found c t w) n d e = cc
  verdict-crowded (absent w) n d e = cc
  verdict-crowded (crowded m) n d e = let q : m ≡ n = cc in rw q at d

  same-end : (x y : Bool) → cond x Accept Reject ≡ cond y Accept Reject → x ≡ y
  same-end true true q = refl
  same-end true false q = cc
  same-end false true q = cc
  same-end false false q = refl

  verdict-absent : (a : Answer (machine log formula)) → Runs.Demand (machine log formula) slots start a → IsOkAnd (answer_of log formula a) (λ s. s.verdict ≡ Absent)
      → Nothing log formula slots start
  verdict-absent (found c t w) d e = absurd (ends-not-absent (accepting formula c) e)
  verdict-absent (absent w) d e = record { width = w; absent = d }
  verdict-absent (crowded m) d e = absurd e

  verdict-named : (a : Answer (machine log formula)) (b : Bool) → Runs.Demand (machine log formula) slots start a
      → IsOkAnd (answer_of log formula a) (λ s. s.verdict ≡ cond b Accept Reject) → Names log formula slots start b
  verdict-named (found c t w) b d e = record { config = c; trail = t; width = w; named = d; kind = same-end (accepting formula c) b e }
  verdict-named (absent w) b d e = absurd (ends-not-absent b (sym e))
  verdict-named (crowded m) b d e = absurd e

  named-verdict : (b : Bool) → Names log formula slots start b → IsOkAnd given (λ s. s.verdict ≡ cond b Accept Reject)
  named-verdict b n = rw (is-answer (found n.config n.trail n.width) n.named, n.kind)

  named-carries : (c : Config) (t : Trail) (w : ℕ) → Runs.Named (machine log formula) slots start c t w
      → Carries log formula slots start (named formula c t w) c t w
  named-carries c t w d =
      let v = ends-valid log formula P c start t d.run.path.follows in
      record {
        steps = refl;
        events = refl;
        numbers = refl;
        held = λ v. refl;
        values = λ v h. refl;
        unused = v.unheld_0;
        eight =
            (v.held_8, v.values_8);
        width = refl;
      }

  carried : (c : Config) (t : Trail) (w : ℕ) → Runs.Named (machine log formula) slots start c t w
      → IsOkAnd given (λ a. Carries log formula slots start a c t w)
  carried c t w d = rw (is-answer (found c t w) d) (named-carries c t w d)

  pub meets : Demand log formula slots start given
  meets =
      record {
        crowded = λ n. (verdict-crowded found-answer n met, λ d. rw (is-answer (crowded n) d));
        refused = λ n d. rw (is-answer (crowded n) d);
        accept = (verdict-named found-answer true met, named-verdict true);
        reject = (verdict-named found-answer false met, named-verdict false);
        run = carried;
        none = (verdict-absent found-answer met, λ n. rw (is-answer (absent n.width) n.absent));
        nothing = λ w d. rw (is-answer (absent w) d);
      }

  -- two answers that carry one run with one verdict are one
  same-run : (s r : SearchAnswer) (c : Config) (t : Trail) (w : ℕ) → s.verdict ≡ r.verdict → Carries log formula slots start s c t w
      → Carries log formula slots start r c t w → s ≡ r
  same-run s r c t w e a b =
      λ i. record { verdict = e i; steps = steps i; events = events i; numbers = numbers i; held = held i; values = values i; width = width i }
    where
      steps : s.steps ≡ r.steps
      steps = a.steps ∙ sym b.steps

      events : s.events ≡ r.events
      events = a.events ∙ sym b.events

      numbers : s.numbers ≡ r.numbers
      numbers = a.numbers ∙ sym b.numbers

      held : s.held ≡ r.held
      held = ext_get_or false s.held r.held (a.eight.0 ∙ sym b.eight.0) (λ v h. a.held v ∙ sym (b.held v))

      value : (v : ℕ) (x : Bool) → is_held c v ≡ x → get_or s.values v 0 ≡ get_or r.values v 0
      value v true h = a.values v h ∙ sym (b.values v h)
      value v false h = a.unused v h ∙ sym (b.unused v h)

      values : s.values ≡ r.values
      values = ext_get_or 0 s.values r.values (a.eight.1 ∙ sym b.eight.1) (λ v h. value v (is_held c v) refl)

      width : s.width ≡ r.width
      width = a.width ∙ sym b.width

  -- an answer that meets the demand, where there is a run
  only-named : (s : Result SearchAnswer Refusal) → Demand log formula slots start s → (c : Config) (t : Trail) (w : ℕ)
      → Runs.Named (machine log formula) slots start c t w → s ≡ Ok (named formula c t w)
  only-named (Ok s) d c t w m = ap Ok (same-run s (named formula c t w) c t w (verdict (accepting formula c) refl) (d.run c t w m) (named-carries c t w m))
    where
      verdict : (b : Bool) → accepting formula c ≡ b → s.verdict ≡ cond (accepting formula c) Accept Reject
      verdict true h = rw h (d.accept.1 (record { config = c; trail = t; width = w; named = m; kind = h }))
      verdict false h = rw h (d.reject.1 (record { config = c; trail = t; width = w; named = m; kind = h }))
  only-named (Err why) d c t w m = absurd (d.run c t w m)

  -- only one answer meets the demand
  pub only-answer : (s : Result SearchAnswer Refusal) → Demand log formula slots start s → s ≡ given
  only-answer s d = go found-answer refl met
    where
      go : (a : Answer (machine log formula)) → found-answer ≡ a → Runs.Demand (machine log formula) slots start a → s ≡ answer_of log formula a
      go (found c t w) q m = only-named s d c t w m
      go (absent w) q m = d.nothing w m
      go (crowded n) q m = d.refused n m

-- The third demand: of accepted files, a start below the event count and 192 words or more, the answer meets it.
pub third-demand : (l f : List ℕ) (log : Log) (formula : Formula) (start words : ℕ) → Accepted l f log formula → start < length log.events → 192 ≤ words
    → Demand log formula (slots_of words) start (search_answer l f start words)
third-demand l f log formula start words a h k =
    rw (search-runs l f log formula start words a h k) (meets log formula (accepted-premises l f log formula a) (slots_of words) start h)

-- And no other answer does.
pub third-demand-only : (l f : List ℕ) (log : Log) (formula : Formula) (start words : ℕ) → Accepted l f log formula → start < length log.events → 192 ≤ words
    → (s : Result SearchAnswer Refusal) → Demand log formula (slots_of words) start s → s ≡ search_answer l f start words
third-demand-only l f log formula start words a h k s d =
    rw (search-runs l f log formula start words a h k) (only-answer log formula (accepted-premises l f log formula a) (slots_of words) start h s d)
