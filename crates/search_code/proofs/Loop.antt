-- The search's loop over the events: what holds before each, and the answer at its end.
use Prim.Native.Nat.{ℕ, zero, suc, ◌+◌, ◌-◌, ◌≤◌, ◌<◌, max}
use Rattle.std.specs.Prelude.{Ok}
use mathlib.Core.Path.{◌≡◌, refl, sym, ap, ap₂, ◌∙◌, subst}
use mathlib.Core.Bool.{Bool, true, false, cond, not}
use mathlib.Core.List.{List, [], ◌∷◌, map}
use native.Mathlib.Numerals.{add-one}
use native.Mathlib.Omega.{arith}
use lib.ListN.{length, get_or, get_elem?, length-map, length-drop}
use lib.Dec.{eqb}
use borrow.Author.Tests.{eqb-true, eqb-false, eq-eqb, ne_eqb}
use Rattle.base.specs.Lists.{pad}
use Rattle.refusal.specs.declared.Refusal.TheVariants.{Crowded as CrowdedAt}
use Rattle.event_log.specs.declared.Event.{Event}
use Rattle.event_log.specs.declared.Loaded.{Loaded}
use Rattle.event_log.specs.declared.Latest.{Latest}
use Rattle.event_log.specs.Log.{Log, event_at, stretch_at}
use Rattle.event_log.specs.Latest.{latest}
use Rattle.event_log.specs.Arrays.{event_of, latest_of}
use Rattle.event_log.specs.inner.Carrying.{later_of}
use Rattle.event_log.specs.inner.Loading.{loaded_at, marked_at, Leads}
use Rattle.event_log.specs.Correct.{Recorded}
use Rattle.event_log.proofs.LastSeen.{latest-next, latest-none, length-event, length-latest}
use Rattle.event_log.proofs.Arrays.{later-shown}
use Rattle.formula.specs.Formula.{Formula}
use Rattle.runs.specs.Machine.{Machine}
use Rattle.runs.specs.inner.Search.{endings, least, least_from, end_from, end_of, origin, search}
use Rattle.runs.specs.Answer.{found, absent}
use Rattle.runs.specs.inner.Lists.{keep, in_turn}
use Rattle.runs.specs.inner.Threads.{insert_within}
use Rattle.runs.specs.inner.Settle.{stayers, movers, settle, pursue, swift}
use Rattle.runs.specs.Order.{events, numbers}
use Rattle.runs.proofs.Pursuit.{ahead, event-over, event-found, event-crowded, event-next}
use Rattle.machine.specs.inner.Along.{along}
use Rattle.machine.specs.Configuration.{start}
use Rattle.machine.specs.Machine.{machine, kind_is, is_accept, accepting}
use Rattle.machine.proofs.Machine.{valid_start}
use Rattle.slots.specs.declared.Thread.{Thread}
use Rattle.slots.specs.inner.Threads.{origin_thread, trail_of}
use Rattle.slots.specs.inner.Words.{words_of, thread_of, put, place, threads_from, list}
use Rattle.slots.proofs.Slots.{threads-length}
use Rattle.threads.specs.declared.Rules.{Rules}
use Rattle.threads.specs.inner.Setting.{Setting, Loads, Fit, conf, thread}
use Rattle.threads.specs.inner.Event.{Kept, waiting_in}
use Rattle.search.specs.declared.Verdict.TheVariants.{Accept, Reject}
use Rattle.search_code.specs.declared.Turn.TheVariants.{Found, Crowded, Waiting}
use Rattle.search.specs.Search.{without, refusal, answer_of}
use Rattle.search_code.specs.inner.Turn.{seen_next, seen_to, end_to, moment_of, named_answer, TurnTo}
use Rattle.search_code.proofs.Lawful.{swift-gives}
use Rattle.search_code.proofs.Arrays.{accepts}

module _ (g : Log) (l places : List ℕ) (fields : ℕ) (ok : Recorded g) (leads : Leads l places g) (are : fields ≡ length g.fields) where
  -- what is loaded by the table's entry n is event n
  loaded-is : (n : ℕ) → n < length g.events → (loaded_at l fields (get_or places n 0)).event ≡ event_of (event_at g n).values
  loaded-is n h = ap (λ m. (loaded_at l m (get_or places n 0)).event) are ∙ leads.loads n h

  -- a mark stands behind it exactly where the next event is of another stretch
  abbrev marked : ℕ → Bool
  marked n = marked_at l (loaded_at l fields (get_or places n 0)).next

  parts : (n : ℕ) → suc n < length g.events → marked n ≡ not (eqb (stretch_at g n) (stretch_at g (suc n)))
  parts n h = ap (λ m. marked_at l (loaded_at l m (get_or places n 0)).next) are ∙ leads.parts n h

  pub unmarked : (n : ℕ) → suc n < length g.events → stretch_at g n ≡ stretch_at g (suc n) → marked n ≡ false
  unmarked n h e = parts n h ∙ ap not (eq-eqb (stretch_at g n) (stretch_at g (suc n)) e)

  -- one event more over the last present values of its stretch
  carried : (n : ℕ) (x : Latest) (e : Event) → n < length g.events → x ≡ latest_of (latest g (stretch_at g n) n)
      → e ≡ event_of (event_at g n).values → later_of x e ≡ latest_of (latest g (stretch_at g n) (suc n))
  carried n x e h p q =
      let s = stretch_at g n in
      ap₂ later_of p q
      ∙ later-shown (event_at g n).values (latest g s n) (omega (arith, ok.most_fields, length-event g ok n h))
      (omega (arith, ok.most_fields, length-latest g ok s n (omega arith)))
      ∙ ap latest_of (sym (latest-next g s n refl))

  -- behind a mark nothing was seen of the stretch
  afresh : (n : ℕ) → suc n < length g.events → ¬ (stretch_at g n ≡ stretch_at g (suc n)) → latest g (stretch_at g (suc n)) (suc n) ≡ []
  afresh n h ne =
      latest-none g (stretch_at g (suc n)) (suc n)
      (λ m b e. ne (omega (arith, e, ok.in_order m n (omega arith) (omega arith), ok.in_order n (suc n) (omega arith) h)))

  -- the values carried before event n are the last present ones of its stretch
  pub seen_is : (n : ℕ) → n < length g.events → seen_to l places fields n ≡ latest_of (latest g (stretch_at g n) n)
  unfolding seen_to latest
  seen_is zero h = refl
  seen_is (suc n) h = go (eqb (stretch_at g n) (stretch_at g (suc n))) refl (seen_is n (omega arith))
    where
      go : (b : Bool) → eqb (stretch_at g n) (stretch_at g (suc n)) ≡ b → seen_to l places fields n ≡ latest_of (latest g (stretch_at g n) n)
          → seen_next l fields (get_or places n 0) (seen_to l places fields n) ≡ latest_of (latest g (stretch_at g (suc n)) (suc n))
      go true q before =
          let same = eqb-true (stretch_at g n) (stretch_at g (suc n)) q in
          ap (λ b. cond b (latest_of []) (later_of (seen_to l places fields n) (loaded_at l fields (get_or places n 0)).event)) (unmarked n h same)
          ∙ carried n (seen_to l places fields n) _ (omega arith) before (loaded-is n (omega arith))
          ∙ ap (λ s. latest_of (latest g s (suc n))) same
      go false q before =
          ap (λ b. cond b (latest_of []) (later_of (seen_to l places fields n) (loaded_at l fields (get_or places n 0)).event)) (parts n h ∙ ap not q)
          ∙ ap latest_of (sym (afresh n h (eqb-false (stretch_at g n) (stretch_at g (suc n)) q)))

  -- the stretch ends where its number does
  end-from : (fm : Formula) (s f n : ℕ) → suc n + f ≡ length g.events → stretch_at g n ≡ s
      → end_to l places fields (suc f) n ≡ end_from (machine g fm) s f (suc n)
  unfolding end_to end_from
  end-from fm s zero n h e = go (marked n)
    where
      go : (b : Bool) → cond b (suc n) (suc n) ≡ suc n
      go true = refl
      go false = refl
  end-from fm s (suc f) n h e = go (eqb (stretch_at g (suc n)) s) refl (end-from fm s f (suc n) (omega (arith, h)))
    where
      go : (b : Bool) → eqb (stretch_at g (suc n)) s ≡ b
          → (stretch_at g (suc n) ≡ s → end_to l places fields (suc f) (suc n) ≡ end_from (machine g fm) s f (suc (suc n)))
          → cond (marked n) (suc n) (end_to l places fields (suc f) (suc n)) ≡ cond b (end_from (machine g fm) s f (suc (suc n))) (suc n)
      go true q rest =
          let same = eqb-true (stretch_at g (suc n)) s q in
          ap (λ b. cond b (suc n) (end_to l places fields (suc f) (suc n))) (unmarked n (omega (arith, h)) (e ∙ sym same)) ∙ rest same
      go false q rest =
          let other : eqb (stretch_at g n) (stretch_at g (suc n)) ≡ false =
          ne_eqb (stretch_at g n) (stretch_at g (suc n)) (λ z. eqb-false (stretch_at g (suc n)) s q (sym z ∙ e)) in
          ap (λ b. cond b (suc n) (end_to l places fields (suc f) (suc n))) (parts n (omega (arith, h)) ∙ ap not other)

  pub end_is : (fm : Formula) (i : ℕ) → i < length g.events → end_to l places fields (length g.events - i) i ≡ end_of (machine g fm) i
  unfolding end_from end_of
  end_is fm i h =
      let f = length g.events - suc i in
      let left : length g.events - i ≡ suc f = omega (arith, h) in
      ap (λ m. end_to l places fields m i) left ∙ end-from fm (stretch_at g i) f i (omega (arith, h)) refl
      ∙ sym (ap (λ m. end_from (machine g fm) (stretch_at g i) m i) left ∙ ap (λ b. cond b (end_from (machine g fm) (stretch_at g i) f (suc i)) i)
      (eq-eqb (stretch_at g i) (stretch_at g i) refl))

  -- the event, with the values by which steps are judged after it
  pub event-there : (n : ℕ) (r : Loaded) (x : Latest) → n < length g.events → r ≡ loaded_at l fields (get_or places n 0)
      → x ≡ seen_to l places fields n → Loads g (moment_of n x r.event)
  event-there n r x h q p =
      let e : r.event ≡ event_of (event_at g n).values = ap (λ (y : Loaded). y.event) q ∙ loaded-is n h in
      record { there = h; event_is = e; latest_is = carried n x r.event h (p ∙ seen_is n h) e }

-- the words of the start configuration, stored in slot 0, are read back
pub origin-stored : (before after : List ℕ) → 192 ≤ length before → after ≡ put before (place 0 0) (words_of origin_thread)
    → (list 0 1 after ≡ origin_thread ∷ []) × (length after ≡ length before)
unfolding put words_of thread_of threads_from
origin-stored before after h e = (rw e, rw e (omega (arith, length-drop 78 before)))

-- the thread before the first step is one that a search keeps
fit-origin : (g : Log) (fm : Formula) → 1 ≤ length fm.states → Fit g fm origin_thread
unfolding start trail_of along
fit-origin g fm h =
    record {
      trail_32 = refl;
      valid = valid_start (length fm.states) (omega arith);
      weight = refl;
      most = omega arith;
      inside = tt;
      leads = refl;
      tallies_are = refl;
    }

-- where nobody waits, no run is found and nobody waits any more
nobody : (M : Machine) (slots k n p : ℕ) → pursue M slots k n [] p ≡ absent p
unfolding pursue settle movers stayers insert_within least least_from endings in_turn keep
nobody M slots zero n p = refl
nobody M slots (suc k) n p = nobody M slots k (suc n) (max p 0) ∙ ap absent (omega arith)

-- where the stretch of event i ends
abbrev end : Log → Formula → ℕ → ℕ
end g fm i = end_of (machine g fm) i

module _ (g : Log) (fm : Formula) where
  length-waiting : (half count : ℕ) (work : List ℕ) → length (waiting_in g fm half count work) ≡ count
  length-waiting half count work = length-map (list half count work) (thread g fm) ∙ threads-length half 0 count work

  -- what holds before event n: the waiting list, with the largest width so far, leads to the search's answer
  pub record Going (slots i n half count width : ℕ) (work : List ℕ) : Type 0 where
    pub kept : Kept g fm half count work
    pub leads : search (machine g fm) slots i ≡ ahead (machine g fm) (end g fm i) slots n (waiting_in g fm half count work) width

  -- where nobody waits, the events left change nothing
  pub going-onward : (slots i n half count width : ℕ) (work : List ℕ) (m : ℕ) → m ≡ cond (eqb count 0) (end g fm i) n
      → Going slots i n half count width work → Going slots i m half count width work
  unfolding threads_from
  going-onward slots i n half zero width work m e go =
      record {
        kept = go.kept;
        leads = go.leads ∙ nobody (machine g fm) slots (end g fm i - n) n width
            ∙ sym (nobody (machine g fm) slots (end g fm i - m) m width);
      }
  going-onward slots i n half (suc count) width work m e go =
      subst (λ x. Going slots i x half (suc count) width work) (sym (e ∙ ap (λ b. cond b (end g fm i) n) (ne_eqb (suc count) 0 (omega arith)))) go

  waiting-origin : (work : List ℕ) → list 0 1 work ≡ origin_thread ∷ [] → origin (machine g fm) ≡ waiting_in g fm 0 1 work
  unfolding origin start trail_of along
  waiting-origin work e = sym (ap (map (thread g fm)) e)

module _ (g : Log) (fm : Formula) (f table : List ℕ) (rules : Rules) (s : Setting g fm f table rules) where
  -- before the first event only the start configuration waits
  pub going_start : (slots i : ℕ) (work : List ℕ) → i < length g.events → list 0 1 work ≡ origin_thread ∷ [] → Going g fm slots i i 0 1 0 work
  unfolding swift
  going_start slots i work h e =
      record {
        kept = record { fit = rw e (fit-origin g fm s.formula.formed.nonempty, tt); short = rw e (omega arith, tt) };
        leads = sym (swift-gives g fm s.log s.formula slots i (omega arith))
            ∙ ap (λ ths. ahead (machine g fm) (end g fm i) slots i ths 0) (waiting-origin g fm work e);
      }

  module _ (slots i n half count width : ℕ) (work : List ℕ) (go : Going g fm slots i n half count width work) where
    -- no run ends on event n, and the next list has room
    pub going_next : (more : ℕ) (after : List ℕ) → n < end g fm i → TurnTo g fm half count slots n work after (Waiting more)
        → Going g fm slots i (n + 1) half more (max width more) after
    going_next more after h turn =
        let next = waiting_in g fm half more after in
        record {
          kept = turn.2;
          leads = go.leads ∙ event-next (machine g fm) (end g fm i) slots n width (waiting_in g fm half count work) next h turn.0 turn.1
              ∙ ap₂ (λ m c. ahead (machine g fm) (end g fm i) slots m next (max width c)) (sym (add-one n)) (length-waiting g fm half more after);
        }

    named-is : (t : Thread) → Fit g fm t → answer_of g fm (found (conf g fm t) (trail_of t) width) ≡ Ok (named_answer rules.kinds t width)
    unfolding accepting
    named-is t fit =
        let e : kind_is is_accept (get_elem? fm.states t.config.state) ≡ eqb (get_or rules.kinds t.config.state 0) 2 =
        rw s.kinds_are (accepts fm.states t.config.state fit.valid.declared s.formula.formed.states) in
        ap (λ b. Ok (record {
          verdict = cond b Accept Reject;
          steps = length (trail_of t);
          events = pad 32 0 (events (trail_of t));
          numbers =
              pad 32 0 (numbers (trail_of t));
          held = t.config.held;
          values = t.config.values;
          width = width;
        })) e

    -- a run ends on event n
    pub going-found : (t : Thread) (after : List ℕ) → n < end g fm i → TurnTo g fm half count slots n work after (Found t)
        → Ok (named_answer rules.kinds t width) ≡ answer_of g fm (search (machine g fm) slots i)
    going-found t after h turn =
        sym (ap (answer_of g fm) (go.leads ∙ event-found (machine g fm) (end g fm i) slots n width (waiting_in g fm half count work) (thread g fm t) h turn.0)
        ∙ named-is t turn.1)

    -- more wait after event n than there are slots
    pub going-crowded : (after : List ℕ) → n < end g fm i → TurnTo g fm half count slots n work after Crowded
        → refusal (CrowdedAt n) ≡ answer_of g fm (search (machine g fm) slots i)
    going-crowded after h turn =
        sym (ap (answer_of g fm) (go.leads ∙ event-crowded (machine g fm) (end g fm i) slots n width (waiting_in g fm half count work) h turn.0 turn.1))

    -- the stretch is over
    pub going-over : end g fm i ≤ n → Ok (without width) ≡ answer_of g fm (search (machine g fm) slots i)
    going-over h = sym (ap (answer_of g fm) (go.leads ∙ event-over (machine g fm) (end g fm i) slots n width (waiting_in g fm half count work) h))
