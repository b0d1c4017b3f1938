-- One event of a search: what the least ending and the next waiting list make of it, and the search's answer from event to event.
use Prim.Native.Nat.{ℕ, suc, ◌+◌, ◌-◌, ◌≤◌, ◌<◌, max}
use Rattle.std.specs.Prelude.{Option, Some, None, Result, Ok, Err, IfOk}
use mathlib.Core.Path.{◌≡◌, sym, ap, ◌∙◌, subst}
use mathlib.Core.Bool.{Bool, true, false, cond}
use mathlib.Core.List.{List, [], ◌∷◌}
use mathlib.Core.Option.{none}
use native.Mathlib.Numerals.{add-one}
use native.Mathlib.Nat.{le_refl}
use native.Mathlib.Omega.{arith}
use lib.ListN.{length, get_or}
use lib.Dec.{eqb}
use Rattle.base.proofs.Tests.{cond-holds}
use Rattle.refusal.specs.declared.Refusal.TheVariants.{Crowded as CrowdedAt}
use Rattle.event_log.specs.declared.Latest.{Latest}
use Rattle.event_log.specs.declared.Loaded.{Loaded}
use Rattle.event_log.specs.Arrays.{latest_of}
use Rattle.event_log.specs.inner.Carrying.{later_of}
use Rattle.event_log.specs.Log.{Log}
use Rattle.event_log.specs.inner.Loading.{loaded_at, marked_at}
use Rattle.formula.specs.Formula.{Formula}
use Rattle.runs.specs.inner.Search as Runs
use Rattle.runs.specs.inner.Search.{end_of}
use Rattle.runs.proofs.Least.{least-none}
use Rattle.runs.proofs.Stretch.{end-most, inside}
use Rattle.machine.specs.Machine.{machine}
use Rattle.slots.specs.inner.Threads.{origin_thread}
use Rattle.slots.specs.inner.Words.{list}
use Rattle.slots.specs.declared.Thread.{Thread}
use Rattle.threads.specs.declared.Rules.{Rules}
use Rattle.threads.specs.declared.Moment.{Moment}
use Rattle.threads.specs.declared.Seats.{Seats}
use Rattle.threads.specs.declared.scene.Scene.{Scene}
use Rattle.threads.specs.inner.Setting.{Setting, EventTable, Stands, Scene as Standing}
use Rattle.threads.specs.inner.Event.{Kept, waiting_in, EndingIs, SettledTo, SettledIs}
use Rattle.refusal.specs.declared.Refusal.{Refusal}
use Rattle.search_code.specs.declared.Turn.{Turn}
use Rattle.search_code.specs.declared.Turn.TheVariants.{Found, Crowded, Waiting}
use Rattle.search_code.specs.declared.Scope.{Scope}
use Rattle.search.specs.declared.SearchAnswer.{SearchAnswer}
use Rattle.search.specs.Search.{without, refusal}
use Rattle.search_code.specs.inner.Turn.{seen_next, seen_to, end_to, stretch_end, moment_of, named_answer, TurnTo, TurnIs, TurnOf, Given, Told, SearchedFrom}
use Rattle.search_code.proofs.Loop.{unmarked, end_is, event-there, Going, going_start, going_next, going-onward, going-found, going-crowded, going-over}

module _ (s : Scene) (z : Seats) (before after : List ℕ) where
  -- a run ends on the event
  pub found_turn : (t : Thread) → EndingIs s z before (Some t) → TurnIs s z before after (Found t)
  found_turn t e g fm x k = let h = e g fm x k in (sym h.0, h.1)

  module _ (e : EndingIs s z before None) where
    no-ending : (g : Log) (fm : Formula) → Stands g fm s → Kept g fm z.half z.count before
        → Runs.least (machine g fm) (Runs.endings (machine g fm) s.moment.number (waiting_in g fm z.half z.count before)) ≡ none
    no-ending g fm x k = sym (e g fm x k).0

    settled : (r : Option ℕ) → SettledIs s z before after r → (g : Log) (fm : Formula) → Stands g fm s → Kept g fm z.half z.count before
        → SettledTo g fm s.moment.number z before after r
    settled r a g fm x k = a g fm x k (least-none (machine g fm) _ (no-ending g fm x k))

    -- no run ends on it, and more wait after it than there are slots
    pub crowded-turn : SettledIs s z before after None → TurnIs s z before after Crowded
    crowded-turn a g fm x k = (no-ending g fm x k, settled None a g fm x k)

    -- no run ends on it, and the next waiting list has room
    pub next-turn : (more : ℕ) → SettledIs s z before after (Some more) → TurnIs s z before after (Waiting more)
    next-turn more a g fm x k = let h = settled (Some more) a g fm x k in (no-ending g fm x k, h.0, h.1)

-- the event's table, from the table of the formula's steps
pub turn-of : (l places f steps table : List ℕ) (rules : Rules) (m : Moment) (z : Seats) (before after : List ℕ) (r : Turn)
    → EventTable f steps rules.rises m table
    → ((g : Log) (fm : Formula) → Standing g fm l places f table rules m → Kept g fm z.half z.count before
    → TurnTo g fm z.half z.count z.slots m.number before after r)
    → TurnOf l places f steps rules m z before after r
turn-of l places f steps table rules m z before after r o t g fm s leads loads k =
    let setting = subst (λ (ys : List ℕ). Setting g fm f ys rules) s.table_is s in
    t g fm (record {
      setting = setting;
      leads = leads;
      loads = loads;
      offsets = subst (λ (ys : List ℕ). EventTable f ys rules.rises m table) s.table_is o;
    }) k

-- the values carried, event by event
pub seen_start : (l places : List ℕ) (fields : ℕ) (x : Latest) → x ≡ latest_of [] → x ≡ seen_to l places fields 0
unfolding seen_to
seen_start l places fields x e = e

pub seen_next_lem : (l places : List ℕ) (fields n : ℕ) (x y : Latest) → x ≡ seen_to l places fields n
    → y ≡ seen_next l fields (get_or places n 0) x → y ≡ seen_to l places fields (n + 1)
unfolding seen_to
seen_next_lem l places fields n x y e q = rw (add-one n) (q ∙ ap (seen_next l fields (get_or places n 0)) e)

-- where the stretch ends, event by event
pub end-next : (l places : List ℕ) (scope : Scope) (n : ℕ) → n < scope.events
    → stretch_end l places scope n
    ≡ cond (marked_at l (loaded_at l scope.rules.fields (get_or places n 0)).next) (n + 1) (stretch_end l places scope (n + 1))
unfolding end_to
end-next l places scope n h =
    let left : scope.events - n ≡ suc (scope.events - suc n) = omega (arith, h) in
    rw (left, add-one n)

-- inside a stretch the next event has the same end
pub end_later : (l places : List ℕ) (scope : Scope) (n end : ℕ) → n < scope.events → end ≡ stretch_end l places scope n → n + 1 < end
    → end ≡ stretch_end l places scope (n + 1)
end_later l places scope n end h e k = go (marked_at l (loaded_at l scope.rules.fields (get_or places n 0)).next) (e ∙ end-next l places scope n h)
  where
    go : (b : Bool) → end ≡ cond b (n + 1) (stretch_end l places scope (n + 1)) → end ≡ stretch_end l places scope (n + 1)
    go true q = absurd (omega (arith, q, k))
    go false q = q

pub end-over : (l places : List ℕ) (scope : Scope) (n : ℕ) → scope.events ≤ n → n ≡ stretch_end l places scope n
unfolding end_to
end-over l places scope n h = let left : scope.events - n ≡ 0 = omega (arith, h) in rw left

-- before event n of the stretch, of whatever log and formula the bytes are; `seen` has the last present values before it, as long as there is an event
-- to come
abbrev pub Searching : List ℕ → List ℕ → List ℕ → List ℕ → Scope → ℕ → ℕ → Latest → ℕ → ℕ → ℕ → ℕ → List ℕ → Latest → Type 0
Searching l places f table scope i end before n half count width work seen =
    (g : Log) (fm : Formula) → Given g fm l places f table scope → Told l places scope i end before
    → Going g fm scope.slots i n half count width work × (i ≤ n) × (n < end → seen ≡ seen_to l places scope.rules.fields n)

-- the end of the stretch is the machine's
module _ (g : Log) (fm : Formula) (l places f table : List ℕ) (scope : Scope) (i end : ℕ) (before : Latest) (x : Given g fm l places f table scope)
    (d : Told l places scope i end before) where
  end_same : end ≡ end_of (machine g fm) i
  end_same =
      let h : i < length g.events = omega (arith, d.there, x.events_are) in
      d.end_is ∙ ap (λ e. end_to l places scope.rules.fields (e - i) i) x.events_are
      ∙ end_is g l places scope.rules.fields x.setting.log x.leads x.setting.fields_are fm i h

  end-there : end ≤ length g.events
  end-there = omega (arith, end_same, end-most (machine g fm) i (omega (arith, d.there, x.events_are)))

  -- no mark stands behind an event that is not its last
  unmarked-inside : (n : ℕ) → i ≤ n → n + 1 < end → marked_at l (loaded_at l scope.rules.fields (get_or places n 0)).next ≡ false
  unmarked-inside n h k =
      let a = inside (machine g fm) i n h (omega (arith, k, end_same)) in
      let b = inside (machine g fm) i (suc n) (omega (arith, h)) (omega (arith, k, end_same)) in
      unmarked g l places scope.rules.fields x.setting.log x.leads x.setting.fields_are n (omega (arith, k, end-there)) (a ∙ sym b)

module _ (l places f table : List ℕ) (scope : Scope) (i end : ℕ) (before : Latest) where
  pub searching-start : (work : List ℕ) → list 0 1 work ≡ origin_thread ∷ [] → Searching l places f table scope i end before i 0 1 0 work before
  searching-start work o g fm x d =
      (going_start g fm f table scope.rules x.setting scope.slots i work (omega (arith, x.events_are, d.there)) o, le_refl i, λ k. d.seen_is)

  module _ (n half count width : ℕ) (work : List ℕ) (seen : Latest) (S : Searching l places f table scope i end before n half count width work seen) where
    -- the stretch is over
    pub searching-over : (r : SearchAnswer) → end ≤ n → r ≡ without width → SearchedFrom l places f table scope i end before (Ok r)
    searching-over r h q g fm x d =
        ap Ok q ∙ going-over g fm f table scope.rules x.setting scope.slots i n half count width work (S g fm x d).0
        (omega (arith, h, end_same g fm l places f table scope i end before x d))

    module _ (more : n < end) (loaded : Loaded) (there : loaded ≡ loaded_at l scope.rules.fields (get_or places n 0)) (m : Moment)
        (now : m ≡ moment_of n seen loaded.event) (after : List ℕ) (turn : Turn)
        (told : TurnOf l places f table scope.rules m (record { half = half; count = count; slots = scope.slots }) work after turn) where
      -- what the event does
      turned : (g : Log) (fm : Formula) → Given g fm l places f table scope → Told l places scope i end before
          → TurnTo g fm half count scope.slots n work after turn
      turned g fm x d =
          let s = S g fm x d in
          let here = event-there g l places scope.rules.fields x.setting.log x.leads x.setting.fields_are n loaded seen
          (omega (arith, more, end-there g fm l places f table scope i end before x d)) there (s.2 more) in
          let is =
          subst (λ (y : Moment). TurnOf l places f table scope.rules y (record { half = half; count = count; slots = scope.slots }) work after turn) now told
          in
          is g fm x.setting x.leads here s.0.kept

      -- the values carried on, inside the stretch
      onward : (n' m : ℕ) → n' ≡ cond (eqb m 0) end (n + 1) → seen ≡ seen_to l places scope.rules.fields n
          → (n + 1 < end → marked_at l (loaded_at l scope.rules.fields (get_or places n 0)).next ≡ false) → n' < end
          → later_of seen loaded.event ≡ seen_to l places scope.rules.fields n'
      unfolding seen_to
      onward n' m o e u h = go (eqb m 0) o
        where
          go : (b : Bool) → n' ≡ cond b end (n + 1) → later_of seen loaded.event ≡ seen_to l places scope.rules.fields n'
          go true q = absurd (omega arith)
          go false q = rw (q ∙ add-one n, e, there, u (omega (arith, h, q)))

      later-on : (m n' : ℕ) → n' ≡ cond (eqb m 0) end (n + 1) → i ≤ n → i ≤ n'
      later-on m n' o h = rw o (cond-holds (λ z. i ≤ z) (eqb m 0) end (n + 1) (λ e. omega (arith, h, more)) (λ e. omega (arith, h)))

      pub searching-next : (k n' : ℕ) → turn ≡ Waiting k → n' ≡ cond (eqb k 0) end (n + 1)
          → Searching l places f table scope i end before n' half k (max width k) after m.latest
      searching-next k n' q o g fm x d =
          let y = subst (TurnTo g fm half count scope.slots n work after) q (turned g fm x d) in
          let s = S g fm x d in
          let same = end_same g fm l places f table scope i end before x d in
          let go = going_next g fm f table scope.rules x.setting scope.slots i n half count width work s.0 k after
          (omega (arith, more, same)) y in (
            going-onward g fm scope.slots i (n + 1) half k (max width k) after n' (o ∙ ap (λ e. cond (eqb k 0) e (n + 1)) same) go,
            later-on k n' o s.1,
            λ h. ap (λ (z : Moment). z.latest) now ∙ onward n' k o (s.2 more) (unmarked-inside g fm l places f table scope i end before x d n s.1) h,
          )

      pub searching-found : (t : Thread) (r : SearchAnswer) → turn ≡ Found t → r ≡ named_answer scope.rules.kinds t width
          → SearchedFrom l places f table scope i end before (Ok r)
      searching-found t r q z g fm x d =
          let y = subst (TurnTo g fm half count scope.slots n work after) q (turned g fm x d) in
          ap Ok z ∙ going-found g fm f table scope.rules x.setting scope.slots i n half count width work (S g fm x d).0 t after
          (omega (arith, more, end_same g fm l places f table scope i end before x d)) y

      pub searching-crowded : turn ≡ Crowded → SearchedFrom l places f table scope i end before (Err (CrowdedAt n))
      searching-crowded q g fm x d =
          let y = subst (TurnTo g fm half count scope.slots n work after) q (turned g fm x d) in
          going-crowded g fm f table scope.rules x.setting scope.slots i n half count width work (S g fm x d).0 after
          (omega (arith, more, end_same g fm l places f table scope i end before x d)) y
