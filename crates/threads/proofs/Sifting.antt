-- Sifting a waiting list on an event: what holds once so many of its threads were looked at, and one thread more.
use Prim.Native.Nat.{ℕ, ◌+◌, ◌-◌, ◌<◌, ◌≤◌}
use mathlib.Core.Path.{◌≡◌, refl, ap, ap₂, sym, ◌∙◌, subst}
use mathlib.Core.Bool.{Bool, true, false, ◌&&◌}
use mathlib.Core.List.{List, [], ◌∷◌, ◌++◌, map, append-nil}
use mathlib.Core.Option.{Option, none, some}
use native.Mathlib.Numerals.{add-one}
use native.Mathlib.Omega.{arith}
use Rattle.std.specs.Prelude.{Option as Maybe, Some, None}
use lib.Dec.{ltb}
use lib.ListN.{length, get_or, take, drop, length-map, get_or-map, take-append-drop}
use lib.Seq.{take-suc, take_all}
use borrow.Author.Tests.{lt-ltb, le-ltb}
use Rattle.base.specs.Lists.{All}
use Rattle.base.proofs.Lists.{All-append}
use Rattle.event_log.specs.Log.{Log}
use Rattle.formula.specs.Formula.{Formula}
use Rattle.runs.specs.inner.Lists.{only, keep, in_turn}
use Rattle.runs.specs.inner.Search as Runs
use Rattle.runs.specs.inner.Threads.{insert_within, chain}
use Rattle.runs.specs.inner.Settle.{lasts, stayers, arrivals, movers, settle}
use Rattle.runs.proofs.OneByOne.{within-append}
use Rattle.runs.proofs.Pursuit.{stayers-more, movers-more, settle-over, settle-by}
use Rattle.machine.specs.Machine.{machine, fire_at}
use Rattle.slots.specs.declared.Thread.{Thread}
use Rattle.slots.specs.inner.Words.{thread_at, place, threads_from, list, KeptAt}
use Rattle.slots.proofs.Slots.{threads-length, thread-at}
use Rattle.threads.specs.declared.Choice.{Choice}
use Rattle.threads.specs.declared.Seats.{Seats}
use Rattle.threads.specs.declared.Sifted.{Sifted}
use Rattle.threads.specs.declared.Rules.{Rules}
use Rattle.threads.specs.declared.Moment.{Moment}
use Rattle.threads.specs.inner.Setting.{Scene, Fit, conf, thread}
use Rattle.threads.specs.inner.Event.{waiting_in, Kept, Placed, SettledTo}
use Rattle.threads.specs.inner.Calls.{Going, Chosen, Grown, Within, Remained, Idle, Sifts, Sifting, SiftedTo, offered}
use Rattle.slots.proofs.ByPlace.{kept-still}
use Rattle.threads.proofs.Listed.{kept_at, thread-stays}
use Rattle.threads.proofs.Tables.{fires-none, hopeful-lasting}
use Rattle.threads.proofs.Choices.{quiet-choice}
use Rattle.threads.proofs.Waiting.{grown-same, within_none, offers-done}

module _ (z : Seats) (before : List ℕ) where
  pub sifts-start : Sifts z before 0 (record { stayed = 0; moved = 0 }) before
  sifts-start = record { seen = omega arith; front = omega arith; room = omega arith; behind = λ i h k. refl; sized = refl }

  pub sifts-next : (j : ℕ) (a : Sifted) (now mid after : List ℕ) (t : Thread) (r q : ℕ) → z.half < 2 → z.count ≤ z.slots
      → Sifts z before j a now → j < z.count → Grown (1 - z.half) z.slots now mid (Some r)
      → Remained z.half a.stayed j t mid after q → Sifts z before (j + 1) (record { stayed = q; moved = r }) after
  sifts-next j a now mid after t r q two most s h w m =
      record {
        seen = omega arith;
        front = omega (arith, m.most, s.front);
        room = w.most;
        behind = λ i x b.
            m.behind i (omega arith) ∙ thread-stays z.half z.slots z.count now mid (Some r) i (thread_at mid (place z.half i)) two most w b refl
            ∙ s.behind i (omega arith) b;
        sized = m.sized ∙ w.sized ∙ s.sized;
      }

-- ---- one thread

-- it is kept, or dropped
pub remained-kept : (half count j : ℕ) (t : Thread) (before after : List ℕ) → half < 2 → KeptAt half count j t before after
    → Remained half count j t before after (count + 1)
remained-kept half count j t before after two k =
    record {
      least = omega arith;
      most = omega arith;
      listed = k.listed ∙ ap (λ b. list half count before ++ only b t []) (sym (lt-ltb count (count + 1) (omega arith)));
      behind = k.behind;
      other = λ m. k.other (1 - half) 0 m (omega arith);
      sized = k.sized;
    }

pub remained-dropped : (half count j : ℕ) (t : Thread) (l : List ℕ) → Remained half count j t l l count
remained-dropped half count j t l =
    record {
      least = omega arith;
      most = omega arith;
      listed = sym (ap (λ b. list half count l ++ only b t []) (le-ltb count count (omega arith)) ∙ append-nil (list half count l));
      behind = λ i h. refl;
      other = λ m. refl;
      sized = refl;
    }

-- exactly where it may stay and wait
pub flag-kept : (count : ℕ) (stays alive : Bool) → stays ≡ true → true ≡ alive → ltb count (count + 1) ≡ (stays && alive)
flag-kept count stays alive p q = lt-ltb count (count + 1) (omega arith) ∙ ap₂ (λ a b. a && b) (sym p) q

pub flag-expired : (count : ℕ) (stays alive : Bool) → stays ≡ true → false ≡ alive → ltb count count ≡ (stays && alive)
flag-expired count stays alive p q = le-ltb count count (omega arith) ∙ ap₂ (λ a b. a && b) (sym p) q

pub flag-leaves : (count : ℕ) (stays alive : Bool) → stays ≡ false → ltb count count ≡ (stays && alive)
flag-leaves count stays alive p = le-ltb count count (omega arith) ∙ ap (λ b. b && alive) (sym p)

-- ---- the threads one by one

-- a half's list that was not touched
other_half : (half slots : ℕ) (before after : List ℕ) (r : Maybe ℕ) (m : ℕ) → half < 2 → Grown (1 - half) slots before after r → m ≤ slots
    → list half m after ≡ list half m before
other_half half slots before after r m two w h =
    let back : 1 - (1 - half) ≡ half = omega arith in
    subst (λ i. list i m after ≡ list i m before) back (w.other m h)

kept-as : (g : Log) (fm : Formula) (half count : ℕ) (a b : List ℕ) → list half count b ≡ list half count a → Kept g fm half count a → Kept g fm half count b
kept-as g fm half count a b e k =
    record { fit = subst (All (Fit g fm)) (sym e) k.fit; short = subst (All (λ (t : Thread). t.steps < 32)) (sym e) k.short }

only-all : (P : Thread → Type 0) (b : Bool) (t : Thread) → P t → All P (only b t [])
only-all P true t p = (p, tt)
only-all P false t p = tt

map-only : {A B : Type 0} (f : A → B) (xs : List A) (b : Bool) (t : A) → map f (xs ++ only b t []) ≡ map f xs ++ only b (f t) []
map-only f [] true t = refl
map-only f [] false t = refl
map-only f (x ∷ xs) b t = ap (λ l. f x ∷ l) (map-only f xs b t)

module _ (g : Log) (fm : Formula) (n : ℕ) (z : Seats) (before : List ℕ) where
  abbrev half : ℕ
  half = z.half

  abbrev slots : ℕ
  slots = z.slots

  abbrev count : ℕ
  count = z.count

  abbrev ths : List (Runs.Thread (machine g fm))
  ths = waiting_in g fm half count before

  pub sifting-start : Sifting g fm n z before 0 (record { stayed = 0; moved = 0 }) before
  unfolding movers in_turn insert_within threads_from stayers keep
  sifting-start = record { moved_are = refl; moved_kept = record { fit = tt; short = tt }; stayed_are = refl; stayed_kept = record { fit = tt; short = tt } }

  -- every thread was looked at
  pub all-sifted : (j : ℕ) → count ≤ j → take j ths ≡ ths
  all-sifted j h = take_all j ths (omega (arith, length-map (list half count before) (thread g fm), threads-length half 0 count before))

  module _ (j : ℕ) (a : Sifted) (now : List ℕ) (s : Sifting g fm n z before j a now) (t : Thread) (h : j < count) (e : t ≡ thread_at before (place half j))
      (c : Choice) (by : Chosen g fm t n c) where
    one_more : take (j + 1) ths ≡ take j ths ++ (thread g fm t ∷ [])
    one_more =
        let l : j < length ths = omega (arith, length-map (list half count before) (thread g fm), threads-length half 0 count before) in
        let q : get_or ths j (thread g fm t) ≡ thread g fm t = get_or-map (thread g fm) (list half count before) j t
        ∙ ap (thread g fm) (thread-at half 0 count before j j t (omega arith) h ∙ sym e) in
        ap (λ i. take i ths) (add-one j) ∙ take-suc ths j (thread g fm t) l ∙ ap (λ (x : Runs.Thread (machine g fm)). take j ths ++ (x ∷ [])) q

    abbrev left : List (Runs.Thread (machine g fm))
    left = offered g fm n (Runs.firing (machine g fm) (thread g fm t) n c.from (c.to - c.from))

    -- its moves are inserted behind those of the threads before it
    moved_then : insert_within (machine g fm) slots [] (movers (machine g fm) n (take (j + 1) ths))
        ≡ insert_within (machine g fm) slots (waiting_in g fm (1 - half) a.moved now) left
    unfolding arrivals
    moved_then =
        ap (λ (l : List (Runs.Thread (machine g fm))). insert_within (machine g fm) slots [] (movers (machine g fm) n l)) one_more
        ∙ ap (insert_within (machine g fm) slots []) (movers-more (machine g fm) n (take j ths) (thread g fm t))
        ∙ within-append (machine g fm) slots [] (movers (machine g fm) n (take j ths)) (arrivals (machine g fm) n (thread g fm t))
        ∙ ap (λ o. chain (machine g fm) o (λ more. insert_within (machine g fm) slots more (arrivals (machine g fm) n (thread g fm t)))) s.moved_are
        ∙ ap (λ (l : List (Runs.Thread (machine g fm))). insert_within (machine g fm) slots (waiting_in g fm (1 - half) a.moved now) (offered g fm n l))
        by.moves_are

    -- they need one slot more
    pub sifting-stopped : (mid : List ℕ) → Within g fm (1 - half) slots (waiting_in g fm (1 - half) a.moved now) left mid None
        → settle (machine g fm) slots n ths ≡ none
    sifting-stopped mid p =
        settle-over (machine g fm) slots n ths (take (j + 1) ths) (drop (j + 1) ths) (sym (take-append-drop (j + 1) ths)) (moved_then ∙ p)

    -- they fit, and it stays or not
    pub sifting-next : (mid after : List ℕ) (r q : ℕ) → half < 2 → a.stayed ≤ slots → Going g fm t → Grown (1 - half) slots now mid (Some r)
        → Within g fm (1 - half) slots (waiting_in g fm (1 - half) a.moved now) left mid (Some r) → Remained half a.stayed j t mid after q
        → ltb a.stayed q ≡ (c.stays && Runs.hopeful (machine g fm) n (thread g fm t)) → Sifting g fm n z before (j + 1) (record { stayed = q; moved = r }) after
    unfolding lasts
    sifting-next mid after r q two k go w p m o =
        let same = other_half half slots now mid (Some r) a.stayed two w k in
        let kept = kept-as g fm half a.stayed now mid same s.stayed_kept in
        let flag : ltb a.stayed q ≡ lasts (machine g fm) n (thread g fm t) = o ∙ ap (λ b. b && Runs.hopeful (machine g fm) n (thread g fm t)) by.stays_is in
        record {
          moved_are = moved_then ∙ p.0 ∙ ap (λ (l : List Thread). some (map (thread g fm) l)) (sym (m.other r));
          moved_kept = kept-as g fm (1 - half) r mid after (m.other r) p.1;
          stayed_are = ap (map (thread g fm)) m.listed ∙ map-only (thread g fm) (list half a.stayed mid) (ltb a.stayed q) t
              ∙ ap (λ (l : List Thread). map (thread g fm) l ++ only (ltb a.stayed q) (thread g fm t) []) same
              ∙ ap (λ (l : List (Runs.Thread (machine g fm))). l ++ only (ltb a.stayed q) (thread g fm t) []) s.stayed_are
              ∙ ap (λ b. stayers (machine g fm) n (take j ths) ++ only b (thread g fm t) []) flag
              ∙ sym (stayers-more (machine g fm) n (take j ths) (thread g fm t)) ∙ ap (stayers (machine g fm) n) (sym one_more);
          stayed_kept = record {
            fit = subst (All (Fit g fm)) (sym m.listed)
                (All-append (Fit g fm) (list half a.stayed mid) (only (ltb a.stayed q) t []) kept.fit (only-all (Fit g fm) (ltb a.stayed q) t go.fit));
            short = subst (All (λ (x : Thread). x.steps < 32)) (sym m.listed)
                (All-append (λ (x : Thread). x.steps < 32) (list half a.stayed mid) (only (ltb a.stayed q) t []) kept.short
                (only-all (λ (x : Thread). x.steps < 32) (ltb a.stayed q) t go.short));
          };
        }

-- ---- a thread that idles

module _ (f table : List ℕ) (rules : Rules) (m : Moment) (z : Seats) (before : List ℕ) (j : ℕ) (a : Sifted) (now : List ℕ)
    (two : z.half < 2) (most : z.count ≤ z.slots) (s : Sifts z before j a now) (h : j < z.count) (front : j ≤ a.stayed)
    (idle : Idle table rules (thread_at now (place z.half j))) where
  abbrev t : Thread
  t = thread_at now (place z.half j)

  rests : Remained z.half a.stayed j t now now (a.stayed + 1)
  rests = remained-kept z.half a.stayed j t now now two (kept-still z.half a.stayed j t now front s.front refl)

  pub idle-sifts : Sifts z before (j + 1) (record { stayed = a.stayed + 1; moved = a.moved }) now
  idle-sifts =
      sifts-next z before j a now now now t a.moved (a.stayed + 1) two most s h (grown-same (1 - z.half) z.slots a.moved now s.room) rests

  pub idle-sifting : (l places : List ℕ) (g : Log) (fm : Formula) → Scene g fm l places f table rules m → Kept g fm z.half z.count before
      → Sifting g fm m.number z before j a now → Sifting g fm m.number z before (j + 1) (record { stayed = a.stayed + 1; moved = a.moved }) now
  unfolding Runs.hopeful
  idle-sifting l places g fm scene kept v =
      let n = m.number in
      let e = s.behind j (omega arith) h in
      let go = kept_at g fm z.half z.count before j t kept h e in
      let quiet : (k : ℕ) → k < 8 → fire_at g fm (conf g fm t) n k ≡ none = λ k b. fires-none g fm f table rules m scene t go.fit k b (idle.quiet k b) in
      let choice : Choice = record { from = 8; to = 8; stays = ltb 0 t.steps } in
      sifting-next g fm n z before j a now v t h e choice (quiet-choice g fm t n go.fit quiet) now now a.moved (a.stayed + 1) two
      (omega (arith, s.front, h, most)) go (grown-same (1 - z.half) z.slots a.moved now s.room)
      (within_none g fm (1 - z.half) z.slots a.moved now _ (offers-done g fm t n 8 8 (omega arith)) v.moved_kept) rests
      (flag-kept a.stayed (ltb 0 t.steps) (Runs.any_alive (machine g fm) (conf g fm t) n 8) (lt-ltb 0 t.steps idle.begun)
      (hopeful-lasting g fm f table rules m scene t go.fit idle.lasting))

-- ---- the next waiting list

-- those that moved were inserted into those that stay
pub settled-merged : (g : Log) (fm : Formula) (n : ℕ) (z : Seats) (before mid after : List ℕ) (r : Sifted) (q : Maybe ℕ)
    → SiftedTo g fm n z before mid (Some r)
    → (Kept g fm z.half r.stayed mid → Kept g fm (1 - z.half) r.moved mid
    → Within g fm z.half z.slots (waiting_in g fm z.half r.stayed mid) (waiting_in g fm (1 - z.half) r.moved mid) after q)
    → SettledTo g fm n z before after q
settled-merged g fm n z before mid after r q p w =
    let is = settle-by (machine g fm) z.slots n (waiting_in g fm z.half z.count before) (waiting_in g fm (1 - z.half) r.moved mid) p.0
    ∙ ap (λ (l : List (Runs.Thread (machine g fm))). insert_within (machine g fm) z.slots l (waiting_in g fm (1 - z.half) r.moved mid)) (sym p.2) in
    subst (λ (x : Option (List (Runs.Thread (machine g fm)))). Placed g fm z.half x after q) (sym is) (w p.3 p.1)
