-- The waiting list after an event: threads inserted one by one, within the slots.
use Prim.Native.Nat.{ℕ, suc, ◌+◌, ◌-◌, ◌<◌, ◌≤◌}
use mathlib.Core.Path.{◌≡◌, refl, ap, sym, ◌∙◌, subst}
use mathlib.Core.Bool.{Bool, true, false, not, ◌&&◌, and-false}
use mathlib.Core.List.{List, [], ◌∷◌, ◌++◌, map}
use mathlib.Core.Option.{Option, none, some}
use native.Mathlib.Omega.{arith}
use Rattle.std.specs.Prelude.{Option as Maybe, Some, None, IfSome}
use lib.Dec.{leb}
use lib.ListN.{length, length-map}
use borrow.Author.Tests.{le-leb, lt-leb}
use Rattle.base.specs.Lists.{All}
use Rattle.event_log.specs.Log.{Log}
use Rattle.formula.specs.Formula.{Formula}
use Rattle.runs.specs.inner.Lists.{only, keep}
use Rattle.runs.specs.inner.Search as Runs
use Rattle.runs.specs.inner.Threads.{insert, insert_within, chain}
use Rattle.runs.proofs.Growth.{keep_append}
use Rattle.runs.proofs.OneByOne.{within-append, within-over, within-fits}
use Rattle.runs.specs.inner.Order.{order}
use Rattle.machine.specs.Configuration.{Config}
use Rattle.machine.specs.Machine.{machine, fire_at, final}
use Rattle.slots.specs.declared.Thread.{Thread}
use Rattle.slots.specs.inner.Threads.{trail_of, comes_after, replaced, lesser_thread, placed, insert_thread}
use Rattle.slots.specs.inner.Words.{list, Around, Inserted, InsertedAt}
use Rattle.threads.specs.declared.Seats.{Seats}
use Rattle.threads.specs.declared.scene.Scene.{Scene}
use Rattle.threads.specs.inner.Setting.{Fit, conf, thread}
use Rattle.threads.specs.inner.Event.{waiting_in, Kept, Placed}
use Rattle.threads.specs.inner.Calls.{Going, MovedBy, move_by, Grown, Within, FoundIs, InsertIs, offered, same_as}
use Rattle.threads.proofs.Below.{found-below}
use Rattle.threads.proofs.Firing.{firing-next}
use Rattle.threads.proofs.Inserting.{insert-is}
use Rattle.threads.proofs.Steps.{trail-length}

-- what holds of b and of every thread of a list holds after inserting b
insert_all : (P : Thread → Type 0) (test : Thread → Bool) (b : Thread) (ths : List Thread) → P b → All P ths → All P (insert_thread test b ths)
unfolding insert_thread lesser_thread
insert_all P test b [] p h = (p, tt)
insert_all P test b (a ∷ ths) p h = by (test a) (insert_all P test b ths p h.1)
  where
    one : (c : Bool) → P (replaced c a b)
    one true = p
    one false = h.0

    lesser : P (lesser_thread a b)
    lesser = one (comes_after (order (trail_of a) (trail_of b)))

    by : (c : Bool) → All P (insert_thread test b ths) → All P (placed c a b ths (insert_thread test b ths))
    by true k = (lesser, h.1)
    by false k = (h.0, k)

-- ---- words that stay

pub grown-same : (half slots count : ℕ) (l : List ℕ) → count ≤ slots → Grown half slots l l (Some count)
grown-same half slots count l h = record { most = h; other = λ m k. refl; sized = refl }

pub grown-insert : (half count slots : ℕ) (before after : List ℕ) (r : ℕ) (q : Maybe ℕ) → half < 2 → IfSome q (λ n. n ≤ slots)
    → Around half count before after r → Grown half slots before after q
grown-insert half count slots before after r q two h i =
    record { most = h; other = λ m k. i.other (1 - half) 0 m (omega arith); sized = i.sized }

pub grown-then : (half slots : ℕ) (a b c : List ℕ) (r s : Maybe ℕ) → Grown half slots a b r → Grown half slots b c s → Grown half slots a c s
grown-then half slots a b c r s p q = record { most = q.most; other = λ m h. q.other m h ∙ p.other m h; sized = q.sized ∙ p.sized }

-- ---- what a step leaves

module _ (g : Log) (fm : Formula) (t : Thread) (n k : ℕ) where
  pub move-silent : MovedBy g fm (fire_at g fm (conf g fm t) n k) t n k None → move_by g fm t n k ≡ []
  move-silent h = by (fire_at g fm (conf g fm t) n k) h
    where
      by : (o : Option Config) → MovedBy g fm o t n k None → Runs.arrive (machine g fm) (thread g fm t) n k o [] ≡ []
      by none x = refl
      by (some d) x = absurd x

  module _ (m : Thread) (h : MovedBy g fm (fire_at g fm (conf g fm t) n k) t n k (Some m)) where
    pub move-fires : (move_by g fm t n k ≡ thread g fm m ∷ []) × Fit g fm m
    move-fires = by (fire_at g fm (conf g fm t) n k) h
      where
        by : (o : Option Config) → MovedBy g fm o t n k (Some m)
            → (Runs.arrive (machine g fm) (thread g fm t) n k o [] ≡ thread g fm m ∷ []) × Fit g fm m
        by none x = absurd cc
        by (some d) x = (ap (λ (y : Runs.Thread (machine g fm)). y ∷ []) (sym x.is), x.fit)

    -- what it leaves has ended, where it leads to a state that accepts or rejects
    pub move-final : ((d : Config) → fire_at g fm (conf g fm t) n k ≡ some d → final fm d ≡ true) → final fm (conf g fm m) ≡ true
    move-final o = by (fire_at g fm (conf g fm t) n k) refl h
      where
        by : (x : Option Config) → fire_at g fm (conf g fm t) n k ≡ x → MovedBy g fm x t n k (Some m) → final fm (conf g fm m) ≡ true
        by none q x = absurd cc
        by (some d) q x = ap (λ (y : Runs.Thread (machine g fm)). final fm y.config) x.is ∙ o d q

module _ (g : Log) (fm : Formula) where
  -- ---- what may wait

  -- a step that leads to a state that accepts or rejects leaves nothing that waits
  pub offered-past : (t : Thread) (n k : ℕ) → ((d : Config) → fire_at g fm (conf g fm t) n k ≡ some d → final fm d ≡ true)
      → offered g fm n (move_by g fm t n k) ≡ []
  unfolding keep Runs.unended
  offered-past t n k o = by (fire_at g fm (conf g fm t) n k) refl
    where
      by : (x : Option Config) → fire_at g fm (conf g fm t) n k ≡ x → offered g fm n (Runs.arrive (machine g fm) (thread g fm t) n k x []) ≡ []
      by none e = refl
      by (some d) e = rw (o d e)

  module _ (n : ℕ) (b : Thread) (w : Fit g fm b) where
    unended-is : Runs.unended (machine g fm) (thread g fm b) ≡ (not (final fm (conf g fm b)) && leb b.steps 31)
    unfolding Runs.unended
    unended-is = ap (λ l. not (final fm (conf g fm b)) && leb l 31) (trail-length b w.trail_32 w.most)

    offered-by : (c : Bool) → Runs.unended (machine g fm) (thread g fm b) ≡ c
        → offered g fm n (thread g fm b ∷ []) ≡ keep (Runs.hopeful (machine g fm) n) (only c (thread g fm b) [])
    unfolding keep
    offered-by c e = ap (λ z. keep (Runs.hopeful (machine g fm) n) (only z (thread g fm b) [])) e

    -- a thread that has ended, or with 32 steps, does not wait
    pub offered-final : final fm (conf g fm b) ≡ true → offered g fm n (thread g fm b ∷ []) ≡ []
    unfolding keep
    offered-final e = offered-by false (unended-is ∙ ap (λ z. not z && leb b.steps 31) e)

    pub offered-long : 32 ≤ b.steps → offered g fm n (thread g fm b ∷ []) ≡ []
    unfolding keep
    offered-long l =
        offered-by false (unended-is ∙ ap (λ z. not (final fm (conf g fm b)) && z) (lt-leb b.steps 31 (omega arith))
        ∙ and-false (not (final fm (conf g fm b))))

    pub offered-open : final fm (conf g fm b) ≡ false → b.steps < 32
        → offered g fm n (thread g fm b ∷ []) ≡ keep (Runs.hopeful (machine g fm) n) (thread g fm b ∷ [])
    offered-open e l = offered-by true (unended-is ∙ ap (λ z. not z && leb b.steps 31) e ∙ le-leb b.steps 31 (omega arith))

  -- ---- what a thread offers

  offered-append : (n : ℕ) (xs ys : List (Runs.Thread (machine g fm))) → offered g fm n (xs ++ ys) ≡ offered g fm n xs ++ offered g fm n ys
  offered-append n xs ys =
      ap (keep (Runs.hopeful (machine g fm) n)) (keep_append (Runs.unended (machine g fm)) xs ys)
      ∙ keep_append (Runs.hopeful (machine g fm) n) (keep (Runs.unended (machine g fm)) xs) (keep (Runs.unended (machine g fm)) ys)

  -- the steps from k on: what step k leaves, then what those after it leave
  pub offers-next : (t : Thread) (n k s : ℕ) → k < s
      → offered g fm n (Runs.firing (machine g fm) (thread g fm t) n k (s - k)) ≡ offered g fm n (move_by g fm t n k)
      ++ offered g fm n (Runs.firing (machine g fm) (thread g fm t) n (k + 1) (s - (k + 1)))
  offers-next t n k s l =
      let one : k + 1 ≡ suc k = omega arith in
      ap (offered g fm n) (firing-next g fm t n k (s - k) (s - suc k) (omega arith))
      ∙ offered-append n (move_by g fm t n k) (Runs.firing (machine g fm) (thread g fm t) n (suc k) (s - suc k))
      ∙ ap (λ j. offered g fm n (move_by g fm t n k) ++ offered g fm n (Runs.firing (machine g fm) (thread g fm t) n j (s - j))) (sym one)

  -- a step that ends runs leaves what those after it leave
  pub offers-past : (t : Thread) (n k s : ℕ) → k < s → ((d : Config) → fire_at g fm (conf g fm t) n k ≡ some d → final fm d ≡ true)
      → offered g fm n (Runs.firing (machine g fm) (thread g fm t) n k (s - k))
      ≡ offered g fm n (Runs.firing (machine g fm) (thread g fm t) n (k + 1) (s - (k + 1)))
  offers-past t n k s l o =
      offers-next t n k s l
      ∙ ap (λ (xs : List (Runs.Thread (machine g fm))). xs ++ offered g fm n (Runs.firing (machine g fm) (thread g fm t) n (k + 1) (s - (k + 1))))
      (offered-past t n k o)

  pub offers-done : (t : Thread) (n k s : ℕ) → s ≤ k → offered g fm n (Runs.firing (machine g fm) (thread g fm t) n k (s - k)) ≡ []
  unfolding Runs.firing keep
  offers-done t n k s l =
      let none_left : s - k ≡ 0 = omega arith in
      ap (λ j. offered g fm n (Runs.firing (machine g fm) (thread g fm t) n k j)) none_left

module _ (g : Log) (fm : Formula) (half slots : ℕ) where
  -- ---- inserting

  -- nothing is inserted
  pub within_none : (count : ℕ) (l : List ℕ) (bs : List (Runs.Thread (machine g fm))) → bs ≡ [] → Kept g fm half count l
      → Within g fm half slots (waiting_in g fm half count l) bs l (Some count)
  unfolding insert_within
  within_none count l bs e k = (ap (insert_within (machine g fm) slots (waiting_in g fm half count l)) e, k)

  -- the same threads, named otherwise
  pub within-as : (ths xs ys : List (Runs.Thread (machine g fm))) (after : List ℕ) (r : Maybe ℕ) → xs ≡ ys → Within g fm half slots ths ys after r
      → Within g fm half slots ths xs after r
  within-as ths xs ys after r e h = subst (λ (z : List (Runs.Thread (machine g fm))). Within g fm half slots ths z after r) (sym e) h

  -- What is left to insert: the threads bs, into the list of r threads that stands in the half; the whole gives `whole`.
  pub record Left (whole : Option (List (Runs.Thread (machine g fm)))) (bs : List (Runs.Thread (machine g fm))) (after : List ℕ) (r : ℕ) : Type 0 where
    pub is : whole ≡ insert_within (machine g fm) slots (waiting_in g fm half r after) bs
    pub kept : Kept g fm half r after

  module _ (whole : Option (List (Runs.Thread (machine g fm)))) (xs ys : List (Runs.Thread (machine g fm))) (mid after : List ℕ) (r : ℕ)
      (left : Left whole (xs ++ ys) mid r) where
    both : whole ≡ chain (machine g fm) (insert_within (machine g fm) slots (waiting_in g fm half r mid) xs) (λ more. insert_within (machine g fm) slots more ys)
    both = left.is ∙ within-append (machine g fm) slots (waiting_in g fm half r mid) xs ys

    -- the first of them fit
    pub left-next : (s : ℕ) → Within g fm half slots (waiting_in g fm half r mid) xs after (Some s) → Left whole ys after s
    left-next s p = record { is = both ∙ ap (λ o. chain (machine g fm) o (λ more. insert_within (machine g fm) slots more ys)) p.0; kept = p.1 }

    -- they need one slot more
    pub left-stopped : Within g fm half slots (waiting_in g fm half r mid) xs after None → whole ≡ none
    left-stopped p = both ∙ ap (λ o. chain (machine g fm) o (λ more. insert_within (machine g fm) slots more ys)) p

  -- the same threads, named otherwise
  pub left_as : (whole : Option (List (Runs.Thread (machine g fm)))) (xs ys : List (Runs.Thread (machine g fm))) (after : List ℕ) (r : ℕ) → xs ≡ ys
      → Left whole xs after r → Left whole ys after r
  left_as whole xs ys after r e h = subst (λ (z : List (Runs.Thread (machine g fm))). Left whole z after r) e h

  -- nothing at all
  pub left-none : (whole : Option (List (Runs.Thread (machine g fm)))) (bs : List (Runs.Thread (machine g fm))) (after : List ℕ) (r : ℕ) → bs ≡ []
      → Left whole bs after r → Placed g fm half whole after (Some r)
  left-none whole bs after r e h = let w = within_none r after bs e h.kept in (h.is ∙ w.0, w.1)

  -- one thread was inserted
  module _ (count : ℕ) (b : Thread) (before after : List ℕ) (r : ℕ) (i : Inserted (same_as g fm b) half count slots b before after r) where
    abbrev more : List Thread
    more = insert_thread (same_as g fm b) b (list half count before)

    inserted : insert (machine g fm) (thread g fm b) (waiting_in g fm half count before) ≡ map (thread g fm) more
    inserted = sym (insert-is g fm b (list half count before))

    longer : length (insert (machine g fm) (thread g fm b) (waiting_in g fm half count before)) ≡ r
    longer = ap length inserted ∙ length-map more (thread g fm) ∙ sym i.counted

    pub one-fits : Kept g fm half count before → Going g fm b → r ≤ slots
        → Within g fm half slots (waiting_in g fm half count before) (thread g fm b ∷ []) after (Some r)
    unfolding insert_within
    one-fits k w l =
        let q = i.listed l in (
          within-fits (machine g fm) slots (waiting_in g fm half count before) (thread g fm b) [] (omega (arith, longer))
              ∙ ap (λ (z : List (Runs.Thread (machine g fm))). some z) (inserted ∙ ap (map (thread g fm)) (sym q)),
          record {
            fit = subst (All (Fit g fm)) (sym q) (insert_all (Fit g fm) (same_as g fm b) b (list half count before) w.fit k.fit);
            short = subst (All (λ (t : Thread). t.steps < 32)) (sym q)
                (insert_all (λ (t : Thread). t.steps < 32) (same_as g fm b) b (list half count before) w.short k.short);
          },
        )

    pub one-over : slots < r → Within g fm half slots (waiting_in g fm half count before) (thread g fm b ∷ []) after None
    one-over l = within-over (machine g fm) slots (waiting_in g fm half count before) (thread g fm b) [] (omega (arith, longer))

  module _ (n count : ℕ) (b : Thread) (before : List ℕ) where
    -- some step of its state is not expired
    pub wait-in : (after : List ℕ) (r : Maybe ℕ) → true ≡ Runs.any_alive (machine g fm) (conf g fm b) n 8
        → Within g fm half slots (waiting_in g fm half count before) (thread g fm b ∷ []) after r
        → Within g fm half slots (waiting_in g fm half count before) (keep (Runs.hopeful (machine g fm) n) (thread g fm b ∷ [])) after r
    unfolding keep Runs.hopeful
    wait-in after r e w = subst (λ z. Within g fm half slots (waiting_in g fm half count before) (only z (thread g fm b) []) after r) e w

    pub wait-out : Kept g fm half count before → false ≡ Runs.any_alive (machine g fm) (conf g fm b) n 8
        → Within g fm half slots (waiting_in g fm half count before) (keep (Runs.hopeful (machine g fm) n) (thread g fm b ∷ [])) before (Some count)
    unfolding keep Runs.hopeful
    wait-out k e =
        subst (λ z. Within g fm half slots (waiting_in g fm half count before) (only z (thread g fm b) []) before (Some count)) e
        (within_none count before [] refl k)

-- one thread was inserted where it was found
pub insert-by : (s : Scene) (z : Seats) (b : Thread) (before after : List ℕ) (at r : Maybe ℕ) → z.half < 2 → FoundIs s z b before at
    → InsertedAt z.half z.count z.slots at b before after r → InsertIs s z b before after r
insert-by s z b before after at None two found i = (
  grown-insert z.half z.count z.slots before after (z.slots + 1) None two tt i.around,
  λ g fm stands k w.
      one-over g fm z.half z.slots z.count b before after (z.slots + 1) (i.inserted (same_as g fm b) (found g fm stands k w.fit)) (omega arith),
)
insert-by s z b before after at (Some r) two found i =
    let h : r ≤ z.slots = omega (arith, (found-below (z.slots + 1) r r i.within).1) in (
      grown-insert z.half z.count z.slots before after r (Some r) two h i.around,
      λ g fm stands k w.
          one-fits g fm z.half z.slots z.count b before after r (i.inserted (same_as g fm b) (found g fm stands k w.fit)) k w h,
    )
