-- The code's steps by number are the machine's: what fires, what is expired, the lowest that fires, whether one is not expired.
use Prim.Native.Nat.{ℕ, zero, suc, ◌+◌, ◌<◌, ◌≤◌}
use mathlib.Core.Path.{◌≡◌, refl, ap, sym, ◌∙◌}
use mathlib.Core.Bool.{Bool, true, false, cond, not, ◌&&◌, ◌||◌, true≢false}
use mathlib.Core.List.{List}
use mathlib.Core.Option.{Option, none, some}
use native.Mathlib.Omega.{arith}
use borrow.Author.Tests.{lt-ltb, le-ltb, ltb-true, ltb-false, ne_eqb, eqb-true, eqb-false}
use lib.ListN.{length, get_or}
use lib.Dec.{eqb, ltb}
use Rattle.std.specs.Prelude.{Some, None}
use Rattle.base.specs.Lists.{some_below}
use Rattle.event_log.specs.Log.{Log, event_at, Values}
use Rattle.event_log.specs.Latest.{latest_at}
use Rattle.formula.specs.Formula.{Step, Formula}
use Rattle.formula.specs.Lookup.{step_at}
use Rattle.runs.specs.inner.Search.{any_alive}
use Rattle.machine_code.specs.declared.Configuration.{Configuration}
use Rattle.machine.specs.Configuration.{Config}
use Rattle.machine.specs.Firing.{gather_all}
use Rattle.machine.specs.Expiry.{rises}
use Rattle.machine.specs.Machine.{fire_by, fire_at, expired_by, expired_at, machine}
use Rattle.machine_code.specs.inner.Bytes.{fired, lapsed, config_of, offset_of, is_step, fires_at, expires_at, lowest_from, lowest_of, alive_below}
use Rattle.machine.proofs.Walk.{fire-fields, expired-fields}
use Rattle.machine_code.proofs.FiringOnBytes.{StepAt, Ready, Carries, inside, fire-answer}
use Rattle.machine_code.proofs.ExpiryOnBytes.{expired-encode}

-- an offset of the table is right: 0 where there is no such step, else that of the step's bytes
abbrev pub StepThere : ℕ → List ℕ → ℕ → Option Step → Type 0
StepThere fields f at none = at ≡ 0
StepThere fields f at (some s) = (0 < at) × StepAt fields f at s

-- The table is right for every step of the formula.
pub record Charted (fields : ℕ) (formula : Formula) (f table : List ℕ) : Type 0 where
  pub stands : (s k : ℕ) → k < 8 → StepThere fields f (offset_of table s k) (step_at formula s k)

-- a step fires if it leaves something
abbrev pub is_fired : Option Config → Bool
is_fired none = false
is_fired (some d) = true

answered : (b : Bool) (d : Config) → is_fired (cond b (some d) none) ≡ b
answered true d = refl
answered false d = refl

pub step-there : (fields : ℕ) (f : List ℕ) (at : ℕ) (s : Step) → 0 < at → StepAt fields f at s → is_step f at ≡ true
unfolding is_step
step-there fields f at s h k = rw (ne_eqb at 0 (λ e. omega arith), lt-ltb at (length f) (inside fields f at s k))

module _ (fields : ℕ) (f : List ℕ) (ls : List (List ℕ)) (c : Configuration) (r : Ready c) (fresh : List Bool) where
  -- what is at an offset fires as the step does
  fires-by : (o : Option Step) (at : ℕ) (event : Values) → Carries fields ls c event fresh → StepThere fields f at o
      → (is_step f at && (fired f at c fresh event).fires) ≡ is_fired (fire_by o (config_of ls c) event)
  unfolding is_step
  fires-by none at event k h = rw h
  fires-by (some s) at event k h =
      rw (step-there fields f at s h.0 h.1, fire-answer fields f at ls c s fresh event h.1 r k)
      (sym (answered (fired f at c fresh event).fires (config_of (gather_all ls event s.clauses) (fired f at c fresh event).config)))

  -- and is expired as the step is
  expires-by : (log : Log) (rising : List Bool) → ((g : ℕ) → get_or rising g false ≡ rises log.fields g)
      → (o : Option Step) (at : ℕ) (event : Values) → Carries fields ls c event fresh → StepThere fields f at o
      → (not (is_step f at) || lapsed f at c fresh rising event) ≡ expired_by log.fields o (config_of ls c) event
  unfolding is_step
  expires-by log rising mark none at event k h = rw h
  expires-by log rising mark (some s) at event k h =
      rw (step-there fields f at s h.0 h.1) (expired-encode fields f at s h.1 log.fields rising mark ls c r fresh event k)

-- the machine of a log and a formula
module _ (log : Log) (formula : Formula) (fields : ℕ) (f table : List ℕ) (chart : Charted fields formula f table)
    (ls : List (List ℕ)) (c : Configuration) (r : Ready c) (n : ℕ) (fresh : List Bool) where
  -- on an event whose fields the code holds
  module _ (event : Values) (lists : Carries fields ls c event fresh) (held : (g : ℕ) → get_or event g none ≡ get_or (event_at log n).values g none) where
    same-fire : (o : Option Step) → fire_by o (config_of ls c) event ≡ fire_by o (config_of ls c) (event_at log n).values
    same-fire none = refl
    same-fire (some s) = fire-fields event (event_at log n).values held (config_of ls c) s

    -- Step k fires in the code exactly where it fires in the machine.
    pub fires-machine : (k : ℕ) → k < 8 → fires_at f table c fresh event k ≡ is_fired (fire_at log formula (config_of ls c) n k)
    unfolding fires_at fire_at
    fires-machine k h =
        fires-by fields f ls c r fresh (step_at formula c.state k) (offset_of table c.state k) event lists (chart.stands c.state k h)
        ∙ ap is_fired (same-fire (step_at formula c.state k))

  -- by the latest values of the fields, where the code holds them
  module _ (x : Values) (lists : Carries fields ls c x fresh) (held : (g : ℕ) → get_or x g none ≡ get_or (latest_at log n) g none) (rising : List Bool)
      (mark : (g : ℕ) → get_or rising g false ≡ rises log.fields g) where
    same-expired : (o : Option Step) → expired_by log.fields o (config_of ls c) x ≡ expired_by log.fields o (config_of ls c) (latest_at log n)
    same-expired none = refl
    same-expired (some s) = expired-fields x (latest_at log n) held log.fields (config_of ls c) s

    -- Step k is expired in the code exactly where it is expired in the machine.
    pub expires-machine : (k : ℕ) → k < 8 → expires_at f table c fresh rising x k ≡ expired_at log formula (config_of ls c) k n
    unfolding expires_at expired_at
    expires-machine k h =
        expires-by fields f ls c r fresh log rising mark (step_at formula c.state k) (offset_of table c.state k) x lists
        (chart.stands c.state k h)
        ∙ same-expired (step_at formula c.state k)

    alive-machine : (m : ℕ) → m ≤ 8 → alive_below (expires_at f table c fresh rising x) m ≡ any_alive (machine log formula) (config_of ls c) n m
    unfolding alive_below any_alive
    alive-machine zero h = refl
    alive-machine (suc m) h = rw (expires-machine m (omega arith), alive-machine m (omega arith))

    -- Some step is not expired in the code exactly where the machine's configuration is hopeful.
    pub hopeful-machine : alive_below (expires_at f table c fresh rising x) 8 ≡ any_alive (machine log formula) (config_of ls c) n 8
    hopeful-machine = alive-machine 8 (omega arith)

-- k is the lowest of the 8 numbers that passes the test, 8 where none does
pub record Lowest (p : ℕ → Bool) (k : ℕ) : Type 0 where
  pub most : k ≤ 8
  pub before : (j : ℕ) → j < k → p j ≡ false
  pub here : k < 8 → p k ≡ true

lowest-from : (p : ℕ → Bool) (k n : ℕ) → k + n ≡ 8 → ((j : ℕ) → j < k → p j ≡ false) → Lowest p (lowest_from p k n)
unfolding lowest_from
lowest-from p k zero e h = record { most = omega arith; before = h; here = λ l. absurd (omega arith) }
lowest-from p k (suc n) e h = go (λ h'. lowest-from p (suc k) n (omega arith) h') (p k) refl
  where
    more : p k ≡ false → (b : Bool) → (j : ℕ) → eqb j k ≡ b → j < suc k → p j ≡ false
    more q true j i l = ap p (eqb-true j k i) ∙ q
    more q false j i l = h j (omega (arith, eqb-false j k i))

    go : (((j : ℕ) → j < suc k → p j ≡ false) → Lowest p (lowest_from p (suc k) n)) → (b : Bool) → p k ≡ b → Lowest p (cond b k (lowest_from p (suc k) n))
    go ih true q = record { most = omega arith; before = h; here = λ l. q }
    go ih false q = ih (λ j l. more q (eqb j k) j refl l)

-- What the search yields is the lowest number that passes the test.
pub lowest-means : (p : ℕ → Bool) → Lowest p (lowest_of p)
unfolding lowest_of
lowest-means p = lowest-from p 0 8 (omega arith) (λ j l. absurd (omega arith))

not-below : (a b : ℕ) → (a < b → ⊥) → b ≤ a
not-below a b n = go (ltb a b) refl
  where
    go : (t : Bool) → ltb a b ≡ t → b ≤ a
    go true e = absurd (n (ltb-true a b e))
    go false e = ltb-false a b e

-- So does a search over the numbers in their order that stops at the first that passes.
module _ (p : ℕ → Bool) where
  pub lowest-none : ((j : ℕ) → j < 8 → p j ≡ false) → None ≡ some_below 8 (lowest_of p)
  lowest-none h =
      let l = lowest-means p in
      let n : 8 ≤ lowest_of p = not-below (lowest_of p) 8 (λ i. true≢false (sym (l.here i) ∙ h _ i)) in
      rw (le-ltb (lowest_of p) 8 n)

  pub lowest-some : (k : ℕ) → k < 8 → p k ≡ true → ((j : ℕ) → j < k → p j ≡ false) → Some k ≡ some_below 8 (lowest_of p)
  lowest-some k m q h =
      let l = lowest-means p in
      let a = not-below k (lowest_of p) (λ i. true≢false (sym q ∙ l.before k i)) in
      let b = not-below (lowest_of p) k (λ i. true≢false (sym (l.here (omega arith)) ∙ h _ i)) in
      let e : lowest_of p ≡ k = omega (arith, a, b) in
      rw (e, lt-ltb k 8 m)

-- "the lowest numbered step that fires": the code's answer is the machine's lowest step that fires, 8 where none does.
pub lowest-machine : (log : Log) (formula : Formula) (fields : ℕ) (f table : List ℕ) → Charted fields formula f table
    → (ls : List (List ℕ)) (c : Configuration) → Ready c → (n : ℕ) (fresh : List Bool) (event : Values) → Carries fields ls c event fresh
    → ((g : ℕ) → get_or event g none ≡ get_or (event_at log n).values g none)
    → Lowest (λ k. is_fired (fire_at log formula (config_of ls c) n k)) (lowest_of (fires_at f table c fresh event))
lowest-machine log formula fields f table chart ls c r n fresh event lists held =
    let l = lowest-means (fires_at f table c fresh event) in
    let e = fires-machine log formula fields f table chart ls c r n fresh event lists held in
    record {
      most = l.most;
      before = λ j i. sym (e j (omega (arith, l.most))) ∙ l.before j i;
      here = λ i. sym (e (lowest_of (fires_at f table c fresh event)) i) ∙ l.here i;
    }
