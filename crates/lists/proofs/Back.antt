-- Reading a trail back gives words that hold the lists gathered along it.
use Prim.Native.Nat.{ℕ, zero, suc, ◌+◌, ◌-◌, ◌/◌, ◌%◌, ◌<◌, ◌≤◌}
use mathlib.Core.Path.{◌≡◌, refl, ap, sym, ◌∙◌, subst}
use mathlib.Core.Bool.{Bool, true, false, cond}
use mathlib.Core.List.{List, [], ◌∷◌, ◌++◌, append_assoc, flat_map, map}
use mathlib.Core.Option.{Option, none, some}
use native.Mathlib.Omega.{arith}
use lib.ListN.{length, get_or, drop, replicate, length-append, length-drop}
use lib.Dec.{eqb}
use borrow.Author.Tests.{le-leb, eq-eqb, ne_eqb, eqb-true, eqb-false}
use Rattle.machine.proofs.Walk.{clauses-exist}
use Rattle.base.specs.Lists.{All}
use Rattle.event_log.specs.Log.{Values, Log, event_at, field}
use Rattle.event_log.specs.declared.Event.{Event}
use Rattle.event_log.specs.inner.Loading.{loaded_at, Leads}
use Rattle.event_log.proofs.Fields.{value-shown}
use Rattle.formula.specs.Formula.{Clause, TEST, TESTV, BIND, GATHER, Expr, Step, Formula}
use Rattle.formula.specs.Encode.{CLAUSE, encode_clause}
use Rattle.formula.specs.Correct.{Exists, Correct}
use Rattle.formula.specs.Lookup.{step_at}
use Rattle.machine.specs.Configuration.{list_of, add_to}
use Rattle.machine.specs.Firing.{gather_all}
use Rattle.machine.specs.inner.Along.{Standing, step_to, step, along}
use Rattle.machine.proofs.Gathering.{added, list-add-same, list-add-other}
use Rattle.machine.proofs.Along.{added-once, length-step, short-step}
use Rattle.machine_code.specs.inner.Bytes.{width_of, offset_of}
use Rattle.machine_code.proofs.WalkOnBytes.{byte-from, first_byte, drop_more, width-encode, clauses-length}
use Rattle.machine_code.proofs.FiringOnBytes.{StepAt, guard_bytes, inside, target-byte, behind-step, parts-exist}
use Rattle.machine_code.proofs.SameMachine.{StepThere, Charted}
use Rattle.slots.specs.inner.Threads.{entry_of}
use Rattle.lists.specs.inner.Words.{Holds, add_in, gather_in, gather_from, gather_step, entry_in, target_in, read_back}
use Rattle.lists.proofs.Steps.{entry-none, entry-there, target_none, target-there}
use Rattle.lists.proofs.Holding.{holds-add}

clause-some : (k : Clause) → length (encode_clause k) ≡ 0 → ⊥
unfolding encode_clause
clause-some (TEST f o x) h = omega arith
clause-some (TESTV f o v) h = omega arith
clause-some (BIND f v) h = omega arith
clause-some (GATHER f v) h = omega arith

-- one clause, on an event whose fields the code holds
module _ (f values : List ℕ) (e : Values) (same : (g : ℕ) → get_or values g 0 ≡ field e g) where
  -- a clause that gathers nothing
  gather-nothing : (at c : ℕ) (l : List ℕ) → get_or f at 0 ≡ c → (c ≡ 0x17 → ⊥) → gather_in f values at l ≡ l
  unfolding gather_in
  gather-nothing at c l h n = rw (h, ne_eqb c 0x17 n)

  gather-there : (at g v : ℕ) (l r : List ℕ) → drop at f ≡ 0x17 ∷ g ∷ (8 + v) ∷ r → gather_in f values at l ≡ add_in l v (field e g)
  unfolding gather_in
  gather-there at g v l r h =
      let v-back : 8 + v - 8 ≡ v = omega arith in
      rw (
        first_byte f (0x17 ∷ g ∷ (8 + v) ∷ r) at h,
        byte-from f (0x17 ∷ g ∷ (8 + v) ∷ r) at 2 h,
        byte-from f (0x17 ∷ g ∷ (8 + v) ∷ r) at 1 h,
        le-leb 8 (8 + v)
            (omega arith),
        v-back,
        same g,
      )

  -- list v has room for what the clauses add to it
  abbrev Room : List (List ℕ) → List Clause → Type 0
  Room ls ks = (v : ℕ) → v < 4 → length (list_of ls v) + length (added e ks v) ≤ 32

  room_next : (ls : List (List ℕ)) (g v : ℕ) (ks : List Clause) → length ls ≡ 4 → v < 4 → Room ls (GATHER g v ∷ ks) → Room (add_to ls v (field e g)) ks
  room_next ls g v ks four k room u h = go (eqb v u) refl (room u h)
    where
      go : (b : Bool) → eqb v u ≡ b → length (list_of ls u) + length (cond b (field e g ∷ added e ks u) (added e ks u)) ≤ 32
          → length (list_of (add_to ls v (field e g)) u) + length (added e ks u) ≤ 32
      go true q r =
          let p : v ≡ u = eqb-true v u q in
          let l : list_of (add_to ls v (field e g)) u ≡ list_of ls u ++ (field e g ∷ []) = rw p (list-add-same ls u (field e g) (omega arith)) in
          omega (arith, ap (λ (z : List ℕ). length z) l, length-append (list_of ls u) (field e g ∷ []))
      go false q r = omega (arith, ap (λ (z : List ℕ). length z) (list-add-other ls v u (field e g) (eqb-false v u q)))

  room-here : (ls : List (List ℕ)) (g v : ℕ) (ks : List Clause) → v < 4 → Room ls (GATHER g v ∷ ks) → length (list_of ls v) < 32
  room-here ls g v ks k room =
      let r : length (list_of ls v) + length (field e g ∷ added e ks v) ≤ 32 =
      subst (λ (b : Bool). length (list_of ls v) + length (cond b (field e g ∷ added e ks v) (added e ks v)) ≤ 32) (eq-eqb v v refl) (room v k) in
      omega arith

  -- the clauses of a step, up to a byte that is no clause's command
  gather-clauses : (m fuel at : ℕ) (ks : List Clause) (r : List ℕ) (ls : List (List ℕ)) (l : List ℕ) → drop at f ≡ flat_map encode_clause ks ++ r
      → width_of (get_or r 0 0) ≡ 0 → All (λ k. Exists m (CLAUSE k)) ks → length ks < fuel → Room ls ks → Holds ls l
      → Holds (gather_all ls e ks) (gather_from fuel f values at l)
  unfolding gather_from flat_map encode_clause
  gather-clauses m zero at ks r ls l h stop x k room w = absurd (omega arith)
  gather-clauses m (suc fuel) at [] r ls l h stop x k room w = rw (first_byte f r at h, stop) w
  gather-clauses m (suc fuel) at (c ∷ ks) r ls l h stop x k room w =
      rw (wide, ne_eqb (length (encode_clause c)) 0 (clause-some c))
      (next (λ p ms a q t u. gather-clauses m fuel p ks r ms a q stop x.1 (omega arith) t u) c here x room)
    where
      here : drop at f ≡ encode_clause c ++ (flat_map encode_clause ks ++ r)
      here = h ∙ append_assoc (encode_clause c) (flat_map encode_clause ks) r

      wide : width_of (get_or f at 0) ≡ length (encode_clause c)
      wide = ap width_of (first_byte f (encode_clause c ++ (flat_map encode_clause ks ++ r)) at here) ∙ width-encode c (flat_map encode_clause ks ++ r)

      behind : (d : Clause) → drop at f ≡ encode_clause d ++ (flat_map encode_clause ks ++ r)
          → drop (at + length (encode_clause d)) f ≡ flat_map encode_clause ks ++ r
      behind d q = drop_more f (encode_clause d) (flat_map encode_clause ks ++ r) at q

      -- the clauses behind it, from a place on with the lists so far, hold what they gather
      next : ((p : ℕ) (ms : List (List ℕ)) (a : List ℕ) → drop p f ≡ flat_map encode_clause ks ++ r → Room ms ks → Holds ms a
          → Holds (gather_all ms e ks) (gather_from fuel f values p a))
          → (d : Clause) → drop at f ≡ encode_clause d ++ (flat_map encode_clause ks ++ r) → All (λ j. Exists m (CLAUSE j)) (d ∷ ks) → Room ls (d ∷ ks)
          → Holds (gather_all ls e (d ∷ ks)) (gather_from fuel f values (at + length (encode_clause d)) (gather_in f values at l))
      next more (TEST g o y) q z t = rw (gather-nothing at 0x12 l (first_byte f _ at q) (λ p. omega arith)) (more _ ls l (behind (TEST g o y) q) t w)
      next more (TESTV g o v) q z t = rw (gather-nothing at 0x13 l (first_byte f _ at q) (λ p. omega arith)) (more _ ls l (behind (TESTV g o v) q) t w)
      next more (BIND g v) q z t = rw (gather-nothing at 0x14 l (first_byte f _ at q) (λ p. omega arith)) (more _ ls l (behind (BIND g v) q) t w)
      next more (GATHER g v) q z t =
          rw (gather-there at g v l (flat_map encode_clause ks ++ r) q)
          (more _ (add_to ls v (field e g)) (add_in l v (field e g)) (behind (GATHER g v) q) (room_next ls g v ks w.four z.0.1 t)
          (holds-add ls l w v (field e g) z.0.1 (room-here ls g v ks z.0.1 t)))

-- the bytes behind a step's clauses are no clause's command
behind-clauses : (fields : ℕ) (f : List ℕ) (at : ℕ) (s : Step) (h : StepAt fields f at s)
    → width_of (get_or (guard_bytes s.guard ++ h.after) 0 0) ≡ 0
unfolding width_of
behind-clauses fields f at s h = go s.guard
  where
    low : (b : ℕ) → b < 0x12 → width_of b ≡ 0
    low b k = rw (ne_eqb b 0x12 (λ q. omega arith), ne_eqb b 0x13 (λ q. omega arith), ne_eqb b 0x14 (λ q. omega arith), ne_eqb b 0x17 (λ q. omega arith))

    go : (g : Option Expr) → width_of (get_or (guard_bytes g ++ h.after) 0 0) ≡ 0
    go none = low (get_or h.after 0 0) h.ends
    go (some g) = refl

-- a step on an event whose fields the code holds
step-holds : (fields : ℕ) (f : List ℕ) (at : ℕ) (s : Step) → StepAt fields f at s → (values : List ℕ) (e : Values)
    → ((g : ℕ) → get_or values g 0 ≡ field e g) → (ls : List (List ℕ)) (l : List ℕ) → ((v : ℕ) → v < 4 → length (list_of ls v) < 32) → Holds ls l
    → Holds (gather_all ls e s.clauses) (gather_step f values at l)
unfolding gather_step
step-holds fields f at s h values e same ls l short w =
    let b = behind-step fields f at s h in
    let m = ap length b in
    gather-clauses f values e same fields (suc (length f)) (at + 2) s.clauses (guard_bytes s.guard ++ h.after) ls l b
    (behind-clauses fields f at s h) (clauses-exist fields s.clauses s.guard (parts-exist fields f at s h))
    (omega (
      arith,
      m,
      clauses-length s.clauses,
      inside fields f at s h,
      length-drop (at + 2) f,
      length-append (flat_map encode_clause s.clauses) (guard_bytes s.guard ++ h.after),
    )) (λ v k. omega (arith, short v k, added-once e (replicate 4 false) s.clauses v h.fits.once k)) w

-- A correct log's bytes with the table of its events, and a correct formula's with the table of its steps.
module _ (log : Log) (formula : Formula) (b places : List ℕ) (f table : List ℕ) (leads : Leads b places log)
    (widths : (n : ℕ) → n < length log.events → length (event_at log n).values ≤ 8) (correct : Correct (length log.fields) formula)
    (chart : Charted (length log.fields) formula f table) where
  -- what is loaded has the event's fields
  loaded-fields : (n : ℕ) → n < length log.events → (g : ℕ)
      → get_or (loaded_at b (length log.fields) (get_or places n 0)).event.values g 0 ≡ field (event_at log n).values g
  loaded-fields n h g = ap (λ (e : Event). get_or e.values g 0) (leads.loads n h) ∙ value-shown (event_at log n).values (widths n h) g

  -- one word of the trail
  word_holds : (p : Standing) (w : ℕ) (l : List ℕ) → w / 8 < length log.events → ((v : ℕ) → v < 4 → length (list_of p.lists v) < 32) → Holds p.lists l
      → Holds (step log formula p (entry_of w)).lists (entry_in b places (length log.fields) f (offset_of table p.state (w % 8)) (w / 8) l)
      × (target_in f (offset_of table p.state (w % 8)) p.state ≡ (step log formula p (entry_of w)).state)
  unfolding step
  word_holds p w l there short h = go (step_at formula p.state (w % 8)) (chart.stands p.state (w % 8) (omega arith))
    where
      go : (o : Option Step) → StepThere (length log.fields) f (offset_of table p.state (w % 8)) o
          → Holds (step_to o (event_at log (w / 8)).values p).lists
          (entry_in b places (length log.fields) f (offset_of table p.state (w % 8)) (w / 8) l)
          × (target_in f (offset_of table p.state (w % 8)) p.state ≡ (step_to o (event_at log (w / 8)).values p).state)
      go none s = (
        rw (← entry-none b places (length log.fields) f (offset_of table p.state (w % 8)) (w / 8) l s) h,
        sym (target_none f (offset_of table p.state (w % 8)) p.state s),
      )
      go (some t) s =
          let a = offset_of table p.state (w % 8) in
          let e = loaded_at b (length log.fields) (get_or places (w / 8) 0) in
          let ne : a ≡ 0 → ⊥ = λ q. omega (arith, s.0) in
          let i = inside (length log.fields) f a t s.1 in (
            subst (Holds (gather_all p.lists (event_at log (w / 8)).values t.clauses))
                (entry-there b places (length log.fields) f a (w / 8) l ne i (get_or places (w / 8) 0) e refl refl)
                (step-holds (length log.fields) f a t s.1 e.event.values (event_at log (w / 8)).values
                (loaded-fields (w / 8) there) p.lists l short h),
            sym (target-there f a p.state t.target ne i (sym (target-byte (length log.fields) f a t s.1))),
          )

  -- Reading words of a trail back leaves the lists gathered along it.
  pub back-holds : (p : Standing) (ws : List ℕ) (l : List ℕ) → All (λ w. w / 8 < length log.events) ws → length p.lists ≡ 4
      → ((v : ℕ) → v < 4 → length (list_of p.lists v) + length ws ≤ 32) → Holds p.lists l
      → Holds (along log formula p (map entry_of ws)).lists (read_back b places (length log.fields) f table p.state l ws)
  unfolding along read_back
  back-holds p [] l there four short h = h
  back-holds p (w ∷ ws) l there four short h =
      let q = step log formula p (entry_of w) in
      let x = word_holds p w l there.0 (λ v k. omega (arith, short v k)) h in
      rw x.1
      (back-holds q ws (entry_in b places (length log.fields) f (offset_of table p.state (w % 8)) (w / 8) l) there.1
      (length-step log formula p (entry_of w) ∙ four)
      (λ v k. omega (arith, short v k, short-step log formula (length log.fields) correct v k p (entry_of w) four)) x.0)
