-- A kept thread's lists: read back they are those gathered along its trail, and its tallies are theirs.
use Prim.Native.Nat.{ℕ, zero, suc, ◌+◌, ◌*◌, ◌/◌, ◌<◌, ◌≤◌, min}
use mathlib.Core.Path.{◌≡◌, refl, ap, sym, ◌∙◌}
use mathlib.Core.Bool.{Bool, true, false, not}
use mathlib.Core.List.{List, [], ◌∷◌, map}
use native.Mathlib.Omega.{arith}
use lib.ListN.{length, get_or, drop, take, replicate, length-drop}
use lib.Seq.{get_or-drop, get_or-append-add, ext_get_or, length-take-le}
use lib.Dec.{eqb}
use Rattle.base.specs.Lists.{All, same_list}
use Rattle.event_log.specs.Log.{Values, Log, field}
use Rattle.event_log.proofs.LastSeen.{length-event}
use Rattle.formula.specs.Formula.{Formula}
use Rattle.formula.specs.Lookup.{step_table}
use Rattle.formula.proofs.Places.{table-length}
use Rattle.runs.specs.Run.{Entry}
use Rattle.machine.specs.Configuration.{list_of}
use Rattle.machine.specs.Guard.{among}
use Rattle.machine.specs.inner.Along.{first, gathered, IsFresh}
use Rattle.machine.proofs.Along.{gathered-4, gathered-short}
use Rattle.guard_code.proofs.Tallies.{length_at}
use Rattle.machine_code.proofs.FiringOnBytes.{Carries}
use Rattle.slots.specs.declared.Thread.{Thread}
use Rattle.slots.specs.inner.Threads.{entry_of, trail_of}
use Rattle.lists.specs.inner.Words.{Holds, read_back}
use Rattle.lists.proofs.Holding.{holds-none}
use Rattle.lists.proofs.Back.{back-holds}
use Rattle.threads.specs.declared.Rules.{Rules}
use Rattle.threads.specs.declared.Moment.{Moment}
use Rattle.threads.specs.inner.Setting.{Scene, Fit}
use Rattle.threads.proofs.Steps.{trail-length}
use Rattle.threads.proofs.Charts.{charted}

-- the events of a trail's words
words_inside : (n : ℕ) (ws : List ℕ) → All (λ (x : Entry). x.event < n) (map entry_of ws) → All (λ w. w / 8 < n) ws
words_inside n [] h = tt
words_inside n (w ∷ ws) h = (h.0, words_inside n ws h.1)

-- the marks of eight values
eight : (p : ℕ → Bool) (rest : List Bool) (f : ℕ) → f < 8 → get_or (p 0 ∷ p 1 ∷ p 2 ∷ p 3 ∷ p 4 ∷ p 5 ∷ p 6 ∷ p 7 ∷ rest) f false ≡ p f
eight p rest zero h = refl
eight p rest (suc zero) h = refl
eight p rest (suc (suc zero)) h = refl
eight p rest (suc (suc (suc zero))) h = refl
eight p rest (suc (suc (suc (suc zero)))) h = refl
eight p rest (suc (suc (suc (suc (suc zero))))) h = refl
eight p rest (suc (suc (suc (suc (suc (suc zero)))))) h = refl
eight p rest (suc (suc (suc (suc (suc (suc (suc zero))))))) h = refl
eight p rest (suc (suc (suc (suc (suc (suc (suc (suc f)))))))) h = absurd (omega arith)

module _ (ls : List (List ℕ)) (e : Values) where
  -- the marks of n lists from list v on
  marks_from : ℕ → ℕ → List Bool
  marks_from v zero = []
  marks_from v (suc n) =
      let p : ℕ → Bool = λ f. not (among (field e f) (list_of ls v)) in
      p 0 ∷ p 1 ∷ p 2 ∷ p 3 ∷ p 4 ∷ p 5 ∷ p 6 ∷ p 7 ∷ marks_from (suc v) n

  marks-told : (v n u f : ℕ) → u < n → f < 8 → get_or (marks_from v n) (u * 8 + f) false ≡ not (among (field e f) (list_of ls (v + u)))
  unfolding marks_from
  marks-told v zero u f h k = absurd (omega arith)
  marks-told v (suc n) zero f h k =
      let p : ℕ → Bool = λ f. not (among (field e f) (list_of ls v)) in
      let i : 0 * 8 + f ≡ f = omega arith in
      let w : v + 0 ≡ v = omega arith in
      rw (i, w) (eight p (marks_from (suc v) n) f k)
  marks-told v (suc n) (suc u) f h k =
      let p : ℕ → Bool = λ f. not (among (field e f) (list_of ls v)) in
      let i : suc u * 8 + f ≡ 8 + (u * 8 + f) = omega arith in
      let w : v + suc u ≡ suc v + u = omega arith in
      rw (i, w)
      (get_or-append-add (p 0 ∷ p 1 ∷ p 2 ∷ p 3 ∷ p 4 ∷ p 5 ∷ p 6 ∷ p 7 ∷ []) (marks_from (suc v) n) (u * 8 + f) false
      ∙ marks-told (suc v) n u f (omega arith) k)

  -- there are marks that tell which of an event's values are new
  pub some_fresh : List Bool
  some_fresh = marks_from 0 4

  pub some-fresh : IsFresh ls e some_fresh
  unfolding some_fresh
  some-fresh v f h k =
      let w : 0 + v ≡ v = omega arith in
      marks-told 0 4 v f h k ∙ ap (λ i. not (among (field e f) (list_of ls i))) w

-- every one of n marks is set
all_set : (n j : ℕ) → j < n → get_or (replicate n true) j false ≡ true
all_set zero j h = absurd (omega arith)
all_set (suc n) zero h = refl
all_set (suc n) (suc j) h = all_set n j (omega arith)

-- four lists without values
empties : (ms : List (List ℕ)) → length ms ≡ 4 → ((v : ℕ) → v < 4 → length (list_of ms v) ≡ 0) → ms ≡ replicate 4 []
empties [] h k = absurd (omega arith)
empties (a ∷ []) h k = absurd (omega arith)
empties (a ∷ b ∷ []) h k = absurd (omega arith)
empties (a ∷ b ∷ c ∷ []) h k = absurd (omega arith)
empties (a ∷ b ∷ c ∷ d ∷ e ∷ ms) h k = absurd (omega arith)
empties (a ∷ b ∷ c ∷ d ∷ []) h k = rw (nil a (k 0 (omega arith)), nil b (k 1 (omega arith)), nil c (k 2 (omega arith)), nil d (k 3 (omega arith)))
  where
    nil : (l : List ℕ) → length l ≡ 0 → l ≡ []
    nil [] h = refl
    nil (x ∷ l) h = absurd (omega arith)

-- a thread whose tallies say so has gathered nothing
pub nothing-in : (g : Log) (fm : Formula) (t : Thread) → Fit g fm t → ((v : ℕ) → v < 4 → get_or t.config.tallies (4 + v) 0 ≡ 0)
    → gathered g fm (trail_of t) ≡ replicate 4 []
nothing-in g fm t w h =
    empties (gathered g fm (trail_of t)) (gathered-4 g fm (trail_of t))
    (λ v k.
    sym (length_at (gathered g fm (trail_of t)) (gathered-4 g fm (trail_of t)) v k) ∙ ap (λ (x : List ℕ). get_or x (4 + v) 0) (sym w.tallies_are) ∙ h v k)

-- two such threads have gathered the same
pub same-nothing : (g : Log) (fm : Formula) (a b : Thread) → Fit g fm a → Fit g fm b → ((v : ℕ) → v < 4 → get_or a.config.tallies (4 + v) 0 ≡ 0)
    → ((v : ℕ) → v < 4 → get_or b.config.tallies (4 + v) 0 ≡ 0)
    → true ≡ same_list (same_list eqb) (gathered g fm (trail_of a)) (gathered g fm (trail_of b))
same-nothing g fm a b v w h k = rw (nothing-in g fm a v h, nothing-in g fm b w k)

module _ (g : Log) (fm : Formula) {l places : List ℕ} (f table : List ℕ) (rules : Rules) (m : Moment) (s : Scene g fm l places f table rules m) (t : Thread)
    (w : Fit g fm t) where
  -- the third part of the event's table is the table of the formula's steps
  third-part : drop 256 table ≡ step_table fm
  third-part =
      ext_get_or 0 (drop 256 table) (step_table fm) (omega (arith, length-drop 256 table, s.offsets.sized, table-length fm))
      (λ i h. get_or-drop 256 table i 0 ∙ s.offsets.plain i (omega (arith, length-drop 256 table, s.offsets.sized)))

  -- as many entries as steps, at most 32
  trail_is : length (trail_of t) ≡ t.steps
  trail_is = trail-length t w.trail_32 w.most

  short : (v : ℕ) → v < 4 → length (list_of (gathered g fm (trail_of t)) v) ≤ 32
  short v h = omega (arith, gathered-short g fm (length g.fields) s.setting.formula v h (trail_of t), trail_is, w.most)

  -- the words read back hold the lists
  pub back : Holds (gathered g fm (trail_of t)) (read_back l places rules.fields f (drop 256 table) 0 (replicate 132 0) (take (min t.steps 32) t.trail))
  unfolding trail_of
  back =
      let n : min t.steps 32 ≡ t.steps = omega (arith, w.most) in
      rw (n, third-part, s.setting.fields_are)
      (back-holds g fm l places f (step_table fm) s.leads
      (λ k h. omega (arith, length-event g s.setting.log k h, s.setting.log.most_fields)) s.setting.formula
      (charted g fm f (step_table fm) rules s.setting) first (take t.steps t.trail) (replicate 132 0)
      (words_inside (length g.events) (take t.steps t.trail) w.inside) refl
      (λ v h. omega (arith, empty v h, length-take-le t.steps t.trail (omega (arith, w.trail_32, w.most)), w.most))
      (holds-none (replicate 4 []) refl empty))
    where
      empty : (v : ℕ) → v < 4 → length (list_of (replicate 4 []) v) ≡ 0
      empty zero h = refl
      empty (suc zero) h = refl
      empty (suc (suc zero)) h = refl
      empty (suc (suc (suc zero))) h = refl
      empty (suc (suc (suc (suc v)))) h = absurd (omega arith)

  -- where no list has a value every value is new
  pub none-gathered : ((v : ℕ) → v < 4 → get_or t.config.tallies (4 + v) 0 ≡ 0) → (e : Values) → IsFresh (gathered g fm (trail_of t)) e (replicate 32 true)
  none-gathered h e v i four eight =
      let n : length (list_of (gathered g fm (trail_of t)) v) ≡ 0 =
      sym (length_at (gathered g fm (trail_of t)) (gathered-4 g fm (trail_of t)) v four)
      ∙ ap (λ (x : List ℕ). get_or x (4 + v) 0) (sym w.tallies_are) ∙ h v four in
      all_set 32 (v * 8 + i) (omega arith) ∙ sym (ap not (nothing (list_of (gathered g fm (trail_of t)) v) (field e i) n))
    where
      nothing : (xs : List ℕ) (x : ℕ) → length xs ≡ 0 → among x xs ≡ false
      nothing [] x n = refl
      nothing (y ∷ xs) x n = absurd (omega arith)

  -- what the code of one step is given of the lists
  pub carries : (event : Values) (fresh : List Bool) → IsFresh (gathered g fm (trail_of t)) event fresh
      → Carries (length g.fields) (gathered g fm (trail_of t)) t.config event fresh
  carries event fresh new = record {
    few = s.setting.log.most_fields;
    four = gathered-4 g fm (trail_of t);
    short = λ v h. omega (arith, short v h);
    tallied = w.tallies_are;
    new = new;
  }
