-- On a log without 03 a step fires, and is hopeless, in the words that the paper had before there were absent fields, and a search is answered as it was.
use Prim.Native.Nat.{ℕ, suc, ◌<◌}
use mathlib.Core.Path.{◌≡◌, refl, ap, sym, subst, ◌∙◌}
use mathlib.Core.Bool.{Bool, true, false, not, ◌&&◌, ◌||◌, cond}
use mathlib.Core.List.{List, [], ◌∷◌, map}
use mathlib.Core.Option.{Option, none, some}
use native.Mathlib.Omega.{arith}
use lib.ListN.{length, get_or, length-map, get_or-map}
use lib.Dec.{eqb}
use Rattle.base.specs.Lists.{All}
use Rattle.base.proofs.Lists.{All-at}
use Rattle.base.proofs.Tests.{and-true, or_right}
use Rattle.event_log.specs.Log.{Kind, Event, Log, event_at, stretch_at}
use Rattle.event_log.specs.File.{log_of}
use Rattle.event_log.specs.Latest.{latest, latest_at}
use Rattle.event_log.proofs.AsBefore.{plain_file, whole, present-some, field-some, all-present, latest-plain}
use Rattle.formula.specs.Formula.{Formula, Step, Clause, TEST, TESTV, BIND, GATHER}
use Rattle.formula.specs.Formula.{Leaf, CONST, VAR, COUNT, SUM, LENGTH, DIFFERENT, Expr, LEAF, ADD, SUB, LESS, ATMOST, EQUAL, NOT, AND, OR, IF}
use Rattle.formula.specs.Encode.{CLAUSE, step_commands}
use Rattle.formula.specs.Correct.{Correct, Exists}
use Rattle.formula.specs.Lookup.{step_at}
use Rattle.formula.proofs.Steps.{right-step}
use Rattle.runs.specs.Machine.{Machine}
use Rattle.runs.specs.inner.Search.{search}
use Rattle.runs.proofs.Alike.{search-alike}
use Rattle.machine.specs.Configuration.{Config, same, start, add_one, add_to}
use Rattle.machine.specs.Guard.{guard_holds}
use Rattle.machine.specs.Firing.{holds, value_of, is_held, hold, bind_all, gather_all, leave, all_pass, fires, fire}
use Rattle.machine.specs.Expiry.{rises, first_bind, missed, any_past_due, guard_falls, arrived, gathers_known, leaf_known, known, guard_known, expired}
use Rattle.machine.specs.Machine.{fire_by, fire_at, expired_by, expired_at, committed, final, machine}
use Rattle.machine.proofs.Walk.{clauses-exist}

-- the words of before, with a value for each field
abbrev pub passes_before : Config → Config → List ℕ → Clause → Bool
passes_before c d e (TEST f o x) = holds o (get_or e f 0) x
passes_before c d e (TESTV f o v) = holds o (get_or e f 0) (value_of c v)
passes_before c d e (BIND f v) = eqb (get_or e f 0) (value_of d v)
passes_before c d e (GATHER f v) = true

abbrev pub all_pass_before : Config → Config → List ℕ → List Clause → Bool
all_pass_before c d e [] = true
all_pass_before c d e (k ∷ ks) = passes_before c d e k && all_pass_before c d e ks

abbrev pub past_due_before : List Kind → Config → List ℕ → Clause → Bool
past_due_before fields c x (TEST f o y) = rises fields f && missed o (get_or x f 0) y
past_due_before fields c x (TESTV f o v) = rises fields f && missed o (get_or x f 0) (value_of c v)
past_due_before fields c x (BIND f v) = false
past_due_before fields c x (GATHER f v) = false

abbrev pub any_past_due_before : List Kind → Config → List ℕ → List Clause → Bool
any_past_due_before fields c x [] = false
any_past_due_before fields c x (k ∷ ks) = past_due_before fields c x k || any_past_due_before fields c x ks

abbrev pub bind_all_before : Config → List ℕ → List Clause → Config
bind_all_before c e [] = c
bind_all_before c e (TEST f o x ∷ ks) = bind_all_before c e ks
bind_all_before c e (TESTV f o v ∷ ks) = bind_all_before c e ks
bind_all_before c e (BIND f v ∷ ks) = bind_all_before (hold c v (get_or e f 0)) e ks
bind_all_before c e (GATHER f v ∷ ks) = bind_all_before c e ks

abbrev pub gather_all_before : List (List ℕ) → List ℕ → List Clause → List (List ℕ)
gather_all_before ls e [] = ls
gather_all_before ls e (TEST f o x ∷ ks) = gather_all_before ls e ks
gather_all_before ls e (TESTV f o v ∷ ks) = gather_all_before ls e ks
gather_all_before ls e (BIND f v ∷ ks) = gather_all_before ls e ks
gather_all_before ls e (GATHER f v ∷ ks) = gather_all_before (add_to ls v (get_or e f 0)) e ks

-- what a step leaves, fires by and is hopeless by, on an event with these values
abbrev pub leave_before : Config → Step → List ℕ → Config
leave_before c s e = record {
  state = s.target;
  held = (bind_all_before c e s.clauses).held;
  values = (bind_all_before c e s.clauses).values;
  counters = add_one c.counters c.state;
  lists = gather_all_before c.lists e s.clauses;
}

abbrev pub fire_before : Config → Step → List ℕ → Option Config
fire_before c s e =
    cond (all_pass_before c (leave_before c s e) e s.clauses && guard_holds (leave_before c s e) s.guard) (some (leave_before c s e)) none

abbrev pub expired_before : List Kind → Config → Step → List ℕ → Bool
expired_before fields c s x =
    any_past_due_before fields c x s.clauses || (guard_falls fields c s.clauses s.guard && not (guard_holds (leave_before c s x) s.guard))

-- an event with every field that the clauses read
module _ (e : List ℕ) where
  abbrev Reads : List Clause → Type 0
  Reads ks = All (λ (k : Clause). Exists (length e) (CLAUSE k)) ks

  binds-before : (c : Config) (ks : List Clause) → bind_all c (map some e) ks ≡ bind_all_before c e ks
  binds-before c [] = refl
  binds-before c (TEST f o x ∷ ks) = binds-before c ks
  binds-before c (TESTV f o v ∷ ks) = binds-before c ks
  binds-before c (BIND f v ∷ ks) = rw (field-some e f) (binds-before (hold c v (get_or e f 0)) ks)
  binds-before c (GATHER f v ∷ ks) = binds-before c ks

  gathers-before : (ls : List (List ℕ)) (ks : List Clause) → gather_all ls (map some e) ks ≡ gather_all_before ls e ks
  gathers-before ls [] = refl
  gathers-before ls (TEST f o x ∷ ks) = gathers-before ls ks
  gathers-before ls (TESTV f o v ∷ ks) = gathers-before ls ks
  gathers-before ls (BIND f v ∷ ks) = gathers-before ls ks
  gathers-before ls (GATHER f v ∷ ks) = rw (field-some e f) (gathers-before (add_to ls v (get_or e f 0)) ks)

  leaves-before : (c : Config) (s : Step) → leave c s (map some e) ≡ leave_before c s e
  unfolding leave
  leaves-before c s = rw (binds-before c s.clauses, gathers-before c.lists s.clauses)

  passes-before : (c d : Config) (ks : List Clause) → Reads ks → all_pass c d (map some e) ks ≡ all_pass_before c d e ks
  passes-before c d [] r = refl
  passes-before c d (TEST f o x ∷ ks) r = rw (present-some e f r.0.0, field-some e f, passes-before c d ks r.1)
  passes-before c d (TESTV f o v ∷ ks) r = rw (present-some e f r.0.0, field-some e f, passes-before c d ks r.1)
  passes-before c d (BIND f v ∷ ks) r = rw (present-some e f r.0.0, field-some e f, passes-before c d ks r.1)
  passes-before c d (GATHER f v ∷ ks) r = rw (present-some e f r.0.0, passes-before c d ks r.1)

  due-before : (fields : List Kind) (c : Config) (ks : List Clause) → Reads ks → any_past_due fields c (map some e) ks ≡ any_past_due_before fields c e ks
  due-before fields c [] r = refl
  due-before fields c (TEST f o x ∷ ks) r = rw (present-some e f r.0.0, field-some e f, due-before fields c ks r.1)
  due-before fields c (TESTV f o v ∷ ks) r = rw (present-some e f r.0.0, field-some e f, due-before fields c ks r.1)
  due-before fields c (BIND f v ∷ ks) r = due-before fields c ks r.1
  due-before fields c (GATHER f v ∷ ks) r = due-before fields c ks r.1

  -- every field named has a value
  bound-there : (ks : List Clause) (v : ℕ) → Reads ks → arrived (map some e) (first_bind ks v) ≡ true
  bound-there [] v r = refl
  bound-there (TEST f o x ∷ ks) v r = bound-there ks v r.1
  bound-there (TESTV f o u ∷ ks) v r = bound-there ks v r.1
  bound-there (GATHER f u ∷ ks) v r = bound-there ks v r.1
  bound-there (BIND f u ∷ ks) v r = go (eqb u v) (bound-there ks v r.1)
    where
      go : (b : Bool) → arrived (map some e) (first_bind ks v) ≡ true → arrived (map some e) (cond b (some f) (first_bind ks v)) ≡ true
      go true h = present-some e f r.0.0
      go false h = h

  gathered-there : (ks : List Clause) (v : ℕ) → Reads ks → gathers_known (map some e) ks v ≡ true
  gathered-there [] v r = refl
  gathered-there (TEST f o x ∷ ks) v r = gathered-there ks v r.1
  gathered-there (TESTV f o u ∷ ks) v r = gathered-there ks v r.1
  gathered-there (BIND f u ∷ ks) v r = gathered-there ks v r.1
  gathered-there (GATHER f u ∷ ks) v r = rw (present-some e f r.0.0, gathered-there ks v r.1) (go (eqb u v))
    where
      go : (b : Bool) → (cond b true true && true) ≡ true
      go true = refl
      go false = refl

  module _ (c : Config) (ks : List Clause) (r : Reads ks) where
    leaf-known : (l : Leaf) → leaf_known c ks (map some e) l ≡ true
    leaf-known (CONST y) = refl
    leaf-known (VAR v) = or_right (is_held c v) (arrived (map some e) (first_bind ks v)) (bound-there ks v r)
    leaf-known (COUNT s) = refl
    leaf-known (SUM v) = gathered-there ks v r
    leaf-known (LENGTH v) = refl
    leaf-known (DIFFERENT v) = refl

    all_known : (x : Expr) → known c ks (map some e) x ≡ true
    unfolding known
    all_known (LEAF l) = leaf-known l
    all_known (ADD a b) = and-true _ _ (all_known a) (all_known b)
    all_known (SUB a b) = and-true _ _ (all_known a) (all_known b)
    all_known (LESS a b) = and-true _ _ (all_known a) (all_known b)
    all_known (ATMOST a b) = and-true _ _ (all_known a) (all_known b)
    all_known (EQUAL a b) = and-true _ _ (all_known a) (all_known b)
    all_known (NOT a) = all_known a
    all_known (AND a b) = and-true _ _ (all_known a) (all_known b)
    all_known (OR a b) = and-true _ _ (all_known a) (all_known b)
    all_known (IF a b d) = and-true _ _ (all_known a) (and-true _ _ (all_known b) (all_known d))

    guard-known : (g : Option Expr) → guard_known c ks (map some e) g ≡ true
    guard-known none = refl
    guard-known (some g) = all_known g

  fire-before : (c : Config) (s : Step) → Reads s.clauses → fire c s (map some e) ≡ fire_before c s e
  unfolding fire fires
  fire-before c s r = rw (leaves-before c s, passes-before c (leave_before c s e) s.clauses r)

  expired-before : (fields : List Kind) (c : Config) (s : Step) → Reads s.clauses → expired fields c s (map some e) ≡ expired_before fields c s e
  unfolding expired
  expired-before fields c s r = rw (due-before fields c s.clauses r, guard-known c s.clauses r s.guard, leaves-before c s)

-- the machine of a log of 02 alone, by its fields' kinds and its events' values, in the words of before
abbrev fire_by_before : Option Step → Config → List ℕ → Option Config
fire_by_before none c e = none
fire_by_before (some s) c e = fire_before c s e

abbrev expired_by_before : List Kind → Option Step → Config → List ℕ → Bool
expired_by_before fields none c x = true
expired_by_before fields (some s) c x = expired_before fields c s x

abbrev pub machine_before : List Kind → List (List ℕ) → Formula → Machine
machine_before ks vs fm = record {
  Config = Config;
  same = same;
  start = start;
  committed = committed fm;
  final = final fm;
  fire = λ c n k. fire_by_before (step_at fm c.state k) c (get_or vs n []);
  expired = λ c k n. expired_by_before ks (step_at fm c.state k) c (get_or vs n []);
  steps = 8;
  stretch = λ n. 0;
  events = length vs;
}

-- A log of 02 alone, and a formula that is correct against it
module _ (ks : List Kind) (vs : List (List ℕ)) (fm : Formula) (one : All (λ (v : List ℕ). length v ≡ length ks) vs) (right : Correct (length ks) fm) where
  abbrev log : Log
  log = record { fields = ks; events = map whole vs }

  one-stretch : (n : ℕ) → stretch_at log n ≡ 0
  unfolding event_at
  one-stretch n = ap (λ (e : Event). e.stretch) (get_or-map whole vs n [])

  -- on every event each step fires as before, and is judged as before: by that event's values
  module _ (n : ℕ) (h : n < length vs) where
    abbrev values : List ℕ
    values = get_or vs n []

    event_is : (event_at log n).values ≡ map some values
    unfolding event_at
    event_is = ap (λ (e : Event). e.values) (get_or-map whole vs n [])

    reads : (s k : ℕ) (t : Step) → step_at fm s k ≡ some t → All (λ (c : Clause). Exists (length values) (CLAUSE c)) t.clauses
    unfolding step_commands
    reads s k t e =
        subst (λ m. All (λ (c : Clause). Exists m (CLAUSE c)) t.clauses) (sym (All-at (λ (v : List ℕ). length v ≡ length ks) vs n [] one h))
        (clauses-exist (length ks) t.clauses t.guard (right-step (length ks) fm s k t right e).exist.1)

    pub fires-before : (c : Config) (k : ℕ) → fire_at log fm c n k ≡ fire_by_before (step_at fm c.state k) c values
    unfolding fire_at
    fires-before c k = rw event_is (go (step_at fm c.state k) refl)
      where
        go : (o : Option Step) → step_at fm c.state k ≡ o → fire_by o c (map some values) ≡ fire_by_before o c values
        go none e = refl
        go (some t) e = fire-before values c t (reads c.state k t e)

    seen_is : latest_at log n ≡ map some values
    seen_is = ap (λ s. latest log s (suc n)) (one-stretch n) ∙ latest-plain ks vs one n h

    pub expires-before : (c : Config) (k : ℕ) → expired_at log fm c k n ≡ expired_by_before ks (step_at fm c.state k) c values
    unfolding expired_at
    expires-before c k = rw seen_is (go (step_at fm c.state k) refl)
      where
        go : (o : Option Step) → step_at fm c.state k ≡ o → expired_by ks o c (map some values) ≡ expired_by_before ks o c values
        go none e = refl
        go (some t) e = expired-before values ks c t (reads c.state k t e)

  -- so that a search from any event, with any number of slots, is answered as before.
  pub search-before : (slots i : ℕ) → search (machine (log_of (plain_file ks vs)) fm) slots i ≡ search (machine_before ks vs fm) slots i
  search-before slots i =
      rw (all-present vs)
      (search-alike (machine log fm) (machine_before ks vs fm).fire (machine_before ks vs fm).expired
      (λ c n k h. fires-before n (omega (arith, h, length-map vs whole)) c k)
      (λ c k n h. expires-before n (omega (arith, h, length-map vs whole)) c k) (λ n. 0) (length vs) one-stretch (length-map vs whole) slots i)
