-- Firing in the shape in which code computes it: one walk over the clauses; an event enters by its fields alone.
use Prim.Native.Nat.{ℕ, ◌≤◌, ◌<◌}
use mathlib.Core.Path.{◌≡◌, refl, sym, ap, ◌∙◌}
use mathlib.Core.Bool.{Bool, true, false, ◌&&◌}
use mathlib.Core.List.{List, [], ◌∷◌, ◌++◌, map}
use mathlib.Core.Option.{Option, none}
use native.Mathlib.Omega.{arith}
use native.Mathlib.Decide.{dec_lt}
use lib.ListN.{length, get_or, get_or-eq_default}
use lib.Seq.{get_or-set_same}
use lib.Dec.{eqb}
use Rattle.base.proofs.Tests.{both_ways}
use Rattle.base.specs.Lists.{All}
use Rattle.event_log.specs.Log.{Kind, Values, is_there, or_zero, present, field}
use Rattle.formula.specs.Formula.{Clause, TEST, TESTV, BIND, GATHER, Step, Expr}
use Rattle.formula.specs.Encode.{CLAUSE, guard_commands}
use Rattle.formula.specs.Correct.{Exists}
use Rattle.machine.specs.Configuration.{Config, add_to}
use Rattle.machine.specs.Guard.{guard_holds}
use Rattle.machine.specs.Firing.{holds, value_of, is_held, hold, bind, bind_all, gather_all, leave, passes, all_pass, fires, fire}
use Rattle.machine.specs.Expiry.{any_past_due, guard_known, expired}
use Rattle.machine.specs.inner.Walk.{walk}
use Rattle.machine.proofs.Binding.{hold-held, hold-new, hold-shape, bind-keeps, bind-shape}
use Rattle.machine.proofs.Expiry.{guard-known-stays}

-- a configuration with a place for each variable
pub record Places (c : Config) : Type 0 where
  pub held_8 : length c.held ≡ 8
  pub values_8 : length c.values ≡ 8

places-hold : (c : Config) (v x : ℕ) → Places c → Places (hold c v x)
places-hold c v x p = let s = hold-shape c v x in record { held_8 = s.held-length ∙ p.held_8; values_8 = s.values_length ∙ p.values_8 }

-- a variable that a BIND has met keeps its value through the clauses behind it
settled : (d : Config) (v x : ℕ) (e : Values) (ks : List Clause) → Places d → value_of (bind_all (hold d v x) e ks) v ≡ value_of (hold d v x) v
settled d v x e ks p = go (dec_lt v 8)
  where
    now-held : (b : Bool) → is_held d v ≡ b → v < 8 → is_held (hold d v x) v ≡ true
    now-held true q k = rw (hold-held d v x q) q
    now-held false q k = rw (hold-new d v x q) (get_or-set_same d.held v true false (omega (arith, p.held_8)))

    go : Dec (v < 8) → value_of (bind_all (hold d v x) e ks) v ≡ value_of (hold d v x) v
    go (yes k) = (bind-keeps (hold d v x) e ks v (now-held (is_held d v) refl k)).value-kept
    go (no k) =
        let h : length (hold d v x).values ≤ v = omega (arith, (places-hold d v x p).values_8) in
        let j : length (bind_all (hold d v x) e ks).values ≤ v = omega (arith, (bind-shape (hold d v x) e ks).values_length) in
        get_or-eq_default (bind_all (hold d v x) e ks).values 0 j ∙ sym (get_or-eq_default (hold d v x).values 0 h)

-- a clause passes against what is bound so far exactly when it passes against what all clauses bind
passes-so-far : (c d : Config) (e : Values) (k : Clause) (ks : List Clause) → Places d → passes c (bind_all (bind d e k) e ks) e k ≡ passes c (bind d e k) e k
passes-so-far c d e (TEST f o x) ks p = refl
passes-so-far c d e (TESTV f o v) ks p = refl
passes-so-far c d e (GATHER f v) ks p = refl
passes-so-far c d e (BIND f v) ks p = ap (λ (y : ℕ). present e f && eqb (field e f) y) (settled d v (field e f) e ks p)

places-bind : (d : Config) (e : Values) (k : Clause) → Places d → Places (bind d e k)
places-bind d e (TEST f o x) p = p
places-bind d e (TESTV f o v) p = p
places-bind d e (GATHER f v) p = p
places-bind d e (BIND f v) p = places-hold d v (field e f) p

pub walk-all : (c d : Config) (e : Values) (ks : List Clause) → Places d → all_pass c (bind_all d e ks) e ks ≡ walk c d e ks
walk-all c d e [] p = refl
walk-all c d e (k ∷ ks) p =
    let a = passes-so-far c d e k ks p in
    let b = walk-all c (bind d e k) e ks (places-bind d e k p) in
    rw (a, b)

-- only the values after binding matter
all-pass-values : (c d d' : Config) (e : Values) (ks : List Clause) → d.values ≡ d'.values → all_pass c d e ks ≡ all_pass c d' e ks
all-pass-values c d d' e [] h = refl
all-pass-values c d d' e (TEST f o x ∷ ks) h = ap (λ (b : Bool). (present e f && holds o (field e f) x) && b) (all-pass-values c d d' e ks h)
all-pass-values c d d' e (TESTV f o v ∷ ks) h = ap (λ (b : Bool). (present e f && holds o (field e f) (value_of c v)) && b) (all-pass-values c d d' e ks h)
all-pass-values c d d' e (BIND f v ∷ ks) h = rw (all-pass-values c d d' e ks h, h)
all-pass-values c d d' e (GATHER f v ∷ ks) h = ap (λ (b : Bool). present e f && b) (all-pass-values c d d' e ks h)

-- Firing is the walk and the guard.
pub fires-walk : (c : Config) (s : Step) (e : Values) → Places c
    → fires c s e ≡ (walk c c e s.clauses && guard_holds (leave c s e) s.guard)
unfolding fires leave
fires-walk c s e p =
    let a = all-pass-values c (leave c s e) (bind_all c e s.clauses) e s.clauses refl in
    let b = walk-all c c e s.clauses p in
    rw (a, b)

-- two events with the same fields
module _ (e e' : Values) (same : (f : ℕ) → get_or e f none ≡ get_or e' f none) where
  alike : (f : ℕ) → field e f ≡ field e' f
  alike f = ap or_zero (same f)

  there : (f : ℕ) → present e f ≡ present e' f
  there f = ap is_there (same f)

  bind-fields : (c : Config) (ks : List Clause) → bind_all c e ks ≡ bind_all c e' ks
  bind-fields c [] = refl
  bind-fields c (TEST f o x ∷ ks) = bind-fields c ks
  bind-fields c (TESTV f o v ∷ ks) = bind-fields c ks
  bind-fields c (GATHER f v ∷ ks) = bind-fields c ks
  bind-fields c (BIND f v ∷ ks) = rw (alike f) (bind-fields (hold c v (field e' f)) ks)

  gather-fields : (ls : List (List ℕ)) (ks : List Clause) → gather_all ls e ks ≡ gather_all ls e' ks
  gather-fields ls [] = refl
  gather-fields ls (TEST f o x ∷ ks) = gather-fields ls ks
  gather-fields ls (TESTV f o v ∷ ks) = gather-fields ls ks
  gather-fields ls (BIND f v ∷ ks) = gather-fields ls ks
  gather-fields ls (GATHER f v ∷ ks) = rw (alike f) (gather-fields (add_to ls v (field e' f)) ks)

  all-pass-fields : (c d : Config) (ks : List Clause) → all_pass c d e ks ≡ all_pass c d e' ks
  all-pass-fields c d [] = refl
  all-pass-fields c d (TEST f o x ∷ ks) = rw (same f, all-pass-fields c d ks)
  all-pass-fields c d (TESTV f o v ∷ ks) = rw (same f, all-pass-fields c d ks)
  all-pass-fields c d (BIND f v ∷ ks) = rw (same f, all-pass-fields c d ks)
  all-pass-fields c d (GATHER f v ∷ ks) = rw (same f, all-pass-fields c d ks)

  past-due-fields : (fields : List Kind) (c : Config) (ks : List Clause) → any_past_due fields c e ks ≡ any_past_due fields c e' ks
  past-due-fields fields c [] = refl
  past-due-fields fields c (TEST f o x ∷ ks) = rw (same f, past-due-fields fields c ks)
  past-due-fields fields c (TESTV f o v ∷ ks) = rw (same f, past-due-fields fields c ks)
  past-due-fields fields c (BIND f v ∷ ks) = past-due-fields fields c ks
  past-due-fields fields c (GATHER f v ∷ ks) = past-due-fields fields c ks

  leave-fields : (c : Config) (s : Step) → leave c s e ≡ leave c s e'
  unfolding leave
  leave-fields c s = rw (bind-fields c s.clauses, gather-fields c.lists s.clauses)

  known-fields : (c : Config) (ks : List Clause) (g : Option Expr) → guard_known c ks e g ≡ guard_known c ks e' g
  known-fields c ks g =
      both_ways (guard_known c ks e g) (guard_known c ks e' g) (guard-known-stays e e' (λ f h. sym (there f) ∙ h) c ks g)
      (guard-known-stays e' e (λ f h. there f ∙ h) c ks g)

  -- a step does the same on both, and is expired by both or by neither
  pub fire-fields : (c : Config) (s : Step) → fire c s e ≡ fire c s e'
  unfolding fire fires
  fire-fields c s = rw (leave-fields c s, all-pass-fields c (leave c s e') s.clauses)

  pub expired-fields : (fields : List Kind) (c : Config) (s : Step) → expired fields c s e ≡ expired fields c s e'
  unfolding expired
  expired-fields fields c s = rw (leave-fields c s, past-due-fields fields c s.clauses, known-fields c s.clauses s.guard)

-- of a step's commands the clauses
pub clauses-exist : (m : ℕ) (ks : List Clause) (g : Option Expr) → All (Exists m) (map CLAUSE ks ++ guard_commands g)
    → All (λ (k : Clause). Exists m (CLAUSE k)) ks
clauses-exist m [] g h = tt
clauses-exist m (k ∷ ks) g h = (h.0, clauses-exist m ks g h.1)
