-- What a step's BINDs leave: held values stay, any other variable takes the field of the step's first BIND of it.
use Prim.Native.Nat.{ℕ, ◌<◌}
use mathlib.Core.Path.{◌≡◌, refl, sym, ap, ◌∙◌}
use mathlib.Core.Bool.{Bool, true, false, cond, true≢false}
use mathlib.Core.List.{List, [], ◌∷◌}
use mathlib.Core.Option.{Option, none, some}
use native.Mathlib.Omega.{arith}
use lib.ListN.{length, set, length-set}
use lib.Seq.{get_or-set_same, get_or-set_other}
use lib.Dec.{eqb}
use borrow.Author.Tests.{eqb-true, eqb-false}
use Rattle.event_log.specs.Log.{Values, field}
use Rattle.formula.specs.Formula.{Clause, TEST, TESTV, BIND, GATHER}
use Rattle.machine.specs.Configuration.{Config}
use Rattle.machine.specs.Firing.{value_of, is_held, hold, bind_all}
use Rattle.machine.specs.Expiry.{first_bind}

-- the configuration with v holding x
abbrev pub put : Config → ℕ → ℕ → Config
put c v x = record { state = c.state; held = set c.held v true; values = set c.values v x; counters = c.counters; lists = c.lists }

pub hold-held : (c : Config) (v x : ℕ) → is_held c v ≡ true → hold c v x ≡ c
unfolding hold
hold-held c v x h = rw h

pub hold-new : (c : Config) (v x : ℕ) → is_held c v ≡ false → hold c v x ≡ put c v x
unfolding hold
hold-new c v x h = rw h

-- a variable keeps what it has where another one is bound
pub record Kept (c d : Config) (v : ℕ) : Type 0 where
  pub held_kept : is_held d v ≡ is_held c v
  pub value-kept : value_of d v ≡ value_of c v

hold-other : (c : Config) (u v x : ℕ) → (u ≡ v → ⊥) → Kept c (hold c u x) v
hold-other c u v x ne = go (is_held c u) refl
  where
    go : (b : Bool) → is_held c u ≡ b → Kept c (hold c u x) v
    go true e = rw (hold-held c u x e) (record { held_kept = refl; value-kept = refl })
    go false e =
        rw (hold-new c u x e)
        (record
        { held_kept = get_or-set_other c.held u v true false (λ q. ne (sym q)); value-kept = get_or-set_other c.values u v x 0 (λ q. ne (sym q)) })

hold-keeps : (c : Config) (u v x : ℕ) → is_held c v ≡ true → Kept c (hold c u x) v
hold-keeps c u v x h = go (is_held c u) refl
  where
    go : (b : Bool) → is_held c u ≡ b → Kept c (hold c u x) v
    go true e = rw (hold-held c u x e) (record { held_kept = refl; value-kept = refl })
    go false e = hold-other c u v x (λ q. true≢false (sym h ∙ ap (λ (i : ℕ). is_held c i) (sym q) ∙ e))

kept_trans : (a b c : Config) (v : ℕ) → Kept a b v → Kept b c v → Kept a c v
kept_trans a b c v p q = record { held_kept = q.held_kept ∙ p.held_kept; value-kept = q.value-kept ∙ p.value-kept }

-- a held variable keeps its value, also where the step binds it again
pub bind-keeps : (c : Config) (e : Values) (ks : List Clause) (v : ℕ) → is_held c v ≡ true → Kept c (bind_all c e ks) v
bind-keeps c e [] v h = record { held_kept = refl; value-kept = refl }
bind-keeps c e (TEST f o x ∷ ks) v h = bind-keeps c e ks v h
bind-keeps c e (TESTV f o u ∷ ks) v h = bind-keeps c e ks v h
bind-keeps c e (GATHER f u ∷ ks) v h = bind-keeps c e ks v h
bind-keeps c e (BIND f u ∷ ks) v h =
    let k = hold-keeps c u v (field e f) h in
    kept_trans c (hold c u (field e f)) (bind_all (hold c u (field e f)) e ks) v k (bind-keeps (hold c u (field e f)) e ks v (k.held_kept ∙ h))

-- binding changes no length, no state and no counter
pub record Shape (c d : Config) : Type 0 where
  pub state-kept : d.state ≡ c.state
  pub held-length : length d.held ≡ length c.held
  pub values_length : length d.values ≡ length c.values
  pub counters-kept : d.counters ≡ c.counters

shape-self : (c : Config) → Shape c c
shape-self c = record { state-kept = refl; held-length = refl; values_length = refl; counters-kept = refl }

pub hold-shape : (c : Config) (v x : ℕ) → Shape c (hold c v x)
hold-shape c v x = go (is_held c v) refl
  where
    go : (b : Bool) → is_held c v ≡ b → Shape c (hold c v x)
    go true e = rw (hold-held c v x e) (shape-self c)
    go false e =
        rw (hold-new c v x e)
        (record { state-kept = refl; held-length = length-set c.held v true; values_length = length-set c.values v x; counters-kept = refl })

pub bind-shape : (c : Config) (e : Values) (ks : List Clause) → Shape c (bind_all c e ks)
bind-shape c e [] = shape-self c
bind-shape c e (TEST f o x ∷ ks) = bind-shape c e ks
bind-shape c e (TESTV f o u ∷ ks) = bind-shape c e ks
bind-shape c e (GATHER f u ∷ ks) = bind-shape c e ks
bind-shape c e (BIND f u ∷ ks) =
    let p = hold-shape c u (field e f) in
    let q = bind-shape (hold c u (field e f)) e ks in
    record {
      state-kept = q.state-kept ∙ p.state-kept;
      held-length = q.held-length ∙ p.held-length;
      values_length = q.values_length ∙ p.values_length;
      counters-kept = q.counters-kept ∙ p.counters-kept;
    }

-- the value that the first BIND of a variable gives it; `old` where the step does not bind it
abbrev pub taken : Values → ℕ → Option ℕ → ℕ
taken e old none = old
taken e old (some f) = field e f

-- a variable not held takes the field of the step's first BIND of it
pub bind-first : (c : Config) (e : Values) (ks : List Clause) (v : ℕ) → v < length c.held → v < length c.values → is_held c v ≡ false
    → value_of (bind_all c e ks) v ≡ taken e (value_of c v) (first_bind ks v)
bind-first c e [] v h k n = refl
bind-first c e (TEST f o x ∷ ks) v h k n = bind-first c e ks v h k n
bind-first c e (TESTV f o u ∷ ks) v h k n = bind-first c e ks v h k n
bind-first c e (GATHER f u ∷ ks) v h k n = bind-first c e ks v h k n
bind-first c e (BIND f u ∷ ks) v h k n = go (bind-first (hold c u (field e f)) e ks v) (eqb u v) refl
  where
    go : (v < length (hold c u (field e f)).held → v < length (hold c u (field e f)).values → is_held (hold c u (field e f)) v ≡ false
        → value_of (bind_all (hold c u (field e f)) e ks) v ≡ taken e (value_of (hold c u (field e f)) v) (first_bind ks v))
        → (b : Bool) → eqb u v ≡ b
        → value_of (bind_all (hold c u (field e f)) e ks) v ≡ taken e (value_of c v) (cond (eqb u v) (some f) (first_bind ks v))
    go ih true q =
        let same : u ≡ v = eqb-true u v q in
        let new : hold c v (field e f) ≡ put c v (field e f) = hold-new c v (field e f) n in
        rw (q, same, new)
        ((bind-keeps (put c v (field e f)) e ks v (get_or-set_same c.held v true false h)).value-kept ∙ get_or-set_same c.values v (field e f) 0 k)
    go ih false q =
        let s = hold-shape c u (field e f) in
        let o = hold-other c u v (field e f) (eqb-false u v q) in
        rw (q, ← o.value-kept) (ih (omega arith) (omega arith) (o.held_kept ∙ n))
