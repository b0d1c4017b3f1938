-- Following a trail: one step more at its end, its last step taken off, where it leads, and what stays true along it.
use mathlib.Core.Path.{◌≡◌, refl, sym, ap, ◌∙◌, subst}
use mathlib.Core.Option.{some-injective}
use mathlib.Core.List.{[], ◌∷◌, ◌++◌}
use Prim.Native.Nat.{ℕ, suc, ◌+◌, ◌≤◌, ◌<◌}
use native.Mathlib.Omega.{arith}
use lib.ListN.{length, length-append}
use Rattle.runs.specs.Machine.{Machine}
use Rattle.runs.specs.inner.Laws.{Laws}
use Rattle.runs.specs.Run.{Entry, Trail, last_or, last, Takes, Follow, Run}
use Rattle.runs.proofs.Comparison.{Rising, rising-last}

-- the first event after a trail's last one; s for the empty trail
abbrev pub after : ℕ → Trail → ℕ
after s [] = s
after s (x ∷ t) = after (suc x.event) t

pub after-snoc : (s : ℕ) (t : Trail) (x : Entry) → after s (t ++ (x ∷ [])) ≡ suc x.event
after-snoc s [] x = refl
after-snoc s (y ∷ t) x = after-snoc (suc y.event) t x

pub last_snoc : (a : ℕ) (t : Trail) (x : Entry) → last_or a (t ++ (x ∷ [])) ≡ x.event
last_snoc a [] x = refl
last_snoc a (y ∷ t) x = last_snoc y.event t x

-- the first event after a trail is the one after its last
pub after_last : (x : Entry) (t : Trail) → after (suc x.event) t ≡ suc (last_or x.event t)
after_last x [] = refl
after_last x (y ∷ t) = after_last y t

pub rising-after : (s : ℕ) (t : Trail) → Rising s t → s ≤ after s t
rising-after s [] r = omega arith
rising-after s (x ∷ t) r = omega (arith, r.0, rising-after (suc x.event) t r.1)

pub length-snoc : (t : Trail) (x : Entry) → length (t ++ (x ∷ [])) ≡ suc (length t)
length-snoc t x = omega (arith, length-append t (x ∷ []))

module _ (M : Machine) where
  open M use {Config, start, committed, final, fire, steps, events}

  pub follow-rising : (c e : Config) (s : ℕ) (t : Trail) → Follow M c s t e → Rising s t
  follow-rising c e s [] f = tt
  follow-rising c e s (x ∷ t) f = (f.1.later, follow-rising f.0 e (suc x.event) t f.2)

  pub follow-snoc : (c d e : Config) (s : ℕ) (t : Trail) (x : Entry) → Follow M c s t d → Takes M d (after s t) x.event x.step e
      → Follow M c s (t ++ (x ∷ [])) e
  follow-snoc c d e s [] x f k = (e, subst (λ z. Takes M z s x.event x.step e) (sym f) k, refl)
  follow-snoc c d e s (y ∷ t) x f k = (f.0, f.1, follow-snoc f.0 d e (suc y.event) t x f.2 k)

  -- a trail parted into its last step and what comes before
  pub record Parted (c : Config) (s : ℕ) (t : Trail) (e : Config) : Type 0 where
    pub front : Trail
    pub end : Entry
    pub middle : Config
    pub is : t ≡ front ++ (end ∷ [])
    pub before : Follow M c s front middle
    pub taken : Takes M middle (after s front) end.event end.step e

  pub follow-part : (c e : Config) (s : ℕ) (x : Entry) (t : Trail) → Follow M c s (x ∷ t) e → Parted c s (x ∷ t) e
  follow-part c e s x [] f =
      record { front = []; end = x; middle = c; is = refl; before = refl; taken = subst (λ z. Takes M c s x.event x.step z) f.2 f.1 }
  follow-part c e s x (y ∷ t) f = go (follow-part f.0 e (suc x.event) y t f.2)
    where
      go : Parted f.0 (suc x.event) (y ∷ t) e → Parted c s (x ∷ (y ∷ t)) e
      go p =
          record {
            front = x ∷ p.front;
            end = p.end;
            middle = p.middle;
            is = ap (λ (r : Trail). x ∷ r) p.is;
            before = (f.0, f.1, p.before);
            taken = p.taken;
          }

  -- a trail leads to one configuration
  pub follow_one : (c c' e e' : Config) (s : ℕ) (t : Trail) → c ≡ c' → Follow M c s t e → Follow M c' s t e' → e ≡ e'
  follow_one c c' e e' s [] q f g = sym f ∙ q ∙ g
  follow_one c c' e e' s (x ∷ t) q f g =
      follow_one f.0 g.0 e e' (suc x.event) t
      (some-injective f.0 g.0 (sym f.1.fires ∙ ap (λ z. fire z x.event x.step) q ∙ g.1.fires)) f.2 g.2

  -- a followed trail's events are there
  pub follow-there : (c e : Config) (s : ℕ) (x : Entry) (t : Trail) → Follow M c s (x ∷ t) e → last (x ∷ t) < events
  follow-there c e s x [] f = f.1.there
  follow-there c e s x (y ∷ t) f = follow-there f.0 e (suc x.event) y t f.2

  pub run-there : (i : ℕ) (t : Trail) (e : Config) → Run M i t e → last t < events
  run-there i [] e r = absurd r.path.begins
  run-there i (x ∷ t) e r = follow-there start e i x t r.path.follows

  -- a run ends on its start or later
  pub run-from : (i : ℕ) (t : Trail) (e : Config) → Run M i t e → i ≤ last t
  run-from i [] e r = absurd r.path.begins
  run-from i (x ∷ t) e r = omega (arith, r.path.begins, rising-last x.event t (follow-rising start e i (x ∷ t) r.path.follows).1)

module _ (M : Machine) (L : Laws M) where
  open M use {Config, start}

  pub follow-valid : (c e : Config) (s : ℕ) (t : Trail) → L.Valid c → Follow M c s t e → L.Valid e
  follow-valid c e s [] v f = subst L.Valid f v
  follow-valid c e s (x ∷ t) v f = follow-valid f.0 e (suc x.event) t (L.valid_fire c f.0 x.event x.step v f.1.fires) f.2

  follow-weight : (c e : Config) (s : ℕ) (t : Trail) → Follow M c s t e → L.weight e ≡ L.weight c + length t
  follow-weight c e s [] f = omega (arith, ap L.weight f)
  follow-weight c e s (x ∷ t) f = omega (arith, follow-weight f.0 e (suc x.event) t f.2, L.weight_fire c f.0 x.event x.step f.1.fires)

  -- the weight of a configuration is the number of steps that led to it
  pub start-weight : (e : Config) (s : ℕ) (t : Trail) → Follow M start s t e → L.weight e ≡ length t
  start-weight e s t f = omega (arith, follow-weight start e s t f, L.weight_start)
