-- A step taken by a thread: the thread that it leaves is one that a search keeps.
use Prim.Native.Nat.{ℕ, zero, suc, ◌+◌, ◌*◌, ◌<◌, ◌≤◌}
use mathlib.Core.Path.{◌≡◌, refl, ap, sym, ◌∙◌, subst}
use mathlib.Core.List.{List, [], ◌∷◌, ◌++◌, map}
use mathlib.Core.Option.{Option, none, some}
use native.Mathlib.Omega.{arith}
use Rattle.std.specs.Prelude.{Some}
use lib.Dec.{ltb}
use lib.ListN.{length, take, length-set, length-map}
use lib.Seq.{length-take-le}
use borrow.Author.Tests.{lt-ltb}
use Rattle.base.specs.Lists.{All}
use Rattle.base.proofs.Lists.{All-append}
use Rattle.event_log.specs.Log.{Log}
use Rattle.formula.specs.Formula.{Formula}
use Rattle.runs.specs.Run.{Entry, Trail}
use Rattle.runs.specs.inner.Search as Runs
use Rattle.machine.specs.Configuration.{Config}
use Rattle.machine.specs.Guard.{total}
use Rattle.machine.specs.inner.Valid.{Valid}
use Rattle.machine.specs.inner.Along.{Standing, standing, along, first, gathered, tallies}
use Rattle.machine.proofs.Along.{fire-along}
use Rattle.machine.specs.Machine.{machine, fire_at}
use Rattle.machine.proofs.Machine.{valid_fire, weight_fire}
use Rattle.machine_code.specs.inner.Bytes.{config_of}
use Rattle.slots.specs.declared.Thread.{Thread}
use Rattle.slots.specs.inner.Threads.{entry_of, trail_of, Extended}
use Rattle.threads.specs.declared.Rules.{Rules}
use Rattle.threads.specs.inner.Setting.{Setting, Fit, conf, thread}
use Rattle.threads.specs.inner.Calls.{Fired, FiredBy, Going, MovedBy}
use Rattle.machine.proofs.Premises.{premises}

-- as many entries as steps were taken
pub trail-length : (t : Thread) → length t.trail ≡ 32 → t.steps ≤ 32 → length (trail_of t) ≡ t.steps
unfolding trail_of
trail-length t e h = length-map (take t.steps t.trail) entry_of ∙ length-take-le t.steps t.trail (omega arith)

-- the first step was taken
begun-by : (n : ℕ) (l : List ℕ) → n ≤ length l → Runs.begun (map entry_of (take n l)) ≡ ltb 0 n
begun-by zero l h = refl
begun-by (suc n) [] h = absurd (omega arith)
begun-by (suc n) (x ∷ l) h = sym (lt-ltb 0 (suc n) (omega arith))

pub begun-steps : (g : Log) (fm : Formula) (t : Thread) → Fit g fm t → ltb 0 t.steps ≡ Runs.begun (trail_of t)
unfolding trail_of
begun-steps g fm t h = sym (begun-by t.steps t.trail (omega (arith, h.most, h.trail_32)))

trail-same : (a b : Thread) → a.steps ≡ b.steps → a.trail ≡ b.trail → trail_of a ≡ trail_of b
unfolding trail_of
trail-same a b p q = rw (p, q)

made : (g : Log) (fm : Formula) (c d : Config) (t u : Trail) → c ≡ d → t ≡ u
    → ◌≡◌ {A = Runs.Thread (machine g fm)} (record { config = c; trail = t }) (record { config = d; trail = u })
made g fm c d t u p q = rw (p, q)

module _ (g : Log) (fm : Formula) (f table : List ℕ) (rules : Rules) (s : Setting g fm f table rules) (t : Thread) (go : Going g fm t) (n k : ℕ)
    (there : n < length g.events) where
  stepped-trail : (d : Config) (m : Thread) (r : Thread) → Fired t d m → Extended m n k r → trail_of r
      ≡ trail_of t ++ (record { event = n; step = k } ∷ [])
  stepped-trail d m r x w = w.trail ∙ ap (λ (y : Trail). y ++ (record { event = n; step = k } ∷ [])) (trail-same m t x.same_steps x.same_trail)

  -- the thread stands where its trail leads, with the lists gathered along it
  stands-so : (p : Standing) (i : ℕ) → i ≡ p.state → record { state = i; lists = p.lists } ≡ p
  stands-so p i e = rw e

  -- and so does the thread after the step
  stepped-stands : (d : Config) (m : Thread) (r : Thread) → fire_at g fm (conf g fm t) n k ≡ some d → Fired t d m → Extended m n k r
      → standing d ≡ along g fm first (trail_of r)
  stepped-stands d m r e x w =
      fire-along g fm (conf g fm t) d (trail_of t) n k (stands-so (along g fm first (trail_of t)) t.config.state go.fit.leads) e
      ∙ ap (λ (y : Trail). along g fm first y) (sym (stepped-trail d m r x w))

  -- it stands for the configuration that the step leaves
  stepped-conf : (d : Config) (m : Thread) (r : Thread) → fire_at g fm (conf g fm t) n k ≡ some d → Fired t d m → Extended m n k r → conf g fm r ≡ d
  stepped-conf d m r e x w =
      let p = stepped-stands d m r e x w in
      ap (λ (y : Thread). config_of (gathered g fm (trail_of r)) y.config) w.fields
      ∙ ap (λ (y : Standing). config_of y.lists m.config) (sym p) ∙ x.leaves

  -- the thread after the step is one that a search keeps
  stepped-fit : (d : Config) (m : Thread) (r : Thread) → fire_at g fm (conf g fm t) n k ≡ some d → Fired t d m → Extended m n k r → Fit g fm r
  stepped-fit d m r e x w =
      let c : conf g fm r ≡ d = stepped-conf d m r e x w in
      let p = stepped-stands d m r e x w in
      let v : Valid (length fm.states) (conf g fm r) = subst (Valid (length fm.states)) (sym c)
      (valid_fire g fm (premises g fm s.log s.formula) (conf g fm t) d n k go.fit.valid e) in
      let steps : r.steps ≡ t.steps + 1 = ap (λ (y : Thread). y.steps) w.fields ∙ ap (λ i. i + 1) x.same_steps in
      let sum : total r.config.counters ≡ suc (total t.config.counters) = ap (λ (y : Config). total y.counters) c
      ∙ weight_fire g fm (conf g fm t) d n k e in
      record {
        trail_32 = ap (λ (y : Thread). length y.trail) w.fields ∙ length-set m.trail m.steps (n * 8 + k) ∙ ap length x.same_trail
            ∙ go.fit.trail_32;
        valid = v;
        weight = omega (arith, steps, sum, go.fit.weight);
        most = omega (arith, steps, go.short);
        inside = subst (All (λ (y : Entry). y.event < length g.events)) (sym (stepped-trail d m r x w))
            (All-append (λ (y : Entry). y.event < length g.events) (trail_of t) (record { event = n; step = k } ∷ []) go.fit.inside (there, tt));
        leads = ap (λ (y : Config). y.state) c ∙ ap (λ (y : Standing). y.state) p;
        tallies_are = ap (λ (y : Thread). y.config.tallies) w.fields ∙ x.tallied ∙ ap (λ (y : Standing). tallies y.lists) p;
      }

  stepped-is : (d : Config) (m : Thread) (r : Thread) → fire_at g fm (conf g fm t) n k ≡ some d → Fired t d m → Extended m n k r
      → thread g fm r ≡ record { config = d; trail = trail_of t ++ (record { event = n; step = k } ∷ []) }
  stepped-is d m r e x w =
      made g fm (conf g fm r) d (trail_of r) (trail_of t ++ (record { event = n; step = k } ∷ [])) (stepped-conf d m r e x w) (stepped-trail d m r x w)

  -- a step that fires, taken
  pub moved-fires : (m r : Thread) → FiredBy (fire_at g fm (conf g fm t) n k) t (Some m) → Extended m n k r
      → MovedBy g fm (fire_at g fm (conf g fm t) n k) t n k (Some r)
  moved-fires m r h w = by (fire_at g fm (conf g fm t) n k) refl h
    where
      by : (o : Option Config) → fire_at g fm (conf g fm t) n k ≡ o → FiredBy o t (Some m) → MovedBy g fm o t n k (Some r)
      by none q x = absurd cc
      by (some d) q x = record { is = stepped-is d m r q x w; fit = stepped-fit d m r q x w }
