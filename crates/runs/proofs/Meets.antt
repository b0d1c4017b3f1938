-- The computed answer meets the demand, for every machine that keeps the laws.
use mathlib.Core.Path.{◌≡◌, refl, sym, ◌∙◌, subst}
use mathlib.Core.Logic.{◌⊎◌, inl, inr}
use mathlib.Core.Bool.{Bool, true, false}
use mathlib.Core.Option.{Option, none, some}
use mathlib.Core.List.Memᴰ
use mathlib.Core.List.{List, [], ◌∷◌}
use Prim.Native.Nat.{Ordering}
use Prim.Native.Nat.{ℕ, zero, suc, ◌+◌, ◌-◌, ◌≤◌, ◌<◌, max}
use native.Mathlib.Nat.{eq-or-lt_of_le}
use native.Mathlib.Decide.{dec_le, dec_lt}
use native.Mathlib.Omega.{arith}
use lib.Dec.{ltb}
use borrow.Author.Tests.{ltb-true, ltb-false}
use Rattle.runs.specs.Lists.{In}
use Rattle.runs.specs.Machine.{Machine}
use Rattle.runs.specs.inner.Laws.{Laws}
use Rattle.runs.specs.Run.{Trail, last, Run}
use Rattle.runs.specs.Order.{Later, ends_later}
use Rattle.runs.specs.inner.Order.{order}
use Rattle.runs.specs.Waiting.{Count}
use Rattle.runs.specs.Answer.{Answer}
use Rattle.runs.specs.inner.Search.{Thread, next, endings, least, waiting_count, overfull, outcome, scan, origin, end_of, search}
use Rattle.runs.specs.Demand.{Crowded, Reached, Peak}
use Rattle.runs.specs.inner.Demand.{Named, Absent, Demand}
use Rattle.runs.proofs.Lists.{same_length}
use Rattle.runs.proofs.Comparison.{AtMost, order-later}
use Rattle.runs.proofs.Trails.{follow-rising, run-from}
use Rattle.runs.proofs.Stretch.{end-least, end-most, end_after, run_inside, none-waits}
use Rattle.runs.proofs.Least.{Least, least-none, least-some}
use Rattle.runs.proofs.Reach.{Exact, exact-next, exact-origin, exact-count, Ends, endings-in, endings-out}

module _ (M : Machine) where
  open M use {Config, start, events}

  -- only one number is the number that wait
  pub count-one : (i n j k : ℕ) → Count M i n j → Count M i n k → j ≡ k
  count-one i n j k a b =
      sym a.counted ∙ same_length a.list b.list a.once b.once (λ c m. b.complete c (a.sound c m)) (λ c m. a.complete c (b.sound c m))
      ∙ b.counted

  -- of two runs that end on one event the one that is not later in the computed order is first in the literal order
  run-later : (i : ℕ) (t u : Trail) (e d : Config) → Run M i t e → Run M i u d → last t ≡ last u → AtMost t u → (u ≡ t) ⊎ Later t u
  run-later i [] u e d r s h a = absurd r.path.begins
  run-later i (x ∷ t) [] e d r s h a = absurd s.path.begins
  run-later i (x ∷ t) (y ∷ u) e d r s h a = go a.holds
    where
      go : (order (x ∷ t) (y ∷ u) ≡ Ordering.lt) ⊎ (x ∷ t ≡ y ∷ u) → (y ∷ u ≡ x ∷ t) ⊎ Later (x ∷ t) (y ∷ u)
      go (inl o) =
          inr (order-later x y t u (r.path.begins ∙ sym s.path.begins) (follow-rising M start e i (x ∷ t) r.path.follows).1
          (follow-rising M start d i (y ∷ u) s.path.follows).1 h o)
      go (inr q) = inl (sym q)

  -- ---- the peak grows by one event

  peak-next : (i n p w : ℕ) → i ≤ n → Peak M i n p → Count M i n w → Peak M i (suc n) (max p w)
  peak-next i n p w h k c =
      record {
        largest = λ m j f b q. up m j f q (eq-or-lt_of_le b);
        reached = λ b. at (dec_le w p) (eq-or-lt_of_le h);
        nothing = λ
            b. absurd (omega (arith, h, b));
      }
    where
      up : (m j : ℕ) → i ≤ m → Count M i m j → (suc m ≡ suc n) ⊎ (suc m < suc n) → j ≤ max p w
      up m j f q (inl e) = omega (arith, count-one i n j w (subst (λ z. Count M i z j) (omega (arith, e)) q) c)
      up m j f q (inr e) = omega (arith, k.largest m j f (omega (arith, e)) q)

      now : w ≡ max p w → Reached M i (suc n) (max p w)
      now e = record { event = n; from = h; before = omega arith; count = subst (Count M i n) e c }

      old : p ≡ max p w → Reached M i n p → Reached M i (suc n) (max p w)
      old e r = record { event = r.event; from = r.from; before = omega (arith, r.before); count = subst (Count M i r.event) e r.count }

      at : Dec (w ≤ p) → (i ≡ n) ⊎ (i < n) → Reached M i (suc n) (max p w)
      at (yes l) (inl e) = now (omega (arith, l, k.nothing (omega (arith, e))))
      at (yes l) (inr b) = old (omega (arith, l)) (k.reached b)
      at (no l) b = now (omega (arith, l))

  -- what is known of the answer before event n is looked at
  record Before (slots i n p : ℕ) : Type 0 where
    from : i ≤ n
    unended : (u : Trail) (e : Config) → Run M i u e → n ≤ last u
    roomy : (m : ℕ) → m < n → Crowded M slots i m → ⊥
    peak : Peak M i n p

  -- ---- the three ways on

  one_found : (slots i n p : ℕ) (ths : List (Thread M)) (th : Thread M) → n < events → n < end_of M i → Exact M i n ths → Before slots i n p
      → Least M (endings M n ths) th → Named M slots i th.config th.trail p
  one_found slots i n p ths th l s x b k =
      record {
        roomy = λ m c. b.roomy m (omega (arith, c.unended th.trail th.config z.run, z.last-is)) c;
        run = z.run;
        least = λ u d r. go u d r (eq-or-lt_of_le (b.unended u d r));
        peak = subst (λ m. Peak M i m p) (sym z.last-is) b.peak;
      }
    where
      z : Ends M i n th
      z = endings-in M i n ths l s x th k.member

      go : (u : Trail) (d : Config) → Run M i u d → (n ≡ last u) ⊎ (n < last u) → (u ≡ th.trail) ⊎ Later th.trail u
      go u d r (inl e) =
          run-later i th.trail u th.config d z.run r (z.last-is ∙ e)
          (k.least (record { config = d; trail = u }) (endings-out M i n ths x u d r (sym e)))
      go u d r (inr e) = inr (ends_later (omega (arith, e, z.last-is)))

  no-ending : (i n : ℕ) (ths : List (Thread M)) → Exact M i n ths → ((u : Trail) (e : Config) → Run M i u e → n ≤ last u) → endings M n ths ≡ []
      → (u : Trail) (e : Config) → Run M i u e → n < last u
  no-ending i n ths x b q u e r = go (eq-or-lt_of_le (b u e r))
    where
      go : (n ≡ last u) ⊎ (n < last u) → n < last u
      go (inl h) = absurd (Memᴰ.not-nil (subst (In (record { config = e; trail = u })) q (endings-out M i n ths x u e r (sym h))))
      go (inr h) = h

module _ (M : Machine) (L : Laws M) where
  open M use {Config, events}

  -- ---- the end of the stretch

  -- behind the end nothing waits, so the peak before the end is the peak of the log
  peak-end : (i p : ℕ) → i ≤ events → Peak M i (end_of M i) p → Peak M i events p
  peak-end i p z k =
      record {
        largest = λ m j a b c. up m j a b c (dec_lt m (end_of M i));
        reached = λ a. far (k.reached (end_after M i a));
        nothing = λ a. k.nothing (omega (arith, a, end-most M i z));
      }
    where
      up : (m j : ℕ) → i ≤ m → m < events → Count M i m j → Dec (m < end_of M i) → j ≤ p
      up m j a b c (yes h) = k.largest m j a h c
      up m j a b c (no h) = omega (arith, count-one M i m j 0 c (none-waits M L i m a b (omega (arith, h))))

      far : Reached M i (end_of M i) p → Reached M i events p
      far r = record { event = r.event; from = r.from; before = omega (arith, r.before, end-most M i z); count = r.count }

  no-events : (slots i n p : ℕ) → i ≤ events → n ≡ end_of M i → Before M slots i n p → Absent M slots i p
  no-events slots i n p z e b =
      record {
        roomy = λ m c. room m c (dec_lt m (end_of M i));
        none = λ u d r. omega (arith, b.unended u d r, run_inside M L i u d r, e);
        peak = peak-end i p z (subst (λ m. Peak M i m p) e b.peak);
      }
    where
      room : (m : ℕ) → Crowded M slots i m → Dec (m < end_of M i) → ⊥
      room m c (yes h) = b.roomy m (omega (arith, h, e)) c
      room m c (no h) =
          let none = none-waits M L i m c.from c.there (omega (arith, h)) in
          omega (arith, c.more.over, count-one M i m c.more.number 0 c.more.count none)

  scan-meets : (slots i f n p : ℕ) (ths : List (Thread M)) → i ≤ events → n + f ≡ end_of M i → Exact M i n ths → Before M slots i n p
      → Demand M slots i (scan M (next M) (waiting_count M) slots f n ths p)
  unfolding scan
  scan-meets slots i zero n p ths z h x b = no-events slots i n p z (omega (arith, h)) b
  scan-meets slots i (suc f) n p ths z h x b =
      ending (least M (endings M n ths)) refl (scan-meets slots i f (suc n) (max p w) (next M n ths) z (omega (arith, h)) more)
    where
      in-stretch : n < end_of M i
      in-stretch = omega (arith, h)

      in-log : n < events
      in-log = omega (arith, in-stretch, end-most M i z)

      w : ℕ
      w = waiting_count M n (next M n ths)

      rest : Answer M
      rest = scan M (next M) (waiting_count M) slots f (suc n) (next M n ths) (max p w)

      more : Exact M i (suc n) (next M n ths)
      more = exact-next M i n ths b.from in-log x

      count : Count M i n w
      count = exact-count M L i n (next M n ths) b.from in-stretch more

      waits : (c : Bool) → ltb slots w ≡ c → ((u : Trail) (e : Config) → Run M i u e → n < last u)
          → (Before M slots i (suc n) (max p w) → Demand M slots i rest) → Demand M slots i (overfull M c n rest)
      waits true e u go =
          record {
            here = record
                { from = b.from; there = in-log; unended = u; more = record { number = w; count = count; over = ltb-true slots w e } };
            first =
                b.roomy;
          }
      waits false e u go =
          go (record {
            from = omega (arith, b.from);
            unended = u;
            roomy = λ m q c. room m c (eq-or-lt_of_le q);
            peak =
                peak-next M i n p w b.from b.peak count;
          })
        where
          room : (m : ℕ) → Crowded M slots i m → (suc m ≡ suc n) ⊎ (suc m < suc n) → ⊥
          room m c (inl q) = omega (
            arith,
            ltb-false slots w e,
            c.more.over,
            count-one M i n c.more.number w
                (subst (λ z. Count M i z c.more.number) (omega (arith, q)) c.more.count) count,
          )
          room m c (inr q) = b.roomy m (omega (arith, q)) c

      ending : (o : Option (Thread M)) → least M (endings M n ths) ≡ o → (Before M slots i (suc n) (max p w) → Demand M slots i rest)
          → Demand M slots i (outcome M o p (overfull M (ltb slots w) n rest))
      ending (some th) e go = one_found M slots i n p ths th in-log in-stretch x b (least-some M (endings M n ths) th e)
      ending none e go = waits (ltb slots w) refl (no-ending M i n ths x b.unended (least-none M (endings M n ths) e)) go

  -- the third demand is met
  pub search-meets : (slots i : ℕ) → i ≤ events → Demand M slots i (search M slots i)
  unfolding search scan
  search-meets slots i h = scan-meets slots i (end_of M i - i) i 0 (origin M) h (omega (arith, end-least M i)) (exact-origin M L i) first
    where
      first : Before M slots i i 0
      first =
          record {
            from = omega arith;
            unended = run-from M i;
            roomy = λ m l c. omega (arith, l, c.from);
            peak = record { largest = λ n k a b c. absurd (omega (arith, a, b)); reached = λ a. absurd (omega (arith, a)); nothing = λ a. refl };
          }
