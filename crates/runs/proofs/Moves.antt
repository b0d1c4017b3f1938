-- What the computed moves, stays and tests hold, as facts of the machine, and back.
use mathlib.Core.Path.{◌≡◌, refl, sym, ap, ◌∙◌, subst}
use mathlib.Core.Logic.{◌⊎◌, inl, inr}
use mathlib.Core.Bool.{Bool, true, false, not, ◌&&◌, ◌||◌, or-true, and-eq-true_iff, true≢false, false≢true}
use mathlib.Core.Option.{Option, none, some}
use mathlib.Core.List.Memᴰ
use mathlib.Core.List.{List, [], ◌∷◌, ◌++◌}
use Prim.Native.Nat.{ℕ, zero, suc, ◌+◌, ◌≤◌, ◌<◌}
use native.Mathlib.Nat.{eq-or-lt_of_le}
use native.Mathlib.Omega.{arith}
use lib.Dec.{leb}
use lib.ListN.{length, take}
use borrow.Author.Tests.{leb-true, le-leb, not-true}
use Rattle.runs.specs.Lists.{In}
use Rattle.runs.specs.Machine.{Machine}
use Rattle.runs.specs.Run.{Trail, Quiet}
use Rattle.runs.specs.Waiting.{Hopeful}
use Rattle.runs.specs.inner.Search.{Thread, begun, arrive, firing, chosen, moves, passes_over, stays, unended, any_alive, hopeful}

pub and_both : (a b : Bool) → (a && b) ≡ true → (a ≡ true) × (b ≡ true)
and_both true b e = (refl, e)
and_both false b e = absurd (false≢true e)

pub begun-same : (t u : Trail) → length t ≡ length u → begun t ≡ begun u
begun-same [] [] h = refl
begun-same [] (y ∷ u) h = absurd (omega (arith, h))
begun-same (x ∷ t) [] h = absurd (omega (arith, h))
begun-same (x ∷ t) (y ∷ u) h = refl

module _ (M : Machine) where
  open M use {Config, committed, final, fire, expired, steps}

  -- th with step k taken on event n into d
  abbrev pub stepped : Thread M → ℕ → ℕ → Config → Thread M
  stepped th n k d = record { config = d; trail = th.trail ++ (record { event = n; step = k } ∷ []) }

  -- x is th with a step taken on n, one of those from k on
  record Fired (th : Thread M) (n k : ℕ) (x : Thread M) : Type 0 where
    number : ℕ
    from : k ≤ number
    fires : fire th.config n number ≡ some x.config
    is : x ≡ stepped th n number x.config

  abbrev fired-here : (th : Thread M) (n k : ℕ) (d : Config) (x : Thread M) → fire th.config n k ≡ some d → x ≡ stepped th n k d → Fired th n k x
  fired-here th n k d x e q =
      record {
        number = k;
        from = omega arith;
        fires = e ∙ ap some (ap (λ (y : Thread M). y.config) (sym q));
        is = q
            ∙ ap (λ z. stepped th n k z) (ap (λ (y : Thread M). y.config) (sym q));
      }

  -- ---- the steps that fire

  record Firing (th : Thread M) (n k r : ℕ) (x : Thread M) : Type 0 where
    fired : Fired th n k x
    below : fired.number < k + r

  firing-in : (th : Thread M) (n k r : ℕ) (x : Thread M) → In x (firing M th n k r) → Firing th n k r x
  unfolding firing
  firing-in th n k zero x m = absurd (Memᴰ.not-nil m)
  firing-in th n k (suc r) x m = go (fire th.config n k) refl m (λ h. firing-in th n (suc k) r x h)
    where
      onward : Firing th n (suc k) r x → Firing th n k (suc r) x
      onward f =
          record {
            fired = record { number = f.fired.number; from = omega (arith, f.fired.from); fires = f.fired.fires; is = f.fired.is };
            below =
                omega (arith, f.below);
          }

      cases : (d : Config) → fire th.config n k ≡ some d → (x ≡ stepped th n k d) ⊎ In x (firing M th n (suc k) r)
          → (In x (firing M th n (suc k) r) → Firing th n (suc k) r x) → Firing th n k (suc r) x
      cases d e (inl q) ih = record { fired = fired-here th n k d x e q; below = omega arith }
      cases d e (inr h) ih = onward (ih h)

      go : (o : Option Config) → fire th.config n k ≡ o → In x (arrive M th n k o (firing M th n (suc k) r))
          → (In x (firing M th n (suc k) r) → Firing th n (suc k) r x) → Firing th n k (suc r) x
      go none e h ih = onward (ih h)
      go (some d) e h ih = cases d e (Memᴰ.cases_cons h) ih

  arrive-rest : (th : Thread M) (n k : ℕ) (o : Option Config) (rest : List (Thread M)) {x : Thread M} → In x rest → In x (arrive M th n k o rest)
  arrive-rest th n k none rest m = m
  arrive-rest th n k (some d) rest m = Memᴰ.tail m

  arrive-here : (th : Thread M) (n k : ℕ) (o : Option Config) (rest : List (Thread M)) (d : Config) → o ≡ some d
      → In (stepped th n k d) (arrive M th n k o rest)
  arrive-here th n k o rest d e = rw e (Memᴰ.head refl)

  firing-out : (th : Thread M) (n k r j : ℕ) (d : Config) → k ≤ j → j < k + r → fire th.config n j ≡ some d → In (stepped th n j d) (firing M th n k r)
  unfolding firing
  firing-out th n k zero j d h l e = absurd (omega (arith, h, l))
  firing-out th n k (suc r) j d h l e = go (eq-or-lt_of_le h) (λ q. firing-out th n (suc k) r j d q (omega (arith, l)) e)
    where
      go : (k ≡ j) ⊎ (k < j) → (suc k ≤ j → In (stepped th n j d) (firing M th n (suc k) r)) → In (stepped th n j d) (firing M th n k (suc r))
      go (inl q) ih =
          subst (λ z. In (stepped th n z d) (firing M th n k (suc r))) q
          (arrive-here th n k (fire th.config n k) (firing M th n (suc k) r) d (ap (λ z. fire th.config n z) q ∙ e))
      go (inr q) ih = arrive-rest th n k (fire th.config n k) (firing M th n (suc k) r) (ih q)

  -- ---- the lowest of them

  record Lowest (th : Thread M) (n k r : ℕ) (x : Thread M) : Type 0 where
    firing : Firing th n k r x
    lowest : (j : ℕ) → k ≤ j → j < firing.fired.number → fire th.config n j ≡ none

  first-in : (th : Thread M) (n k r : ℕ) (x : Thread M) → In x (take 1 (firing M th n k r)) → Lowest th n k r x
  unfolding firing
  first-in th n k zero x m = absurd (Memᴰ.not-nil m)
  first-in th n k (suc r) x m = go (fire th.config n k) refl m (λ h. first-in th n (suc k) r x h)
    where
      go : (o : Option Config) → fire th.config n k ≡ o → In x (take 1 (arrive M th n k o (firing M th n (suc k) r)))
          → (In x (take 1 (firing M th n (suc k) r)) → Lowest th n (suc k) r x) → Lowest th n k (suc r) x
      go none e h ih =
          let f = ih h in
          record {
            firing =
                record {
                  fired = record {
                    number = f.firing.fired.number;
                    from = omega (arith, f.firing.fired.from);
                    fires = f.firing.fired.fires;
                    is =
                        f.firing.fired.is;
                  };
                  below = omega (arith, f.firing.below);
                };
            lowest = λ j p q. low j q (f.lowest j) (eq-or-lt_of_le p);
          }
        where
          low : (j : ℕ) {z : ℕ} → j < z → (suc k ≤ j → j < z → fire th.config n j ≡ none) → (k ≡ j) ⊎ (k < j) → fire th.config n j ≡ none
          low j q rest (inl p) = ap (λ z. fire th.config n z) (sym p) ∙ e
          low j q rest (inr p) = rest p q
      go (some d) e h ih =
          record {
            firing = record { fired = fired-here th n k d x e (Memᴰ.eq_of_singleton h); below = omega arith };
            lowest = λ j p q. absurd (omega (arith, p, q));
          }

  -- the lowest step that fires is the first of them
  pub first-fires : (th : Thread M) (n i r k : ℕ) (d : Config) → i ≤ k → k < i + r → fire th.config n k ≡ some d
      → ((j : ℕ) → j < k → fire th.config n j ≡ none) → take 1 (firing M th n i r) ≡ stepped th n k d ∷ []
  unfolding firing
  first-fires th n i zero k d h l e low = absurd (omega (arith, h, l))
  first-fires th n i (suc r) k d h l e low = go (eq-or-lt_of_le h) (λ q. first-fires th n (suc i) r k d q (omega (arith, l)) e low)
    where
      go : (i ≡ k) ⊎ (i < k) → (suc i ≤ k → take 1 (firing M th n (suc i) r) ≡ stepped th n k d ∷ []) → take 1 (firing M th n i (suc r)) ≡ stepped th n k d ∷ []
      go (inl q) ih = rw (ap (λ z. fire th.config n z) q ∙ e) (ap (λ z. stepped th n z d ∷ []) q)
      go (inr q) ih = rw (low i q) (ih q)

  -- ---- moves

  -- x is th with a step taken on n as the paper says: any that fires, in a committed state the lowest
  pub record Moved (n : ℕ) (th x : Thread M) : Type 0 where
    pub number : ℕ
    pub known : number < steps
    pub fires : fire th.config n number ≡ some x.config
    pub lowest : committed th.config ≡ true → (j : ℕ) → j < number → fire th.config n j ≡ none
    pub is : x ≡ stepped th n number x.config

  pub moves-in : (n : ℕ) (th x : Thread M) → In x (moves M n th) → Moved n th x
  unfolding moves
  moves-in n th x m = go (committed th.config) refl m
    where
      go : (b : Bool) → committed th.config ≡ b → In x (chosen M b (firing M th n 0 steps)) → Moved n th x
      go false e h =
          let f = firing-in th n 0 steps x h in
          record {
            number = f.fired.number;
            known = omega (arith, f.below);
            fires = f.fired.fires;
            lowest = λ c. absurd (true≢false (sym c ∙ e));
            is =
                f.fired.is;
          }
      go true e h =
          let f = first-in th n 0 steps x h in
          record {
            number = f.firing.fired.number;
            known = omega (arith, f.firing.below);
            fires = f.firing.fired.fires;
            lowest = λ c j q. f.lowest j (omega arith) q;
            is = f.firing.fired.is;
          }

  pub moves_out : (n : ℕ) (th : Thread M) (k : ℕ) (d : Config) → k < steps → fire th.config n k ≡ some d
      → (committed th.config ≡ true → (j : ℕ) → j < k → fire th.config n j ≡ none) → In (stepped th n k d) (moves M n th)
  unfolding moves
  moves_out n th k d h e low = go (committed th.config) refl
    where
      go : (b : Bool) → committed th.config ≡ b → In (stepped th n k d) (chosen M b (firing M th n 0 steps))
      go false c = firing-out th n 0 steps k d (omega arith) (omega (arith, h)) e
      go true c = subst (In (stepped th n k d)) (sym (first-fires th n 0 steps k d (omega arith) (omega (arith, h)) e (low c))) (Memᴰ.head refl)

  -- ---- stays

  pub stays-in : (n : ℕ) (th : Thread M) → stays M n th ≡ true → (begun th.trail ≡ true) × (committed th.config ≡ true → Quiet M th.config n)
  unfolding stays
  stays-in n th e = (both.0, λ c. quiet (firing M th n 0 steps) refl (subst (λ b. passes_over M b (firing M th n 0 steps) ≡ true) c both.1))
    where
      both : (begun th.trail ≡ true) × (passes_over M (committed th.config) (firing M th n 0 steps) ≡ true)
      both = and_both (begun th.trail) (passes_over M (committed th.config) (firing M th n 0 steps)) e

      silent : (k : ℕ) (o : Option Config) → fire th.config n k ≡ o → k < steps → firing M th n 0 steps ≡ [] → fire th.config n k ≡ none
      silent k none f h q = f
      silent k (some d) f h q =
          absurd (Memᴰ.not-nil (subst (λ l. In (stepped th n k d) l) q (firing-out th n 0 steps k d (omega arith) (omega (arith, h)) f)))

      quiet : (l : List (Thread M)) → firing M th n 0 steps ≡ l → passes_over M true l ≡ true → Quiet M th.config n
      quiet [] q p k h = silent k (fire th.config n k) refl h q
      quiet (x ∷ l) q p k h = absurd (false≢true p)

  pub firing-quiet : (th : Thread M) (n k r : ℕ) → ((j : ℕ) → k ≤ j → j < k + r → fire th.config n j ≡ none) → firing M th n k r ≡ []
  unfolding firing
  firing-quiet th n k zero h = refl
  firing-quiet th n k (suc r) h = rw (h k (omega arith) (omega arith)) (firing-quiet th n (suc k) r (λ j p q. h j (omega (arith, p)) (omega (arith, q))))

  pub stays_out : (n : ℕ) (th : Thread M) → begun th.trail ≡ true → (committed th.config ≡ true → Quiet M th.config n) → stays M n th ≡ true
  unfolding stays
  stays_out n th b q =
      (and-eq-true_iff (begun th.trail) (passes_over M (committed th.config) (firing M th n 0 steps))).1 (b, go (committed th.config) refl)
    where
      go : (c : Bool) → committed th.config ≡ c → passes_over M c (firing M th n 0 steps) ≡ true
      go false e = refl
      go true e = ap (passes_over M true) (firing-quiet th n 0 steps (λ j p l. q e j (omega (arith, l))))

  -- ---- tests

  pub unended-in : (th : Thread M) → unended M th ≡ true → (final th.config ≡ false) × (length th.trail ≤ 31)
  unfolding unended
  unended-in th e =
      let both = and_both (not (final th.config)) (leb (length th.trail) 31) e in
      (not-true (final th.config) both.0, leb-true (length th.trail) 31 both.1)

  pub unended-out : (th : Thread M) → final th.config ≡ false → length th.trail ≤ 31 → unended M th ≡ true
  unfolding unended
  unended-out th e h = (and-eq-true_iff (not (final th.config)) (leb (length th.trail) 31)).1 (ap not e, le-leb (length th.trail) 31 h)

  alive-in : (c : Config) (n r : ℕ) → any_alive M c n r ≡ true → (k : ℕ) × (k < r) × (expired c k n ≡ false)
  unfolding any_alive
  alive-in c n zero e = absurd (false≢true e)
  alive-in c n (suc r) e = go (expired c r n) refl e (λ h. alive-in c n r h)
    where
      go : (b : Bool) → expired c r n ≡ b → (not b || any_alive M c n r) ≡ true → (any_alive M c n r ≡ true → (k : ℕ) × (k < r) × (expired c k n ≡ false))
          → (k : ℕ) × (k < suc r) × (expired c k n ≡ false)
      go true x h ih = let f = ih h in (f.0, omega (arith, f.1), f.2)
      go false x h ih = (r, omega arith, x)

  alive-out : (c : Config) (n r k : ℕ) → k < r → expired c k n ≡ false → any_alive M c n r ≡ true
  unfolding any_alive
  alive-out c n zero k h e = absurd (omega (arith, h))
  alive-out c n (suc r) k h e = go (eq-or-lt_of_le h) (λ q. alive-out c n r k q e)
    where
      go : (suc k ≡ suc r) ⊎ (suc k < suc r) → (k < r → any_alive M c n r ≡ true) → (not (expired c r n) || any_alive M c n r) ≡ true
      go (inl q) ih = ap (λ b. not b || any_alive M c n r) (subst (λ z. expired c z n ≡ false) (omega (arith, q)) e)
      go (inr q) ih = ap (λ b. not (expired c r n) || b) (ih (omega (arith, q))) ∙ or-true (not (expired c r n))

  pub hopeful-in : (n : ℕ) (th : Thread M) → hopeful M n th ≡ true → Hopeful M th.config n
  unfolding any_alive hopeful
  hopeful-in n th e = let f = alive-in th.config n steps e in record { step = f.0; known = f.1; alive = f.2 }

  pub hopeful-out : (n : ℕ) (th : Thread M) → Hopeful M th.config n → hopeful M n th ≡ true
  unfolding hopeful any_alive
  hopeful-out n th h = alive-out th.config n steps h.step h.known h.alive

  -- where no step is unexpired, all are expired
  pub hopeless-in : (n : ℕ) (th : Thread M) → hopeful M n th ≡ false → (k : ℕ) → k < steps → expired th.config k n ≡ true
  hopeless-in n th e k h = go (expired th.config k n) refl
    where
      go : (b : Bool) → expired th.config k n ≡ b → expired th.config k n ≡ true
      go true x = x
      go false x = absurd (true≢false (sym (hopeful-out n th (record { step = k; known = h; alive = x })) ∙ e))
