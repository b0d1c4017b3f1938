-- A thread that has stayed through an event need not take again the steps that do not depend on the event: they are spare.
use mathlib.Core.Path.{◌≡◌, refl, sym, ap, ◌∙◌}
use mathlib.Core.Logic.{◌⊎◌, inl, inr}
use mathlib.Core.Bool.{Bool, true, false, true≢false, and-eq-true_iff}
use mathlib.Core.Option.{some}
use mathlib.Core.List.Memᴰ
use mathlib.Core.List.{List, [], ◌∷◌, ◌++◌}
use Prim.Native.Nat.{Ordering}
use Prim.Native.Nat.{ℕ, suc, ◌≤◌, ◌<◌}
use native.Mathlib.Omega.{arith}
use lib.ListN.{length}
use Rattle.runs.specs.Lists.{In, Distinct}
use Rattle.runs.specs.inner.Lists.{keep}
use Rattle.runs.specs.Machine.{Machine}
use Rattle.runs.specs.inner.Laws.{Laws}
use Rattle.runs.specs.Run.{Entry, Trail, last, Quiet}
use Rattle.runs.specs.Order.{events, numbers}
use Rattle.runs.specs.inner.Order.{then, lex, order}
use Rattle.runs.specs.inner.Search.{Thread, begun, moves, stays, unended, hopeful, origin, end_of}
use Rattle.runs.specs.inner.Settle.{lasts, stayers, arrivals, movers, settle}
use Rattle.runs.specs.inner.Aged.{Still, settle_but}
use Rattle.runs.proofs.Lists.{keep-in, keep_out, Given, turn_in, turn-out}
use Rattle.runs.proofs.Comparison.{AtMost, at-most-trans, compare_self, less-compare}
use Rattle.runs.proofs.Trails.{last_snoc, length-snoc}
use Rattle.runs.proofs.Moves.{and_both, stepped, moves-in, moves_out, stays-in, stays_out, unended-in, unended-out, hopeful-in, hopeful-out}
use Rattle.runs.proofs.Stretch.{expired-on}
use Rattle.runs.proofs.LeastTrails.{configs, Covered}
use Rattle.runs.proofs.Select.{Settled, hopeful-same}
use Rattle.runs.proofs.Settle.{mover-candidate, candidate-cases, few-roomy, origin-roomy, settle-settled}
use Rattle.runs.proofs.Spare.{Spare, Spared, settle-but}

-- ---- the same step on a later event

events-later : (t : Trail) (x y : Entry) → x.event < y.event → lex (events (t ++ (x ∷ []))) (events (t ++ (y ∷ []))) ≡ Ordering.lt
unfolding lex
events-later [] x y h = ap (λ o. then o (lex [] [])) (less-compare x.event y.event h)
events-later (z ∷ t) x y h = ap (λ o. then o (lex (events (t ++ (x ∷ []))) (events (t ++ (y ∷ []))))) (compare_self z.event) ∙ events-later t x y h

-- a trail with a step more stands before the same with a step on a later event
trail-later : (t : Trail) (x y : Entry) → x.event < y.event → AtMost (t ++ (x ∷ [])) (t ++ (y ∷ []))
unfolding order
trail-later t x y h = record { holds = inl (ap (λ o. then o (lex (numbers (t ++ (x ∷ []))) (numbers (t ++ (y ∷ []))))) (events-later t x y h)) }

begun-snoc : (t : Trail) (x : Entry) → begun (t ++ (x ∷ [])) ≡ true
begun-snoc [] x = refl
begun-snoc (y ∷ t) x = refl

module _ (M : Machine) where
  open M use {Config, committed, fire, steps}

  -- the thread has been through event n, and v is the list after it: a committed state had no move, and v covers all that may wait
  pub record Aged (n : ℕ) (v : List (Thread M)) (th : Thread M) : Type 0 where
    pub quiet : committed th.config ≡ true → Quiet M th.config n
    pub made : (k : ℕ) (d : Config) → k < steps → fire th.config n k ≡ some d → unended M (stepped M th n k d) ≡ true
        → hopeful M n (stepped M th n k d) ≡ true → Covered M v (stepped M th n k d)

  stayer-stays : (n : ℕ) (w : List (Thread M)) (x : Thread M) → In x (stayers M n w) → In x w × (stays M n x ≡ true)
  unfolding stayers lasts
  stayer-stays n w x m = let q = keep-in (lasts M n) w m in (q.member, (and_both (stays M n x) (hopeful M n x) q.passes).0)

  -- a mover's last step was taken on the event
  mover-trail : (n : ℕ) (w : List (Thread M)) (x : Thread M) → In x (movers M n w)
      → (t : Trail) × (k : ℕ) × (x.trail ≡ t ++ (record { event = n; step = k } ∷ []))
  unfolding movers arrivals
  mover-trail n w x m = of (turn_in (arrivals M n) w m)
    where
      of : Given (arrivals M n) w x → (t : Trail) × (k : ℕ) × (x.trail ≡ t ++ (record { event = n; step = k } ∷ []))
      of g =
          let q = keep-in (hopeful M n) (keep (unended M) (moves M n g.giver)) g.gives in
          let o = moves-in M n g.giver x (keep-in (unended M) (moves M n g.giver) q.member).member in
          (g.giver.trail, o.number, ap (λ (y : Thread M). y.trail) o.is)

  -- a thread that stayed is aged, whether it was before or not
  pub aged-stayer : (n : ℕ) (w v : List (Thread M)) (th : Thread M) → Settled M n w v → In th (stayers M n w) → Aged n v th
  unfolding movers arrivals
  aged-stayer n w v th s m =
      record {
        quiet = quiet;
        made = λ k d h f u p. s.covers (stepped M th n k d) (mover-candidate M n w (stepped M th n k d)
            (turn-out (arrivals M n) q.0 (keep_out (hopeful M n) (keep_out (unended M) (move k d h f) u) p)));
      }
    where
      q : In th w × (stays M n th ≡ true)
      q = stayer-stays n w th m

      quiet : committed th.config ≡ true → Quiet M th.config n
      quiet = (stays-in M n th q.1).1

      move : (k : ℕ) (d : Config) → k < steps → fire th.config n k ≡ some d → In (stepped M th n k d) (moves M n th)
      move k d h f = moves_out M n th k d h f (λ c j l. quiet c j (omega (arith, l, h)))

  -- so is a thread of the list after event n whose last step was taken before n
  pub aged-early : (n : ℕ) (w v : List (Thread M)) (th : Thread M) → Settled M n w v → In th v
      → last th.trail < n → Aged n v th
  aged-early n w v th s m h = go (candidate-cases M n w th (s.from th m))
    where
      go : In th (stayers M n w) ⊎ In th (movers M n w) → Aged n v th
      go (inl k) = aged-stayer n w v th s k
      go (inr k) =
          let o = mover-trail n w th k in
          absurd (omega (arith, h, ap last o.2, last_snoc 0 o.0 (record { event = n; step = o.1 })))

  -- every thread of it has begun
  settled-begun : (n : ℕ) (w v : List (Thread M)) (x : Thread M) → Settled M n w v → In x v → begun x.trail ≡ true
  settled-begun n w v x s m = go (candidate-cases M n w x (s.from x m))
    where
      go : In x (stayers M n w) ⊎ In x (movers M n w) → begun x.trail ≡ true
      go (inl k) = (stays-in M n x (stayer-stays n w x k).1).0
      go (inr k) = let o = mover-trail n w x k in ap begun o.2 ∙ begun-snoc o.0 (record { event = n; step = o.1 })

module _ (M : Machine) (L : Laws M) where
  open M use {Config, committed, fire, expired, steps, events}

  -- what may wait after an event might wait after the one before
  hopeful-before : (i n : ℕ) (x : Thread M) → L.Valid x.config → i ≤ events → i ≤ n → suc n < end_of M i → hopeful M (suc n) x ≡ true → hopeful M n x ≡ true
  hopeful-before i n x v z h l e =
      let k = hopeful-in M (suc n) x e in
      hopeful-out M n x (record { step = k.step; known = k.known; alive = go k.step k.alive (expired x.config k.step n) refl })
    where
      go : (k : ℕ) → expired x.config k (suc n) ≡ false → (b : Bool) → expired x.config k n ≡ b → expired x.config k n ≡ false
      go k a true f = absurd (true≢false (sym (expired-on M L i n (suc n) k x.config v z h (omega arith) l f) ∙ a))
      go k a false f = f

  -- a still step of an aged thread is spare on the next event: what it leaves stands there already, with an earlier trail
  pub aged-spare : (i n k : ℕ) (v : List (Thread M)) (th : Thread M) → i ≤ events → i ≤ n → suc n < end_of M i → L.Valid th.config
      → ((x : Thread M) → In x v → begun x.trail ≡ true) → Aged M n v th → Still M i n th.config k → k < steps → Spare M (suc n) v th k
  unfolding stayers lasts
  aged-spare i n k v th z h l valid ready a s known =
      record { silent = λ c. same ∙ a.quiet c k known; covered = cover }
    where
      same : fire th.config (suc n) k ≡ fire th.config n k
      same = s.same (suc n) (omega arith) l

      -- after event n
      entered : (d : Config) → fire th.config n k ≡ some d → unended M (stepped M th (suc n) k d) ≡ true
          → hopeful M (suc n) (stepped M th (suc n) k d) ≡ true → Covered M v (stepped M th n k d)
      entered d e u p =
          let x = stepped M th n k d in
          let y = stepped M th (suc n) k d in
          let long = length-snoc th.trail (record { event = n; step = k }) ∙ sym (length-snoc th.trail (record { event = suc n; step = k })) in
          a.made k d known e (unended-out M x (unended-in M y u).0 (omega (arith, (unended-in M y u).1, long)))
          (hopeful-before i n x (L.valid_fire th.config d n k valid e) z h l (hopeful-same M (suc n) y x refl p))

      cover : (d : Config) → fire th.config (suc n) k ≡ some d → unended M (stepped M th (suc n) k d) ≡ true
          → hopeful M (suc n) (stepped M th (suc n) k d) ≡ true → Covered M (stayers M (suc n) v) (stepped M th (suc n) k d)
      cover d f u p =
          let x = stepped M th n k d in
          let y = stepped M th (suc n) k d in
          let c = entered d (sym same ∙ f) u p in
          let t = c.thread in
          let ordinary = ap committed c.config-is ∙ s.ordinary d (sym same ∙ f) in
          let stay = stays_out M (suc n) t (ready t c.member) (λ q. absurd (true≢false (sym q ∙ ordinary))) in
          let last = (and-eq-true_iff (stays M (suc n) t) (hopeful M (suc n) t)).1 (stay, hopeful-same M (suc n) y t c.config-is p) in
          record {
            thread = t;
            member = keep_out (lasts M (suc n)) c.member last;
            config-is = c.config-is;
            under = at-most-trans t.trail x.trail y.trail c.under
                (trail-later th.trail (record { event = n; step = k }) (record { event = suc n; step = k }) (omega arith));
          }

  -- on event suc n the still steps of threads that came before n may be left out
  pub early-spared : (out : Thread M → ℕ → Bool) (i n : ℕ) (w v : List (Thread M)) → i ≤ events → i ≤ n → suc n < end_of M i
      → Settled M n w v → ((th : Thread M) → In th v → L.Valid th.config)
      → ((th : Thread M) → In th v → (k : ℕ) → k < steps → out th k ≡ true → (last th.trail < n) × Still M i n th.config k) → Spared M out (suc n) v
  early-spared out i n w v z h l s valid idle th m k known o =
      let q = idle th m k known o in
      aged-spare i n k v th z h l (valid th m) (λ x p. settled-begun M n w v x s p) (aged-early M n w v th s m q.0) q.1 known

-- ---- from event to event

-- what is left out of a thread's steps on event n, for every n: of a thread whose last step was taken before the event before n, steps that do
-- the same on every event
pub record Spares (M : Machine) (out : ℕ → Thread M → ℕ → Bool) : Type 0 where
  pub begun-is : (n : ℕ) (th : Thread M) (k : ℕ) → out n th k ≡ true → begun th.trail ≡ true
  pub early : (n : ℕ) (th : Thread M) (k : ℕ) → out n th k ≡ true → suc (last th.trail) < n
  pub still : (i n m : ℕ) (th : Thread M) (k : ℕ) → out n th k ≡ true → Still M i m th.config k

-- a waiting list before event n of a search from event i: what may be left out of its steps, and that it is distinct and within the slots
pub record Ready (M : Machine) (out : ℕ → Thread M → ℕ → Bool) (slots i n : ℕ) (w : List (Thread M)) : Type 0 where
  pub spared : n < end_of M i → Spared M (out n) n w
  pub once : Distinct (configs M w)
  pub roomy : (m : ℕ) → length (stayers M m w) ≤ slots

module _ (M : Machine) (L : Laws M) (out : ℕ → Thread M → ℕ → Bool) (O : Spares M out) (slots i : ℕ) where
  open M use {events}

  -- before the first event
  pub ready-start : Ready M out slots i i (origin M)
  unfolding origin
  ready-start =
      record {
        spared = λ h th m k l o. absurd (true≢false (sym (O.begun-is i th k o) ∙ none-begun th (Memᴰ.cases_cons m)));
        once = (λ m. Memᴰ.not-nil m, tt);
        roomy = origin-roomy M L slots;
      }
    where
      none-begun : (th : Thread M) → (th ≡ record { config = M.start; trail = [] }) ⊎ In th [] → begun th.trail ≡ false
      none-begun th (inl q) = ap (λ (x : Thread M). begun x.trail) q
      none-begun th (inr m) = absurd (Memᴰ.not-nil m)

  -- the waiting list is the same without the steps that are left out
  pub ready-settle : (n : ℕ) (w : List (Thread M)) → n < end_of M i → Ready M out slots i n w → settle M slots n w ≡ settle_but M (out n) slots n w
  ready-settle n w h r = settle-but M L (out n) slots n w (r.roomy n) r.once (r.spared h)

  -- the next event
  pub ready-next : (n : ℕ) (w v : List (Thread M)) → i ≤ events → i ≤ n → settle M slots n w ≡ some v → length v ≤ slots
      → ((th : Thread M) → In th v → L.Valid th.config) → Ready M out slots i n w → Ready M out slots i (suc n) v
  ready-next n w v z h q fits valid r =
      let s = settle-settled M L slots n w v (r.roomy n) r.once q in
      record {
        spared = λ l. early-spared M L (out (suc n)) i n w v z h l s valid
            (λ th m k known o. (omega (arith, O.early (suc n) th k o), O.still i (suc n) n th k o));
        once = s.once;
        roomy = few-roomy M L slots v fits;
      }

  -- behind the stretch nothing is left out
  pub ready-over : (n m : ℕ) (w : List (Thread M)) → end_of M i ≤ m → Ready M out slots i n w → Ready M out slots i m w
  ready-over n m w h r = record { spared = λ l. absurd (omega (arith, l, h)); once = r.once; roomy = r.roomy }
