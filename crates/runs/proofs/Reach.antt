-- The lists of the definition hold exactly the live partial runs: sound and complete for the literal runs.
use mathlib.Core.Path.{◌≡◌, refl, sym, ap, ◌∙◌, subst}
use mathlib.Core.Logic.{◌⊎◌, inl, inr}
use mathlib.Core.Bool.{true, false, false≢true}
use mathlib.Core.Option.{none, some}
use mathlib.Core.List.Memᴰ
use mathlib.Core.List.{List, [], ◌∷◌, ◌++◌, map, head-eq_of_cons-eq}
use Prim.Native.Nat.{ℕ, suc, ◌≤◌, ◌<◌}
use native.Mathlib.Nat.{eq-or-lt_of_le}
use native.Mathlib.Omega.{arith}
use lib.ListN.{length}
use Rattle.runs.specs.Lists.{In}
use Rattle.runs.specs.inner.Lists.{keep}
use Rattle.runs.specs.Machine.{Machine}
use Rattle.runs.specs.inner.Laws.{Laws}
use Rattle.runs.specs.Run.{Entry, Trail, last_or, last, Starts, Quiet, Takes, Follow, Steps, Run, Partial}
use Rattle.runs.specs.Waiting.{Waits, Count}
use Rattle.runs.specs.inner.Search.{Thread, begun, moves, stays, unended, offers, next, ended, endings, hopeful, waiting, waiting_count, origin, end_of}
use Rattle.runs.proofs.Lists.{only-in, only-first, only-rest, keep-in, keep_out, Given, turn_in, turn-out, map-in, map-out, distinct-in, distinct-out, distinct-once}
use Rattle.runs.proofs.Trails.{after, after-snoc, last_snoc, after_last, rising-after, length-snoc, follow-rising, follow-snoc, Parted, follow-part}
use Rattle.runs.proofs.Stretch.{inside, unbroken-in}
use Rattle.runs.proofs.Moves.{Moved, moves-in, moves_out, stays-in, stays_out, unended-in, unended-out, hopeful-in, hopeful-out}

-- before event i nothing is taken; from then on the first step is on i
abbrev pub Begins : ℕ → ℕ → Trail → Type 0
Begins i n [] = n ≡ i
Begins i n (x ∷ t) = x.event ≡ i

module _ (M : Machine) where
  open M use {Config, start, committed, final, fire, steps, events}

  -- a partial run of at most 31 steps on events before n, in which no committed state has let a firing event pass
  pub record Live (i n : ℕ) (th : Thread M) : Type 0 where
    pub begins : Begins i n th.trail
    pub follows : Follow M start i th.trail th.config
    pub early : after i th.trail ≤ n
    pub going : final th.config ≡ false
    pub most : length th.trail ≤ 31
    pub patient : committed th.config ≡ true → (m : ℕ) → after i th.trail ≤ m → m < n → Quiet M th.config m

  -- ---- from n to n + 1

  stay-live : (i n : ℕ) (th : Thread M) → Live i n th → stays M n th ≡ true → Live i (suc n) th
  stay-live i n th l s =
      record {
        begins = go th.trail l.begins h.0;
        follows = l.follows;
        early = omega (arith, l.early);
        going = l.going;
        most = l.most;
        patient = λ
            c m p q. wait c m p (eq-or-lt_of_le q);
      }
    where
      h : (begun th.trail ≡ true) × (committed th.config ≡ true → Quiet M th.config n)
      h = stays-in M n th s

      go : (t : Trail) → Begins i n t → begun t ≡ true → Begins i (suc n) t
      go [] b e = absurd (false≢true e)
      go (x ∷ t) b e = b

      wait : committed th.config ≡ true → (m : ℕ) → after i th.trail ≤ m → (suc m ≡ suc n) ⊎ (suc m < suc n) → Quiet M th.config m
      wait c m p (inl q) = subst (Quiet M th.config) (omega (arith, q)) (h.1 c)
      wait c m p (inr q) = l.patient c m p (omega (arith, q))

  pub move-takes : (i n : ℕ) (th x : Thread M) → n < events → Live i n th → (v : Moved M n th x)
      → Takes M th.config (after i th.trail) n v.number x.config
  move-takes i n th x h l v =
      record { going = l.going; later = l.early; there = h; known = v.known; fires = v.fires; lowest = v.lowest; prompt = l.patient }

  -- the moved trail: it begins on i, and leads where the step leads
  record Led (i n : ℕ) (x : Thread M) : Type 0 where
    begins : Starts i x.trail
    follows : Follow M start i x.trail x.config
    ends : last x.trail ≡ n

  move-led : (i n : ℕ) (th x : Thread M) → n < events → Live i n th → Moved M n th x → Led i n x
  move-led i n th x h l v =
      subst (Led i n) (sym v.is) (record {
        begins = go th.trail l.begins;
        follows =
            follow-snoc M start th.config x.config i th.trail e l.follows (move-takes i n th x h l v);
        ends = last_snoc 0 th.trail e;
      })
    where
      e : Entry
      e = record { event = n; step = v.number }

      go : (t : Trail) → Begins i n t → Starts i (t ++ (e ∷ []))
      go [] b = b
      go (y ∷ t) b = b

  move-after : (i n : ℕ) (th x : Thread M) → Moved M n th x → after i x.trail ≡ suc n
  move-after i n th x v = ap (λ (y : Thread M). after i y.trail) v.is ∙ after-snoc i th.trail (record { event = n; step = v.number })

  pub move-length : (n : ℕ) (th x : Thread M) → Moved M n th x → length x.trail ≡ suc (length th.trail)
  move-length n th x v = ap (λ (y : Thread M). length y.trail) v.is ∙ length-snoc th.trail (record { event = n; step = v.number })

  move_live : (i n : ℕ) (th x : Thread M) → n < events → Live i n th → Moved M n th x → unended M x ≡ true → Live i (suc n) x
  move_live i n th x h l v u =
      let d = move-led i n th x h l v in
      record {
        begins = go x.trail d.begins;
        follows = d.follows;
        early = omega (arith, move-after i n th x v);
        going = (unended-in M x u).0;
        most = (unended-in M x u).1;
        patient = λ c m p q. absurd (omega (arith, move-after i n th x v, p, q));
      }
    where
      go : (t : Trail) → Starts i t → Begins i (suc n) t
      go [] b = absurd b
      go (y ∷ t) b = b

  -- ---- from n + 1 back to n

  -- a trail whose last step is on n is a move on n from a live thread
  pub record Step (i n : ℕ) (x : Thread M) : Type 0 where
    pub from : Thread M
    pub live : Live i n from
    pub moved : Moved M n from x

  step-moves : (i n : ℕ) (x : Thread M) (s : Step i n x) → In x (moves M n s.from)
  step-moves i n x s =
      subst (λ z. In z (moves M n s.from)) (sym s.moved.is)
      (moves_out M n s.from s.moved.number x.config s.moved.known s.moved.fires s.moved.lowest)

  step_back : (i n : ℕ) (x : Entry) (t : Trail) (e : Config) → x.event ≡ i → Follow M start i (x ∷ t) e → last (x ∷ t) ≡ n → length (x ∷ t) ≤ 32
      → Step i n (record { config = e; trail = x ∷ t })
  step_back i n x t e b f l h = record { from = record { config = p.middle; trail = p.front }; live = alive; moved = moved }
    where
      p : Parted M start i (x ∷ t) e
      p = follow-part M start e i x t f

      at : p.end.event ≡ n
      at = sym (ap (last_or 0) p.is ∙ last_snoc 0 p.front p.end) ∙ l

      entry : p.end ≡ record { event = n; step = p.end.step }
      entry = λ j. record { event = at j; step = p.end.step }

      begin : (u : Trail) → (x ∷ t) ≡ u ++ (p.end ∷ []) → Begins i n u
      begin [] q = sym at ∙ ap (λ (y : Entry). y.event) (sym (head-eq_of_cons-eq q)) ∙ b
      begin (y ∷ u) q = ap (λ (z : Entry). z.event) (sym (head-eq_of_cons-eq q)) ∙ b

      alive : Live i n (record { config = p.middle; trail = p.front })
      alive =
          record {
            begins = begin p.front p.is;
            follows = p.before;
            early = omega (arith, p.taken.later, at);
            going = p.taken.going;
            most = omega (arith, h, ap length p.is, length-snoc p.front p.end);
            patient = λ c m r s. p.taken.prompt c m r (omega (arith, s, at));
          }

      moved : Moved M n (record { config = p.middle; trail = p.front }) (record { config = e; trail = x ∷ t })
      moved =
          record {
            number = p.end.step;
            known = p.taken.known;
            fires = subst (λ m. fire p.middle m p.end.step ≡ some e) at p.taken.fires;
            lowest = λ c j q. subst (λ m. fire p.middle m j ≡ none) at (p.taken.lowest c j q);
            is = λ j. record { config = e; trail = (p.is ∙ ap (λ (z : Entry). p.front ++ (z ∷ [])) entry) j };
          }

  -- ---- exactly the live threads

  pub record Exact (i n : ℕ) (ths : List (Thread M)) : Type 0 where
    pub sound : (th : Thread M) → In th ths → Live i n th
    pub complete : (th : Thread M) → Live i n th → In th ths

  pub exact-next : (i n : ℕ) (ths : List (Thread M)) → i ≤ n → n < events → Exact i n ths → Exact i (suc n) (next M n ths)
  unfolding next offers
  exact-next i n ths h l x = record { sound = λ th m. sound th m; complete = λ th a. complete th.config th.trail a (eq-or-lt_of_le a.early) }
    where
      sound : (th : Thread M) → In th (next M n ths) → Live i (suc n) th
      sound th m = go (only-in (stays M n g.giver) g.gives)
        where
          g : Given (offers M n) ths th
          g = turn_in (offers M n) ths m

          go : ((stays M n g.giver ≡ true) × (th ≡ g.giver)) ⊎ In th (keep (unended M) (moves M n g.giver)) → Live i (suc n) th
          go (inl s) = subst (Live i (suc n)) (sym s.1) (stay-live i n g.giver (x.sound g.giver g.member) s.0)
          go (inr k) =
              let q = keep-in (unended M) (moves M n g.giver) k in
              move_live i n g.giver th l (x.sound g.giver g.member) (moves-in M n g.giver th q.member) q.passes

      stay : (c : Config) (t : Trail) → Live i (suc n) (record { config = c; trail = t }) → after i t ≤ n → begun t ≡ true → Begins i n t
          → In (record { config = c; trail = t }) (next M n ths)
      stay c t a e b s =
          let th : Thread M = record { config = c; trail = t } in
          turn-out (offers M n)
          (x.complete th (record
          { begins = s; follows = a.follows; early = e; going = a.going; most = a.most; patient = λ k m p q. a.patient k m p (omega (arith, q)) }))
          (only-first (keep (unended M) (moves M n th)) (stays_out M n th b (λ k. a.patient k n e (omega arith))))

      complete : (c : Config) (t : Trail) → Live i (suc n) (record { config = c; trail = t }) → (after i t ≡ suc n) ⊎ (after i t < suc n)
          → In (record { config = c; trail = t }) (next M n ths)
      complete c [] a q = absurd (omega (arith, h, a.begins))
      complete c (y ∷ t) a (inr q) = stay c (y ∷ t) a (omega (arith, q)) refl a.begins
      complete c (y ∷ t) a (inl q) =
          let w : Thread M = record { config = c; trail = y ∷ t } in
          let s = step_back i n y t c a.begins a.follows (omega (arith, q, after_last y t)) (omega (arith, a.most)) in
          turn-out (offers M n) (x.complete s.from s.live)
          (only-rest (stays M n s.from) s.from
          (keep_out (unended M) (step-moves i n w s)
          (unended-out M w a.going a.most)))

  -- the endings on n are exactly the runs whose last event is n
  pub record Ends (i n : ℕ) (x : Thread M) : Type 0 where
    pub run : Run M i x.trail x.config
    pub last-is : last x.trail ≡ n

  pub endings-in : (i n : ℕ) (ths : List (Thread M)) → n < events → n < end_of M i → Exact i n ths → (x : Thread M) → In x (endings M n ths) → Ends i n x
  unfolding endings
  endings-in i n ths l b e x m =
      let g = turn_in (λ (th : Thread M). keep (ended M) (moves M n th)) ths m in
      let q = keep-in (ended M) (moves M n g.giver) g.gives in
      let v = moves-in M n g.giver x q.member in
      let live = e.sound g.giver g.member in
      let d = move-led i n g.giver x l live v in
      let rises = follow-rising M start x.config i x.trail d.follows in
      record {
        run =
            record {
              path =
                  record {
                    least = omega (arith, move-length n g.giver x v);
                    most = omega (arith, move-length n g.giver x v, live.most);
                    begins = d.begins;
                    follows = d.follows;
                    unbroken = unbroken-in M i i 0 x.trail (omega arith) rises (omega (arith, d.ends, b));
                  };
              ends = q.passes;
            };
        last-is = d.ends;
      }

  pub endings-out : (i n : ℕ) (ths : List (Thread M)) → Exact i n ths → (t : Trail) (e : Config) → Run M i t e → last t ≡ n
      → In (record { config = e; trail = t }) (endings M n ths)
  unfolding endings
  endings-out i n ths x [] e r q = absurd r.path.begins
  endings-out i n ths x (y ∷ t) e r q =
      let s = step_back i n y t e r.path.begins r.path.follows q r.path.most in
      turn-out (λ (th : Thread M). keep (ended M) (moves M n th)) (x.complete s.from s.live)
      (keep_out (ended M) (step-moves i n (record { config = e; trail = y ∷ t }) s) r.ends)

module _ (M : Machine) (L : Laws M) where
  open M use {Config, same, start, committed, final, events}

  pub exact-origin : (i : ℕ) → Exact M i i (origin M)
  unfolding origin
  exact-origin i =
      record { sound = λ th m. subst (Live M i i) (sym (Memᴰ.eq_of_singleton m)) first; complete = λ th l. only-start th.config th.trail l }
    where
      first : Live M i i (record { config = start; trail = [] })
      first =
          record {
            begins = refl;
            follows = refl;
            early = omega arith;
            going = L.start_open;
            most = omega arith;
            patient = λ
                c m p q. absurd (omega (arith, p, q));
          }

      only-start : (c : Config) (t : Trail) → Live M i i (record { config = c; trail = t }) → In (record { config = c; trail = t }) (origin M)
      only-start c [] l = Memᴰ.head (λ j. record { config = sym l.follows j; trail = [] })
      only-start c (x ∷ t) l =
          absurd (omega (arith, l.begins, l.early, rising-after (suc x.event) t (follow-rising M start c i (x ∷ t) l.follows).1))

  -- the distinct configurations read off the live threads are exactly those that wait
  pub exact-count : (i n : ℕ) (ths : List (Thread M)) → i ≤ n → n < end_of M i → Exact M i (suc n) ths → Count M i n (waiting_count M n ths)
  unfolding waiting waiting_count
  exact-count i n ths h b x =
      record {
        list = waiting M n ths;
        once = distinct-once same L.same_equal L.equal_same (map (λ (th : Thread M). th.config) (keep (hopeful M n) ths));
        sound = sound;
        complete = complete;
        counted = refl;
      }
    where
      waits : (c : Config) (t : Trail) → Live M i (suc n) (record { config = c; trail = t }) → hopeful M n (record { config = c; trail = t }) ≡ true
          → Waits M i n c
      waits c [] l e = absurd (omega (arith, h, l.begins))
      waits c (y ∷ t) l e =
          record {
            trail = y ∷ t;
            partial = record { path = path; going = l.going };
            most = l.most;
            upto = omega (arith, l.early, after_last y t);
            patient = λ k m p q. l.patient k m (omega (arith, p, after_last y t)) (omega (arith, q));
            hope = hopeful-in M n (record { config = c; trail = y ∷ t }) e;
            unbroken = inside M i n h b;
          }
        where
          path : Steps M i (y ∷ t) c
          path =
              let rises = follow-rising M start c i (y ∷ t) l.follows in
              record {
                least = omega arith;
                most = omega (arith, l.most);
                begins = l.begins;
                follows = l.follows;
                unbroken = unbroken-in M i i 0 (y ∷ t) (omega arith) rises (omega (arith, b, l.early, after_last y t));
              }

      sound : (c : Config) → In c (waiting M n ths) → Waits M i n c
      sound c m =
          let g = map-in (λ (th : Thread M). th.config) (keep (hopeful M n) ths)
          (distinct-in same L.same_equal L.equal_same (map (λ (th : Thread M). th.config) (keep (hopeful M n) ths)) m) in
          let q = keep-in (hopeful M n) ths g.member in
          subst (Waits M i n) (sym g.is) (waits g.source.config g.source.trail (x.sound g.source q.member) q.passes)

      live : (c : Config) (t : Trail) (p : Partial M i t c) → length t ≤ 31 → last t ≤ n → (committed c ≡ true → (m : ℕ) → last t < m → m ≤ n → Quiet M c m)
          → Live M i (suc n) (record { config = c; trail = t })
      live c [] p l u k = absurd p.path.begins
      live c (y ∷ t) p l u k =
          record {
            begins = p.path.begins;
            follows = p.path.follows;
            early = omega (arith, u, after_last y t);
            going = p.going;
            most = l;
            patient = λ c' m a b. k c' m (omega (arith, a, after_last y t)) (omega (arith, b));
          }

      complete : (c : Config) → Waits M i n c → In c (waiting M n ths)
      complete c w =
          let th : Thread M = record { config = c; trail = w.trail } in
          distinct-out same L.same_equal L.equal_same
          (map-out (λ (th : Thread M). th.config)
          (keep_out (hopeful M n) (x.complete th (live c w.trail w.partial w.most w.upto w.patient)) (hopeful-out M n th w.hope)))
