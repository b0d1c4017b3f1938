-- One least thread a configuration stands for all live threads: the same endings, the same count, event after event. So
-- every list that settles on each event gives the definition's answer.
use mathlib.Core.Path.{◌≡◌, refl, sym, ap, ap₂, ◌∙◌, subst}
use mathlib.Core.Logic.{◌⊎◌, inl, inr}
use mathlib.Core.Bool.{Bool, true, false, true≢false}
use mathlib.Core.Option.{Option, none}
use mathlib.Core.List.Memᴰ
use mathlib.Core.List.{List, [], ◌∷◌, ◌++◌, map}
use Prim.Native.Nat.{ℕ, zero, suc, ◌+◌, ◌-◌, ◌≤◌, ◌<◌, max}
use native.Mathlib.Nat.{le_refl}
use native.Mathlib.Omega.{arith}
use lib.Dec.{ltb}
use lib.ListN.{length, length-map, length-append}
use Rattle.runs.specs.Lists.{In, Distinct}
use Rattle.runs.specs.inner.Lists.{keep}
use Rattle.runs.specs.Machine.{Machine}
use Rattle.runs.specs.inner.Laws.{Laws}
use Rattle.runs.specs.Run.{Quiet, Follow}
use Rattle.runs.specs.Waiting.{Hopeful}
use Rattle.runs.specs.Answer.{Answer}
use Rattle.runs.specs.inner.Search.{Thread, moves, stays, unended, offers, next, ended, endings, least, hopeful, waiting, waiting_count, overfull, outcome, scan, origin, end_of, search}
use Rattle.runs.specs.inner.Threads.{candidates}
use Rattle.runs.proofs.Lists.{only-in, only-first, only-rest, Passed, keep-in, keep_out, Given, turn_in, turn-out, Image, map-in, map-out, distinct-in, distinct-out, distinct-once, same_length}
use Rattle.runs.proofs.Comparison.{AtMost, at-most-append}
use Rattle.runs.proofs.Trails.{follow_one, follow-valid, start-weight}
use Rattle.runs.proofs.Moves.{stepped, Moved, moves-in, moves_out, stays-in, stays_out, begun-same, unended-in, unended-out, hopeful-in, hopeful-out, hopeless-in}
use Rattle.runs.proofs.Least.{some≢none, Under, least-agrees}
use Rattle.runs.proofs.Stretch.{end-least, end-most, expired-on, expired-silent}
use Rattle.runs.proofs.Reach.{Live, Exact, exact-next, exact-origin, endings-in, move-length}
use Rattle.runs.proofs.LeastTrails.{configs, Covered, covered-trans, covered-self}

module _ (M : Machine) where
  open M use {Config, committed, fire, expired, steps}

  -- from event n on, in the stretch of event i, no step fires, and all are expired
  record Dead (i n : ℕ) (c : Config) : Type 0 where
    silent : (m k : ℕ) → n ≤ m → m < end_of M i → k < steps → fire c m k ≡ none
    gone : (m k : ℕ) → n ≤ m → m < end_of M i → k < steps → expired c k m ≡ true

  -- the threads of w are some of all, and cover all that can still move or wait from event n on
  record Selects (i n : ℕ) (w all : List (Thread M)) : Type 0 where
    from : (th : Thread M) → In th w → In th all
    covers : (th : Thread M) → In th all → Covered M w th ⊎ Dead i n th.config

  -- the list more is one least thread a configuration of what the threads of w offer on event n
  pub record Settled (n : ℕ) (w more : List (Thread M)) : Type 0 where
    pub from : (x : Thread M) → In x more → In x (candidates M n w)
    pub covers : (x : Thread M) → In x (candidates M n w) → Covered M more x
    pub once : Distinct (configs M more)

  -- on every event the step settles a list of distinct configurations
  abbrev pub Settles : (ℕ → List (Thread M) → List (Thread M)) → Type 0
  Settles step = (n : ℕ) (w : List (Thread M)) → Distinct (configs M w) → Settled n w (step n w)

  -- ---- what holds of a thread holds of another in its configuration

  -- the thread w with the step that th takes
  shifted : (n : ℕ) (th x w : Thread M) → w.config ≡ th.config → (v : Moved M n th x) → In (stepped M w n v.number x.config) (moves M n w)
  shifted n th x w e v =
      moves_out M n w v.number x.config v.known (ap (λ c. fire c n v.number) e ∙ v.fires)
      (λ c j q. ap (λ z. fire z n j) e ∙ v.lowest (ap committed (sym e) ∙ c) j q)

  shifted-under : (n : ℕ) (th x w : Thread M) (v : Moved M n th x) → length w.trail ≡ length th.trail → AtMost w.trail th.trail
      → AtMost (stepped M w n v.number x.config).trail x.trail
  shifted-under n th x w v h a =
      subst (λ (y : Thread M). AtMost (w.trail ++ (record { event = n; step = v.number } ∷ [])) y.trail) (sym v.is)
      (at-most-append w.trail th.trail (record { event = n; step = v.number } ∷ []) h a)

  stays_same : (n : ℕ) (th w : Thread M) → w.config ≡ th.config → length w.trail ≡ length th.trail → stays M n th ≡ true → stays M n w ≡ true
  stays_same n th w e h s =
      let k = stays-in M n th s in
      stays_out M n w (begun-same w.trail th.trail h ∙ k.0) (λ c. subst (λ z. Quiet M z n) (sym e) (k.1 (ap committed (sym e) ∙ c)))

  pub hopeful-same : (n : ℕ) (x y : Thread M) → y.config ≡ x.config → hopeful M n x ≡ true → hopeful M n y ≡ true
  hopeful-same n x y e h = hopeful-out M n y (subst (λ c. Hopeful M c n) (sym e) (hopeful-in M n x h))

  -- a dead thread moves nowhere, and does not wait
  dead-moves : (i n : ℕ) (th x : Thread M) → n < end_of M i → Dead i n th.config → Moved M n th x → ⊥
  dead-moves i n th x l d v = some≢none (sym v.fires ∙ d.silent n v.number (le_refl n) l v.known)

  dead-hope : (i n : ℕ) (th : Thread M) → n < end_of M i → Dead i n th.config → hopeful M n th ≡ true → ⊥
  dead-hope i n th l d h =
      let k = hopeful-in M n th h in
      true≢false (sym (d.gone n k.step (le_refl n) l k.known) ∙ k.alive)

module _ (M : Machine) (L : Laws M) where
  open M use {Config, same, start, final, events}

  -- equal configurations have equally long trails
  same_steps : (i n : ℕ) (a b : Thread M) → Live M i n a → Live M i n b → a.config ≡ b.config → length a.trail ≡ length b.trail
  same_steps i n a b p q e =
      sym (start-weight M L a.config i a.trail p.follows) ∙ ap L.weight e ∙ start-weight M L b.config i b.trail q.follows

  -- what has no unexpired step after n is dead from the next event on
  hopeless-dead : (i n : ℕ) (x : Thread M) → i ≤ events → i ≤ n → Live M i (suc n) x → hopeful M n x ≡ false → Dead M i (suc n) x.config
  hopeless-dead i n x z h l e =
      record {
        silent = λ m k a b q. expired-silent M L i n m k x.config valid z h a b (hopeless-in M n x e k q);
        gone = λ m k a b q. expired-on M L i n m k x.config valid z h a b (hopeless-in M n x e k q);
      }
    where
      valid : L.Valid x.config
      valid = follow-valid M L start x.config i x.trail L.valid_start l.follows

  -- ---- the same least ending

  same-endings : (i n : ℕ) (w all : List (Thread M)) → n < events → n < end_of M i → Exact M i n all → Selects M i n w all
      → least M (endings M n w) ≡ least M (endings M n all)
  unfolding endings
  same-endings i n w all z l x s = least-agrees M (endings M n w) (endings M n all) sub cover one
    where
      sub : (y : Thread M) → In y (endings M n w) → In y (endings M n all)
      sub y m =
          let g = turn_in (λ (th : Thread M). keep (ended M) (moves M n th)) w m in
          turn-out (λ (th : Thread M). keep (ended M) (moves M n th)) (s.from g.giver g.member) g.gives

      under : (th y : Thread M) → In th all → Moved M n th y → final y.config ≡ true → Covered M w th ⊎ Dead M i n th.config → Under M (endings M n w) y
      under th y m v f (inl c) =
          record {
            thread = stepped M c.thread n v.number y.config;
            member = turn-out (λ (th : Thread M). keep (ended M) (moves M n th)) c.member
                (keep_out (ended M) (shifted M n th y c.thread c.config-is v) f);
            under = shifted-under M n th y c.thread v
                (same_steps i n c.thread th (x.sound c.thread (s.from c.thread c.member)) (x.sound th m) c.config-is) c.under;
          }
      under th y m v f (inr d) = absurd (dead-moves M i n th y l d v)

      cover : (y : Thread M) → In y (endings M n all) → Under M (endings M n w) y
      cover y m = of (turn_in (λ (th : Thread M). keep (ended M) (moves M n th)) all m)
        where
          of : Given (λ (th : Thread M). keep (ended M) (moves M n th)) all y → Under M (endings M n w) y
          of g =
              let q = keep-in (ended M) (moves M n g.giver) g.gives in
              under g.giver y g.member (moves-in M n g.giver y q.member) q.passes (s.covers g.giver g.member)

      one : (a b : Thread M) → In a (endings M n all) → In b (endings M n all) → a.trail ≡ b.trail → a ≡ b
      one a b p q e = λ j. record { config = config j; trail = e j }
        where
          config : a.config ≡ b.config
          config = follow_one M start start a.config b.config i b.trail refl
              (subst (λ t. Follow M start i t a.config) e (endings-in M i n all z l x a p).run.path.follows)
              (endings-in M i n all z l x b q).run.path.follows

  -- ---- the same waiting configurations

  candidate : (i n : ℕ) (w more all : List (Thread M)) → n < end_of M i → Settled M n w more → Exact M i n all → Selects M i n w all → (x : Thread M) → In x (next M n all)
      → hopeful M n x ≡ true → Covered M more x
  unfolding next offers candidates
  candidate i n w more all l d ex s x m h = of (turn_in (offers M n) all m)
    where
      enter : (t y : Thread M) → In t w → In y (offers M n t) → y.config ≡ x.config → AtMost y.trail x.trail → Covered M more x
      enter t y k o e a =
          covered-trans M more y x e a
          (d.covers y (keep_out (hopeful M n) (turn-out (offers M n) k o) (hopeful-same M n x y e h)))

      long : (th : Thread M) → In th all → (c : Covered M w th) → length c.thread.trail ≡ length th.trail
      long th k c = same_steps i n c.thread th (ex.sound c.thread (s.from c.thread c.member)) (ex.sound th k) c.config-is

      stay : (th : Thread M) → In th all → stays M n th ≡ true → x ≡ th → Covered M w th ⊎ Dead M i n th.config → Covered M more x
      stay th k e q (inl c) =
          enter c.thread c.thread c.member
          (only-first (keep (unended M) (moves M n c.thread)) (stays_same M n th c.thread c.config-is (long th k c) e))
          (c.config-is ∙ ap (λ (y : Thread M). y.config) (sym q)) (subst (λ (y : Thread M). AtMost c.thread.trail y.trail) (sym q) c.under)
      stay th k e q (inr d) = absurd (dead-hope M i n th l d (hopeful-same M n x th (ap (λ (y : Thread M). y.config) (sym q)) h))

      move : (th : Thread M) → In th all → Moved M n th x → unended M x ≡ true → Covered M w th ⊎ Dead M i n th.config → Covered M more x
      move th k v u (inl c) =
          enter c.thread y c.member
          (only-rest (stays M n c.thread) c.thread (keep_out (unended M) (shifted M n th x c.thread c.config-is v) open-still)) refl
          (shifted-under M n th x c.thread v (long th k c) c.under)
        where
          y : Thread M
          y = stepped M c.thread n v.number x.config

          open-still : unended M y ≡ true
          open-still = unended-out M y (unended-in M x u).0 (omega (
            arith,
            (unended-in M x u).1,
            move-length M n th x v,
            length-append c.thread.trail
                (record { event = n; step = v.number } ∷ []),
            long th k c,
          ))
      move th k v u (inr d) = absurd (dead-moves M i n th x l d v)

      of : Given (offers M n) all x → Covered M more x
      of g = cases (only-in (stays M n g.giver) g.gives)
        where
          cases : ((stays M n g.giver ≡ true) × (x ≡ g.giver)) ⊎ In x (keep (unended M) (moves M n g.giver)) → Covered M more x
          cases (inl e) = stay g.giver g.member e.0 e.1 (s.covers g.giver g.member)
          cases (inr k) =
              let q = keep-in (unended M) (moves M n g.giver) k in
              move g.giver g.member (moves-in M n g.giver x q.member) q.passes (s.covers g.giver g.member)

  -- a thread of the next list is one of the live threads, and may wait
  advanced : (i n : ℕ) (w more all : List (Thread M)) → Settled M n w more → Selects M i n w all → (x : Thread M) → In x more → Passed (hopeful M n) (next M n all) x
  unfolding next candidates
  advanced i n w more all d s x m =
      let q = keep-in (hopeful M n) (next M n w) (d.from x m) in
      record { member = up (turn_in (offers M n) w q.member); passes = q.passes }
    where
      up : Given (offers M n) w x → In x (next M n all)
      up g = turn-out (offers M n) (s.from g.giver g.member) g.gives

  same_count : (i n : ℕ) (w more all : List (Thread M)) → n < end_of M i → Settled M n w more → Exact M i n all → Selects M i n w all
      → length more ≡ waiting_count M n (next M n all)
  unfolding waiting waiting_count
  same_count i n w more all l d ex s =
      sym (length-map more config) ∙ same_length (configs M more) (waiting M n (next M n all))
      d.once (distinct-once same L.same_equal L.equal_same hoped) to back
    where
      config : Thread M → Config
      config th = th.config

      hoped : List Config
      hoped = map (λ (th : Thread M). th.config) (keep (hopeful M n) (next M n all))

      to : (c : Config) → In c (configs M more) → In c (waiting M n (next M n all))
      to c m = of (map-in (λ (th : Thread M). th.config) more m)
        where
          of : Image (λ (th : Thread M). th.config) more c → In c (waiting M n (next M n all))
          of g =
              let q = advanced i n w more all d s g.source g.member in
              subst (λ z. In z (waiting M n (next M n all))) (sym g.is) (distinct-out same L.same_equal L.equal_same
              (map-out (λ (th : Thread M). th.config) (keep_out (hopeful M n) q.member q.passes)))

      back : (c : Config) → In c (waiting M n (next M n all)) → In c (configs M more)
      back c m = of (map-in (λ (th : Thread M). th.config) (keep (hopeful M n) (next M n all)) (distinct-in same L.same_equal L.equal_same hoped m))
        where
          of : Image (λ (th : Thread M). th.config) (keep (hopeful M n) (next M n all)) c → In c (configs M more)
          of g =
              let q = keep-in (hopeful M n) (next M n all) g.member in
              let k = candidate i n w more all l d ex s g.source q.member q.passes in
              subst (λ z. In z (configs M more)) (k.config-is ∙ sym g.is) (map-out (λ (th : Thread M). th.config) k.member)

  selects-next : (i n : ℕ) (w more all : List (Thread M)) → i ≤ events → i ≤ n → n < end_of M i → Settled M n w more → Exact M i n all → Selects M i n w all
      → Selects M i (suc n) more (next M n all)
  selects-next i n w more all z h l d ex s = record { from = λ th m. (advanced i n w more all d s th m).member; covers = λ th m. go th m (hopeful M n th) refl }
    where
      go : (th : Thread M) → In th (next M n all) → (b : Bool) → hopeful M n th ≡ b → Covered M more th ⊎ Dead M i (suc n) th.config
      go th m true e = inl (candidate i n w more all l d ex s th m e)
      go th m false e = inr (hopeless-dead i n th z h ((exact-next M i n all h (omega (arith, l, end-most M i z)) ex).sound th m) e)

  -- ---- the same answer

  same-scan : (step : ℕ → List (Thread M) → List (Thread M)) → Settles M step → (slots i f n p : ℕ) (w all : List (Thread M)) → i ≤ events → i ≤ n
      → n + f ≡ end_of M i → Distinct (configs M w) → Exact M i n all → Selects M i n w all
      → scan M step (λ m ths. length ths) slots f n w p ≡ scan M (next M) (waiting_count M) slots f n all p
  unfolding scan
  same-scan step ok slots i zero n p w all z h e u x s = refl
  same-scan step ok slots i (suc f) n p w all z h e u x s =
      ap₂ (λ (o : Option (Thread M)) (a : Answer M). outcome M o p a) (same-endings i n w all b l x s)
      (ap₂ (λ (k : ℕ) (a : Answer M). overfull M (ltb slots k) n a) count
      (ap (λ (k : ℕ). scan M step (λ m ths. length ths) slots f (suc n) (step n w) (max p k)) count ∙
      same-scan step ok slots i f (suc n) (max p (waiting_count M n (next M n all))) (step n w) (next M n all) z (omega (arith, h)) (omega (arith, e))
      (ok n w u).once (exact-next M i n all h b x) (selects-next i n w (step n w) all z h l (ok n w u) x s)))
    where
      l : n < end_of M i
      l = omega (arith, e)

      b : n < events
      b = omega (arith, l, end-most M i z)

      count : length (step n w) ≡ waiting_count M n (next M n all)
      count = same_count i n w (step n w) all l (ok n w u) x s

  -- a list that settles on every event gives what the definition gives
  pub scan-search : (step : ℕ → List (Thread M) → List (Thread M)) → Settles M step → (slots i : ℕ) → i ≤ events
      → scan M step (λ m ths. length ths) slots (end_of M i - i) i (origin M) 0 ≡ search M slots i
  unfolding origin search
  scan-search step ok slots i z =
      same-scan step ok slots i (end_of M i - i) i 0 (origin M) (origin M) z (le_refl i) (omega (arith, end-least M i)) (λ m. Memᴰ.not-nil m, tt)
      (exact-origin M L i) (record { from = λ th m. m; covers = λ th m. inl (covered-self M (origin M) th m) })
