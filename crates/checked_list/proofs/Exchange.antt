-- "Nothing is ever sorted": events with one time count in their recorded order, in every log. M1 to M3 are the smallest case.
use Prim.Native.Nat.{ℕ, zero, suc, ◌+◌, ◌-◌, ◌<◌, ◌≤◌}
use native.Mathlib.Decide.{ℕ_discrete, dec_lt}
use native.Mathlib.Nat.{le_refl}
use native.Mathlib.Omega.{arith}
use mathlib.Core.Path.{◌≡◌, refl, sym, ap, ap₂, subst, ◌∙◌}
use mathlib.Core.Bool.{Bool, true, false, cond, false≢true}
use mathlib.Core.List.{List, [], ◌∷◌}
use mathlib.Core.Option.{Option, none, some}
use lib.ListN.{length, get_or}
use lib.Dec.{eqb}
use Rattle.base.specs.Lists.{All}
use Rattle.base.proofs.Lists.{All-at}
use Rattle.event_log.specs.Log.{Kind, plain, rising, Values, is_there, or_zero, present, field, Event, Log, no_event, event_at, stretch_at}
use Rattle.event_log.specs.File.{values_of, Entry, event, mark, LogFile, events_from, marks_of, log_of}
use Rattle.event_log.specs.Encode.{encode}
use Rattle.event_log.specs.Correct.{Recorded, Correct}
use Rattle.event_log.specs.Latest.{over, seeing, latest, latest_at}
use Rattle.event_log.specs.Read.{read_log, accepted}
use Rattle.event_log.proofs.LastSeen.{or_else, over-at, own, latest-next, latest-other}
use Rattle.event_log.proofs.Encoding.{stretch-least}
use Rattle.event_log.proofs.Accepted.{encoding-is-accepted}
use Rattle.formula.specs.Formula.{Formula, Step}
use Rattle.formula.specs.Lookup.{step_at}
use Rattle.machine.specs.Configuration.{Config}
use Rattle.machine.specs.Expiry.{is_rising, rises, expired}
use Rattle.machine.specs.Machine.{fire_at, expired_by, expired_at}
use Rattle.machine.specs.inner.Valid.{Valid}
use Rattle.machine.proofs.Expiry.{Like, like-expired}

-- a list with its elements n and n + 1 exchanged
abbrev pub exchange_at : {A : Type 0} → ℕ → List A → List A
exchange_at n [] = []
exchange_at zero (a ∷ []) = a ∷ []
exchange_at zero (a ∷ (b ∷ xs)) = b ∷ (a ∷ xs)
exchange_at (suc n) (a ∷ xs) = a ∷ exchange_at n xs

-- entries with events n and n + 1 exchanged, which stand next to each other
abbrev pub exchange_events : ℕ → List Entry → List Entry
exchange_events n [] = []
exchange_events n (mark ∷ es) = mark ∷ exchange_events n es
exchange_events zero (event v ∷ []) = event v ∷ []
exchange_events zero (event v ∷ (mark ∷ es)) = event v ∷ (mark ∷ es)
exchange_events zero (event v ∷ (event w ∷ es)) = event w ∷ (event v ∷ es)
exchange_events (suc n) (event v ∷ es) = event v ∷ exchange_events n es

-- the file, and the log, with these events exchanged
abbrev pub exchange : ℕ → LogFile → LogFile
exchange n t = record { fields = t.fields; entries = exchange_events n t.entries }

abbrev exchanged : ℕ → Log → Log
exchanged n g = record { fields = g.fields; events = exchange_at n g.events }

module _ {A : Type 0} where
  first-at : (n : ℕ) (xs : List A) (d : A) → suc n < length xs → get_or (exchange_at n xs) n d ≡ get_or xs (suc n) d
  first-at n [] d h = absurd (omega arith)
  first-at zero (a ∷ []) d h = absurd (omega arith)
  first-at zero (a ∷ (b ∷ xs)) d h = refl
  first-at (suc n) (a ∷ xs) d h = first-at n xs d (omega arith)

  second_at : (n : ℕ) (xs : List A) (d : A) → suc n < length xs → get_or (exchange_at n xs) (suc n) d ≡ get_or xs n d
  second_at n [] d h = absurd (omega arith)
  second_at zero (a ∷ []) d h = absurd (omega arith)
  second_at zero (a ∷ (b ∷ xs)) d h = refl
  second_at (suc n) (a ∷ xs) d h = second_at n xs d (omega arith)

  other_at : (n : ℕ) (xs : List A) (d : A) (m : ℕ) → (m ≡ n → ⊥) → (m ≡ suc n → ⊥) → get_or (exchange_at n xs) m d ≡ get_or xs m d
  other_at n [] d m p q = refl
  other_at zero (a ∷ []) d m p q = refl
  other_at zero (a ∷ (b ∷ xs)) d zero p q = absurd (p refl)
  other_at zero (a ∷ (b ∷ xs)) d (suc zero) p q = absurd (q refl)
  other_at zero (a ∷ (b ∷ xs)) d (suc (suc m)) p q = refl
  other_at (suc n) (a ∷ xs) d zero p q = refl
  other_at (suc n) (a ∷ xs) d (suc m) p q = other_at n xs d m (λ e. p (ap suc e)) (λ e. q (ap suc e))

  length-exchange : (n : ℕ) (xs : List A) → length (exchange_at n xs) ≡ length xs
  length-exchange n [] = refl
  length-exchange zero (a ∷ []) = refl
  length-exchange zero (a ∷ (b ∷ xs)) = refl
  length-exchange (suc n) (a ∷ xs) = ap suc (length-exchange n xs)

  All-exchange : (P : A → Type 0) (n : ℕ) (xs : List A) → All P xs → All P (exchange_at n xs)
  All-exchange P n [] h = h
  All-exchange P zero (a ∷ []) h = h
  All-exchange P zero (a ∷ (b ∷ xs)) h = (h.1.0, (h.0, h.1.1))
  All-exchange P (suc n) (a ∷ xs) h = (h.0, All-exchange P n xs h.1)

-- the file with its events exchanged records the log with its events exchanged, if no mark stands between them
events-exchanged : (s n : ℕ) (es : List Entry) → suc n < length (events_from s es)
    → (get_or (events_from s es) n no_event).stretch ≡ (get_or (events_from s es) (suc n) no_event).stretch
    → events_from s (exchange_events n es) ≡ exchange_at n (events_from s es)
unfolding events_from
events-exchanged s n [] h e = absurd (omega arith)
events-exchanged s n (mark ∷ es) h e = events-exchanged (suc s) n es h e
events-exchanged s zero (event v ∷ []) h e = refl
events-exchanged s zero (event v ∷ (event w ∷ es)) h e = refl
events-exchanged s zero (event v ∷ (mark ∷ es)) h e =
    let least = All-at (λ (x : Event). suc s ≤ x.stretch) (events_from (suc s) es) 0 no_event (stretch-least (suc s) es) (omega arith) in
    absurd (omega (arith, e, least))
events-exchanged s (suc n) (event v ∷ es) h e = ap (λ x. record { stretch = s; values = values_of v } ∷ x) (events-exchanged s n es (omega arith) e)

marks-exchanged : (n : ℕ) (es : List Entry) → marks_of (exchange_events n es) ≡ marks_of es
unfolding marks_of
marks-exchanged n [] = refl
marks-exchanged n (mark ∷ es) = ap suc (marks-exchanged n es)
marks-exchanged zero (event v ∷ []) = refl
marks-exchanged zero (event v ∷ (event w ∷ es)) = refl
marks-exchanged zero (event v ∷ (mark ∷ es)) = refl
marks-exchanged (suc n) (event v ∷ es) = marks-exchanged n es

-- events n and n + 1 have one time: no mark stands between them, they have the same fields, and no rising field differs
pub record OneTime (g : Log) (n : ℕ) : Type 0 where
  pub there : suc n < length g.events
  pub unparted : stretch_at g n ≡ stretch_at g (suc n)
  pub both : (k : ℕ) → present (event_at g n).values k ≡ present (event_at g (suc n)).values k
  pub same : (k : ℕ) → get_or g.fields k plain ≡ rising → field (event_at g n).values k ≡ field (event_at g (suc n)).values k

records-exchanged : (n : ℕ) (t : LogFile) → OneTime (log_of t) n → log_of (exchange n t) ≡ exchanged n (log_of t)
unfolding event_at
records-exchanged n t o = ap (λ x. record { fields = t.fields; events = x }) (events-exchanged 0 n t.entries o.there o.unparted)

rising-kind : (k : Kind) → is_rising k ≡ true → k ≡ rising
rising-kind plain h = absurd (false≢true h)
rising-kind rising h = refl

-- what is told of each field is told of the values
field_alike : (fields : List Kind) (x y : Values) (o p : ℕ → Option ℕ) → ((k : ℕ) → get_or x k none ≡ o k) → ((k : ℕ) → get_or y k none ≡ p k)
    → ((k : ℕ) → is_there (o k) ≡ is_there (p k)) → ((k : ℕ) → rises fields k ≡ true → or_zero (o k) ≡ or_zero (p k)) → Like fields x y
field_alike fields x y o p e f there same = record {
  there = λ k. ap is_there (e k) ∙ there k ∙ sym (ap is_there (f k));
  same = λ k r. ap or_zero (e k) ∙ same k r ∙ sym (ap or_zero (f k));
}

-- one event more over values that are alike
over-like : (fields : List Kind) (e x y : Values) → Like fields x y → Like fields (over e x) (over e y)
over-like fields e x y l =
    field_alike fields (over e x) (over e y) (λ k. or_else (get_or e k none) (get_or x k none)) (λ k. or_else (get_or e k none) (get_or y k none)) (over-at e x)
    (over-at e y) (λ k. there (get_or e k none) k) (λ k r. same (get_or e k none) k r)
  where
    there : (o : Option ℕ) (k : ℕ) → is_there (or_else o (get_or x k none)) ≡ is_there (or_else o (get_or y k none))
    there none k = l.there k
    there (some z) k = refl

    same : (o : Option ℕ) (k : ℕ) → rises fields k ≡ true → or_zero (or_else o (get_or x k none)) ≡ or_zero (or_else o (get_or y k none))
    same none k r = l.same k r
    same (some z) k r = refl

like-back : (fields : List Kind) (x y : Values) → Like fields x y → Like fields y x
like-back fields x y l = record { there = λ k. sym (l.there k); same = λ k r. sym (l.same k r) }

-- two events with the same fields, over values seen before them
module _ (fields : List Kind) (a b x : Values) (both : (k : ℕ) → present a k ≡ present b k) where
  twice : (v w : Values) (k : ℕ) → get_or (over v (over w x)) k none ≡ or_else (get_or v k none) (or_else (get_or w k none) (get_or x k none))
  twice v w k = over-at v (over w x) k ∙ ap (or_else (get_or v k none)) (over-at w x k)

  -- the second replaces all of the first
  last-like : Like fields (over b (over a x)) (over b x)
  last-like =
      field_alike fields (over b (over a x)) (over b x) (λ k. or_else (get_or b k none) (or_else (get_or a k none) (get_or x k none)))
      (λ k. or_else (get_or b k none) (get_or x k none)) (twice b a) (over-at b x)
      (λ k. ap is_there (go (get_or b k none) (get_or a k none) (get_or x k none) (both k)))
      (λ k r. ap or_zero (go (get_or b k none) (get_or a k none) (get_or x k none) (both k)))
    where
      go : (p q o : Option ℕ) → is_there q ≡ is_there p → or_else p (or_else q o) ≡ or_else p o
      go none none o e = refl
      go none (some z) o e = absurd (false≢true (sym e))
      go (some z) q o e = refl

  -- in either order
  swap-like : ((k : ℕ) → rises fields k ≡ true → field a k ≡ field b k) → Like fields (over a (over b x)) (over b (over a x))
  swap-like same =
      field_alike fields (over a (over b x)) (over b (over a x)) (λ k. or_else (get_or a k none) (or_else (get_or b k none) (get_or x k none)))
      (λ k. or_else (get_or b k none) (or_else (get_or a k none) (get_or x k none))) (twice a b) (twice b a)
      (λ k. there (get_or a k none) (get_or b k none) (get_or x k none) (both k)) (λ k r. equal (get_or a k none) (get_or b k none) (get_or x k none) (both k) (same k r))
    where
      there : (p q o : Option ℕ) → is_there p ≡ is_there q → is_there (or_else p (or_else q o)) ≡ is_there (or_else q (or_else p o))
      there none none o e = refl
      there none (some z) o e = refl
      there (some y) none o e = refl
      there (some y) (some z) o e = refl

      equal : (p q o : Option ℕ) → is_there p ≡ is_there q → or_zero p ≡ or_zero q → or_zero (or_else p (or_else q o)) ≡ or_zero (or_else q (or_else p o))
      equal none none o e f = refl
      equal none (some z) o e f = refl
      equal (some y) none o e f = refl
      equal (some y) (some z) o e f = f

-- one event more over the values of a stretch
latest-more : (g : Log) (s m : ℕ) → latest g s (suc m) ≡ seeing s (event_at g m) (latest g s m)
unfolding latest
latest-more g s m = refl

module _ (g : Log) (n : ℕ) (o : OneTime g n) where
  abbrev h : Log
  h = exchanged n g

  abbrev a : Values
  a = (event_at g n).values

  abbrev b : Values
  b = (event_at g (suc n)).values

  abbrev S : ℕ
  S = stretch_at g n

  event-first : event_at h n ≡ event_at g (suc n)
  unfolding event_at
  event-first = first-at n g.events no_event o.there

  event-second : event_at h (suc n) ≡ event_at g n
  unfolding event_at
  event-second = second_at n g.events no_event o.there

  event-other : (m : ℕ) → (m ≡ n → ⊥) → (m ≡ suc n → ⊥) → event_at h m ≡ event_at g m
  unfolding event_at
  event-other m p q = other_at n g.events no_event m p q

  -- every place keeps its stretch
  stretch-first : stretch_at h n ≡ S
  stretch-first = ap (λ (e : Event). e.stretch) event-first ∙ sym o.unparted

  stretch-second : stretch_at h (suc n) ≡ S
  stretch-second = ap (λ (e : Event). e.stretch) event-second

  stretch-same : (m : ℕ) → stretch_at h m ≡ stretch_at g m
  stretch-same m = go (ℕ_discrete m n) (ℕ_discrete m (suc n))
    where
      go : Dec (m ≡ n) → Dec (m ≡ suc n) → stretch_at h m ≡ stretch_at g m
      go (yes e) q = rw e stretch-first
      go (no x) (yes e) = rw e (stretch-second ∙ o.unparted)
      go (no x) (no y) = ap (λ (e : Event). e.stretch) (event-other m x y)

  rising-same : (k : ℕ) → rises g.fields k ≡ true → field a k ≡ field b k
  rising-same k r = o.same k (rising-kind (get_or g.fields k plain) r)

  -- before the two nothing differs; after the first, and after both, nothing by which a step is judged
  latest-early : (s m : ℕ) → m ≤ n → latest h s m ≡ latest g s m
  unfolding latest
  latest-early s zero i = refl
  latest-early s (suc m) i =
      ap₂ (seeing s) (event-other m (λ e. omega (arith, e)) (λ e. omega (arith, e))) (latest-early s m (omega arith))

  latest-first : latest h S (suc n) ≡ over b (latest g S n)
  latest-first = latest-next h S n stretch-first ∙ ap₂ (λ (e : Event) x. over e.values x) event-first (latest-early S n (le_refl _))

  latest-both : latest h S (suc (suc n)) ≡ over a (over b (latest g S n))
  latest-both = latest-next h S (suc n) stretch-second ∙ ap₂ (λ (e : Event) x. over e.values x) event-second latest-first

  own-both : latest g S (suc (suc n)) ≡ over b (over a (latest g S n))
  own-both = latest-next g S (suc n) (sym o.unparted) ∙ ap (over b) (latest-next g S n refl)

  like-self : (x : Values) → Like g.fields x x
  like-self x = record { there = λ k. refl; same = λ k r. refl }

  -- after both, of their stretch and of every other
  pair-like : (s : ℕ) → Like g.fields (latest h s (suc (suc n))) (latest g s (suc (suc n)))
  pair-like s = go (ℕ_discrete S s)
    where
      go : Dec (S ≡ s) → Like g.fields (latest h s (suc (suc n))) (latest g s (suc (suc n)))
      go (yes e) = rw (← e, latest-both, own-both) (swap-like g.fields a b (latest g S n) o.both rising-same)
      go (no ne) =
          let two : latest h s (suc (suc n)) ≡ latest g s n =
          latest-other h s (suc n) (λ e. ne (sym stretch-second ∙ e)) ∙ latest-other h s n (λ e. ne (sym stretch-first ∙ e)) ∙ latest-early s n (le_refl _) in
          let own-two : latest g s (suc (suc n)) ≡ latest g s n = latest-other g s (suc n) (λ e. ne (o.unparted ∙ e)) ∙ latest-other g s n ne in
          rw (two, own-two) (like-self (latest g s n))

  late-like : (s d : ℕ) → Like g.fields (latest h s (suc (suc n) + d)) (latest g s (suc (suc n) + d))
  late-like s zero = let e : suc (suc n) + 0 ≡ suc (suc n) = omega arith in rw e (pair-like s)
  late-like s (suc d) = rw (e, latest-more h s m, latest-more g s m, here) (go (eqb (stretch_at g m) s) (late-like s d))
    where
      m : ℕ
      m = suc (suc n) + d

      e : suc (suc n) + suc d ≡ suc m
      e = omega arith

      here : event_at h m ≡ event_at g m
      here = event-other m (λ q. omega (arith, q)) (λ q. omega (arith, q))

      v : Values
      v = (event_at g m).values

      go : (t : Bool) → Like g.fields (latest h s m) (latest g s m)
          → Like g.fields (cond t (over v (latest h s m)) (latest h s m)) (cond t (over v (latest g s m)) (latest g s m))
      go true l = over-like g.fields v (latest h s m) (latest g s m) l
      go false l = l

  -- the values before event m, where m is not the second of the two
  latest-like : (s m : ℕ) → (m ≡ suc n → ⊥) → Like g.fields (latest h s m) (latest g s m)
  latest-like s m q = go (dec_lt n m)
    where
      go : Dec (n < m) → Like g.fields (latest h s m) (latest g s m)
      go (yes i) = let e : suc (suc n) + (m - suc (suc n)) ≡ m = omega (arith, q) in rw e at (late-like s (m - suc (suc n)))
      go (no i) = rw (latest-early s m (omega arith)) (like-self (latest g s m))

  -- the other order is a log too
  exchanged-recorded : Recorded g → Recorded h
  exchanged-recorded c =
      record {
        some_field = c.some_field;
        most_fields = c.most_fields;
        most_events = rw (length-exchange n g.events) c.most_events;
        one_per_field = All-exchange (λ (e : Event). length e.values ≡ length g.fields) n g.events c.one_per_field;
        values_fit = All-exchange (λ (e : Event). All (λ (v : Option ℕ). or_zero v < 4294967296) e.values) n g.events c.values_fit;
        never_falls = λ m k i r p. rise m k (rw (length-exchange n g.events) at i) r (ℕ_discrete m n) (ℕ_discrete m (suc n)) p;
        in_order = λ i j l u.
            subst (λ x. x ≤ stretch_at h j) (sym (stretch-same i))
            (subst (λ x. stretch_at g i ≤ x) (sym (stretch-same j)) (c.in_order i j l (rw (length-exchange n g.events) at u)));
      }
    where
      marked : (k : Kind) → k ≡ rising → is_rising k ≡ true
      marked plain e = let z : ◌≡◌ {A = ℕ} 0 1 = cc in absurd (omega arith)
      marked rising e = refl

      -- what must hold of event m, if it is x and of stretch s
      Holds : ℕ → ℕ → ℕ → Event → Type 0
      Holds m k s x = present x.values k ≡ true → field (latest h s m) k ≤ field x.values k

      rise : (m k : ℕ) → m < length g.events → get_or g.fields k plain ≡ rising → Dec (m ≡ n) → Dec (m ≡ suc n) → Holds m k (stretch_at h m) (event_at h m)
      rise m k i r (yes e) q =
          subst (λ z. Holds z k (stretch_at h z) (event_at h z)) (sym e)
          (subst (λ s. Holds n k s (event_at h n)) (sym stretch-first) (subst (Holds n k S) (sym event-first)
          (λ p.
          let f = c.never_falls n k (omega (arith, e, i)) r (o.both k ∙ p) in
          rw (latest-early S n (le_refl _)) (omega (arith, f, o.same k r)))))
      rise m k i r (no x) (yes e) =
          subst (λ z. Holds z k (stretch_at h z) (event_at h z)) (sym e)
          (subst (λ s. Holds (suc n) k s (event_at h (suc n))) (sym stretch-second) (subst (Holds (suc n) k S) (sym event-second)
          (λ p.
          let last : field (latest h S (suc n)) k ≡ field b k = ap (λ v. field v k) latest-first
          ∙ ap or_zero (own b (latest g S n) k (sym (o.both k) ∙ p)) in
          omega (arith, last, o.same k r))))
      rise m k i r (no x) (no y) =
          subst (λ s. Holds m k s (event_at h m)) (sym (stretch-same m)) (subst (Holds m k (stretch_at g m)) (sym (event-other m x y))
          (λ p. omega (arith, c.never_falls m k i r p, (latest-like (stretch_at g m) m y).same k (marked (get_or g.fields k plain) r))))

pub exchange-correct : (t : LogFile) (n : ℕ) → Correct t → OneTime (log_of t) n → Correct (exchange n t)
exchange-correct t n c o = record {
  recorded = rw (records-exchanged n t o) (exchanged-recorded (log_of t) n o c.recorded);
  most_marks = rw (marks-exchanged n t.entries) c.most_marks;
}

-- event m of g is to every formula, step and configuration that a run reaches what event n of h is: the same steps fire on it, to the same effect,
-- and the same steps are hopeless after it
pub record Alike (g : Log) (m : ℕ) (h : Log) (n : ℕ) : Type 0 where
  pub fires : (f : Formula) (c : Config) (k : ℕ) → fire_at g f c m k ≡ fire_at h f c n k
  pub expires : (f : Formula) (states : ℕ) (c : Config) → Valid states c → (k : ℕ) → expired_at g f c k m ≡ expired_at h f c k n

alike : (g h : Log) (m n : ℕ) → g.fields ≡ h.fields → (event_at g m).values ≡ (event_at h n).values
    → Like h.fields (latest_at g m) (latest_at h n) → Alike g m h n
unfolding fire_at expired_at
alike g h m n p q l = record { fires = λ f c k. rw q; expires = λ f states c v k. go states c v (step_at f c.state k) }
  where
    go : (states : ℕ) (c : Config) → Valid states c → (s : Option Step)
        → expired_by g.fields s c (latest_at g m) ≡ expired_by h.fields s c (latest_at h n)
    go states c v none = refl
    go states c v (some s) = ap (λ ks. expired ks c s (latest_at g m)) p ∙ (like-expired h.fields (latest_at g m) (latest_at h n) l states c s v)

first_alike : (g : Log) (n : ℕ) → OneTime g n → Alike (exchanged n g) n g (suc n)
first_alike g n o =
    let s = stretch_at g n in
    let x = (event_at g n).values in
    let y = (event_at g (suc n)).values in
    let one : latest_at (exchanged n g) n ≡ over y (latest g s n) =
    ap (λ z. latest (exchanged n g) z (suc n)) (stretch-first g n o) ∙ latest-first g n o in
    let two : latest_at g (suc n) ≡ over y (over x (latest g s n)) =
    ap (λ z. latest g z (suc (suc n))) (sym o.unparted) ∙ own-both g n o in
    alike (exchanged n g) g n (suc n) refl (ap (λ (e : Event). e.values) (event-first g n o))
    (rw (one, two) (like-back g.fields _ _ (last-like g.fields x y (latest g s n) o.both)))

second_alike : (g : Log) (n : ℕ) → OneTime g n → Alike (exchanged n g) (suc n) g n
second_alike g n o =
    let s = stretch_at g n in
    let x = (event_at g n).values in
    let y = (event_at g (suc n)).values in
    let two : latest_at (exchanged n g) (suc n) ≡ over x (over y (latest g s n)) =
    ap (λ z. latest (exchanged n g) z (suc (suc n))) (stretch-second g n o) ∙ latest-both g n o in
    alike (exchanged n g) g (suc n) n refl (ap (λ (e : Event). e.values) (event-second g n o))
    (rw (two, latest-next g s n refl) (last-like g.fields y x (latest g s n) (λ k. sym (o.both k))))

other-alike : (g : Log) (n : ℕ) → OneTime g n → (m : ℕ) → (m ≡ n → ⊥) → (m ≡ suc n → ⊥) → Alike (exchanged n g) m g m
other-alike g n o m p q =
    alike (exchanged n g) g m m refl (ap (λ (e : Event). e.values) (event-other g n o m p q))
    (rw (stretch-same g n o m) (latest-like g n o (stretch_at g m) (suc m) (λ e. p (omega (arith, e)))))

-- What the two orders of events n and n + 1 have to do with each other.
pub record RecordedOrder (t : LogFile) (n : ℕ) : Type 0 where
  -- each file is accepted, and read in its own order
  pub one-order : read_log (encode t) ≡ accepted t
  pub other-order : read_log (encode (exchange n t)) ≡ accepted (exchange n t)
  -- a step meets on event n of the one what it meets on event n + 1 of the other, and no other event differs
  pub first : Alike (log_of (exchange n t)) n (log_of t) (suc n)
  pub second : Alike (log_of (exchange n t)) (suc n) (log_of t) n
  pub others : (m : ℕ) → m < length (log_of t).events → (m ≡ n → ⊥) → (m ≡ suc n → ⊥) → Alike (log_of (exchange n t)) m (log_of t) m

-- Two events with one time count in recorded order, in every log.
pub recorded-order : (t : LogFile) (n : ℕ) → Correct t → OneTime (log_of t) n → RecordedOrder t n
recorded-order t n c o =
    let g = log_of t in
    let carried : (m k : ℕ) → Alike (exchanged n g) m g k → Alike (log_of (exchange n t)) m g k = λ
    m k. subst (λ (x : Log). Alike x m g k) (sym (records-exchanged n t o)) in
    record {
      one-order = encoding-is-accepted t c;
      other-order = encoding-is-accepted (exchange n t) (exchange-correct t n c o);
      first = carried n (suc n) (first_alike g n o);
      second = carried (suc n) n (second_alike g n o);
      others = λ m h p q. carried m m (other-alike g n o m p q);
    }
