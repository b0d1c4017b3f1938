-- The list of threads with the stayers first settles on every event, so the swift search gives the definition's answer.
use mathlib.Core.Path.{◌≡◌, refl, sym, ap, ◌∙◌, subst}
use mathlib.Core.Logic.{◌⊎◌, inl, inr}
use mathlib.Core.Bool.{Bool, true, false, and-eq-true_iff}
use mathlib.Core.Option.{some, some-injective}
use mathlib.Core.List.Memᴰ
use mathlib.Core.List.{List, [], ◌∷◌}
use Prim.Native.Nat.{ℕ, zero, suc, ◌-◌, ◌≤◌, zero-le, max}
use native.Mathlib.Omega.{arith}
use lib.Dec.{ltb}
use lib.ListN.{length, length-map}
use borrow.Author.Tests.{ltb-true, ltb-false, lt-ltb}
use Rattle.runs.specs.Lists.{In, Distinct}
use Rattle.runs.specs.inner.Lists.{only, keep}
use Rattle.runs.specs.Machine.{Machine}
use Rattle.runs.specs.inner.Laws.{Laws}
use Rattle.runs.specs.Answer.{Answer}
use Rattle.runs.specs.inner.Search.{Thread, moves, stays, unended, offers, next, endings, least, hopeful, overfull, outcome, scan, origin, end_of, search}
use Rattle.runs.specs.inner.Threads.{candidates, insert_all, within, insert_within, chain, onward}
use Rattle.runs.specs.inner.Settle.{lasts, stayers, arrivals, movers, settle, pursue, swift}
use Rattle.runs.proofs.Lists.{only-in, only-first, only-rest, Passed, keep-in, keep_out, Given, turn_in, turn-out, Image, map-in, map-out, at_most}
use Rattle.runs.proofs.Moves.{and_both}
use Rattle.runs.proofs.Least.{some≢none}
use Rattle.runs.proofs.LeastTrails.{configs, Covered, covered-trans, covered-self, insert_all-from, insert_all-keeps, insert_all-covers, insert_all-once, fits}
use Rattle.runs.proofs.Select.{Settled, Settles, scan-search}

module _ {A : Type 0} where
  keep-shorter : (p : A → Bool) (xs : List A) → length (keep p xs) ≤ length xs
  unfolding keep
  keep-shorter p [] = zero-le
  keep-shorter p (x ∷ xs) = go (p x) (keep-shorter p xs)
    where
      go : (b : Bool) → length (keep p xs) ≤ length xs → length (only b x (keep p xs)) ≤ suc (length xs)
      go true h = omega (arith, h)
      go false h = omega (arith, h)

module _ (M : Machine) where
  open M use {Config}

  -- some of a list of distinct configurations are distinct
  pub keep-once : (p : Thread M → Bool) (ths : List (Thread M)) → Distinct (configs M ths) → Distinct (configs M (keep p ths))
  unfolding keep
  keep-once p [] d = tt
  keep-once p (th ∷ ths) d = go (p th) (keep-once p ths d.1)
    where
      up : Image (λ (y : Thread M). y.config) (keep p ths) th.config → In th.config (configs M ths)
      up g = subst (λ c. In c (configs M ths)) (sym g.is) (map-out (λ (y : Thread M). y.config) (keep-in p ths g.member).member)

      go : (b : Bool) → Distinct (configs M (keep p ths)) → Distinct (configs M (only b th (keep p ths)))
      go true h = (λ m. d.0 (up (map-in (λ (y : Thread M). y.config) (keep p ths) m)), h)
      go false h = h

  -- ---- the candidates are the stayers and the movers

  stayer-candidate : (n : ℕ) (w : List (Thread M)) (x : Thread M) → In x (stayers M n w) → In x (candidates M n w)
  unfolding stayers lasts candidates next offers
  stayer-candidate n w x m =
      let q = keep-in (lasts M n) w m in
      let b = and_both (stays M n x) (hopeful M n x) q.passes in
      keep_out (hopeful M n) (turn-out (offers M n) q.member (only-first (keep (unended M) (moves M n x)) b.0)) b.1

  pub mover-candidate : (n : ℕ) (w : List (Thread M)) (x : Thread M) → In x (movers M n w) → In x (candidates M n w)
  unfolding movers arrivals candidates next offers
  mover-candidate n w x m = of (turn_in (arrivals M n) w m)
    where
      of : Given (arrivals M n) w x → In x (candidates M n w)
      of g =
          let q = keep-in (hopeful M n) (keep (unended M) (moves M n g.giver)) g.gives in
          keep_out (hopeful M n) (turn-out (offers M n) g.member (only-rest (stays M n g.giver) g.giver q.member)) q.passes

  pub candidate-cases : (n : ℕ) (w : List (Thread M)) (x : Thread M) → In x (candidates M n w) → In x (stayers M n w) ⊎ In x (movers M n w)
  unfolding stayers lasts movers arrivals candidates next offers
  candidate-cases n w x m = of (keep-in (hopeful M n) (next M n w) m)
    where
      of : Passed (hopeful M n) (next M n w) x → In x (stayers M n w) ⊎ In x (movers M n w)
      of q = from (turn_in (offers M n) w q.member)
        where
          from : Given (offers M n) w x → In x (stayers M n w) ⊎ In x (movers M n w)
          from g = cases (only-in (stays M n g.giver) g.gives)
            where
              cases : ((stays M n g.giver ≡ true) × (x ≡ g.giver)) ⊎ In x (keep (unended M) (moves M n g.giver))
                  → In x (stayers M n w) ⊎ In x (movers M n w)
              cases (inl e) =
                  inl (keep_out (lasts M n) (subst (λ (y : Thread M). In y w) (sym e.1) g.member)
                  ((and-eq-true_iff (stays M n x) (hopeful M n x)).1 (ap (stays M n) e.1 ∙ e.0, q.passes)))
              cases (inr k) = inr (turn-out (arrivals M n) g.member (keep_out (hopeful M n) k q.passes))

  -- ---- the list without a limit

  -- the movers, each configuration once
  unfoldable fresh : ℕ → List (Thread M) → List (Thread M)
  fresh n w = insert_all M [] (movers M n w)

  -- the waiting list after event n, however long
  unfoldable settled : ℕ → List (Thread M) → List (Thread M)
  settled n w = insert_all M (stayers M n w) (fresh n w)

module _ (M : Machine) (L : Laws M) where
  open M use {Config, events}

  settled-settles : Settles M (settled M)
  unfolding settled fresh stayers
  settled-settles n w u =
      record {
        from = λ x m. from x (insert_all-from M (stayers M n w) (fresh M n w) x m);
        covers = λ x m. cover x (candidate-cases M n w x m);
        once = insert_all-once M L (stayers M n w) (fresh M n w) (keep-once M (lasts M n) w u);
      }
    where
      moved : (x : Thread M) → In x [] ⊎ In x (movers M n w) → In x (candidates M n w)
      moved x (inl h) = absurd (Memᴰ.not-nil h)
      moved x (inr h) = mover-candidate M n w x h

      from : (x : Thread M) → In x (stayers M n w) ⊎ In x (fresh M n w) → In x (candidates M n w)
      from x (inl h) = stayer-candidate M n w x h
      from x (inr h) = moved x (insert_all-from M [] (movers M n w) x h)

      cover : (x : Thread M) → In x (stayers M n w) ⊎ In x (movers M n w) → Covered M (settled M n w) x
      cover x (inl h) = insert_all-keeps M L (stayers M n w) (fresh M n w) x (covered-self M (stayers M n w) x h)
      cover x (inr h) =
          let c = insert_all-covers M L [] (movers M n w) x h in
          covered-trans M (settled M n w) c.thread x c.config-is c.under (insert_all-covers M L (stayers M n w) (fresh M n w) c.thread c.member)

  -- distinct threads that are too many by themselves are too many in any list
  rounds-fewer : (ths fs : List (Thread M)) → Distinct (configs M fs) → length fs ≤ length (insert_all M ths fs)
  rounds-fewer ths fs d =
      omega (arith, length-map fs config, length-map (insert_all M ths fs) config, at_most (configs M fs) (configs M (insert_all M ths fs)) d among)
    where
      config : Thread M → Config
      config th = th.config

      of : (c : Config) → Image (λ (th : Thread M). th.config) fs c → In c (configs M (insert_all M ths fs))
      of c g =
          let k = insert_all-covers M L ths fs g.source g.member in
          subst (λ z. In z (configs M (insert_all M ths fs))) (k.config-is ∙ sym g.is) (map-out (λ (th : Thread M). th.config) k.member)

      among : (c : Config) → In c (configs M fs) → In c (configs M (insert_all M ths fs))
      among c m = of c (map-in (λ (th : Thread M). th.config) fs m)

  -- ---- the list within the slots

  -- made distinct within the slots and then inserted: all, where the whole list fits; else nothing
  pub rounds-fit : (slots : ℕ) (ths ms : List (Thread M)) → length ths ≤ slots
      → chain M (insert_within M slots [] ms) (λ more. insert_within M slots ths more)
      ≡ within M (ltb slots (length (insert_all M ths (insert_all M [] ms)))) (some (insert_all M ths (insert_all M [] ms)))
  rounds-fit slots ths ms h =
      ap (λ o. chain M o (λ more. insert_within M slots ths more)) (fits M slots [] ms zero-le) ∙ go (ltb slots (length fs)) refl
    where
      fs : List (Thread M)
      fs = insert_all M [] ms

      go : (b : Bool) → ltb slots (length fs) ≡ b
          → chain M (within M b (some fs)) (λ more. insert_within M slots ths more)
          ≡ within M (ltb slots (length (insert_all M ths fs))) (some (insert_all M ths fs))
      go true e =
          rw (lt-ltb slots (length (insert_all M ths fs)) (omega (arith, ltb-true slots (length fs) e, rounds-fewer ths fs (insert_all-once M L [] ms tt))))
      go false e = fits M slots ths fs h

  settle-fits : (slots n : ℕ) (w : List (Thread M)) → length (stayers M n w) ≤ slots
      → settle M slots n w ≡ within M (ltb slots (length (settled M n w))) (some (settled M n w))
  unfolding settle settled fresh
  settle-fits slots n w h = rounds-fit slots (stayers M n w) (movers M n w) h

  -- what `settle` gives is settled
  pub settle-settled : (slots n : ℕ) (w v : List (Thread M)) → length (stayers M n w) ≤ slots → Distinct (configs M w) → settle M slots n w ≡ some v
      → Settled M n w v
  settle-settled slots n w v h d e = go (ltb slots (length (settled M n w))) (sym (settle-fits slots n w h) ∙ e)
    where
      go : (b : Bool) → within M b (some (settled M n w)) ≡ some v → Settled M n w v
      go true q = absurd (some≢none (sym q))
      go false q = subst (Settled M n w) (some-injective (settled M n w) v q) (settled-settles n w d)

  -- the stayers fit, on any event
  abbrev pub Roomy : ℕ → List (Thread M) → Type 0
  Roomy slots w = (n : ℕ) → length (stayers M n w) ≤ slots

  pub few-roomy : (slots : ℕ) (w : List (Thread M)) → length w ≤ slots → Roomy slots w
  unfolding stayers
  few-roomy slots w h n = omega (arith, h, keep-shorter (lasts M n) w)

  -- the origin does not stay
  pub origin-roomy : (slots : ℕ) → Roomy slots (origin M)
  unfolding stayers lasts stays origin keep
  origin-roomy slots n = zero-le

  pursue-scan : (slots f n p : ℕ) (w : List (Thread M)) → Roomy slots w
      → pursue M slots f n w p ≡ scan M (settled M) (λ m ths. length ths) slots f n w p
  unfolding pursue scan
  pursue-scan slots zero n p w h = refl
  pursue-scan slots (suc f) n p w h =
      ap (outcome M (least M (endings M n w)) p)
      (ap (λ o. onward M o n (λ more. pursue M slots f (suc n) more (max p (length more)))) (settle-fits slots n w (h n))
      ∙ go (ltb slots (length (settled M n w))) refl (pursue-scan slots f (suc n) (max p (length (settled M n w))) (settled M n w)))
    where
      rest : Answer M
      rest = scan M (settled M) (λ m ths. length ths) slots f (suc n) (settled M n w) (max p (length (settled M n w)))

      go : (b : Bool) → ltb slots (length (settled M n w)) ≡ b
          → (Roomy slots (settled M n w) → pursue M slots f (suc n) (settled M n w) (max p (length (settled M n w))) ≡ rest)
          → onward M (within M b (some (settled M n w))) n (λ more. pursue M slots f (suc n) more (max p (length more))) ≡ overfull M b n rest
      go true e ih = refl
      go false e ih = ih (few-roomy slots (settled M n w) (ltb-false slots (length (settled M n w)) e))

  -- the search with the stayers first gives what the definition gives
  pub swift-search : (slots i : ℕ) → i ≤ events → swift M slots i ≡ search M slots i
  unfolding swift
  swift-search slots i z =
      pursue-scan slots (end_of M i - i) i 0 (origin M) (origin-roomy slots) ∙ scan-search M L (settled M) settled-settles slots i z
