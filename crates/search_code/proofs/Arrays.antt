-- A trail's words as arrays of events and step numbers, and what the kind of a state says of a run that ends there.
use Prim.Native.Nat.{ℕ, zero, suc, ◌+◌, ◌/◌, ◌%◌, ◌<◌, ◌≤◌, min}
use mathlib.Core.Path.{◌≡◌, refl, sym, ap, ◌∙◌}
use mathlib.Core.List.{List, [], ◌∷◌, ◌++◌, map, map-append, map-map}
use native.Mathlib.Numerals.{add-one}
use native.Mathlib.Decide.{dec_le}
use native.Mathlib.Omega.{arith}
use lib.ListN.{length, get_or, take, set, get_elem?, length-map, length-take}
use lib.Seq.{take-suc, take_all, length-take-le}
use lib.Dec.{eqb}
use Rattle.base.specs.Lists.{pad}
use Rattle.base.proofs.Lists.{set-pad, get_d-pad}
use Rattle.formula.specs.Formula.{State, StateKind, ordinary, committed, accept, reject}
use Rattle.formula.specs.Encode.{kind_byte}
use Rattle.runs.specs.Run.{Entry}
use Rattle.machine.specs.Machine.{kind_is, is_accept}
use Rattle.slots.specs.declared.Thread.{Thread}
use Rattle.slots.specs.inner.Threads.{trail_of, entry_of}

-- one entry more stands behind those stored
pub store_entry : (part : ℕ → ℕ) (xs array : List ℕ) (k : ℕ) → k < 32 → k < length xs → array ≡ pad 32 0 (map part (take k xs))
    → set array k (part (get_or xs k 0)) ≡ pad 32 0 (map part (take (k + 1) xs))
store_entry part xs array k h i e =
    let done = map part (take k xs) in
    let x = part (get_or xs k 0) in
    let n : length done ≡ k = length-map (take k xs) part ∙ length-take-le k xs (omega arith) in
    let s : set (pad 32 0 done) (length done) x ≡ pad 32 0 (done ++ (x ∷ [])) = set-pad 32 0 done x (omega arith) in
    let t : set (pad 32 0 done) k x ≡ pad 32 0 (done ++ (x ∷ [])) = rw n at s in
    let more : map part (take (k + 1) xs) ≡ done ++ (x ∷ []) = rw (add-one k, take-suc xs k 0 i) (map-append part (take k xs) (get_or xs k 0 ∷ [])) in
    rw (more, e) t

-- of 32 words at most 32 are steps
take-most : (xs : List ℕ) (n : ℕ) → length xs ≡ 32 → take (min n 32) xs ≡ take n xs
take-most xs n h = go (dec_le n 32)
  where
    go : Dec (n ≤ 32) → take (min n 32) xs ≡ take n xs
    go (yes k) = let e : min n 32 ≡ n = omega arith in rw e
    go (no k) = take_all (min n 32) xs (omega arith) ∙ sym (take_all n xs (omega arith))

module _ (t : Thread) (h : length t.trail ≡ 32) where
  pub steps-are : min t.steps 32 ≡ length (trail_of t)
  unfolding trail_of
  steps-are = rw (← h) (sym (length-map (take t.steps t.trail) entry_of ∙ length-take t.steps t.trail))

  -- the arrays that the trail's words give
  pub entries-are : (of : Entry → ℕ) (steps : ℕ) (xs : List ℕ) → steps ≡ min t.steps 32
      → xs ≡ pad 32 0 (map (λ w. of (entry_of w)) (take steps t.trail)) → xs ≡ pad 32 0 (map of (trail_of t))
  unfolding trail_of
  entries-are of steps xs s e =
      e ∙ ap (λ ys. pad 32 0 (map (λ w. of (entry_of w)) ys)) (ap (λ m. take m t.trail) s ∙ take-most t.trail t.steps h)
      ∙ ap (pad 32 0) (sym (map-map of entry_of (take t.steps t.trail)))

-- "2 accept": the kind of a state, by its byte
accept-kind : (k : StateKind) → is_accept k ≡ eqb (kind_byte k) 2
accept-kind ordinary = refl
accept-kind committed = refl
accept-kind accept = refl
accept-kind reject = refl

kind_at : (xs : List State) (s : ℕ) → s < length xs → kind_is is_accept (get_elem? xs s) ≡ eqb (get_or (map (λ (x : State). kind_byte x.kind) xs) s 0) 2
kind_at [] s h = absurd (omega arith)
kind_at (x ∷ xs) zero h = accept-kind x.kind
kind_at (x ∷ xs) (suc s) h = kind_at xs s (omega arith)

pub accepts : (xs : List State) (s : ℕ) → s < length xs → length xs ≤ 16
    → kind_is is_accept (get_elem? xs s) ≡ eqb (get_or (pad 16 0 (map (λ (x : State). kind_byte x.kind) xs)) s 0) 2
accepts xs s h k = kind_at xs s h ∙ ap (λ v. eqb v 2) (sym (get_d-pad 16 0 (map (λ (x : State). kind_byte x.kind) xs) s (omega arith)))
