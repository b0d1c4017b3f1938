-- What each function of the code computes, one branch at a time.
use Prim.Native.Nat.{ℕ, zero, suc, ◌+◌, ◌-◌, ◌/◌, ◌%◌, ◌<◌, ◌≤◌}
use mathlib.Core.Path.{◌≡◌, refl, ap, sym, ◌∙◌}
use mathlib.Core.Bool.{true, false}
use mathlib.Core.List.{List}
use native.Mathlib.Numerals.{add-one}
use native.Mathlib.Omega.{arith}
use lib.ListN.{length, get_or, drop, drop_of_length-le, get_or-eq_default}
use borrow.Author.Tests.{lt-ltb, le-ltb, le-leb, lt-leb, eq-eqb, ne_eqb}
use Rattle.base.proofs.Lists.{drop-next}
use Rattle.event_log.specs.declared.Loaded.{Loaded}
use Rattle.event_log.specs.inner.Loading.{loaded_at}
use Rattle.machine_code.specs.inner.Bytes.{width_of, offset_of}
use Rattle.lists.specs.inner.Words.{add_in, gather_in, gather_from, gather_step, entry_in, target_in, read_back, meets}

-- the clause at a place
module _ (f values : List ℕ) (at : ℕ) (l : List ℕ) (o : ℕ) (operand : o ≡ get_or f (at + 2) 0) where
  pub gather-adds : (b x : ℕ) → get_or f at 0 ≡ 0x17 → 8 ≤ o → b ≡ get_or f (at + 1) 0 → x ≡ get_or values b 0 → add_in l (o - 8) x ≡ gather_in f values at l
  unfolding gather_in
  gather-adds b x h k p q = rw (eq-eqb (get_or f at 0) 0x17 h, ← operand, le-leb 8 o k, ← p, ← q)

  pub gather-low : get_or f at 0 ≡ 0x17 → o < 8 → l ≡ gather_in f values at l
  unfolding gather_in
  gather-low h k = rw (eq-eqb (get_or f at 0) 0x17 h, ← operand, lt-leb 8 o k)

pub gather-other : (f values : List ℕ) (at : ℕ) (l : List ℕ) → (get_or f at 0 ≡ 0x17 → ⊥) → l ≡ gather_in f values at l
unfolding gather_in
gather-other f values at l h = rw (ne_eqb (get_or f at 0) 0x17 h)

-- What is left of the clauses of a step from a place on: with so much fuel, which the bytes left do not use up, it gives the whole.
pub record Left (f values : List ℕ) (whole : List ℕ) (place : ℕ) (l : List ℕ) : Type 0 where
  pub fuel : ℕ
  pub enough : length f < place + fuel
  pub is : whole ≡ gather_from fuel f values place l

module _ (f values : List ℕ) (whole : List ℕ) (place : ℕ) (l : List ℕ) (h : Left f values whole place l) where
  -- no clause stands there
  pub left-done : width_of (get_or f place 0) ≡ 0 → l ≡ whole
  unfolding gather_from
  left-done e = sym (h.is ∙ go h.fuel)
    where
      go : (n : ℕ) → gather_from n f values place l ≡ l
      go zero = refl
      go (suc n) = rw (eq-eqb (width_of (get_or f place 0)) 0 e)

  -- nothing does past the end
  pub left_end : length f ≤ place → l ≡ whole
  unfolding width_of
  left_end k = left-done (ap width_of (get_or-eq_default f 0 k))

  -- the next clause
  pub left-next : (w : ℕ) → w ≡ width_of (get_or f place 0) → (w ≡ 0 → ⊥) → place < length f → Left f values whole (place + w) (gather_in f values place l)
  unfolding gather_from
  left-next w e n k = go h.fuel h.enough h.is
    where
      go : (m : ℕ) → length f < place + m → whole ≡ gather_from m f values place l → Left f values whole (place + w) (gather_in f values place l)
      go zero q r = absurd (omega arith)
      go (suc m) q r = record { fuel = m; enough = omega arith; is = r ∙ step }
        where
          step : gather_from (suc m) f values place l ≡ gather_from m f values (place + w) (gather_in f values place l)
          step = rw (← e, ne_eqb w 0 n)

pub left-start : (f values : List ℕ) (at : ℕ) (l : List ℕ) → Left f values (gather_step f values at l) (at + 2) l
unfolding gather_step
left-start f values at l = record { fuel = suc (length f); enough = omega arith; is = refl }

-- the state that a step leads to
pub target_none : (f : List ℕ) (at s : ℕ) → at ≡ 0 → s ≡ target_in f at s
unfolding target_in
target_none f at s h = rw (eq-eqb at 0 h)

pub target-there : (f : List ℕ) (at s b : ℕ) → (at ≡ 0 → ⊥) → at < length f → b ≡ get_or f (at + 1) 0 → b ≡ target_in f at s
unfolding target_in
target-there f at s b h k e = rw (ne_eqb at 0 h, lt-ltb at (length f) k, e)

pub target_past : (f : List ℕ) (at s : ℕ) → (at ≡ 0 → ⊥) → length f ≤ at → s ≡ target_in f at s
unfolding target_in
target_past f at s h k = rw (ne_eqb at 0 h, le-ltb at (length f) k)

-- what the step at an offset gathered
module _ (b places : List ℕ) (fields : ℕ) (f : List ℕ) (at event : ℕ) (l : List ℕ) where
  pub entry-none : at ≡ 0 → l ≡ entry_in b places fields f at event l
  unfolding entry_in
  entry-none h = rw (eq-eqb at 0 h)

  pub entry_past : (at ≡ 0 → ⊥) → length f ≤ at → l ≡ entry_in b places fields f at event l
  unfolding entry_in
  entry_past h k = rw (ne_eqb at 0 h, le-ltb at (length f) k)

  pub entry-there : (at ≡ 0 → ⊥) → at < length f → (p : ℕ) (e : Loaded) → p ≡ get_or places event 0 → e ≡ loaded_at b fields p
      → gather_step f e.event.values at l ≡ entry_in b places fields f at event l
  unfolding entry_in
  entry-there h k p e q r = rw (ne_eqb at 0 h, lt-ltb at (length f) k, ← q, ← r)

-- the next word of a trail
module _ (b places : List ℕ) (fields : ℕ) (f table : List ℕ) (state : ℕ) (l words : List ℕ) (i : ℕ) where
  pub back-next : (at s : ℕ) (m : List ℕ) → i < length words → at ≡ offset_of table state (get_or words i 0 % 8)
      → m ≡ entry_in b places fields f at (get_or words i 0 / 8) l → s ≡ target_in f at state
      → read_back b places fields f table state l (drop i words) ≡ read_back b places fields f table s m (drop (i + 1) words)
  unfolding read_back
  back-next at s m h p q r =
      rw (drop-next words i h)
      (ap (λ a. read_back b places fields f table (target_in f a state) (entry_in b places fields f a (get_or words i 0 / 8) l) (drop (i + 1) words)) (sym p)
      ∙ rw (q, r))

  pub back_done : length words ≤ i → read_back b places fields f table state l (drop i words) ≡ l
  unfolding read_back
  back_done h = rw (drop_of_length-le words h)

-- the values of a list one after the other, up to place n: before the i-th none is x
pub meets-next : (l : List ℕ) (i n x : ℕ) → i < n → (get_or l i 0 ≡ x → ⊥) → meets l i (n - i) x ≡ meets l (i + 1) (n - (i + 1)) x
unfolding meets
meets-next l i n x h ne =
    let e : n - i ≡ suc (n - (i + 1)) = omega arith in
    rw (e, ne_eqb (get_or l i 0) x ne, add-one i)

pub meets-here : (l : List ℕ) (i n x : ℕ) → i < n → get_or l i 0 ≡ x → meets l i (n - i) x ≡ true
unfolding meets
meets-here l i n x h e =
    let q : n - i ≡ suc (n - (i + 1)) = omega arith in
    rw (q, eq-eqb (get_or l i 0) x e)

pub meets-end : (l : List ℕ) (i n x : ℕ) → n ≤ i → meets l i (n - i) x ≡ false
unfolding meets
meets-end l i n x h =
    let q : n - i ≡ 0 = omega arith in
    rw q
