-- An event's table before the event says anything, in its three parts, and those parts copied entry by entry.
use Rattle.event_log.specs.Arrays.{in_event, in_latest}
use Prim.Native.Nat.{ℕ, ◌+◌, ◌<◌, ◌≤◌}
use mathlib.Core.Path.{◌≡◌, refl, sym, subst, ◌∙◌}
use mathlib.Core.Bool.{Bool, true, false}
use mathlib.Core.List.{List}
use native.Mathlib.Omega.{arith}
use borrow.Author.Tests.{eqb-true, eqb-false}
use lib.Dec.{eqb}
use lib.ListN.{length, get_or, set, length-set}
use lib.Seq.{get_or-set_same, get_or-set_other}
use Rattle.threads.specs.declared.Moment.{Moment}
use Rattle.threads.specs.inner.Setting.{EventTable, Firing, stands, Lasting, lasts, Wide}

module _ (f steps : List ℕ) (rises : List Bool) (m : Moment) (table : List ℕ) where
  -- the table before the event says anything
  pub wide-table : Wide steps table → EventTable f table rises m table
  wide-table w =
      record {
        sized = w.sized;
        fires = λ i h. stands refl;
        lapses = λ i h. lasts (w.second i h ∙ sym (w.first i h));
        plain = λ i h. w.third i h ∙ sym (w.first i h);
      }

  -- and its first part has the steps
  pub wide-steps : Wide steps table → (entries : List ℕ) → EventTable f table rises m entries → EventTable f steps rises m entries
  wide-steps w entries e =
      record {
        sized = e.sized;
        fires = λ i h. subst (λ x. Firing f (in_event m.event) x (get_or entries i 0)) (w.first i h) (e.fires i h);
        lapses = λ i h. subst (λ x. Lasting f rises (in_latest m.latest) x (get_or entries (128 + i) 0)) (w.first i h) (e.lapses i h);
        plain = λ i h. e.plain i h ∙ w.first i h;
      }

-- what the first n entries of each part have
abbrev Has : List ℕ → List ℕ → ℕ → ℕ → Type 0
Has steps table part n = (i : ℕ) → i < n → get_or table (part + i) 0 ≡ get_or steps i 0

-- one entry more of a part is copied, or of another part
has_more : (steps table : List ℕ) (part n at : ℕ) → part + n < length table → at ≡ get_or steps n 0 → Has steps table part n
    → Has steps (set table (part + n) at) part (n + 1)
has_more steps table part n at h e c i l = by (eqb i n) refl
  where
    by : (z : Bool) → eqb i n ≡ z → get_or (set table (part + n) at) (part + i) 0 ≡ get_or steps i 0
    by true z = rw (eqb-true i n z) (get_or-set_same table (part + n) at 0 h ∙ e)
    by false z =
        get_or-set_other table (part + n) (part + i) at 0 (λ y. eqb-false i n z (omega (arith, y))) ∙ c i (omega (arith, l, eqb-false i n z))

has_kept : (steps table : List ℕ) (part n at k : ℕ) → ((i : ℕ) → i < n → part + i ≡ k → ⊥) → Has steps table part n → Has steps (set table k at) part n
has_kept steps table part n at k ne c i l = get_or-set_other table k (part + i) at 0 (ne i l) ∙ c i l

-- the first n entries of the three parts are copied
pub record Copied (steps table : List ℕ) (n : ℕ) : Type 0 where
  pub sized : length table ≡ 384
  pub most : n ≤ 128
  pub first : Has steps table 0 n
  pub second : Has steps table 128 n
  pub third : Has steps table 256 n

pub copied_next : (steps table : List ℕ) (n at : ℕ) → n < 128 → at ≡ get_or steps n 0 → Copied steps table n
    → Copied steps (set (set (set table n at) (128 + n) at) (256 + n) at) (n + 1)
copied_next steps table n at h e c =
    let one = set table n at in
    let two = set one (128 + n) at in
    let l₁ : length one ≡ 384 = length-set table n at ∙ c.sized in
    let l₂ : length two ≡ 384 = length-set one (128 + n) at ∙ l₁ in
    let zero-first : 0 + n ≡ n = omega arith in
    let first₁ : Has steps one 0 (n + 1) = subst (λ k. Has steps (set table k at) 0 (n + 1)) zero-first
    (has_more steps table 0 n at (omega (arith, c.sized)) e c.first) in
    let second₁ : Has steps one 128 n = has_kept steps table 128 n at n (λ i l z. omega (arith, z)) c.second in
    let third₂ : Has steps two 256 n = has_kept steps one 256 n at (128 + n) (λ i l z. omega (arith, z, l))
    (has_kept steps table 256 n at n (λ i l z. omega (arith, z)) c.third) in
    record {
      sized = length-set two (256 + n) at ∙ l₂;
      most = omega arith;
      first = has_kept steps two 0 (n + 1) at (256 + n) (λ i l z. omega (arith, z, l))
          (has_kept steps one 0 (n + 1) at (128 + n) (λ i l z. omega (arith, z, l)) first₁);
      second = has_kept steps two 128 (n + 1) at (256 + n) (λ i l z. omega (arith, z, l)) (has_more steps one 128 n at (omega arith) e second₁);
      third = has_more steps two 256 n at (omega arith) e third₂;
    }
