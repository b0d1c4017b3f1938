-- Writing words into a list: what stands where, before, behind and at them.
use Prim.Native.Nat.{ℕ, zero, suc, ◌+◌, ◌-◌, ◌<◌, ◌≤◌}
use mathlib.Core.Path.{◌≡◌, refl, ap, sym, ◌∙◌}
use mathlib.Core.List.{List, [], ◌∷◌, ◌++◌, append_assoc}
use native.Mathlib.Numerals.{add-one}
use native.Mathlib.Omega.{arith}
use lib.ListN.{length, get_or, take, drop, set, length-append, length-drop, take-append-drop}
use lib.Seq.{take_at, drop_at, drop-drop, drop-cons, set_at, length-take-le, take-append-le, drop-append-le, take-take}
use borrow.Rule.Slice.PartMut.{put_mid}
use Rattle.slots.specs.inner.Words.{put}

-- a part that lies within the list has its length
pub part_length : (a n : ℕ) (l : List ℕ) → a + n ≤ length l → length (take n (drop a l)) ≡ n
part_length a n l h =
    let d : length (drop a l) ≡ length l - a = length-drop a l in
    length-take-le n (drop a l) (omega arith)

-- a part of what a list begins with
pub part-take : (j k n : ℕ) (l : List ℕ) → j + k ≤ n → take k (drop j (take n l)) ≡ take k (drop j l)
part-take zero k n l h = take-take k n l (omega arith)
part-take (suc j) k zero l h = absurd (omega arith)
part-take (suc j) k (suc n) [] h = refl
part-take (suc j) k (suc n) (x ∷ l) h = part-take j k n l (omega arith)

-- as a part that is written over leaves it
pub mid-put : (a n : ℕ) (l ws vs : List ℕ) → ws ≡ vs → length vs ≡ n → put_mid a n l ws ≡ put l a vs
unfolding put
mid-put a n l ws vs e h = rw (e, ← h) (ap (λ x. take a l ++ (vs ++ x)) (drop-drop (length vs) a l))

pub put-length : (l : List ℕ) (a : ℕ) (ws : List ℕ) → a + length ws ≤ length l → length (put l a ws) ≡ length l
unfolding put
put-length l a ws h =
    let t : length (take a l) ≡ a = length-take-le a l (omega arith) in
    let d : length (drop (a + length ws) l) ≡ length l - (a + length ws) = length-drop (a + length ws) l in
    let p : length (take a l ++ (ws ++ drop (a + length ws) l)) ≡ length (take a l) + length (ws ++ drop (a + length ws) l) =
    length-append (take a l) (ws ++ drop (a + length ws) l) in
    let q : length (ws ++ drop (a + length ws) l) ≡ length ws + length (drop (a + length ws) l) = length-append ws (drop (a + length ws) l) in
    omega arith

-- behind the words, and from where they begin
pub drop-put : (l : List ℕ) (a : ℕ) (ws : List ℕ) → a ≤ length l → drop a (put l a ws) ≡ ws ++ drop (a + length ws) l
unfolding put
drop-put l a ws h = drop_at (take a l) (ws ++ drop (a + length ws) l) a (length-take-le a l h)

pub drop-put-behind : (l : List ℕ) (a : ℕ) (ws : List ℕ) (b : ℕ) → a ≤ length l → a + length ws ≤ b → drop b (put l a ws) ≡ drop b l
drop-put-behind l a ws b h k =
    let n = b - a in
    let e : a + n ≡ b = omega arith in
    let m : length ws + (n - length ws) ≡ n = omega arith in
    let o : a + length ws + (n - length ws) ≡ b = omega arith in
    ap (λ i. drop i (put l a ws)) (sym e)
    ∙ sym (drop-drop n a (put l a ws))
    ∙ ap (drop n) (drop-put l a ws h)
    ∙ ap (λ i. drop i (ws ++ drop (a + length ws) l)) (sym m)
    ∙ sym (drop-drop (n - length ws) (length ws) (ws ++ drop (a + length ws) l))
    ∙ ap (drop (n - length ws)) (drop_at ws (drop (a + length ws) l) (length ws) refl)
    ∙ drop-drop (n - length ws) (a + length ws) l
    ∙ ap (λ i. drop i l) o

-- a part that ends before the words begin
pub part-put-before : (l : List ℕ) (a : ℕ) (ws : List ℕ) (b n : ℕ) → a ≤ length l → b + n ≤ a → take n (drop b (put l a ws)) ≡ take n (drop b l)
unfolding put
part-put-before l a ws b n h k =
    let t : length (take a l) ≡ a = length-take-le a l h in
    let d : length (drop b (take a l)) ≡ length (take a l) - b = length-drop b (take a l) in
    ap (take n) (drop-append-le b (take a l) (ws ++ drop (a + length ws) l) (omega arith))
    ∙ take-append-le n (drop b (take a l)) (ws ++ drop (a + length ws) l) (omega arith)
    ∙ sym (take-append-le n (drop b (take a l)) (drop a l) (omega arith))
    ∙ ap (take n) (sym (drop-append-le b (take a l) (drop a l) (omega arith)) ∙ ap (drop b) (take-append-drop a l))

module _ (l w p : List ℕ) (a : ℕ) (e : w ≡ p ++ drop a l) (s : length p ≡ a) where
  -- words written behind those that stand there already
  pub put_next : (ws : List ℕ) → put w a ws ≡ (p ++ ws) ++ drop (a + length ws) l
  unfolding put
  put_next ws =
      let t : take a (p ++ drop a l) ≡ p = take_at p (drop a l) a s in
      let d : drop (a + length ws) (p ++ drop a l) ≡ drop (a + length ws) l = sym (drop-drop (length ws) a (p ++ drop a l))
      ∙ ap (drop (length ws)) (drop_at p (drop a l) a s) ∙ drop-drop (length ws) a l in
      rw (e, t, d) (sym (append_assoc p ws (drop (a + length ws) l)))

  pub set_next : (v : ℕ) → a < length l → set w a v ≡ (p ++ (v ∷ [])) ++ drop (a + 1) l
  set_next v h = rw (e, drop-cons l a 0 h, set_at p (get_or l a 0) (drop (suc a) l) v a s, add-one a) (sym (append_assoc p (v ∷ []) (drop (suc a) l)))
