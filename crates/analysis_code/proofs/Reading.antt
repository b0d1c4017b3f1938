-- A row that is written is read back as the run that it holds, and the rows before it as before.
use Prim.Native.Nat.{ℕ, zero, suc, ◌+◌, ◌*◌, ◌/◌, ◌≤◌}
use mathlib.Core.Path.{◌≡◌, refl, ap, sym, ◌∙◌}
use mathlib.Core.Bool.{Bool, true, false, cond, not}
use mathlib.Core.List.{List, [], ◌∷◌, ◌++◌, append_assoc, append-nil}
use native.Mathlib.Omega.{arith}
use lib.ListN.{length, get_or, take, drop, length-append, take-append-drop}
use lib.Seq.{take_all, take_at, drop_at, drop-drop, length-take-le}
use lib.Dec.{eqb}
use Rattle.std.specs.Simd.{first_chunks}
use Rattle.std.proofs.lemmas.List.{drop-take}
use Rattle.base.proofs.Masks.{bits_back}
use Rattle.base.specs.Mask.{mask, bits_of}
use Rattle.slots.specs.inner.Words.{put}
use Rattle.slots.proofs.Parts.{drop-put, part-take, part-put-before}
use Rattle.analysis.specs.Rows.{NamedRun, subsumed, verdict, none_row, row}
use Rattle.analysis_code.specs.inner.Starts.{run_in, run_if, runs_of, runs_in}

-- the words where they were written
part-put : (l : List ℕ) (a : ℕ) (ws : List ℕ) → a ≤ length l → take (length ws) (drop a (put l a ws)) ≡ ws
part-put l a ws h = ap (take (length ws)) (drop-put l a ws h) ∙ take_at ws (drop (a + length ws) l) (length ws) refl

-- words written behind others are written with them
pub put-put : (l : List ℕ) (a : ℕ) (ws vs : List ℕ) → a + length ws ≤ length l → put l a (ws ++ vs) ≡ put (put l a ws) (a + length ws) vs
unfolding put
put-put l a ws vs h =
    let w = take a l ++ (ws ++ drop (a + length ws) l) in
    let n = length ws in
    let p = take a l ++ ws in
    let s : length p ≡ a + n = rw (length-append (take a l) ws, length-take-le a l (omega arith)) in
    let e : w ≡ p ++ drop (a + n) l = sym (append_assoc (take a l) ws (drop (a + n) l)) in
    let front : take (a + n) w ≡ p = rw e (take_at p (drop (a + n) l) (a + n) s) in
    let back : drop (a + n) w ≡ drop (a + n) l = rw e (drop_at p (drop (a + n) l) (a + n) s) in
    let rest : drop (a + n + length vs) w ≡ drop (a + n + length vs) l = sym (drop-drop (length vs) (a + n) w) ∙ ap (drop (length vs)) back
    ∙ drop-drop (length vs) (a + n) l in
    let m : a + length (ws ++ vs) ≡ a + n + length vs = omega (arith, length-append ws vs) in
    ap (λ i. take a l ++ ((ws ++ vs) ++ drop i l)) m
    ∙ ap (λ t. take a l ++ t) (append_assoc ws vs (drop (a + n + length vs) l))
    ∙ sym (append_assoc (take a l) ws (vs ++ drop (a + n + length vs) l))
    ∙ ap (λ t. t ++ (vs ++ drop (a + n + length vs) l)) (sym front)
    ∙ ap (λ t. take (a + n) w ++ (vs ++ t)) (sym rest)

-- nothing written changes nothing
pub put-nothing : (l : List ℕ) (a : ℕ) → put l a [] ≡ l
unfolding put
put-nothing l a = let e : a + 0 ≡ a = omega arith in ap (λ i. take a l ++ drop i l) e ∙ take-append-drop a l

-- the runs of the rows so far, and of one row more
module _ (rows : List ℕ) (start : ℕ) (ws : List ℕ) (n : length ws ≡ 12) (inside : start * 12 + 12 ≤ length rows) where
  runs-before : (k : ℕ) → k ≤ start → runs_in k (put rows (start * 12) ws) ≡ runs_in k rows
  unfolding runs_in
  runs-before zero h = refl
  runs-before (suc k) h = rw (runs-before k (omega arith), part-put-before rows (start * 12) ws (k * 12) 12 (omega arith) (omega arith))

  pub runs-more : runs_in (suc start) (put rows (start * 12) ws) ≡ runs_in start rows ++ run_if ws
  unfolding runs_in
  runs-more =
      let p : take 12 (drop (start * 12) (put rows (start * 12) ws)) ≡ ws = rw n at (part-put rows (start * 12) ws (omega arith)) in
      rw (p, runs-before start (omega arith))

-- a row is read back as the run that it holds
accepts-back : (tied : List ℕ) (start : ℕ) (r : NamedRun) (earlier : List NamedRun) → not (eqb (verdict tied start r earlier) 3) ≡ r.accepts
unfolding verdict
accepts-back tied start r earlier = go r.accepts (subsumed tied start r earlier)
  where
    go : (a s : Bool) → not (eqb (cond a (cond s 2 1) 3) 3) ≡ a
    go true true = refl
    go true false = refl
    go false s = refl

some-verdict : (tied : List ℕ) (start : ℕ) (r : NamedRun) (earlier : List NamedRun) → eqb (verdict tied start r earlier) 0 ≡ false
unfolding verdict
some-verdict tied start r earlier = go r.accepts (subsumed tied start r earlier)
  where
    go : (a s : Bool) → eqb (cond a (cond s 2 1) 3) 0 ≡ false
    go true true = refl
    go true false = refl
    go false s = refl

pub row_back : (tied : List ℕ) (start : ℕ) (r : NamedRun) (earlier : List NamedRun) → length r.held ≡ 8 → length r.values ≡ 8
    → run_if (row (verdict tied start r earlier) r) ≡ r ∷ []
unfolding run_if run_in row
row_back tied start r earlier h v =
    let b : bits_of 8 (mask r.held) ≡ r.held = rw h at (bits_back r.held) in
    let t : take 8 r.values ≡ r.values = take_all 8 r.values (omega arith) in
    rw (some-verdict tied start r earlier, accepts-back tied start r earlier, b, t)

pub none-back : run_if none_row ≡ []
unfolding run_if none_row
none-back = refl

-- the rows from the front on, 12 words each, hold the runs of as many rows
chunks-more : (k : ℕ) (rows : List ℕ) → runs_of (first_chunks 12 (suc k) rows) ≡ runs_of (first_chunks 12 k rows) ++ run_if (take 12 (drop (k * 12) rows))
unfolding runs_of
chunks-more zero rows = append-nil (run_if (take 12 rows))
chunks-more (suc k) rows =
    let e : 12 + k * 12 ≡ suc k * 12 = omega arith in
    ap (λ rs. run_if (take 12 rows) ++ rs) (chunks-more k (drop 12 rows) ∙ ap (λ ws. runs_of (first_chunks 12 k (drop 12 rows)) ++ run_if (take 12 ws)) (drop-drop (k * 12) 12 rows ∙ ap (λ i. drop i rows) e))
    ∙ sym (append_assoc (run_if (take 12 rows)) (runs_of (first_chunks 12 k (drop 12 rows))) (run_if (take 12 (drop (suc k * 12) rows))))

chunks-runs : (k : ℕ) (rows : List ℕ) → runs_of (first_chunks 12 k rows) ≡ runs_in k rows
unfolding runs_of runs_in
chunks-runs zero rows = refl
chunks-runs (suc k) rows = chunks-more k rows ∙ ap (λ rs. rs ++ run_if (take 12 (drop (k * 12) rows))) (chunks-runs k rows)

chunks-front : (k : ℕ) (rows : List ℕ) → first_chunks 12 k (take (k * 12) rows) ≡ first_chunks 12 k rows
chunks-front zero rows = refl
chunks-front (suc k) rows =
    let e : suc k * 12 ≡ 12 + k * 12 = omega arith in
    let front : take 12 (take (12 + k * 12) rows) ≡ take 12 rows = part-take 0 12 (12 + k * 12) rows (omega arith) in
    let behind : drop 12 (take (12 + k * 12) rows) ≡ take (k * 12) (drop 12 rows) = drop-take 12 (k * 12) rows in
    rw (e, front, behind, chunks-front k (drop 12 rows))

-- the words before a start, by 12: as many rows, with the runs that they hold
pub earlier-runs : (k : ℕ) (rows : List ℕ) (cs : List (List ℕ)) → k * 12 ≤ length rows
    → cs ≡ first_chunks 12 (length (take (k * 12) rows) / 12) (take (k * 12) rows) → runs_of cs ≡ runs_in k rows
earlier-runs k rows cs h e =
    let n : length (take (k * 12) rows) / 12 ≡ k = omega (arith, length-take-le (k * 12) rows h) in
    ap runs_of (rw n at e ∙ chunks-front k rows) ∙ chunks-runs k rows
