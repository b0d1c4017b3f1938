-- A thread and its 78 words: read back as it was stored, whatever stands behind.
use Prim.Native.Nat.{ℕ, suc, ◌+◌, ◌-◌, ◌≤◌, ◌<◌}
use mathlib.Core.Path.{◌≡◌, refl, ap, sym, ◌∙◌}
use mathlib.Core.Bool.{Bool, true, false}
use mathlib.Core.List.{List, [], ◌∷◌, ◌++◌, map, append_assoc}
use native.Mathlib.Omega.{arith}
use lib.ListN.{length, get_or, take, drop, set, length-append, length-map, take-append-drop}
use lib.Seq.{take_at, drop-drop, drop-append-add, get_or-drop, get_or-take, drop-append-le}
use Rattle.base.specs.Mask.{bit}
use Rattle.slots.specs.declared.Thread.{Thread}
use Rattle.slots.specs.inner.Threads.{Sized}
use Rattle.slots.specs.inner.Words.{is_set, words_of, thread_of, put}
use Rattle.slots.proofs.Parts.{part_length, part-take, put_next, set_next}

abbrev pub thread : ℕ → List Bool → List ℕ → List ℕ → List ℕ → ℕ → List ℕ → Thread
thread s h v k y n t = record { config = record { state = s; held = h; values = v; counters = k; tallies = y }; steps = n; trail = t }

-- threads with equal fields are equal
pub threads-equal : (s s' : ℕ) (h h' : List Bool) (v v' k k' y y' : List ℕ) (n n' : ℕ) (t t' : List ℕ) → s ≡ s' → h ≡ h' → v ≡ v' → k ≡ k' → y ≡ y' → n ≡ n'
    → t ≡ t' → thread s h v k y n t ≡ thread s' h' v' k' y' n' t'
threads-equal s s' h h' v v' k k' y y' n n' t t' a b c d e f g = rw (a, b, c, d, e, f, g)

-- only the first 78 words matter
pub thread-take : (n : ℕ) (ws : List ℕ) → 78 ≤ n → thread_of (take n ws) ≡ thread_of ws
unfolding thread_of
thread-take n ws h =
    rw (
      get_or-take n ws 0 0 (omega arith),
      get_or-take n ws 45 0 (omega arith),
      part-take 1 8 n ws (omega arith),
      part-take 9 8 n ws (omega arith),
      part-take 17 16 n ws (omega arith),
      part-take 33 12 n ws (omega arith),
      part-take 46 32 n ws (omega arith),
    )

-- a list whose elements are another's by a function
pub mapped : {A B : Type 0} (f : A → B) (xs : List A) (ys : List B) (d : A) (e : B) → length ys ≡ length xs
    → ((i : ℕ) → i < length xs → get_or ys i e ≡ f (get_or xs i d)) → ys ≡ map f xs
mapped f [] [] d e l h = refl
mapped f [] (y ∷ ys) d e l h = absurd (omega arith)
mapped f (x ∷ xs) [] d e l h = absurd (omega arith)
mapped f (x ∷ xs) (y ∷ ys) d e l h =
    let p : y ≡ f x = h 0 (omega arith) in
    let q : ys ≡ map f xs = mapped f xs ys d e (omega arith) (λ i m. h (suc i) (omega arith)) in
    cc

flags-back : (h : List Bool) → map is_set (map bit h) ≡ h
flags-back [] = refl
flags-back (true ∷ h) = ap (λ l. true ∷ l) (flags-back h)
flags-back (false ∷ h) = ap (λ l. false ∷ l) (flags-back h)

-- past a list of known length
drop_past : (xs ys : List ℕ) (m n : ℕ) → length xs ≡ m → drop (m + n) (xs ++ ys) ≡ drop n ys
drop_past xs ys m n e = rw (← e) (drop-append-add xs ys n)

pub words-length : (t : Thread) → Sized t → length (words_of t) ≡ 78
unfolding words_of
words-length t s =
    let f : length (map bit t.config.held) ≡ 8 = length-map t.config.held bit ∙ s.held_8 in
    let n = t.steps ∷ t.trail in
    let a = length-append (map bit t.config.held) (t.config.values ++ (t.config.counters ++ (t.config.tallies ++ n))) in
    let b = length-append t.config.values (t.config.counters ++ (t.config.tallies ++ n)) in
    let c = length-append t.config.counters (t.config.tallies ++ n) in
    let d = length-append t.config.tallies n in
    omega (arith, s.values_8, s.counters_16, s.tallies_12, s.trail_32)

-- a thread is read back from its words, whatever stands behind them; its arrays need their lengths and nothing else
pub thread-of-words : (t : Thread) (rest : List ℕ) → Sized t → thread_of (words_of t ++ rest) ≡ t
unfolding words_of thread_of
thread-of-words t rest s =
    let hs = map bit t.config.held in
    let f : length hs ≡ 8 = length-map t.config.held bit ∙ s.held_8 in
    let vs = t.config.values in
    let cs = t.config.counters in
    let ys = t.config.tallies in
    let ts = t.steps ∷ (t.trail ++ rest) in
    let l₄ = ys ++ ts in
    let l₃ = cs ++ l₄ in
    let l₂ = vs ++ l₃ in
    let e : (hs ++ (vs ++ (cs ++ (ys ++ (t.steps ∷ t.trail))))) ++ rest ≡ hs ++ l₂ = simp append_assoc in
    let h : take 8 (hs ++ l₂) ≡ hs = take_at hs l₂ 8 f in
    let v : take 8 (drop 8 (hs ++ l₂)) ≡ vs = ap (take 8) (drop_past hs l₂ 8 0 f) ∙ take_at vs l₃ 8 s.values_8 in
    let k : take 16 (drop 16 (hs ++ l₂)) ≡ cs = ap (take 16) (drop_past hs l₂ 8 8 f ∙ drop_past vs l₃ 8 0 s.values_8) ∙ take_at cs l₄ 16 s.counters_16 in
    let y : take 12 (drop 32 (hs ++ l₂)) ≡ ys =
    ap (take 12) (drop_past hs l₂ 8 24 f ∙ drop_past vs l₃ 8 16 s.values_8 ∙ drop_past cs l₄ 16 0 s.counters_16) ∙ take_at ys ts 12 s.tallies_12 in
    let z : drop 44 (hs ++ l₂) ≡ ts = drop_past hs l₂ 8 36 f ∙ drop_past vs l₃ 8 28 s.values_8 ∙ drop_past cs l₄ 16 12 s.counters_16
    ∙ drop_past ys ts 12 0 s.tallies_12 in
    let n : get_or (hs ++ l₂) 44 0 ≡ t.steps = sym (get_or-drop 44 (hs ++ l₂) 0 0) ∙ ap (λ l. get_or l 0 0) z in
    let r : take 32 (drop 45 (hs ++ l₂)) ≡ t.trail =
    ap (take 32) (sym (drop-drop 1 44 (hs ++ l₂)) ∙ ap (drop 1) z) ∙ take_at t.trail rest 32 s.trail_32 in
    rw (e, h, v, k, y, n, r, flags-back t.config.held)

joined : (x : ℕ) (fs vs cs ys : List ℕ) (n : ℕ) (ts : List ℕ)
    → ((((((x ∷ []) ++ fs) ++ vs) ++ cs) ++ ys) ++ (n ∷ [])) ++ ts ≡ x ∷ (fs ++ (vs ++ (cs ++ (ys ++ (n ∷ ts)))))
joined x fs vs cs ys n ts =
    ap (λ l. x ∷ l)
    (append_assoc (((fs ++ vs) ++ cs) ++ ys) (n ∷ []) ts ∙ append_assoc ((fs ++ vs) ++ cs) ys (n ∷ ts) ∙ append_assoc (fs ++ vs) cs (ys ++ (n ∷ ts))
    ∙ append_assoc fs vs (cs ++ (ys ++ (n ∷ ts))))

-- what storing field by field leaves
pub stored : (l : List ℕ) (t : Thread) → Sized t → (fs a b c y d : List ℕ) → 78 ≤ length l → fs ≡ map bit t.config.held
    → a ≡ put (set l 0 t.config.state) 1 fs → b ≡ put a 9 t.config.values → c ≡ put b 17 t.config.counters → y ≡ put c 33 t.config.tallies
    → d ≡ put (set y 45 t.steps) 46 t.trail → d ≡ words_of t ++ drop 78 l
unfolding words_of
stored l t s fs a b c y d h ef ea eb ec ey ed =
    let st : List ℕ = t.config.state ∷ [] in
    let vs = t.config.values in
    let cs = t.config.counters in
    let ys = t.config.tallies in
    let f : length fs ≡ 8 = rw ef (length-map t.config.held bit ∙ s.held_8) in
    let w₁ : set l 0 t.config.state ≡ st ++ drop 1 l = set_next l l [] 0 refl refl t.config.state (omega arith) in
    let w₂ : a ≡ (st ++ fs) ++ drop 9 l = ea ∙ put_next l (set l 0 t.config.state) st 1 w₁ refl fs ∙ ap (λ n. (st ++ fs) ++ drop (1 + n) l) f in
    let l₂ : length (st ++ fs) ≡ 9 = length-append st fs ∙ ap (λ n. 1 + n) f in
    let p₃ = (st ++ fs) ++ vs in
    let w₃ : b ≡ p₃ ++ drop 17 l = eb ∙ put_next l a (st ++ fs) 9 w₂ l₂ vs ∙ ap (λ n. p₃ ++ drop (9 + n) l) s.values_8 in
    let l₃ : length p₃ ≡ 17 = omega (arith, length-append (st ++ fs) vs, s.values_8) in
    let p₄ = p₃ ++ cs in
    let w₄ : c ≡ p₄ ++ drop 33 l = ec ∙ put_next l b p₃ 17 w₃ l₃ cs ∙ ap (λ n. p₄ ++ drop (17 + n) l) s.counters_16 in
    let l₄ : length p₄ ≡ 33 = omega (arith, length-append p₃ cs, s.counters_16) in
    let p₅ = p₄ ++ ys in
    let w₅ : y ≡ p₅ ++ drop 45 l = ey ∙ put_next l c p₄ 33 w₄ l₄ ys ∙ ap (λ n. p₅ ++ drop (33 + n) l) s.tallies_12 in
    let l₅ : length p₅ ≡ 45 = omega (arith, length-append p₄ ys, s.tallies_12) in
    let p = p₅ ++ (t.steps ∷ []) in
    let w₆ : set y 45 t.steps ≡ p ++ drop 46 l = set_next l y p₅ 45 w₅ l₅ t.steps (omega arith) in
    let l₆ : length p ≡ 46 = omega (arith, length-append p₅ (t.steps ∷ [])) in
    let w₇ : d ≡ (p ++ t.trail) ++ drop 78 l = ed ∙ put_next l (set y 45 t.steps) p 46 w₆ l₆ t.trail
    ∙ ap (λ n. (p ++ t.trail) ++ drop (46 + n) l) s.trail_32 in
    w₇ ∙ ap (λ x. x ++ drop 78 l)
    (joined t.config.state fs vs cs ys t.steps t.trail ∙ ap (λ x. t.config.state ∷ (x ++ (vs ++ (cs ++ (ys ++ (t.steps ∷ t.trail)))))) ef)

-- a part whose first 78 words were stored into, put back
pub stored-part : (l w : List ℕ) (t : Thread) (a e p : ℕ) → Sized t → a ≡ p → e ≡ a + 96 → e ≤ length l → w ≡ words_of t ++ drop 78 (take (e - a) (drop a l))
    → take a l ++ (w ++ drop (e - a) (drop a l)) ≡ put l p (words_of t)
unfolding put
stored-part l w t a e p s q h k g =
    let xs = drop a l in
    let n : e - a ≡ 96 = omega arith in
    let m : length (take 96 xs) ≡ 96 = part_length a 96 l (omega arith) in
    let r : drop 78 (take 96 xs) ++ drop 96 xs ≡ drop 78 xs = sym (drop-append-le 78 (take 96 xs) (drop 96 xs) (omega arith))
    ∙ ap (drop 78) (take-append-drop 96 xs) in
    let z : w ++ drop 96 xs ≡ words_of t ++ drop 78 xs = rw (g, n) (append_assoc (words_of t) (drop 78 (take 96 xs)) (drop 96 xs) ∙ ap (λ y. words_of t ++ y) r) in
    let v : drop 78 xs ≡ drop (a + length (words_of t)) l = drop-drop 78 a l ∙ ap (λ i. drop (a + i) l) (sym (words-length t s)) in
    rw (← q, n, z, v)
