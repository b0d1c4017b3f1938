-- The table of offsets, filled in file order: every STEP enters its offset at its state and number, and what stands there at END is the table.
use Prim.Native.Nat.{ℕ, zero, suc, ◌+◌, ◌-◌, ◌*◌, ◌/◌, ◌%◌, ◌<◌, ◌≤◌, zero-le}
use mathlib.Core.Path.{◌≡◌, refl, sym, ap, subst, ◌∙◌}
use mathlib.Core.List.{List, [], ◌∷◌, ◌++◌, map, flat_map, append_assoc, append-nil, head-eq_of_cons-eq, tail-eq_of_cons-eq, nil≢cons}
use mathlib.Core.Option.{Option, none, some, none-ne-some, some-injective}
use native.Mathlib.Omega.{arith}
use native.Mathlib.Decide.{dec_lt, ℕ_discrete}
use lib.ListN.{length, get_or, set, take, drop, replicate, get_elem?, length-append, length-set, length-replicate, length-drop}
use lib.Seq.{get_or-set_same, get_or-set_other, ext_get_or, take-length}
use Rattle.base.proofs.Lists.{flat_map-append}
use Rattle.base.specs.Lists.{All}
use Rattle.formula.specs.Formula.{Expr, Clause, Step, State, Formula}
use Rattle.formula.specs.Encode.{Command, TIED, STATE, STEP, CLAUSE, GUARD, guard_commands, step_commands, state_commands, commands, encode_command}
use Rattle.formula.specs.Unbound.{steps_of}
use Rattle.formula.specs.Correct.{StateFits, WellFormed}
use Rattle.formula.specs.Lookup.{step_at, kind_at, commands_before, step_place, place_if, step_table}
use Rattle.formula.specs.declared.Summary.{Summary}
use Rattle.formula.specs.Read.{start, advance}
use Rattle.formula.proofs.Closure.{no_state, no_steps}
use Rattle.formula.proofs.Counts.{Same}
use Rattle.formula.proofs.Reading.{advances}
use Rattle.formula.proofs.Places.{table-entry, table-length}

-- the table after one command at offset `at`: a STEP enters its offset
abbrev pub filled : Summary → ℕ → Command → List ℕ → List ℕ
filled s at (TIED v) tab = tab
filled s at (STATE k) tab = tab
filled s at (STEP t) tab = set tab ((s.states - 1) * 8 + s.steps) at
filled s at (CLAUSE c) tab = tab
filled s at (GUARD e) tab = tab

-- the table after the commands cs, which begin at offset `at`
unfoldable pub fill : Summary → ℕ → List ℕ → List Command → List ℕ
fill s at tab [] = tab
fill s at tab (c ∷ cs) = fill (advance s c) (at + length (encode_command c)) (filled s at c tab) cs

-- one command more
pub fill-snoc : (s : Summary) (at : ℕ) (tab : List ℕ) (cs : List Command) (c : Command)
    → fill s at tab (cs ++ (c ∷ [])) ≡ filled (advances s cs) (at + length (flat_map encode_command cs)) c (fill s at tab cs)
unfolding fill flat_map
fill-snoc s at tab [] c = rw (native.Mathlib.Nat.add-zero at)
fill-snoc s at tab (d ∷ cs) c =
    let l = length-append (encode_command d) (flat_map encode_command cs) in
    let e : at + length (encode_command d) + length (flat_map encode_command cs) ≡ at + length (encode_command d ++ flat_map encode_command cs) = omega arith in
    fill-snoc (advance s d) (at + length (encode_command d)) (filled s at d tab) cs c
    ∙ ap (λ n. filled (advances (advance s d) cs) n c (fill (advance s d) (at + length (encode_command d)) (filled s at d tab) cs)) e

-- the table's entry i
entry : Formula → ℕ → ℕ
entry f i = place_if (step_at f (i / 8) (i % 8)) (step_place f (i / 8) (i % 8))

-- the entries below n are the table's, the others are 0
record Upto (f : Formula) (n : ℕ) (tab : List ℕ) : Type 0 where
  long : length tab ≡ 128
  done : (i : ℕ) → i < n → get_or tab i 0 ≡ entry f i
  free : (i : ℕ) → n ≤ i → get_or tab i 0 ≡ 0

upto-start : (f : Formula) → Upto f 0 (replicate 128 0)
upto-start f = record { long = length-replicate {A = ℕ} 128 0; done = λ i h. absurd (native.Mathlib.Nat.not-suc-le-zero h); free = λ i h. zeros 128 i }
  where
    zeros : (n i : ℕ) → ◌≡◌ {A = ℕ} (get_or (replicate n 0) i 0) 0
    zeros zero i = refl
    zeros (suc n) zero = refl
    zeros (suc n) (suc i) = zeros n i

upto-set : (f : Formula) (n : ℕ) (tab : List ℕ) (at : ℕ) → Upto f n tab → n < 128 → at ≡ entry f n → Upto f (suc n) (set tab n at)
upto-set f n tab at u h e = record { long = length-set tab n at ∙ u.long; done = λ i k. go i k (ℕ_discrete i n); free = later }
  where
    later : (i : ℕ) → suc n ≤ i → get_or (set tab n at) i 0 ≡ 0
    later i k = get_or-set_other tab n i at 0 (λ q. native.Mathlib.Nat.not-suc-le_self i (subst (λ j. suc j ≤ i) (sym q) k)) ∙ u.free i (omega arith)

    go : (i : ℕ) → i < suc n → Dec (i ≡ n) → get_or (set tab n at) i 0 ≡ entry f i
    go i k (yes q) = subst (λ j. get_or (set tab n at) j 0 ≡ entry f j) (sym q) (get_or-set_same tab n at 0 (rw u.long h) ∙ e)
    go i k (no q) = get_or-set_other tab n i at 0 q ∙ u.done i (omega arith)

upto_skip : (f : Formula) (n m : ℕ) (tab : List ℕ) → Upto f n tab → n ≤ m → ((i : ℕ) → n ≤ i → i < m → entry f i ≡ 0) → Upto f m tab
upto_skip f n m tab u h e = record { long = u.long; done = λ i k. go i k (dec_lt i n); free = λ i k. u.free i (native.Mathlib.Nat.le_trans h k) }
  where
    go : (i : ℕ) → i < m → Dec (i < n) → get_or tab i 0 ≡ entry f i
    go i k (yes q) = u.done i q
    go i k (no q) =
        let r : n ≤ i = omega arith in
        u.free i r ∙ sym (e i r k)

-- a part of a list, taken at its first element
drop_here : {A : Type 0} (xs : List A) (k : ℕ) (x : A) (r : List A) → drop k xs ≡ x ∷ r → (get_elem? xs k ≡ some x) × (drop (suc k) xs ≡ r)
drop_here [] zero x r e = absurd (nil≢cons e)
drop_here [] (suc k) x r e = absurd (nil≢cons e)
drop_here (y ∷ ys) zero x r e = (ap some (head-eq_of_cons-eq e), tail-eq_of_cons-eq e)
drop_here (y ∷ ys) (suc k) x r e = drop_here ys k x r e

take_next : {A : Type 0} (xs : List A) (k : ℕ) (x : A) → get_elem? xs k ≡ some x → take (suc k) xs ≡ take k xs ++ (x ∷ [])
take_next [] k x e = absurd (none-ne-some x e)
take_next (y ∷ ys) zero x e = ap (λ z. z ∷ []) (some-injective y x e)
take_next (y ∷ ys) (suc k) x e = ap (λ r. y ∷ r) (take_next ys k x e)

elem_past : {A : Type 0} (xs : List A) (k : ℕ) → length xs ≤ k → get_elem? xs k ≡ none
elem_past [] k h = refl
elem_past (x ∷ xs) zero h = absurd (native.Mathlib.Nat.not-suc-le-zero h)
elem_past (x ∷ xs) (suc k) h = elem_past xs k (native.Mathlib.Nat.le_of_suc-le-suc h)

elem-default : {A : Type 0} (xs : List A) (k : ℕ) (x d : A) → get_elem? xs k ≡ some x → get_or xs k d ≡ x
elem-default [] k x d e = absurd (none-ne-some x e)
elem-default (y ∷ ys) zero x d e = some-injective y x e
elem-default (y ∷ ys) (suc k) x d e = elem-default ys k x d e

-- an entry of a step that is not there is 0
entry-none : (f : Formula) (i : ℕ) → length (steps_of f (i / 8)) ≤ i % 8 → entry f i ≡ 0
unfolding entry step_at
entry-none f i h = rw (elem_past (steps_of f (i / 8)) (i % 8) h)

-- the entry of a step that is there is its offset
entry-some : (f : Formula) (s k : ℕ) (t : Step) → step_at f s k ≡ some t → k < 8 → entry f (s * 8 + k) ≡ step_place f s k
unfolding entry
entry-some f s k t e h =
    let a : (s * 8 + k) / 8 ≡ s = omega arith in
    let b : (s * 8 + k) % 8 ≡ k = omega arith in
    rw (a, b, e)

-- the next step begins behind this one
place-next : (f : Formula) (s k : ℕ) (t : Step) → step_at f s k ≡ some t
    → step_place f s (suc k) ≡ step_place f s k + length (flat_map encode_command (step_commands t))
unfolding step_at step_place commands_before
place-next f s k t e =
    let a = map TIED f.tied in
    let b = flat_map state_commands (take s f.states) in
    let p = flat_map step_commands (take k (steps_of f s)) in
    let x = STATE (kind_at f s) in
    let c : flat_map step_commands (take (suc k) (steps_of f s)) ≡ p ++ step_commands t =
    ap (flat_map step_commands) (take_next (steps_of f s) k t e)
    ∙ (flat_map-append step_commands (take k (steps_of f s)) (t ∷ []) ∙ ap (λ r. p ++ r) (one-step t)) in
    let d : a ++ (b ++ (x ∷ (p ++ step_commands t))) ≡ (a ++ (b ++ (x ∷ p))) ++ step_commands t =
    rw (append_assoc a (b ++ (x ∷ p)) (step_commands t), append_assoc b (x ∷ p) (step_commands t)) in
    rw (c, d, flat_map-append encode_command (a ++ (b ++ (x ∷ p))) (step_commands t))
    (length-append (flat_map encode_command (a ++ (b ++ (x ∷ p)))) (flat_map encode_command (step_commands t)))
  where
    one-step : (y : Step) → flat_map step_commands (y ∷ []) ≡ step_commands y
    one-step y = unfold flat_map in append-nil (step_commands y)

-- commands that enter nothing: clauses and guards
abbrev Quiet : Command → Type 0
Quiet (TIED v) = ⊥
Quiet (STATE k) = ⊥
Quiet (STEP t) = ⊥
Quiet (CLAUSE c) = Unit {0}
Quiet (GUARD e) = Unit {0}

quiet-clauses : (xs : List Clause) (o : Option Expr) → All Quiet (map CLAUSE xs ++ guard_commands o)
unfolding guard_commands
quiet-clauses [] none = tt
quiet-clauses [] (some e) = (tt, tt)
quiet-clauses (x ∷ xs) o = (tt, quiet-clauses xs o)

sum : (n : ℕ) (a b : List ℕ) → n + length (a ++ b) ≡ n + length a + length b
sum n a b = let l = length-append a b in omega arith

fill-quiet : (qs : List Command) (s : Summary) (at : ℕ) (tab : List ℕ) (cs : List Command) (r : List ℕ) → All Quiet qs
    → ((t : Summary) → Same s t → fill t (at + length (flat_map encode_command qs)) tab cs ≡ r) → fill s at tab (qs ++ cs) ≡ r
unfolding fill flat_map
fill-quiet [] s at tab cs r q c =
    subst (λ n. fill s n tab cs ≡ r) (native.Mathlib.Nat.add-zero at) (c s (record { states = refl; closed = refl; steps = refl }))
fill-quiet (TIED v ∷ qs) s at tab cs r q c = absurd q.0
fill-quiet (STATE k ∷ qs) s at tab cs r q c = absurd q.0
fill-quiet (STEP t ∷ qs) s at tab cs r q c = absurd q.0
fill-quiet (CLAUSE x ∷ qs) s at tab cs r q c =
    fill-quiet qs (advance s (CLAUSE x)) (at + length (encode_command (CLAUSE x))) tab cs r q.1
    (λ t h.
    subst (λ n. fill t n tab cs ≡ r) (sum at (encode_command (CLAUSE x)) (flat_map encode_command qs))
    (c t (record { states = h.states; closed = h.closed; steps = h.steps })))
fill-quiet (GUARD x ∷ qs) s at tab cs r q c =
    fill-quiet qs (advance s (GUARD x)) (at + length (encode_command (GUARD x))) tab cs r q.1
    (λ t h.
    subst (λ n. fill t n tab cs ≡ r) (sum at (encode_command (GUARD x)) (flat_map encode_command qs))
    (c t (record { states = h.states; closed = h.closed; steps = h.steps })))

step-there : (f : Formula) (s k : ℕ) (t : Step) → get_elem? (steps_of f s) k ≡ some t → step_at f s k ≡ some t
unfolding step_at
step-there f s k t e = e

-- the steps of state s from number k on enter their offsets
fill-steps : (f : Formula) (s : ℕ) (ts : List Step) (k : ℕ) (m : Summary) (at : ℕ) (tab : List ℕ) (cs : List Command) (r : List ℕ)
    → drop k (steps_of f s) ≡ ts → m.states ≡ suc s → m.steps ≡ k → at ≡ step_place f s k → Upto f (s * 8 + k) tab → k + length ts ≤ 8 → s < 16
    → ((n : Summary) (j : ℕ) (t : List ℕ) → n.states ≡ suc s → j ≡ step_place f s (k + length ts) → Upto f (s * 8 + (k + length ts)) t → fill n j t cs ≡ r)
    → fill m at tab (flat_map step_commands ts ++ cs) ≡ r
unfolding fill flat_map step_commands
fill-steps f s [] k m at tab cs r d ms mk a u h l c =
    let e : k + 0 ≡ k = omega arith in
    c m at tab ms (rw e a) (rw e u)
fill-steps f s (x ∷ ts) k m at tab cs r d ms mk a u h l c =
    let p = drop_here (steps_of f s) k x ts d in
    let qs = map CLAUSE x.clauses ++ guard_commands x.guard in
    let new = set tab ((m.states - 1) * 8 + m.steps) at in
    let there : step_at f s k ≡ some x = step-there f s k x p.0 in
    let i : (m.states - 1) * 8 + m.steps ≡ s * 8 + k = omega arith in
    let q : suc (s * 8 + k) ≡ s * 8 + suc k = omega arith in
    let e : suc k + length ts ≡ k + suc (length ts) = omega arith in
    let v : Upto f (s * 8 + suc k) new =
    subst (λ n. Upto f (s * 8 + suc k) (set tab n at)) (sym i)
    (subst (λ n. Upto f n (set tab (s * 8 + k) at)) q
    (upto-set f (s * 8 + k) tab at u (omega arith) (a ∙ sym (entry-some f s k x there (omega arith))))) in
    let b : at + length (encode_command (STEP x.target)) + length (flat_map encode_command qs) ≡ step_place f s (suc k) =
    sym (sum at (encode_command (STEP x.target)) (flat_map encode_command qs))
    ∙ (ap (λ n. n + length (flat_map encode_command (step_commands x))) a ∙ sym (place-next f s k x there)) in
    rw (append_assoc qs (flat_map step_commands ts) cs)
    (fill-quiet qs (advance m (STEP x.target)) (at + length (encode_command (STEP x.target))) new (flat_map step_commands ts ++ cs) r
    (quiet-clauses x.clauses x.guard)
    (λ n g.
    fill-steps f s ts (suc k) n (at + length (encode_command (STEP x.target)) + length (flat_map encode_command qs)) new cs r p.1 (g.states ∙ ms)
    (g.steps ∙ ap suc mk) b v (omega arith) l (λ o j t y z w. c o j t y (z ∙ ap (step_place f s) e) (subst (λ n. Upto f (s * 8 + n) t) e w))))

-- where state n stands
state_place : Formula → ℕ → ℕ
state_place f n = length (flat_map encode_command (map TIED f.tied ++ flat_map state_commands (take n f.states)))

-- behind its STATE begin the steps of state n, and behind those the next state
first-place : (f : Formula) (n : ℕ) → step_place f n 0 ≡ state_place f n + 2
unfolding step_place commands_before state_place flat_map encode_command
first-place f n =
    let a = map TIED f.tied in
    let b = flat_map state_commands (take n f.states) in
    let x = STATE (kind_at f n) in
    rw (← append_assoc a b (x ∷ []), flat_map-append encode_command (a ++ b) (x ∷ [])) (length-append (flat_map encode_command (a ++ b)) (encode_command x))

one_state : (x : State) → flat_map state_commands (x ∷ []) ≡ STATE x.kind ∷ flat_map step_commands x.steps
unfolding flat_map state_commands
one_state x = append-nil (STATE x.kind ∷ flat_map step_commands x.steps)

kind-there : (f : Formula) (n : ℕ) (x : State) → get_elem? f.states n ≡ some x → kind_at f n ≡ x.kind
unfolding kind_at
kind-there f n x e = ap (λ (y : State). y.kind) (elem-default f.states n x no_state e)

steps-there : (f : Formula) (n : ℕ) (x : State) → get_elem? f.states n ≡ some x → steps_of f n ≡ x.steps
unfolding steps_of
steps-there f n x e = ap (λ (y : State). y.steps) (elem-default f.states n x no_state e)

last-place : (f : Formula) (n : ℕ) (x : State) → get_elem? f.states n ≡ some x → step_place f n (length x.steps) ≡ state_place f (suc n)
unfolding step_place commands_before state_place
last-place f n x e =
    rw (
      kind-there f n x e,
      steps-there f n x e,
      take-length x.steps,
      take_next f.states n x e,
      flat_map-append state_commands (take n f.states) (x ∷ []),
      one_state x,
    )

-- behind the last state the table is whole
upto-whole : (f : Formula) (n : ℕ) (tab : List ℕ) → Upto f (n * 8) tab → length f.states ≤ n → n ≤ 16 → tab ≡ step_table f
unfolding step_table entry
upto-whole f n tab u h k =
    ext_get_or 0 tab (step_table f) (u.long ∙ sym (table-length f))
    (λ i l. whole.done i (below i l) ∙ sym (table-entry f 0 128 i (below i l) ∙ ap (entry f) (native.Mathlib.Nat.zero-add i)))
  where
    none-there : (i : ℕ) → n * 8 ≤ i → i < 128 → entry f i ≡ 0
    none-there i p q = entry-none f i (subst (λ xs. length xs ≤ i % 8) (sym (no_steps f (i / 8) (omega arith))) zero-le)

    whole : Upto f 128 tab
    whole = upto_skip f (n * 8) 128 tab u (omega arith) none-there

    below : (i : ℕ) → i < length tab → i < 128
    below i l = subst (λ m. i < m) u.long l

-- the states from number n on enter their steps
fill-states : (f : Formula) (xs : List State) (n : ℕ) (m : Summary) (at : ℕ) (tab : List ℕ) → drop n f.states ≡ xs → m.states ≡ n
    → at ≡ state_place f n → Upto f (n * 8) tab → n + length xs ≤ 16 → All StateFits xs → fill m at tab (flat_map state_commands xs) ≡ step_table f
unfolding fill flat_map state_commands encode_command
fill-states f [] n m at tab d e a u h k =
    let l : length f.states - n ≡ 0 = sym (length-drop n f.states) ∙ ap length d in
    upto-whole f n tab u (omega arith) (omega arith)
fill-states f (x ∷ xs) n m at tab d e a u h k =
    let p = drop_here f.states n x xs d in
    let s = steps-there f n x p.0 in
    let b = k.0.steps in
    let z : n * 8 + 0 ≡ n * 8 = omega arith in
    let y : 0 + length x.steps ≡ length x.steps = omega arith in
    fill-steps f n x.steps 0 (advance m (STATE x.kind)) (at + 2) tab (flat_map state_commands xs) (step_table f) s (ap suc e) refl
    (ap (λ j. j + 2) a ∙ sym (first-place f n)) (rw z u) (omega arith) (omega arith)
    (λ o j t q r w.
    fill-states f xs (suc n) o j t p.1 q (r ∙ (ap (step_place f n) y ∙ last-place f n x p.0))
    (upto_skip f (n * 8 + (0 + length x.steps)) (suc n * 8) t w (omega arith) (λ i c g. entry-none f i (past i c g s))) (omega arith) k.1)
  where
    past : (i : ℕ) → n * 8 + (0 + length x.steps) ≤ i → i < suc n * 8 → steps_of f n ≡ x.steps → length (steps_of f (i / 8)) ≤ i % 8
    past i c g s =
        let q : i / 8 ≡ n = omega arith in
        rw (q, s) (omega arith)

fill-tied : (f : Formula) (vs : List ℕ) (m : Summary) (at : ℕ) (tab : List ℕ) (cs : List Command) (r : List ℕ)
    → ((n : Summary) → n.states ≡ m.states → fill n (at + length (flat_map encode_command (map TIED vs))) tab cs ≡ r)
    → fill m at tab (map TIED vs ++ cs) ≡ r
unfolding fill flat_map
fill-tied f [] m at tab cs r c = subst (λ n. fill m n tab cs ≡ r) (native.Mathlib.Nat.add-zero at) (c m refl)
fill-tied f (v ∷ vs) m at tab cs r c =
    fill-tied f vs (advance m (TIED v)) (at + length (encode_command (TIED v))) tab cs r
    (λ n e. subst (λ j. fill n j tab cs ≡ r) (sum at (encode_command (TIED v)) (flat_map encode_command (map TIED vs))) (c n e))

-- filled with all commands of a formula, the empty table is the formula's
pub fill-table : (fields : ℕ) (f : Formula) → WellFormed fields f → fill start 0 (replicate 128 0) (commands f) ≡ step_table f
unfolding commands start state_place flat_map
fill-table fields f h =
    fill-tied f f.tied start 0 (replicate 128 0) (flat_map state_commands f.states) (step_table f)
    (λ n e.
    fill-states f f.states 0 n (0 + length (flat_map encode_command (map TIED f.tied))) (replicate 128 0) refl e
    (native.Mathlib.Nat.zero-add (length (flat_map encode_command (map TIED f.tied)))
    ∙ ap (λ r. length (flat_map encode_command r)) (sym (append-nil (map TIED f.tied))))
    (upto-start f) (let k = h.states in omega arith) h.each)
