-- The marks agree with the paths: a state is marked for v exactly when some path from state 0 to it binds v nowhere.
use Prim.Native.Nat.{ℕ, zero, suc, ◌+◌, ◌<◌, ◌≤◌}
use mathlib.Core.Path.{◌≡◌, refl, sym, ap, subst, ◌∙◌}
use mathlib.Core.Logic.{◌⊎◌, inl, inr}
use mathlib.Core.Bool.{Bool, true, false, not, ◌&&◌, false≢true}
use mathlib.Core.List.Memᴰ
use mathlib.Core.List.{List, [], ◌∷◌, ◌++◌, map, Memᴰ}
use native.Mathlib.Omega.{arith}
use native.Mathlib.Nat.{add-zero, suc-add, add-suc}
use native.Mathlib.Decide.{dec_le, dec_lt}
use borrow.Author.Tests.{eqb-true, eqb-false, not-true}
use lib.Dec.{eqb}
use lib.ListN.{length, get_or, set, replicate, length-set, get_or-eq_default}
use lib.Seq.{get_or-set_same, get_or-set_other}
use Rattle.base.specs.Lists.{All}
use Rattle.formula.specs.Formula.{Step, ordinary, State, Formula}
use Rattle.formula.specs.Unbound.{binds, steps_of, IsPath, Unbound, Edge, edges_from, mark, round, rounds, unbound, is_unbound}
use Rattle.base.proofs.Tests.{cond-holds, and_left, and_right}
use Rattle.base.proofs.Lists.{All-append, replicate-at}
use Rattle.formula.proofs.Basics.{all_left, all_right}

-- one path that binds v nowhere is enough: a marked state stays marked, whatever the steps of other paths bind
set_keeps : (m : List Bool) (k t : ℕ) → get_or m t false ≡ true → get_or (set m k true) t false ≡ true
set_keeps [] k t h = h
set_keeps (x ∷ m) zero zero h = refl
set_keeps (x ∷ m) zero (suc t) h = h
set_keeps (x ∷ m) (suc k) zero h = h
set_keeps (x ∷ m) (suc k) (suc t) h = set_keeps m k t h

mark-keeps : (v : ℕ) (m : List Bool) (e : Edge) (t : ℕ) → get_or m t false ≡ true → get_or (mark v m e) t false ≡ true
unfolding mark
mark-keeps v m e t h =
    cond-holds (λ r. get_or r t false ≡ true) (get_or m e.from false && not (binds v e.step.clauses)) (set m e.step.target true) m
    (λ c. set_keeps m e.step.target t h) (λ c. h)

abbrev edge : ℕ → Step → Edge
edge s x = record { from = s; step = x }

-- what the lookup gives for a state that is not there
abbrev pub no_state : State
no_state = record { kind = ordinary; steps = [] }

-- a property of every step of every state is one of all edges, and back
edges-in : (P : Edge → Type 0) (xs : List State) (s : ℕ) → ((i : ℕ) (x : Step) → Memᴰ x (get_or xs i no_state).steps → P (edge (s + i) x))
    → All P (edges_from s xs)
unfolding edges_from
edges-in P [] s h = tt
edges-in P (y ∷ ys) s h =
    All-append P (map (edge s) y.steps) (edges_from (suc s) ys) (each y.steps (λ x m. rw (add-zero s) at (h 0 x m)))
    (edges-in P ys (suc s) (λ i x m. subst (λ j. P (edge j x)) (add-suc s i ∙ sym (suc-add s i)) (h (suc i) x m)))
  where
    each : (ts : List Step) → ((x : Step) → Memᴰ x ts → P (edge s x)) → All P (map (edge s) ts)
    each [] k = tt
    each (t ∷ ts) k = (k t (Memᴰ.head refl), each ts (λ x m. k x (Memᴰ.tail m)))

edges-out : (P : Edge → Type 0) (xs : List State) (s : ℕ) → All P (edges_from s xs) → (i : ℕ) (x : Step) → Memᴰ x (get_or xs i no_state).steps
    → P (edge (s + i) x)
unfolding edges_from
edges-out P [] s h i x m = absurd (Memᴰ.not-nil m)
edges-out P (y ∷ ys) s h zero x m = rw (add-zero s) (each y.steps (all_left P (map (edge s) y.steps) (edges_from (suc s) ys) h) m)
  where
    each : (ts : List Step) → All P (map (edge s) ts) → Memᴰ x ts → P (edge s x)
    each [] k q = absurd (Memᴰ.not-nil q)
    each (t ∷ ts) k q = elim (Memᴰ.cases_cons q) [ inl e ↦ subst (λ z. P (edge s z)) (sym e) k.0 | inr r ↦ each ts k.1 r ]
edges-out P (y ∷ ys) s h (suc i) x m =
    subst (λ j. P (edge j x)) (suc-add s i ∙ sym (add-suc s i))
    (edges-out P ys (suc s) (all_right P (map (edge s) y.steps) (edges_from (suc s) ys) h) i x m)

-- a path one step longer
path-snoc : (f : Formula) (p : List Step) (s t : ℕ) (x : Step) → IsPath f s p t → Memᴰ x (steps_of f t) → IsPath f s (p ++ (x ∷ [])) x.target
path-snoc f [] s t x h m = (subst (λ j. Memᴰ x (steps_of f j)) (sym h) m, refl)
path-snoc f (y ∷ p) s t x h m = (h.0, path-snoc f p y.target t x h.1 m)

-- every mark has its path
Marked : Formula → ℕ → List Bool → Type 0
Marked f v m = (t : ℕ) → get_or m t false ≡ true → Unbound f v t

extend : (f : Formula) (v : ℕ) (e : Edge) → Unbound f v e.from → Memᴰ e.step (steps_of f e.from) → binds v e.step.clauses ≡ false
    → Unbound f v e.step.target
extend f v e u i b =
    record {
      path = u.path ++ (e.step ∷ []);
      leads = path-snoc f u.path 0 e.from e.step u.leads i;
      nowhere = All-append (λ (x : Step). binds v x.clauses ≡ false) u.path (e.step ∷ []) u.nowhere (b, tt);
    }

mark-sound : (f : Formula) (v : ℕ) (m : List Bool) (e : Edge) → Memᴰ e.step (steps_of f e.from) → Marked f v m → Marked f v (mark v m e)
unfolding mark Marked
mark-sound f v m e i h =
    cond-holds (Marked f v) (get_or m e.from false && not (binds v e.step.clauses)) (set m e.step.target true) m
    (λ c t q. go c t q (eqb t e.step.target) refl) (λ c. h)
  where
    go : get_or m e.from false && not (binds v e.step.clauses) ≡ true → (t : ℕ) → get_or (set m e.step.target true) t false ≡ true → (b : Bool)
        → eqb t e.step.target ≡ b → Unbound f v t
    go c t q true z =
        subst (Unbound f v) (sym (eqb-true t e.step.target z))
        (extend f v e (h e.from (and_left (get_or m e.from false) (not (binds v e.step.clauses)) c)) i
        (not-true (binds v e.step.clauses) (and_right (get_or m e.from false) (not (binds v e.step.clauses)) c)))
    go c t q false z = h t (sym (get_or-set_other m e.step.target t true false (eqb-false t e.step.target z)) ∙ q)

abbrev Inside : Formula → Edge → Type 0
Inside f e = Memᴰ e.step (steps_of f e.from)

round-sound : (f : Formula) (v : ℕ) (es : List Edge) (m : List Bool) → All (Inside f) es → Marked f v m → Marked f v (round v es m)
unfolding round
round-sound f v [] m i h = h
round-sound f v (e ∷ es) m i h = round-sound f v es (mark v m e) i.1 (mark-sound f v m e i.0 h)

rounds-sound : (f : Formula) (n v : ℕ) (es : List Edge) (m : List Bool) → All (Inside f) es → Marked f v m → Marked f v (rounds n v es m)
unfolding rounds
rounds-sound f zero v es m i h = h
rounds-sound f (suc n) v es m i h = rounds-sound f n v es (round v es m) i (round-sound f v es m i h)

starts : List Bool
starts = true ∷ replicate 15 false

starts-sound : (f : Formula) (v : ℕ) → Marked f v starts
unfolding Marked starts
starts-sound f v zero q = record { path = []; leads = refl; nowhere = tt }
starts-sound f v (suc t) q = absurd (false≢true (sym (replicate-at 15 t false) ∙ q))

-- a marked state is reached by a path that binds v nowhere
pub unbound-path : (f : Formula) (v s : ℕ) → is_unbound f v s ≡ true → Unbound f v s
unfolding is_unbound unbound Marked starts steps_of
unbound-path f v s q =
    rounds-sound f 16 v (edges_from 0 f.states) starts (edges-in (Inside f) f.states 0 (λ i x m. rw (native.Mathlib.Nat.zero-add i) m))
    (starts-sound f v) s q

-- how many are marked
count : List Bool → ℕ
count [] = 0
count (true ∷ m) = suc (count m)
count (false ∷ m) = count m

count_most : (m : List Bool) → count m ≤ length m
unfolding count
count_most [] = omega arith
count_most (true ∷ m) = let i = count_most m in omega arith
count_most (false ∷ m) = let i = count_most m in omega arith

-- a mark more raises the count, or it was there
set-grows : (m : List Bool) (t : ℕ) → count m ≤ count (set m t true)
unfolding count
set-grows [] t = omega arith
set-grows (true ∷ m) zero = omega arith
set-grows (false ∷ m) zero = omega arith
set-grows (true ∷ m) (suc t) = let i = set-grows m t in omega arith
set-grows (false ∷ m) (suc t) = set-grows m t

set_same : (m : List Bool) (t : ℕ) → count (set m t true) ≤ count m → set m t true ≡ m
unfolding count
set_same [] t h = refl
set_same (true ∷ m) zero h = refl
set_same (false ∷ m) zero h = absurd (native.Mathlib.Nat.not-suc-le_self (count m) h)
set_same (true ∷ m) (suc t) h = ap (λ r. true ∷ r) (set_same m t (native.Mathlib.Nat.le_of_suc-le-suc h))
set_same (false ∷ m) (suc t) h = ap (λ r. false ∷ r) (set_same m t h)

mark-grows : (v : ℕ) (m : List Bool) (e : Edge) → count m ≤ count (mark v m e)
unfolding mark
mark-grows v m e =
    cond-holds (λ r. count m ≤ count r) (get_or m e.from false && not (binds v e.step.clauses)) (set m e.step.target true) m
    (λ c. set-grows m e.step.target) (λ c. omega arith)

mark-same : (v : ℕ) (m : List Bool) (e : Edge) → count (mark v m e) ≤ count m → mark v m e ≡ m
unfolding mark
mark-same v m e =
    cond-holds (λ r. count r ≤ count m → r ≡ m) (get_or m e.from false && not (binds v e.step.clauses)) (set m e.step.target true) m
    (λ c h. set_same m e.step.target h) (λ c h. refl)

round-grows : (v : ℕ) (es : List Edge) (m : List Bool) → count m ≤ count (round v es m)
unfolding round
round-grows v [] m = omega arith
round-grows v (e ∷ es) m = native.Mathlib.Nat.le_trans (mark-grows v m e) (round-grows v es (mark v m e))

abbrev Stable : ℕ → List Edge → List Bool → Type 0
Stable v es m = All (λ e. mark v m e ≡ m) es

round_same : (v : ℕ) (es : List Edge) (m : List Bool) → count (round v es m) ≤ count m → Stable v es m
unfolding round
round_same v [] m h = tt
round_same v (e ∷ es) m h =
    let q : mark v m e ≡ m = mark-same v m e (native.Mathlib.Nat.le_trans (round-grows v es (mark v m e)) h) in
    (q, round_same v es m (subst (λ r. count (round v es r) ≤ count m) q h))

round-stable : (v : ℕ) (es : List Edge) (m : List Bool) → Stable v es m → round v es m ≡ m
unfolding round
round-stable v [] m h = refl
round-stable v (e ∷ es) m h = ap (round v es) h.0 ∙ round-stable v es m h.1

rounds-stable : (n v : ℕ) (es : List Edge) (m : List Bool) → Stable v es m → rounds n v es m ≡ m
unfolding rounds
rounds-stable zero v es m h = refl
rounds-stable (suc n) v es m h = ap (rounds n v es) (round-stable v es m h) ∙ rounds-stable n v es m h

-- n rounds come to rest, or each of them marked one state more
rounds-rest : (n v : ℕ) (es : List Edge) (m : List Bool) → Stable v es (rounds n v es m) ⊎ (n + count m ≤ count (rounds n v es m))
unfolding rounds
rounds-rest zero v es m = inr (omega arith)
rounds-rest (suc n) v es m = go (dec_le (count (round v es m)) (count m)) (rounds-rest n v es (round v es m))
  where
    go : Dec (count (round v es m) ≤ count m)
        → Stable v es (rounds n v es (round v es m)) ⊎ (n + count (round v es m) ≤ count (rounds n v es (round v es m)))
        → Stable v es (rounds n v es (round v es m)) ⊎ (suc n + count m ≤ count (rounds n v es (round v es m)))
    go (yes h) i =
        let s = round_same v es m h in
        inl (subst (Stable v es) (sym (ap (rounds n v es) (round-stable v es m s) ∙ rounds-stable n v es m s)) s)
    go (no h) (inl i) = inl i
    go (no h) (inr i) = inr (omega arith)

mark-length : (v : ℕ) (m : List Bool) (e : Edge) → length (mark v m e) ≡ length m
unfolding mark
mark-length v m e =
    cond-holds (λ r. length r ≡ length m) (get_or m e.from false && not (binds v e.step.clauses)) (set m e.step.target true) m
    (λ c. length-set m e.step.target true) (λ c. refl)

round-length : (v : ℕ) (es : List Edge) (m : List Bool) → length (round v es m) ≡ length m
unfolding round
round-length v [] m = refl
round-length v (e ∷ es) m = round-length v es (mark v m e) ∙ mark-length v m e

rounds-length : (n v : ℕ) (es : List Edge) (m : List Bool) → length (rounds n v es m) ≡ length m
unfolding rounds
rounds-length zero v es m = refl
rounds-length (suc n) v es m = rounds-length n v es (round v es m) ∙ round-length v es m

round_keeps : (v : ℕ) (es : List Edge) (m : List Bool) (t : ℕ) → get_or m t false ≡ true → get_or (round v es m) t false ≡ true
unfolding round
round_keeps v [] m t h = h
round_keeps v (e ∷ es) m t h = round_keeps v es (mark v m e) t (mark-keeps v m e t h)

rounds-keeps : (n v : ℕ) (es : List Edge) (m : List Bool) (t : ℕ) → get_or m t false ≡ true → get_or (rounds n v es m) t false ≡ true
unfolding rounds
rounds-keeps zero v es m t h = h
rounds-keeps (suc n) v es m t h = rounds-keeps n v es (round v es m) t (round_keeps v es m t h)

-- in marks at rest, a step from a marked state that does not bind v leads to a marked state
rest-closed : (v : ℕ) (m : List Bool) (e : Edge) → mark v m e ≡ m → get_or m e.from false ≡ true → binds v e.step.clauses ≡ false
    → e.step.target < length m → get_or m e.step.target false ≡ true
unfolding mark
rest-closed v m e q h b k =
    let z : set m e.step.target true ≡ m = rw (h, b) at q in
    sym (ap (λ r. get_or r e.step.target false) z) ∙ get_or-set_same m e.step.target true false k

-- a state that is not there has no step
pub no_steps : (f : Formula) (s : ℕ) → length f.states ≤ s → steps_of f s ≡ []
unfolding steps_of
no_steps f s h = ap (λ (x : State). x.steps) (get_or-eq_default f.states no_state h)

module _ (f : Formula) (v : ℕ) (m : List Bool) (few : length f.states ≤ 16) (wide : length m ≡ 16) (still : Stable v (edges_from 0 f.states) m) where
  path-marked : (p : List Step) (s t : ℕ) → get_or m s false ≡ true → IsPath f s p t → All (λ (x : Step). binds v x.clauses ≡ false) p → t < 16
      → get_or m t false ≡ true
  path-marked [] s t h i b k = subst (λ j. get_or m j false ≡ true) i h
  path-marked (x ∷ p) s t h i b k = go p (dec_lt x.target 16) i.1 b.1 (λ g. path-marked p x.target t g i.1 b.1 k)
    where
      at_rest : mark v m (edge s x) ≡ m
      at_rest =
          subst (λ j. mark v m (edge j x) ≡ m) (native.Mathlib.Nat.zero-add s)
          (edges-out (λ e. mark v m e ≡ m) f.states 0 still s x (unfold steps_of in i.0))

      go : (q : List Step) → Dec (x.target < 16) → IsPath f x.target q t → All (λ (y : Step). binds v y.clauses ≡ false) q
          → (get_or m x.target false ≡ true → get_or m t false ≡ true) → get_or m t false ≡ true
      go q (yes l) j c r = r (rest-closed v m (edge s x) at_rest h b.0 (rw wide l))
      go [] (no l) j c r = absurd (l (subst (λ z. z < 16) (sym j) k))
      go (y ∷ q) (no l) j c r = absurd (Memᴰ.not-nil (subst (λ z. Memᴰ y z) (no_steps f x.target (omega arith)) j.0))

too_many : (m : List Bool) → length m ≡ 16 → 16 + count starts ≤ count m → ⊥
unfolding count starts
too_many m e h =
    let k : count m ≤ length m = count_most m in
    omega arith

-- a state that a path reaches without binding v is marked
pub path-unbound : (f : Formula) (v s : ℕ) → length f.states ≤ 16 → s < 16 → Unbound f v s → is_unbound f v s ≡ true
unfolding is_unbound unbound starts
path-unbound f v s few k u = go (rounds-rest 16 v (edges_from 0 f.states) starts)
  where
    m : List Bool
    m = rounds 16 v (edges_from 0 f.states) starts

    wide : length m ≡ 16
    wide = rounds-length 16 v (edges_from 0 f.states) starts

    go : Stable v (edges_from 0 f.states) m ⊎ (16 + count starts ≤ count m) → get_or m s false ≡ true
    go (inl still) = path-marked f v m few wide still u.path 0 s (rounds-keeps 16 v (edges_from 0 f.states) starts 0 refl) u.leads u.nowhere k
    go (inr h) = absurd (too_many m wide h)
