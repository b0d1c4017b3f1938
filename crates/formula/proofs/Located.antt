-- The table of steps has for every state and step number the offset of that STEP, or 0 where there is none, and no STEP begins at 0.
use Prim.Native.Nat.{ℕ, zero, suc, ◌+◌, ◌*◌, ◌<◌, ◌≤◌}
use mathlib.Core.Path.{◌≡◌, refl, sym, ap, subst, ◌∙◌}
use mathlib.Core.List.{List, [], ◌∷◌, ◌++◌, map, flat_map, head-eq_of_cons-eq, tail-eq_of_cons-eq}
use mathlib.Core.Option.{Option, none, some, none-ne-some}
use native.Mathlib.Omega.{arith}
use native.Mathlib.Decide.{dec_lt}
use lib.ListN.{length, get_or, take, drop, get_elem?, length-take}
use lib.Seq.{length-take-le, get_or-drop}
use Rattle.formula.specs.Formula.{Expr, Clause, Step, State, Formula}
use Rattle.formula.specs.Encode.{Command, TIED, STATE, STEP, CLAUSE, GUARD, guard_commands, step_commands, state_commands, commands, encode_command, encode}
use Rattle.formula.specs.Unbound.{steps_of}
use Rattle.formula.specs.Correct.{Correct}
use Rattle.formula.specs.Lookup.{step_at, kind_at, commands_before, step_place, place_if, step_table}
use Rattle.formula.specs.inner.StepBytes.{encode_step}
use Rattle.formula.specs.Located.{state_more, states_after, step_more, steps_after, StepBegins, Located, begins, nowhere}
use Rattle.formula.proofs.Places.{commands_from, commands-parted, from-none, commands-split, state-there, step-stands, place-positive, table-place}
use Rattle.formula.proofs.Steps.{right-step}

-- THE COUNTS

states-append : (n : ℕ) (a b : List Command) → states_after n (a ++ b) ≡ states_after (states_after n a) b
unfolding states_after
states-append n [] b = refl
states-append n (c ∷ a) b = states-append (state_more c n) a b

steps-append : (n : ℕ) (a b : List Command) → steps_after n (a ++ b) ≡ steps_after (steps_after n a) b
unfolding steps_after
steps-append n [] b = refl
steps-append n (c ∷ a) b = steps-append (step_more c n) a b

-- states grow in number
more-states : (c : Command) (n : ℕ) → n ≤ state_more c n
more-states (TIED v) n = omega arith
more-states (STATE k) n = omega arith
more-states (STEP t) n = omega arith
more-states (CLAUSE c) n = omega arith
more-states (GUARD e) n = omega arith

states-grow : (n : ℕ) (a : List Command) → n ≤ states_after n a
unfolding states_after
states-grow n [] = omega arith
states-grow n (c ∷ a) = omega (arith, more-states c n, states-grow (state_more c n) a)

-- within one state, steps do
more-steps : (c : Command) (m n : ℕ) → state_more c m ≤ m → n ≤ step_more c n
more-steps (TIED v) m n h = omega arith
more-steps (STATE k) m n h = absurd (omega arith)
more-steps (STEP t) m n h = omega arith
more-steps (CLAUSE c) m n h = omega arith
more-steps (GUARD e) m n h = omega arith

steps-grow : (m n : ℕ) (a : List Command) → states_after m a ≤ m → n ≤ steps_after n a
unfolding states_after steps_after
steps-grow m n [] h = omega arith
steps-grow m n (c ∷ a) h =
    let g = states-grow (state_more c m) a in
    let i = more-states c m in
    let j = more-steps c m n (omega arith) in
    let k = steps-grow (state_more c m) (step_more c n) a (omega arith) in
    omega arith

-- a step counts for one, whatever its clauses and its guard
clauses-count : (cs : List Clause) (o : Option Expr) (m n : ℕ)
    → (states_after m (map CLAUSE cs ++ guard_commands o) ≡ m) × (steps_after n (map CLAUSE cs ++ guard_commands o) ≡ n)
unfolding states_after steps_after guard_commands
clauses-count [] none m n = (refl, refl)
clauses-count [] (some e) m n = (refl, refl)
clauses-count (c ∷ cs) o m n = clauses-count cs o m n

steps-count : (ts : List Step) (m n : ℕ) → (states_after m (flat_map step_commands ts) ≡ m) × (steps_after n (flat_map step_commands ts) ≡ n + length ts)
unfolding states_after steps_after flat_map step_commands
steps-count [] m n = (refl, omega arith)
steps-count (t ∷ ts) m n =
    let own = map CLAUSE t.clauses ++ guard_commands t.guard in
    let a = clauses-count t.clauses t.guard m (suc n) in
    let b = steps-count ts m (suc n) in
    let e : suc n + length ts ≡ n + suc (length ts) = omega arith in
    (rw (states-append m own (flat_map step_commands ts), a.0) b.0, rw (steps-append (suc n) own (flat_map step_commands ts), a.1) (b.1 ∙ e))

states-count : (xs : List State) (m : ℕ) → states_after m (flat_map state_commands xs) ≡ m + length xs
unfolding states_after flat_map state_commands
states-count [] m = omega arith
states-count (x ∷ xs) m =
    let a = steps-count x.steps (suc m) 0 in
    let e : suc m + length xs ≡ m + suc (length xs) = omega arith in
    rw (states-append (suc m) (flat_map step_commands x.steps) (flat_map state_commands xs), a.0) (states-count xs (suc m) ∙ e)

tied-count : (vs : List ℕ) (m : ℕ) → states_after m (map TIED vs) ≡ m
unfolding states_after
tied-count [] m = refl
tied-count (v ∷ vs) m = tied-count vs m

all-states : (f : Formula) → states_after 0 (commands f) ≡ length f.states
unfolding commands
all-states f =
    rw (states-append 0 (map TIED f.tied) (flat_map state_commands f.states), tied-count f.tied 0)
    (states-count f.states 0 ∙ native.Mathlib.Nat.zero-add (length f.states))

-- before step k of state s stand s + 1 STATEs and, behind the last of them, k STEPs, or as many as the state has
module _ (f : Formula) (s k : ℕ) where
  before-states : s < length f.states → states_after 0 (commands_before f s k) ≡ suc s
  unfolding commands_before states_after
  before-states h =
      let a = map TIED f.tied in
      let b = flat_map state_commands (take s f.states) in
      let c = STATE (kind_at f s) ∷ flat_map step_commands (take k (steps_of f s)) in
      let n : states_after 0 b ≡ s = states-count (take s f.states) 0 ∙ omega (arith, length-take-le s f.states (omega arith)) in
      rw (states-append 0 a (b ++ c), tied-count f.tied 0, states-append 0 b c, n) (steps-count (take k (steps_of f s)) (suc s) 0).0

  before-steps : steps_after 0 (commands_before f s k) ≡ length (take k (steps_of f s))
  unfolding commands_before steps_after
  before-steps =
      let a = map TIED f.tied in
      let b = flat_map state_commands (take s f.states) in
      let c = STATE (kind_at f s) ∷ flat_map step_commands (take k (steps_of f s)) in
      rw (steps-append 0 a (b ++ c), steps-append (steps_after 0 a) b c)
      ((steps-count (take k (steps_of f s)) 0 0).1 ∙ native.Mathlib.Nat.zero-add (length (take k (steps_of f s))))

-- A STEP STANDS WHERE ITS COUNTS ARE REACHED

-- behind a STEP there are more of one or the other
too_many : (m n t : ℕ) (y : Command) (c : List Command) → STEP t ≡ y → states_after (state_more y m) c ≤ m → steps_after (step_more y n) c ≤ n → ⊥
too_many m n t y c e p q =
    let a : states_after m c ≤ m = subst (λ z. states_after (state_more z m) c ≤ m) (sym e) p in
    let b : steps_after (suc n) c ≤ n = subst (λ z. steps_after (step_more z n) c ≤ n) (sym e) q in
    omega (arith, steps-grow m (suc n) c a)

-- two STEPs of a list with the same counts before them are one
one-before : (m n : ℕ) (b c h i : List Command) (t u : ℕ) → b ++ (STEP t ∷ h) ≡ c ++ (STEP u ∷ i) → states_after m b ≡ states_after m c
    → steps_after n b ≡ steps_after n c → b ≡ c
unfolding states_after steps_after
one-before m n [] [] h i t u e p q = refl
one-before m n [] (y ∷ c) h i t u e p q = absurd (too_many m n t y c (head-eq_of_cons-eq e) (omega arith) (omega arith))
one-before m n (x ∷ b) [] h i t u e p q = absurd (too_many m n u x b (sym (head-eq_of_cons-eq e)) (omega arith) (omega arith))
one-before m n (x ∷ b) (y ∷ c) h i t u e p q =
    let a : x ≡ y = head-eq_of_cons-eq e in
    let j : states_after (state_more x m) b ≡ states_after (state_more x m) c = p ∙ ap (λ z. states_after (state_more z m) c) (sym a) in
    let k : steps_after (step_more x n) b ≡ steps_after (step_more x n) c = q ∙ ap (λ z. steps_after (step_more z n) c) (sym a) in
    rw (a, one-before (state_more x m) (step_more x n) b c h i t u (tail-eq_of_cons-eq e) j k)

-- where a state ends: at a STATE or at the end of the commands
abbrev StateEnds : List Command → Type 0
StateEnds [] = Unit {0}
StateEnds (TIED v ∷ cs) = ⊥
StateEnds (STATE k ∷ cs) = Unit {0}
StateEnds (STEP t ∷ cs) = ⊥
StateEnds (CLAUSE c ∷ cs) = ⊥
StateEnds (GUARD e ∷ cs) = ⊥

states-end : (xs : List State) → StateEnds (flat_map state_commands xs)
unfolding flat_map state_commands
states-end [] = tt
states-end (x ∷ xs) = tt

next-state : (y : Command) (cs : List Command) (m : ℕ) → StateEnds (y ∷ cs) → suc m ≤ state_more y m
next-state (TIED v) cs m h = absurd h
next-state (STATE k) cs m h = omega arith
next-state (STEP t) cs m h = absurd h
next-state (CLAUSE c) cs m h = absurd h
next-state (GUARD e) cs m h = absurd h

-- where a state ends no STEP of it stands behind
none-behind : (m n : ℕ) (b c r h : List Command) (t : ℕ) → b ++ (STEP t ∷ h) ≡ c ++ r → StateEnds r → states_after m b ≡ states_after m c
    → steps_after n c ≤ steps_after n b → ⊥
unfolding states_after steps_after
none-behind m n [] [] r h t e z p q = subst StateEnds (sym e) z
none-behind m n [] (y ∷ c) r h t e z p q = too_many m n t y c (head-eq_of_cons-eq e) (omega arith) q
none-behind m n (x ∷ b) [] r h t e z p q =
    omega (arith, next-state x (b ++ (STEP t ∷ h)) m (subst StateEnds (sym e) z), states-grow (state_more x m) b)
none-behind m n (x ∷ b) (y ∷ c) r h t e z p q =
    let a : x ≡ y = head-eq_of_cons-eq e in
    let j : states_after (state_more x m) b ≡ states_after (state_more x m) c = p ∙ ap (λ z. states_after (state_more z m) c) (sym a) in
    let k : steps_after (step_more x n) c ≤ steps_after (step_more x n) b = subst (λ z. steps_after (step_more z n) c ≤ steps_after (step_more x n) b) (sym a) q in
    none-behind (state_more x m) (step_more x n) b c r h t (tail-eq_of_cons-eq e) z j k

-- THE TABLE

-- a step of the formula begins at its place
begins-there : (f : Formula) (s k : ℕ) (t : Step) → step_at f s k ≡ some t → StepBegins f s k (step_place f s k)
unfolding step_at step_place step_commands
begins-there f s k t e =
    record {
      before = commands_before f s k;
      leads_to = t.target;
      behind = (map CLAUSE t.clauses ++ guard_commands t.guard) ++ commands_from f s (suc k);
      stands = commands-split f s k t e;
      state = before-states f s k (state-there f s k t e);
      number = before-steps f s k ∙ so-many (steps_of f s) k e;
      offset = refl;
    }
  where
    so-many : (xs : List Step) (k : ℕ) → get_elem? xs k ≡ some t → length (take k xs) ≡ k
    so-many [] k e = absurd (none-ne-some t e)
    so-many (x ∷ xs) zero e = refl
    so-many (x ∷ xs) (suc k) e = ap suc (so-many xs k e)

-- a step has one offset
one-offset : (f : Formula) (s k p q : ℕ) → StepBegins f s k p → StepBegins f s k q → p ≡ q
one-offset f s k p q a b =
    sym a.offset
    ∙ (ap (λ c. length (flat_map encode_command c))
    (one-before 0 0 a.before b.before a.behind b.behind a.leads_to b.leads_to (sym a.stands ∙ b.stands) (a.state ∙ sym b.state)
    (a.number ∙ sym b.number))
    ∙ b.offset)

-- where the formula has no such step, none begins
begins-nowhere : (f : Formula) (s k p : ℕ) → step_at f s k ≡ none → StepBegins f s k p → ⊥
begins-nowhere f s k p e b = go (dec_lt s (length f.states))
  where
    go : Dec (s < length f.states) → ⊥
    go (yes h) =
        none-behind 0 0 b.before (commands_before f s k) (flat_map state_commands (drop (suc s) f.states)) b.behind b.leads_to
        (sym b.stands ∙ (commands-parted f s k h ∙ ap (λ r. commands_before f s k ++ r) (from-none f s k e)))
        (states-end (drop (suc s) f.states))
        (b.state ∙ sym (before-states f s k h))
        (omega (arith, b.number, before-steps f s k, length-take k (steps_of f s)))
    -- no more STATEs stand before it than there are states
    go (no h) =
        omega (
          arith,
          ap (states_after 0) b.stands,
          all-states f,
          states-append 0 b.before (STEP b.leads_to ∷ b.behind),
          b.state,
          states-grow (states_after 0 b.before) (STEP b.leads_to ∷ b.behind),
        )

-- a step that begins somewhere is one of the formula, and begins at its place
begins-step : (f : Formula) (s k p : ℕ) → StepBegins f s k p → (t : Step) × (step_at f s k ≡ some t) × (step_place f s k ≡ p)
begins-step f s k p b = go (step_at f s k) refl
  where
    go : (o : Option Step) → step_at f s k ≡ o → (t : Step) × (step_at f s k ≡ some t) × (step_place f s k ≡ p)
    go none e = absurd (begins-nowhere f s k p e b)
    go (some t) e = (t, e, one-offset f s k (step_place f s k) p (begins-there f s k t e) b)

-- The table has for every state and step number the offset of that STEP, or 0 where there is none.
pub table-located : (f : Formula) (s k : ℕ) → s < 16 → k < 8 → Located f s k (get_or (step_table f) (s * 8 + k) 0)
table-located f s k h l = rw (table-place f s k h l) (go (step_at f s k) refl)
  where
    go : (o : Option Step) → step_at f s k ≡ o → Located f s k (place_if o (step_place f s k))
    go none e = nowhere (λ p. begins-nowhere f s k p e)
    go (some t) e = begins (step_place f s k) (begins-there f s k t e) (omega (arith, place-positive f s k))

-- and nothing else says so
pub located-only : (f : Formula) (s k a b : ℕ) → Located f s k a → Located f s k b → a ≡ b
located-only f s k a b (begins p x h) (begins q y l) = one-offset f s k a b x y
located-only f s k a b (begins p x h) (nowhere y) = absurd (y a x)
located-only f s k a b (nowhere x) (begins q y l) = absurd (x b y)
located-only f s k a b (nowhere x) (nowhere y) = refl

-- Every STEP of a correct formula has its entry, and the byte there is STEP's.
pub begins-entered : (fields : ℕ) (f : Formula) → Correct fields f → (s k p : ℕ) → StepBegins f s k p
    → (s < 16) × (k < 8) × (get_or (step_table f) (s * 8 + k) 0 ≡ p) × (get_or (encode f) p 0 ≡ 0x11)
unfolding encode_step
begins-entered fields f c s k p b =
    let t = begins-step f s k p b in
    let e : step_at f s k ≡ some t.0 = t.1 in
    let q : step_place f s k ≡ p = t.2 in
    let r = right-step fields f s k t.0 c e in
    let i : s < 16 = omega (arith, r.state, c.formed.states) in
    let d = get_or-drop (step_place f s k) (encode f) 0 0 in
    let h : get_or (encode f) (step_place f s k + 0) 0 ≡ 0x11 = sym d ∙ ap (λ l. get_or l 0 0) (step-stands f s k t.0 e).bytes in (
      i,
      r.number,
      table-place f s k i r.number ∙ (ap (λ o. place_if o (step_place f s k)) e ∙ q),
      subst (λ n. get_or (encode f) n 0 ≡ 0x11) (native.Mathlib.Nat.add-zero (step_place f s k) ∙ q) h,
    )
