-- Where a step begins: from its offset on stand its bytes, and behind them another command; its guard stands behind its clauses.
use Prim.Native.Nat.{ℕ, zero, suc, ◌+◌, ◌*◌, ◌/◌, ◌%◌, ◌<◌, ◌≤◌}
use mathlib.Core.Path.{◌≡◌, refl, sym, ap, ◌∙◌}
use mathlib.Core.Logic.{◌⊎◌, inl, inr}
use mathlib.Core.List.{List, [], ◌∷◌, ◌++◌, map, flat_map, append_assoc, append-nil}
use mathlib.Core.Option.{Option, none, some, none-ne-some, some-injective}
use native.Mathlib.Omega.{arith}
use native.Mathlib.Decide.{dec_lt}
use lib.ListN.{length, get_or, take, drop, get_elem?, length-append, take-append-drop}
use lib.Seq.{drop-drop, split_at, drop-append_seam, drop-append-add}
use Rattle.base.proofs.Lists.{flat_map-append}
use Rattle.formula.specs.Formula.{Expr, Clause, Step, State, Formula}
use Rattle.formula.specs.Encode.{Command, TIED, STATE, CLAUSE, guard_commands, step_commands, state_commands, commands, encode_expr, encode_clause}
use Rattle.formula.specs.Encode.{encode_command, encode}
use Rattle.formula.specs.Unbound.{steps_of}
use Rattle.formula.specs.Lookup.{step_at, kind_at, commands_before, step_place, place_if, table_from, step_table}
use Rattle.formula.specs.inner.StepBytes.{encode_guard, encode_step, guard_place}
use Rattle.formula.proofs.Closure.{no_state, no_steps}

-- "STEP 11, STATE 10 or END 00": what may stand behind a step
abbrev pub Boundary : List ℕ → Type 0
Boundary [] = ⊥
Boundary (b ∷ bs) = (b ≡ 0x11) ⊎ ((b ≡ 0x10) ⊎ (b ≡ 0x00))

-- no clause, no GUARD and no expression begins there
pub boundary-below : (b : ℕ) (bs : List ℕ) → Boundary (b ∷ bs) → b < 0x12
boundary-below b bs (inl e) = omega arith
boundary-below b bs (inr (inl e)) = omega arith
boundary-below b bs (inr (inr e)) = omega arith

flat-clauses : (cs : List Clause) → flat_map encode_command (map CLAUSE cs) ≡ flat_map encode_clause cs
unfolding flat_map encode_command
flat-clauses [] = refl
flat-clauses (c ∷ cs) = ap (λ r. encode_clause c ++ r) (flat-clauses cs)

flat-guard : (o : Option Expr) → flat_map encode_command (guard_commands o) ≡ encode_guard o
unfolding flat_map encode_command guard_commands encode_guard
flat-guard none = refl
flat-guard (some e) = append-nil (0x15 ∷ encode_expr e)

-- the bytes of a step are those of its commands
pub step-bytes : (t : Step) → flat_map encode_command (step_commands t) ≡ encode_step t
unfolding flat_map step_commands encode_command encode_step
step-bytes t =
    ap (λ r. 0x11 ∷ t.target ∷ r)
    (flat_map-append encode_command (map CLAUSE t.clauses) (guard_commands t.guard) ∙ (rw (flat-clauses t.clauses, flat-guard t.guard)))

-- the commands from step k of a state on: the steps from there, then the later states
pub commands_from : Formula → ℕ → ℕ → List Command
commands_from f s k = flat_map step_commands (drop k (steps_of f s)) ++ flat_map state_commands (drop (suc s) f.states)

pub state-there : (f : Formula) (s k : ℕ) (t : Step) → step_at f s k ≡ some t → s < length f.states
unfolding step_at
state-there f s k t e = go (dec_lt s (length f.states))
  where
    go : Dec (s < length f.states) → s < length f.states
    go (yes h) = h
    go (no h) = absurd (none-ne-some t (ap (λ (xs : List Step). get_elem? xs k) (sym (no_steps f s (omega arith))) ∙ e))

glue : (t a b c d : List Command) (x : Command) → t ++ (a ++ ((x ∷ (b ++ c)) ++ d)) ≡ (t ++ (a ++ (x ∷ b))) ++ (c ++ d)
glue t a b c d x = rw (append_assoc t (a ++ (x ∷ b)) (c ++ d), append_assoc a (x ∷ b) (c ++ d), append_assoc b c d)

-- the commands of a formula are those before step k of a state and those from there on, whether there is such a step or not
pub commands-parted : (f : Formula) (s k : ℕ) → s < length f.states → commands f ≡ commands_before f s k ++ commands_from f s k
unfolding steps_of commands commands_before commands_from kind_at flat_map state_commands
commands-parted f s k h =
    let xs = f.states in
    let x = get_or xs s no_state in
    let p = flat_map step_commands (take k x.steps) in
    let q = flat_map step_commands (drop k x.steps) in
    let a : flat_map state_commands xs ≡ flat_map state_commands (take s xs) ++ (state_commands x ++ flat_map state_commands (drop (suc s) xs)) =
    ap (flat_map state_commands) (split_at xs s no_state h) ∙ flat_map-append state_commands (take s xs) (x ∷ drop (suc s) xs) in
    let b : flat_map step_commands x.steps ≡ p ++ q =
    ap (flat_map step_commands) (sym (take-append-drop k x.steps)) ∙ flat_map-append step_commands (take k x.steps) (drop k x.steps) in
    ap (λ r. map TIED f.tied ++ r) (a ∙ ap (λ r. flat_map state_commands (take s xs) ++ ((STATE x.kind ∷ r) ++ flat_map state_commands (drop (suc s) xs))) b)
    ∙ glue (map TIED f.tied) (flat_map state_commands (take s xs)) p q (flat_map state_commands (drop (suc s) xs)) (STATE x.kind)

drop-there : (xs : List Step) (k : ℕ) (t : Step) → get_elem? xs k ≡ some t → drop k xs ≡ t ∷ drop (suc k) xs
drop-there [] k t e = absurd (none-ne-some t e)
drop-there (x ∷ xs) zero t e = ap (λ r. r ∷ xs) (some-injective x t e)
drop-there (x ∷ xs) (suc k) t e = drop-there xs k t e

-- where there is one, they are its own and those behind it
from_step : (f : Formula) (s k : ℕ) (t : Step) → step_at f s k ≡ some t → commands_from f s k ≡ step_commands t ++ commands_from f s (suc k)
unfolding step_at commands_from flat_map
from_step f s k t e =
    rw (drop-there (steps_of f s) k t e)
    (append_assoc (step_commands t) (flat_map step_commands (drop (suc k) (steps_of f s))) (flat_map state_commands (drop (suc s) f.states)))

-- where there is none, they are the later states
pub from-none : (f : Formula) (s k : ℕ) → step_at f s k ≡ none → commands_from f s k ≡ flat_map state_commands (drop (suc s) f.states)
unfolding step_at commands_from flat_map
from-none f s k e = rw (past (steps_of f s) k e)
  where
    past : (xs : List Step) (k : ℕ) → get_elem? xs k ≡ none → drop k xs ≡ []
    past [] zero e = refl
    past [] (suc k) e = refl
    past (x ∷ xs) zero e = absurd (none-ne-some x (sym e))
    past (x ∷ xs) (suc k) e = past xs k e

pub commands-split : (f : Formula) (s k : ℕ) (t : Step) → step_at f s k ≡ some t
    → commands f ≡ commands_before f s k ++ (step_commands t ++ commands_from f s (suc k))
commands-split f s k t e = commands-parted f s k (state-there f s k t e) ∙ ap (λ r. commands_before f s k ++ r) (from_step f s k t e)

-- the bytes behind a step
bytes_behind : Formula → ℕ → ℕ → List ℕ
bytes_behind f s k = flat_map encode_command (commands_from f s (suc k)) ++ (0x00 ∷ [])

behind-boundary : (xs : List Step) (ys : List State) → Boundary (flat_map encode_command (flat_map step_commands xs ++ flat_map state_commands ys) ++ (0x00 ∷ []))
unfolding flat_map step_commands state_commands encode_command
behind-boundary [] [] = inr (inr refl)
behind-boundary [] (y ∷ ys) = inr (inl refl)
behind-boundary (x ∷ xs) ys = inl refl

-- from a step's offset on stand its bytes; behind them a STEP, a STATE or END
pub record StandsAt (f : Formula) (s k : ℕ) (t : Step) : Type 0 where
  pub behind : List ℕ
  pub bytes : drop (step_place f s k) (encode f) ≡ encode_step t ++ behind
  pub boundary : Boundary behind
  -- behind the STEP's two bytes stand its clauses, then its guard, if it has one
  pub clauses : drop (step_place f s k + 2) (encode f) ≡ flat_map encode_clause t.clauses ++ (encode_guard t.guard ++ behind)
  pub guard : drop (guard_place f s k t) (encode f) ≡ encode_guard t.guard ++ behind

encode-split : (f : Formula) (s k : ℕ) (t : Step) → step_at f s k ≡ some t
    → encode f ≡ flat_map encode_command (commands_before f s k) ++ (encode_step t ++ bytes_behind f s k)
unfolding encode bytes_behind
encode-split f s k t e =
    rw (
      commands-split f s k t e,
      flat_map-append encode_command (commands_before f s k) (step_commands t ++ commands_from f s (suc k)),
      flat_map-append encode_command (step_commands t) (commands_from f s (suc k)),
      step-bytes t,
      append_assoc (flat_map encode_command (commands_before f s k)) (encode_step t ++ flat_map encode_command (commands_from f s (suc k))) (0x00 ∷ []),
      append_assoc (encode_step t) (flat_map encode_command (commands_from f s (suc k))) (0x00 ∷ []),
    )

-- where a step begins, and where its guard does
pub step-stands : (f : Formula) (s k : ℕ) (t : Step) → step_at f s k ≡ some t → StandsAt f s k t
unfolding step_place guard_place encode_step bytes_behind commands_from
step-stands f s k t e =
    let p = flat_map encode_command (commands_before f s k) in
    let q = flat_map encode_clause t.clauses in
    let g = encode_guard t.guard in
    let r = bytes_behind f s k in
    let a : encode f ≡ p ++ (encode_step t ++ r) = encode-split f s k t e in
    let b : drop 2 (encode_step t ++ r) ≡ q ++ (g ++ r) = append_assoc q g r in
    let c : drop (2 + length q) (encode_step t ++ r) ≡ g ++ r =
    sym (drop-drop (length q) 2 (encode_step t ++ r)) ∙ (ap (drop (length q)) b ∙ drop-append_seam q (g ++ r)) in
    record {
      behind = r;
      bytes = rw (a, drop-append_seam p (encode_step t ++ r));
      boundary = behind-boundary (drop (suc k) (steps_of f s)) (drop (suc s) f.states);
      clauses = rw (a, drop-append-add p (encode_step t ++ r) 2) b;
      guard = rw (a, drop-append-add p (encode_step t ++ r) (2 + length q)) c;
    }

-- a step never begins at offset 0: its STATE stands before it
pub place-positive : (f : Formula) (s k : ℕ) → 2 ≤ step_place f s k
unfolding step_place commands_before flat_map encode_command
place-positive f s k =
    let a = map TIED f.tied in
    let b = flat_map state_commands (take s f.states) in
    let c = flat_map step_commands (take k (steps_of f s)) in
    let p = length-append (flat_map encode_command a) (flat_map encode_command (b ++ (STATE (kind_at f s) ∷ c))) in
    let q = length-append (flat_map encode_command b) (flat_map encode_command (STATE (kind_at f s) ∷ c)) in
    rw (flat_map-append encode_command a (b ++ (STATE (kind_at f s) ∷ c)), p, flat_map-append encode_command b (STATE (kind_at f s) ∷ c), q) (omega arith)

-- an entry of a part of the table
pub table-entry : (f : Formula) (i n j : ℕ) → j < n
    → get_or (table_from f i n) j 0 ≡ place_if (step_at f ((i + j) / 8) ((i + j) % 8)) (step_place f ((i + j) / 8) ((i + j) % 8))
unfolding table_from
table-entry f i zero j h = absurd (native.Mathlib.Nat.not-suc-le-zero h)
table-entry f i (suc n) zero h = rw (native.Mathlib.Nat.add-zero i)
table-entry f i (suc n) (suc j) h =
    let e : suc i + j ≡ i + suc j = omega arith in
    table-entry f (suc i) n j (native.Mathlib.Nat.le_of_suc-le-suc h) ∙ ap (λ m. place_if (step_at f (m / 8) (m % 8)) (step_place f (m / 8) (m % 8))) e

-- the table gives the offset of step k of state s, 0 where there is none
pub table-place : (f : Formula) (s k : ℕ) → s < 16 → k < 8 → get_or (step_table f) (s * 8 + k) 0 ≡ place_if (step_at f s k) (step_place f s k)
unfolding step_table
table-place f s k h l =
    let a : (0 + (s * 8 + k)) / 8 ≡ s = omega arith in
    let b : (0 + (s * 8 + k)) % 8 ≡ k = omega arith in
    table-entry f 0 128 (s * 8 + k) (omega arith) ∙ (rw (a, b))

-- the table has 128 entries
table-long : (f : Formula) (i n : ℕ) → length (table_from f i n) ≡ n
unfolding table_from
table-long f i zero = refl
table-long f i (suc n) = ap suc (table-long f (suc i) n)

pub table-length : (f : Formula) → length (step_table f) ≡ 128
unfolding step_table
table-length f = table-long f 0 128
