-- Taking the next command: what is taken is the encoding of an allowed command whose operands exist, and every such encoding is taken as its command.
use Prim.Native.Nat.{ℕ, zero, suc, ◌+◌, ◌-◌, ◌<◌, ◌≤◌}
use mathlib.Core.Path.{◌≡◌, refl, ap}
use mathlib.Core.Bool.{Bool, true, false, not, ◌&&◌}
use mathlib.Core.List.{List, [], ◌∷◌, ◌++◌}
use native.Mathlib.Omega.{arith}
use native.Mathlib.Nat.{not-suc-le-zero}
use borrow.Author.Tests.{ltb-true, lt-ltb, le-ltb, eqb-true, eq-eqb, not-true}
use lib.Dec.{ltb, leb}
use lib.ListN.{length, get_or, drop}
use Rattle.base.specs.Lists.{Bytes}
use Rattle.base.specs.Value.{bytes_of, value_at}
use Rattle.base.proofs.Values.{bytes-of-value, value-of-bytes}
use Rattle.formula.specs.Formula.{Operator, equal, unequal, less, greater, atmost, atleast, Clause, TEST, TESTV, BIND, GATHER, StateKind}
use Rattle.formula.specs.Formula.{ordinary, committed, accept, reject}
use Rattle.formula.specs.Encode.{Command, TIED, STATE, STEP, CLAUSE, GUARD, encode_expr, encode_clause, encode_command, operator_byte, kind_byte}
use Rattle.formula.specs.Encode.{list_byte}
use Rattle.formula.specs.Correct.{size, depth, Exists, Fresh}
use Rattle.formula.specs.declared.Summary.{Summary}
use Rattle.formula.specs.declared.Opcode.{Opcode}
use Rattle.formula.specs.declared.Opcode.TheVariants.{End as end-op, State as state-op, Step as step_op, Test as test-op, Testv as testv-op}
use Rattle.formula.specs.declared.Opcode.TheVariants.{Bind as bind-op, Guard as guard-op, Tied as tied-op, Gather as gather-op, Other as other-op}
use Rattle.formula.specs.Read.{opcode, allowed, room, operator_of, kind_of, ExprNext, expression, failed, read_expr, Next, command, end, bad}
use Rattle.formula.specs.Read.{is_list, operands, guard_of, again, operands_of, next}
use Rattle.base.proofs.Tests.{and_left, and_right, and-false}
use Rattle.formula.proofs.Basics.{byte-case, list_back, list-number, list-named}
use Rattle.formula.proofs.Order.{by_order, by-operands, by-gather}
use Rattle.formula.proofs.Exprs.{Finds, expr-found, expr-read, value-below}

-- a command is allowed behind what the summary tells, within the stated counts and depth, and gathers into no list a second time
abbrev pub Fits : Summary → Command → Type 0
Fits s (TIED v) = (s.states ≡ 0) × (s.tied < 8)
Fits s (STATE k) = s.states < 16
Fits s (STEP t) = (0 < s.states) × (s.closed ≡ false) × (s.steps < 8)
Fits s (CLAUSE c) = (0 < s.steps) × (s.guarded ≡ false) × (s.clauses < 8) × Fresh s.gathered c
Fits s (GUARD e) = (0 < s.steps) × (s.guarded ≡ false) × (size e ≤ 31) × (depth e ≤ 8)

-- the command's bytes stand in front, and it is right there
pub record Taken (fields : ℕ) (s : Summary) (rest : List ℕ) (c : Command) (u : ℕ) : Type 0 where
  pub behind : List ℕ
  pub bytes : rest ≡ encode_command c ++ behind
  pub used : u ≡ length (encode_command c)
  pub fits : Fits s c
  pub operands : Exists fields c

-- END stands in front, behind at least one STATE
pub record Ended (s : Summary) (rest : List ℕ) : Type 0 where
  pub behind : List ℕ
  pub bytes : rest ≡ 0x00 ∷ behind
  pub states : 0 < s.states

abbrev pub Takes : ℕ → Summary → List ℕ → Next → Type 0
Takes fields s rest (command c u) = Taken fields s rest c u
Takes fields s rest end = Ended s rest
Takes fields s rest (bad r) = Unit {0}

abbrev Byte : ℕ → Opcode → Type 0
Byte b end-op = b ≡ 0x00
Byte b state-op = b ≡ 0x10
Byte b step_op = b ≡ 0x11
Byte b test-op = b ≡ 0x12
Byte b testv-op = b ≡ 0x13
Byte b bind-op = b ≡ 0x14
Byte b guard-op = b ≡ 0x15
Byte b tied-op = b ≡ 0x16
Byte b gather-op = b ≡ 0x17
Byte b other-op = Unit {0}

byte_of : (b : ℕ) → Byte b (opcode b)
unfolding opcode
byte_of b =
    byte-case Byte b 0x00 _ _ refl
    (byte-case Byte b 0x10 _ _ refl
    (byte-case Byte b 0x11 _ _ refl
    (byte-case Byte b 0x12 _ _ refl
    (byte-case Byte b 0x13 _ _ refl
    (byte-case Byte b 0x14 _ _ refl
    (byte-case Byte b 0x15 _ _ refl (byte-case Byte b 0x16 _ _ refl (byte-case Byte b 0x17 _ _ refl tt))))))))

-- an operator or a kind that exists is that of its byte
operator-back : (n : ℕ) → n < 6 → operator_byte (operator_of n) ≡ n
unfolding operator_of
operator-back zero h = refl
operator-back (suc zero) h = refl
operator-back (suc (suc zero)) h = refl
operator-back (suc (suc (suc zero))) h = refl
operator-back (suc (suc (suc (suc zero)))) h = refl
operator-back (suc (suc (suc (suc (suc n))))) h = omega arith

-- a kind's byte names it
pub kind-back : (n : ℕ) → n < 4 → kind_byte (kind_of n) ≡ n
unfolding kind_of
kind-back zero h = refl
kind-back (suc zero) h = refl
kind-back (suc (suc zero)) h = refl
kind-back (suc (suc (suc n))) h = omega arith

operands-takes : (fields : ℕ) (s : Summary) (at b : ℕ) (ops : List ℕ) (width : ℕ) (exist : Bool) (c : Command)
    → (width ≤ length ops → exist ≡ true → Taken fields s (b ∷ ops) c (1 + width)) → Takes fields s (b ∷ ops) (operands at ops width exist c)
operands-takes fields s at b ops width exist c f = by-operands at ops width exist c (Takes fields s (b ∷ ops)) tt tt f

-- what the tests tell of a STEP, and of a clause
step_fits : (s : Summary) (t : ℕ) → allowed s step_op ≡ true → room s step_op ≡ true → Fits s (STEP t)
step_fits s t a r = (
  ltb-true 0 s.states (and_left (ltb 0 s.states) (not s.closed) a),
  not-true s.closed (and_right (ltb 0 s.states) (not s.closed) a),
  ltb-true s.steps 8 r,
)

clause-fits : (s : Summary) (c : Clause) → ltb 0 s.steps && not s.guarded ≡ true → ltb s.clauses 8 ≡ true → Fresh s.gathered c
    → Fits s (CLAUSE c)
clause-fits s c a r f = (
  ltb-true 0 s.steps (and_left (ltb 0 s.steps) (not s.guarded) a),
  not-true s.guarded (and_right (ltb 0 s.steps) (not s.guarded) a),
  ltb-true s.clauses 8 r,
  f,
)

-- a list that is not gathered into again is fresh, and the other way round
again-fresh : (seen : List Bool) (b : ℕ) → is_list b ≡ true → again seen b ≡ false → get_or seen (b - 8) false ≡ false
again-fresh seen b h e = rw (and_left (leb 8 b) (ltb b 12) h) at e

fresh-again : (seen : List Bool) (v : ℕ) → get_or seen v false ≡ false → again seen (list_byte v) ≡ false
fresh-again seen v h = and-false (leb 8 (list_byte v)) (get_or seen (list_byte v - 8) false) (rw (list-number v) h)

state-taken : (fields : ℕ) (s : Summary) (b : ℕ) (ops : List ℕ) → b ≡ 0x10 → s.states < 16 → 1 ≤ length ops → ltb (get_or ops 0 0) 4 ≡ true
    → Taken fields s (b ∷ ops) (STATE (kind_of (get_or ops 0 0))) 2
unfolding encode_command
state-taken fields s b [] e r k v = absurd (not-suc-le-zero k)
state-taken fields s b (x ∷ xs) e r k v = record { behind = xs; bytes = rw (e, kind-back x (ltb-true x 4 v)); used = refl; fits = r; operands = tt }

step-taken : (fields : ℕ) (s : Summary) (b : ℕ) (ops : List ℕ) → b ≡ 0x11 → Fits s (STEP (get_or ops 0 0)) → 1 ≤ length ops
    → Taken fields s (b ∷ ops) (STEP (get_or ops 0 0)) 2
unfolding encode_command
step-taken fields s b [] e r k = absurd (not-suc-le-zero k)
step-taken fields s b (x ∷ xs) e r k = record { behind = xs; bytes = rw e; used = refl; fits = r; operands = tt }

tied-taken : (fields : ℕ) (s : Summary) (b : ℕ) (ops : List ℕ) → b ≡ 0x16 → Fits s (TIED (get_or ops 0 0)) → 1 ≤ length ops
    → ltb (get_or ops 0 0) 8 ≡ true → Taken fields s (b ∷ ops) (TIED (get_or ops 0 0)) 2
unfolding encode_command
tied-taken fields s b [] e r k v = absurd (not-suc-le-zero k)
tied-taken fields s b (x ∷ xs) e r k v = record { behind = xs; bytes = rw e; used = refl; fits = r; operands = ltb-true x 8 v }

test-taken : (fields : ℕ) (s : Summary) (b : ℕ) (ops : List ℕ) → Bytes ops → b ≡ 0x12
    → ((c : Clause) → Fresh s.gathered c → Fits s (CLAUSE c)) → 6 ≤ length ops → ltb (get_or ops 0 0) fields && ltb (get_or ops 1 0) 6 ≡ true
    → Taken fields s (b ∷ ops) (CLAUSE (TEST (get_or ops 0 0) (operator_of (get_or ops 1 0)) (value_at ops 2))) 7
unfolding encode_command encode_clause bytes_of
test-taken fields s b [] h e r k v = absurd (not-suc-le-zero k)
test-taken fields s b (x ∷ []) h e r k v = absurd (not-suc-le-zero (native.Mathlib.Nat.le_of_suc-le-suc k))
test-taken fields s b (x ∷ y ∷ ys) h e r k v =
    record {
      behind = drop 4 ys;
      bytes = rw (e, operator-back y (ltb-true y 6 (and_right (ltb x fields) (ltb y 6) v))) (ap (λ t. 0x12 ∷ x ∷ y ∷ t) (bytes-of-value (x ∷ y ∷ ys) 2 h k));
      used = refl;
      fits = r (TEST x (operator_of y) (value_at (x ∷ y ∷ ys) 2)) tt;
      operands = (ltb-true x fields (and_left (ltb x fields) (ltb y 6) v), value-below (x ∷ y ∷ ys) 2 h);
    }

testv-taken : (fields : ℕ) (s : Summary) (b : ℕ) (ops : List ℕ) → b ≡ 0x13
    → ((c : Clause) → Fresh s.gathered c → Fits s (CLAUSE c)) → 3 ≤ length ops
    → ltb (get_or ops 0 0) fields && ltb (get_or ops 1 0) 6 && ltb (get_or ops 2 0) 8 ≡ true
    → Taken fields s (b ∷ ops) (CLAUSE (TESTV (get_or ops 0 0) (operator_of (get_or ops 1 0)) (get_or ops 2 0))) 4
unfolding encode_command encode_clause
testv-taken fields s b [] e r k v = absurd (not-suc-le-zero k)
testv-taken fields s b (x ∷ []) e r k v = absurd (not-suc-le-zero (native.Mathlib.Nat.le_of_suc-le-suc k))
testv-taken fields s b (x ∷ y ∷ []) e r k v = absurd (not-suc-le-zero (native.Mathlib.Nat.le_of_suc-le-suc (native.Mathlib.Nat.le_of_suc-le-suc k)))
testv-taken fields s b (x ∷ y ∷ z ∷ zs) e r k v =
    let w = and_left (ltb x fields && ltb y 6) (ltb z 8) v in
    record {
      behind = zs;
      bytes = rw (e, operator-back y (ltb-true y 6 (and_right (ltb x fields) (ltb y 6) w)));
      used = refl;
      fits = r (TESTV x (operator_of y) z) tt;
      operands = (ltb-true x fields (and_left (ltb x fields) (ltb y 6) w), ltb-true z 8 (and_right (ltb x fields && ltb y 6) (ltb z 8) v));
    }

bind-taken : (fields : ℕ) (s : Summary) (b : ℕ) (ops : List ℕ) → b ≡ 0x14
    → ((c : Clause) → Fresh s.gathered c → Fits s (CLAUSE c)) → 2 ≤ length ops
    → ltb (get_or ops 0 0) fields && ltb (get_or ops 1 0) 8 ≡ true → Taken fields s (b ∷ ops) (CLAUSE (BIND (get_or ops 0 0) (get_or ops 1 0))) 3
unfolding encode_command encode_clause
bind-taken fields s b [] e r k v = absurd (not-suc-le-zero k)
bind-taken fields s b (x ∷ []) e r k v = absurd (not-suc-le-zero (native.Mathlib.Nat.le_of_suc-le-suc k))
bind-taken fields s b (x ∷ y ∷ ys) e r k v =
    record {
      behind = ys;
      bytes = rw e;
      used = refl;
      fits = r (BIND x y) tt;
      operands = (ltb-true x fields (and_left (ltb x fields) (ltb y 8) v), ltb-true y 8 (and_right (ltb x fields) (ltb y 8) v));
    }

gather-taken : (fields : ℕ) (s : Summary) (b : ℕ) (ops : List ℕ) → b ≡ 0x17 → ((c : Clause) → Fresh s.gathered c → Fits s (CLAUSE c))
    → again s.gathered (get_or ops 1 0) ≡ false → 2 ≤ length ops → ltb (get_or ops 0 0) fields && is_list (get_or ops 1 0) ≡ true
    → Taken fields s (b ∷ ops) (CLAUSE (GATHER (get_or ops 0 0) (get_or ops 1 0 - 8))) 3
unfolding encode_command encode_clause
gather-taken fields s b [] e r n k v = absurd (not-suc-le-zero k)
gather-taken fields s b (x ∷ []) e r n k v = absurd (not-suc-le-zero (native.Mathlib.Nat.le_of_suc-le-suc k))
gather-taken fields s b (x ∷ y ∷ ys) e r n k v =
    let l = and_right (ltb x fields) (is_list y) v in
    let p = list_back y l in
    record {
      behind = ys;
      bytes = rw e (ap (λ z. 0x17 ∷ x ∷ z ∷ ys) p.0);
      used = refl;
      fits = r (GATHER x (y - 8)) (again-fresh s.gathered y l n);
      operands = (ltb-true x fields (and_left (ltb x fields) (is_list y) v), p.1);
    }

guard-taken : (fields : ℕ) (s : Summary) (b : ℕ) (ops : List ℕ) (x : ExprNext) → b ≡ 0x15 → 0 < s.steps → s.guarded ≡ false → Finds 8 31 ops x
    → Takes fields s (b ∷ ops) (guard_of x)
unfolding encode_command
guard-taken fields s b ops (expression e u m) q h g f =
    let l = f.left in
    let k = f.used in
    record { behind = f.behind; bytes = rw q (ap (λ t. 0x15 ∷ t) f.bytes); used = omega arith; fits = (h, g, omega arith, f.deep); operands = f.leaves }
guard-taken fields s b ops (failed r) q h g f = tt

op-takes : (fields : ℕ) (s : Summary) (at b : ℕ) (ops : List ℕ) → Bytes ops → (w : Opcode) → Byte b w → allowed s w ≡ true → room s w ≡ true
    → Takes fields s (b ∷ ops) (operands_of fields s.gathered at ops w)
op-takes fields s at b ops h end-op e a r = record { behind = ops; bytes = rw e; states = ltb-true 0 s.states a }
op-takes fields s at b ops h state-op e a r = operands-takes fields s at b ops 1 _ _ (λ k v. state-taken fields s b ops e (ltb-true s.states 16 r) k v)
op-takes fields s at b ops h step_op e a r = operands-takes fields s at b ops 1 true _ (λ k v. step-taken fields s b ops e (step_fits s (get_or ops 0 0) a r) k)
op-takes fields s at b ops h test-op e a r = operands-takes fields s at b ops 6 _ _ (λ k v. test-taken fields s b ops h e (λ c. clause-fits s c a r) k v)
op-takes fields s at b ops h testv-op e a r = operands-takes fields s at b ops 3 _ _ (λ k v. testv-taken fields s b ops e (λ c. clause-fits s c a r) k v)
op-takes fields s at b ops h bind-op e a r = operands-takes fields s at b ops 2 _ _ (λ k v. bind-taken fields s b ops e (λ c. clause-fits s c a r) k v)
op-takes fields s at b ops h guard-op e a r =
    guard-taken fields s b ops (read_expr 8 31 (at + 1) ops) e (ltb-true 0 s.steps a) (not-true s.guarded r) (expr-found 8 31 (at + 1) ops h)
op-takes fields s at b ops h tied-op e a r =
    operands-takes fields s at b ops 1 _ _ (λ k v. tied-taken fields s b ops e (eqb-true s.states 0 a, ltb-true s.tied 8 r) k v)
op-takes fields s at b ops h gather-op e a r =
    by-gather fields s.gathered at ops (Takes fields s (b ∷ ops)) tt tt
    (λ n. operands-takes fields s at b ops 2 _ _ (λ k v. gather-taken fields s b ops e (λ c. clause-fits s c a r) n k v))
op-takes fields s at b ops h other-op e a r = tt

-- whatever is taken as a command is its encoding, allowed there and with operands that exist
pub next-taken : (fields : ℕ) (s : Summary) (at : ℕ) (rest : List ℕ) → Bytes rest → Takes fields s rest (next fields s at rest)
unfolding next
next-taken fields s at [] h = tt
next-taken fields s at (b ∷ ops) h =
    by_order fields s at b ops (Takes fields s (b ∷ ops)) tt tt (λ a r. op-takes fields s at b ops h.1 (opcode b) (byte_of b) a r)

-- a byte of an operator or a kind names it
operator-of-byte : (o : Operator) → operator_of (operator_byte o) ≡ o
unfolding operator_of
operator-of-byte equal = refl
operator-of-byte unequal = refl
operator-of-byte less = refl
operator-of-byte greater = refl
operator-of-byte atmost = refl
operator-of-byte atleast = refl

operator-below : (o : Operator) → ltb (operator_byte o) 6 ≡ true
operator-below equal = refl
operator-below unequal = refl
operator-below less = refl
operator-below greater = refl
operator-below atmost = refl
operator-below atleast = refl

kind-of-byte : (k : StateKind) → kind_of (kind_byte k) ≡ k
unfolding kind_of
kind-of-byte ordinary = refl
kind-of-byte committed = refl
kind-of-byte accept = refl
kind-of-byte reject = refl

kind-below : (k : StateKind) → ltb (kind_byte k) 4 ≡ true
kind-below ordinary = refl
kind-below committed = refl
kind-below accept = refl
kind-below reject = refl

-- every encoding of a command that fits, with operands that exist, is taken as that command, whatever follows
pub next-read : (fields : ℕ) (s : Summary) (at : ℕ) (c : Command) (rest : List ℕ) → Fits s c → Exists fields c
    → next fields s at (encode_command c ++ rest) ≡ command c (length (encode_command c))
unfolding next opcode encode_command encode_clause bytes_of
next-read fields s at (TIED v) rest h o = rw (eq-eqb s.states 0 h.0, lt-ltb s.tied 8 h.1, le-ltb (length (v ∷ rest)) 1 (omega arith), lt-ltb v 8 o)
next-read fields s at (STATE k) rest h o = rw (lt-ltb s.states 16 h, le-ltb (length (kind_byte k ∷ rest)) 1 (omega arith), kind-below k, kind-of-byte k)
next-read fields s at (STEP t) rest h o = rw (lt-ltb 0 s.states h.0, h.1, lt-ltb s.steps 8 h.2, le-ltb (length (t ∷ rest)) 1 (omega arith))
next-read fields s at (CLAUSE (TEST f p v)) rest h o =
    let x : value_at (f ∷ operator_byte p ∷ (bytes_of v ++ rest)) 2 ≡ v = value-of-bytes (f ∷ operator_byte p ∷ []) v rest o.1 in
    rw (
      lt-ltb 0 s.steps h.0,
      h.1,
      lt-ltb s.clauses 8 h.2,
      le-ltb (length (f ∷ operator_byte p ∷ (bytes_of v ++ rest))) 6 (omega arith),
      lt-ltb f fields o.0,
      operator-below p,
      operator-of-byte p,
      x,
    )
next-read fields s at (CLAUSE (TESTV f p v)) rest h o =
    rw (
      lt-ltb 0 s.steps h.0,
      h.1,
      lt-ltb s.clauses 8 h.2,
      le-ltb (length (f ∷ operator_byte p ∷ v ∷ rest)) 3 (omega arith),
      lt-ltb f fields o.0,
      operator-below p,
      lt-ltb v 8 o.1,
      operator-of-byte p,
    )
next-read fields s at (CLAUSE (BIND f v)) rest h o =
    rw (
      lt-ltb 0 s.steps h.0,
      h.1,
      lt-ltb s.clauses 8 h.2,
      le-ltb (length (f ∷ v ∷ rest)) 2 (omega arith),
      lt-ltb f fields o.0,
      lt-ltb v 8 o.1,
    )
next-read fields s at (CLAUSE (GATHER f v)) rest h o =
    rw (
      lt-ltb 0 s.steps h.0,
      h.1,
      lt-ltb s.clauses 8 h.2,
      le-ltb (length (f ∷ list_byte v ∷ rest)) 2 (omega arith),
      fresh-again s.gathered v h.3,
      lt-ltb f fields o.0,
      list-named v o.1,
      list-number v,
    )
next-read fields s at (GUARD e) rest h o =
    let q : 1 + length (encode_expr e) ≡ suc (length (encode_expr e)) = omega arith in
    rw (lt-ltb 0 s.steps h.0, h.1, expr-read 8 31 (at + 1) e rest h.3 h.2 o, q)

-- END behind a STATE is taken as END
pub next-end : (fields : ℕ) (s : Summary) (at : ℕ) (rest : List ℕ) → 0 < s.states → next fields s at (0x00 ∷ rest) ≡ end
unfolding next opcode
next-end fields s at rest h = rw (lt-ltb 0 s.states h)
