-- Reading a formula, both ways: a file is accepted exactly when it is the encoding of a correct formula, and then it is read as that one.
use Prim.Native.Nat.{ℕ, zero, suc, ◌+◌, ◌<◌, ◌≤◌}
use mathlib.Core.Path.{◌≡◌, refl, sym, ap, subst, ◌∙◌}
use mathlib.Core.Logic.{◌↔◌}
use mathlib.Core.List.{List, [], ◌∷◌, ◌++◌, flat_map, append_assoc, append-nil}
use mathlib.Core.Option.{Option, none, some}
use native.Mathlib.Omega.{arith}
use native.Mathlib.Nat.{not-suc-le-zero, le_refl}
use lib.ListN.{length, drop, length-append}
use lib.Seq.{drop-append_seam, append_snoc}
use Rattle.base.proofs.Tests.{cond-holds}
use Rattle.base.proofs.Lists.{All-append, flat_map-append}
use Rattle.base.specs.Lists.{All, Bytes}
use Rattle.refusal.specs.declared.Refusal.{Refusal}
use Rattle.formula.specs.Formula.{TEST, TESTV, BIND, GATHER, Formula}
use Rattle.formula.specs.Encode.{Command, TIED, STATE, STEP, CLAUSE, GUARD, commands, encode_clause, encode_command, encode}
use Rattle.formula.specs.Unbound.{is_unbound}
use Rattle.formula.specs.Correct.{Exists, dead_start, WellFormed, Correct}
use Rattle.formula.specs.declared.Summary.{Summary}
use Rattle.formula.specs.Read.{Reading, accepted, refused, start, advance, Next, command, end, bad, next, assembly, assemble, first_absent}
use Rattle.formula.specs.Read.{first_unbound, refused_at, judge, after_end, follow, read_from, read_formula}
use Rattle.formula.proofs.Basics.{bytes_drop, behind}
use Rattle.formula.proofs.Commands.{Fits, Taken, Ended, Takes, next-taken, next-read, next-end}
use Rattle.formula.proofs.Assembling.{Follows, assemble-commands, commands-assemble}
use Rattle.formula.proofs.Counts.{counts-follow, follow-counts}
use Rattle.formula.proofs.Order.{then-accepted}
use Rattle.formula.proofs.AfterEnd.{none-absent, declared-none, none-unbound, unbound-none}
use Rattle.formula.proofs.CommandRefusals.{CommandRefusal, cut_short, Tells, next-tells}

-- the summary after several commands
abbrev pub advances : Summary → List Command → Summary
advances s [] = s
advances s (c ∷ cs) = advances (advance s c) cs

follows-snoc : (s : Summary) (cs : List Command) (c : Command) → Follows s cs → Fits (advances s cs) c → Follows s (cs ++ (c ∷ []))
follows-snoc s [] c h k = (k, tt)
follows-snoc s (d ∷ cs) c h k = (h.0, follows-snoc (advance s d) cs c h.1 k)

advances-snoc : (s : Summary) (cs : List Command) (c : Command) → advances s (cs ++ (c ∷ [])) ≡ advance (advances s cs) c
advances-snoc s [] c = refl
advances-snoc s (d ∷ cs) c = advances-snoc (advance s d) cs c

-- the states passed are the states assembled
states-assembled : (s : Summary) (cs : List Command) → (advances s cs).states ≡ s.states + length (assembly cs).states
unfolding assembly
states-assembled s [] = omega arith
states-assembled s (TIED v ∷ cs) = states-assembled (advance s (TIED v)) cs
states-assembled s (STATE k ∷ cs) = let i = states-assembled (advance s (STATE k)) cs in omega arith
states-assembled s (STEP t ∷ cs) = states-assembled (advance s (STEP t)) cs
states-assembled s (CLAUSE c ∷ cs) = states-assembled (advance s (CLAUSE c)) cs
states-assembled s (GUARD e ∷ cs) = states-assembled (advance s (GUARD e)) cs

-- the commands of a formula pass all its states
pub states-passed : (f : Formula) → (advances start (commands f)).states ≡ length f.states
unfolding assemble start
states-passed f =
    states-assembled start (commands f)
    ∙ (native.Mathlib.Nat.zero-add (length (assembly (commands f)).states) ∙ ap (λ (x : Formula). length x.states) (assemble-commands f))

pub encode_snoc : (cs : List Command) (c : Command) → flat_map encode_command (cs ++ (c ∷ [])) ≡ flat_map encode_command cs ++ encode_command c
unfolding flat_map
encode_snoc cs c = flat_map-append encode_command cs (c ∷ []) ∙ ap (λ r. flat_map encode_command cs ++ r) (append-nil (encode_command c))

-- the commands cs of the file l are read, right ones, up to offset at, where rest stands
pub record Reached (fields : ℕ) (l : List ℕ) (s : Summary) (cs : List Command) (at : ℕ) (rest : List ℕ) : Type 0 where
  pub follows : Follows start cs
  pub summary : s ≡ advances start cs
  pub operands : All (Exists fields) cs
  pub bytes : l ≡ flat_map encode_command cs ++ rest
  pub place : at ≡ length (flat_map encode_command cs)

pub reached-start : (fields : ℕ) (l : List ℕ) → Reached fields l start [] 0 l
unfolding flat_map
reached-start fields l = record { follows = tt; summary = refl; operands = tt; bytes = refl; place = refl }

-- one command more
pub reached-next : (fields : ℕ) (l : List ℕ) (s : Summary) (cs : List Command) (at : ℕ) (rest : List ℕ) (c : Command) (u : ℕ)
    → Reached fields l s cs at rest → Taken fields s rest c u → Reached fields l (advance s c) (cs ++ (c ∷ [])) (at + u) (drop u rest)
reached-next fields l s cs at rest c u r t =
    let d : drop u rest ≡ t.behind = behind rest (encode_command c) t.behind u t.bytes t.used in
    let e : l ≡ flat_map encode_command cs ++ (encode_command c ++ t.behind) = r.bytes ∙ ap (λ x. flat_map encode_command cs ++ x) t.bytes in
    let p = r.place in
    let q = t.used in
    let z = length-append (flat_map encode_command cs) (encode_command c) in
    record {
      follows = follows-snoc start cs c r.follows (subst (λ x. Fits x c) r.summary t.fits);
      summary = ap (λ x. advance x c) r.summary ∙ sym (advances-snoc start cs c);
      operands = All-append (Exists fields) cs (c ∷ []) r.operands (t.operands, tt);
      bytes = rw (encode_snoc cs c, d, append_assoc (flat_map encode_command cs) (encode_command c) t.behind) e;
      place = rw (encode_snoc cs c) (omega arith);
    }

-- at END: the file up to there is the encoding of the commands' formula, which is well formed
pub record Complete (fields : ℕ) (l : List ℕ) (f : Formula) (after : List ℕ) : Type 0 where
  pub formed : WellFormed fields f
  pub bytes : l ≡ encode f ++ after

pub reached-end : (fields : ℕ) (l : List ℕ) (s : Summary) (cs : List Command) (at : ℕ) (rest : List ℕ) → Reached fields l s cs at rest → Ended s rest
    → Complete fields l (assemble cs) (drop 1 rest)
unfolding encode assemble start
reached-end fields l s cs at rest r t =
    let e : commands (assemble cs) ≡ cs = commands-assemble cs r.follows in
    let d : drop 1 rest ≡ t.behind = behind rest (0x00 ∷ []) t.behind 1 t.bytes refl in
    let n : s.states ≡ length (assembly cs).states =
    ap (λ (x : Summary). x.states) r.summary ∙ (states-assembled start cs ∙ native.Mathlib.Nat.zero-add (length (assembly cs).states)) in
    let p = t.states in
    let k = follow-counts (assemble cs) (subst (Follows start) (sym e) r.follows) in
    record {
      formed = record {
        tied = k.tied;
        nonempty = omega arith;
        states = k.states;
        each = k.each;
        values = subst (All (Exists fields)) (sym e) r.operands;
      };
      bytes = rw (e, d, append_snoc (flat_map encode_command cs) 0x00 t.behind, ← t.bytes) r.bytes;
    }

-- What holds of every refusal of a command, and of every judgement behind END, holds of the answer.
module _ (fields : ℕ) (l : List ℕ) (P : Reading → Type 0) (broken : (n : ℕ) (r : Refusal) → CommandRefusal n r → P (refused r))
    (ended : (f : Formula) (at : ℕ) (after : List ℕ) → Complete fields l f after → P (after_end f at after)) where
  follow-holds : (go_on : Summary → List Command → ℕ → List ℕ → Reading) (s : Summary) (cs : List Command) (at : ℕ) (rest : List ℕ)
      → ((t : Summary) (ds : List Command) (k u : ℕ) → Reached fields l t ds k (drop u rest) → P (go_on t ds k (drop u rest)))
      → Reached fields l s cs at rest → (x : Next) → Takes fields s rest x → Tells (at + length rest) rest x → P (follow go_on s cs at rest x)
  follow-holds go_on s cs at rest h r (command c u) t k = h (advance s c) (cs ++ (c ∷ [])) (at + u) u (reached-next fields l s cs at rest c u r t)
  follow-holds go_on s cs at rest h r end t k = ended (assemble cs) (at + 1) (drop 1 rest) (reached-end fields l s cs at rest r t)
  follow-holds go_on s cs at rest h r (bad b) t k = broken (at + length rest) b k

  from-holds : (n : ℕ) (s : Summary) (cs : List Command) (at : ℕ) (rest : List ℕ) → Bytes rest → Reached fields l s cs at rest
      → P (read_from n fields s cs at rest)
  unfolding read_from
  from-holds zero s cs at rest b r = broken at _ (cut_short (le_refl at))
  from-holds (suc n) s cs at rest b r =
      follow-holds (read_from n fields) s cs at rest (λ t ds k u q. from-holds n t ds k (drop u rest) (bytes_drop u rest b) q) r (next fields s at rest)
      (next-taken fields s at rest b) (next-tells (at + length rest) fields s at rest refl)

  pub reading-holds : Bytes l → P (read_formula fields l)
  unfolding read_formula
  reading-holds b = from-holds (suc (length l)) start [] 0 l b (reached-start fields l)

-- what a reading of l with so many fields may answer
abbrev Right : ℕ → List ℕ → Reading → Type 0
Right fields l (accepted f) = (l ≡ encode f) × Correct fields f
Right fields l (refused r) = Unit {0}

refused-right : (fields : ℕ) (l : List ℕ) (o : Option ℕ) (r : ℕ → Refusal) (x : Reading) → (o ≡ none → Right fields l x) → Right fields l (refused_at o r x)
refused-right fields l none r x h = h refl
refused-right fields l (some p) r x h = tt

judge-right : (fields : ℕ) (l : List ℕ) (f : Formula) → Complete fields l f [] → Right fields l (judge f)
unfolding judge
judge-right fields l f c =
    refused-right fields l (first_absent (length f.states) 0 (commands f)) _ _
    (λ a.
    cond-holds (Right fields l) (dead_start f.states) _ _ (λ d. tt)
    (λ d.
    refused-right fields l (first_unbound (is_unbound f) 0 [] 0 (commands f)) _ _
    (λ b. (
      c.bytes ∙ append-nil (encode f),
      record {
        formed = c.formed;
        named = none-absent (length f.states) 0 (commands f) a;
        start = d;
        bound = none-unbound f c.formed.states b;
      },
    ))))

end-right : (fields : ℕ) (l : List ℕ) (f : Formula) (at : ℕ) (after : List ℕ) → Complete fields l f after → Right fields l (after_end f at after)
unfolding after_end
end-right fields l f at [] c = judge-right fields l f c
end-right fields l f at (b ∷ bs) c = tt

-- an accepted file is the encoding of the formula it is read as, which is correct
pub accepted-correct : (fields : ℕ) (l : List ℕ) (f : Formula) → Bytes l → read_formula fields l ≡ accepted f → (l ≡ encode f) × Correct fields f
accepted-correct fields l f b e = subst (Right fields l) e (reading-holds fields l (Right fields l) (λ n r k. tt) (end-right fields l) b)

-- every command has a byte
pub encode-long : (c : Command) → 1 ≤ length (encode_command c)
unfolding encode_command encode_clause
encode-long (TIED v) = omega arith
encode-long (STATE k) = omega arith
encode-long (STEP t) = omega arith
encode-long (CLAUSE (TEST f o v)) = omega arith
encode-long (CLAUSE (TESTV f o v)) = omega arith
encode-long (CLAUSE (BIND f v)) = omega arith
encode-long (CLAUSE (GATHER f v)) = omega arith
encode-long (GUARD e) = omega arith

commands-short : (cs : List Command) → length cs ≤ length (flat_map encode_command cs)
unfolding flat_map
commands-short [] = omega arith
commands-short (c ∷ cs) =
    let a = encode-long c in
    let b = commands-short cs in
    let d = length-append (encode_command c) (flat_map encode_command cs) in
    omega arith

-- right commands are read to END, and then judged
read-commands : (n fields : ℕ) (cs : List Command) (s : Summary) (done : List Command) (at : ℕ) → Follows s cs → All (Exists fields) cs
    → 0 < (advances s cs).states → length cs < n
    → read_from n fields s done at (flat_map encode_command cs ++ (0x00 ∷ [])) ≡ judge (assemble (done ++ cs))
unfolding read_from flat_map after_end
read-commands zero fields cs s done at h o p k = absurd (not-suc-le-zero k)
read-commands (suc n) fields [] s done at h o p k = rw (next-end fields s at [] p, append-nil done)
read-commands (suc n) fields (c ∷ cs) s done at h o p k =
    let rest = flat_map encode_command cs ++ (0x00 ∷ []) in
    let i = read-commands n fields cs (advance s c) (done ++ (c ∷ [])) (at + length (encode_command c)) h.1 o.1 p (omega arith) in
    rw (
      append_assoc (encode_command c) (flat_map encode_command cs) (0x00 ∷ []),
      next-read fields s at c rest h.0 o.0,
      drop-append_seam (encode_command c) rest,
    )
    (i ∙ ap (λ x. judge (assemble x)) (append_snoc done c cs))

-- the encoding of a well-formed formula is read to END, and the formula is judged
pub formed-judged : (fields : ℕ) (f : Formula) → WellFormed fields f → read_formula fields (encode f) ≡ judge f
unfolding read_formula encode
formed-judged fields f c =
    let h : Follows start (commands f) = counts-follow f (record { tied = c.tied; states = c.states; each = c.each }) in
    let n = states-passed f in
    let p = c.nonempty in
    let k = commands-short (commands f) in
    let l = length-append (flat_map encode_command (commands f)) (0x00 ∷ []) in
    read-commands (suc (length (encode f))) fields (commands f) start [] 0 h c.values (omega arith) (omega arith) ∙ ap judge (assemble-commands f)

-- the encoding of a correct formula is accepted and read as that formula
pub correct-accepted : (fields : ℕ) (f : Formula) → Correct fields f → read_formula fields (encode f) ≡ accepted f
unfolding after_end
correct-accepted fields f c =
    formed-judged fields f c.formed
    ∙ then-accepted f 0 (declared-none (length f.states) 0 (commands f) c.named) c.start (unbound-none f c.bound)

-- the encoding loses nothing
pub encode_injective : (fields : ℕ) (f g : Formula) → Correct fields f → Correct fields g → encode f ≡ encode g → f ≡ g
encode_injective fields f g c d e = ap content (sym (correct-accepted fields f c) ∙ (ap (read_formula fields) e ∙ correct-accepted fields g d))
  where
    content : Reading → Formula
    content (accepted x) = x
    content (refused r) = f

-- both at once: accepted as f exactly when the bytes are the encoding of f and f is correct
pub accepted-exactly : (fields : ℕ) (l : List ℕ) (f : Formula) → Bytes l → (read_formula fields l ≡ accepted f) ↔ ((l ≡ encode f) × Correct fields f)
accepted-exactly fields l f b = (accepted-correct fields l f b, λ h. ap (read_formula fields) h.0 ∙ correct-accepted fields f h.1)
