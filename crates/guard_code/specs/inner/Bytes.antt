-- What the code makes of a guard's bytes, well formed or not: a twin of each definition on byte lists.
use Rattle.std.specs.Prelude.{ℕ, zero, suc, ◌+◌, ◌-◌, ◌*◌, min, Bool, true, false, not, ◌&&◌, ◌||◌, cond, List, ◌++◌, length, get_or, drop, ltb, leb, eqb}
use Rattle.base.specs.Lists.{pad}
use Rattle.base.specs.Value.{value_at}
use Rattle.guard_code.specs.declared.trends.Judged.{Judged}
use Rattle.guard_code.specs.declared.Marks.{Marks}
use Rattle.base.specs.Mask.{bit}
use Rattle.machine.specs.Guard.{truth}

-- "23 ADD .. 27 EQUAL, 28 NOT, 29 AND, 2A OR, 2B IF (condition, then, else)": how many operands a command has
unfoldable pub operands_of : ℕ → ℕ
operands_of c = cond (ltb c 0x23) 0 (cond (eqb c 0x28) 1 (cond (ltb c 0x2B) 2 (cond (eqb c 0x2B) 3 0)))

-- what a command makes of its operands' values; of one with fewer than three the others are not looked at
unfoldable pub applied : ℕ → ℕ → ℕ → ℕ → ℕ
applied c a b d =
    cond (eqb c 0x23) (min (a + b) 4294967295)
    (cond (eqb c 0x24) (a - b)
    (cond (eqb c 0x25) (bit (ltb a b))
    (cond (eqb c 0x26) (bit (leb a b))
    (cond (eqb c 0x27) (bit (eqb a b))
    (cond (eqb c 0x28) (bit (not (truth a)))
    (cond (eqb c 0x29) (bit (truth a && truth b))
    (cond (eqb c 0x2A) (bit (truth a || truth b))
    (cond (truth a) b d))))))))

-- where among the leaves' values, 8 variables, then the sums, the lengths and the numbers of different values of the 4 lists, then the
-- counters, a command without operands counts its operand from; a list is written 8 + v; 36 for any other byte
abbrev pub leaf_first : ℕ → ℕ
leaf_first c = cond (eqb c 0x22) 20 (cond (eqb c 0x21) 0 (cond (ltb c 0x2C) 36 (cond (ltb 0x2E c) 36 ((c - 0x2C) * 4))))

-- the value of the command without operands at the front, over the leaves' values
unfoldable pub leaf_in : List ℕ → List ℕ → ℕ
leaf_in leaves part = cond (eqb (get_or part 0 0) 0x20) (value_at part 1) (get_or leaves (leaf_first (get_or part 0 0) + get_or part 1 0) 0)

unfoldable pub leaf_value : List ℕ → List ℕ → List ℕ → List ℕ → ℕ
leaf_value values counters tallies = leaf_in (pad 8 0 values ++ (pad 12 0 tallies ++ counters))

-- its bytes, as far as there are any
abbrev pub leaf_width : ℕ → ℕ
leaf_width c = cond (eqb c 0x20) 5 (cond (eqb (leaf_first c) 36) 0 2)

abbrev pub leaf_used : List ℕ → ℕ
leaf_used part = min (leaf_width (get_or part 0 0)) (length part)

-- its bytes, where they are all there; else 0
unfoldable pub leaf_whole : List ℕ → ℕ
leaf_whole part = cond (leb (leaf_width (get_or part 0 0)) (length part)) (leaf_width (get_or part 0 0)) 0

-- the value of an expression, and the bytes that it took; 0 and 0 where none stands
pub record Evaluated : Type 0 where
  pub value : ℕ
  pub used : ℕ

abbrev pub nothing : Evaluated
nothing = record { value = 0; used = 0 }

-- a command with its operands, each read by `read` where the one before it ends: the third, the second, the first
abbrev pub evaluated_third : List ℕ → Evaluated → Evaluated → Evaluated → Evaluated
evaluated_third part a b d = record { value = applied (get_or part 0 0) a.value b.value d.value; used = 1 + a.used + b.used + d.used }

unfoldable pub evaluated_second : (List ℕ → Evaluated) → List ℕ → Evaluated → Evaluated → Evaluated
evaluated_second read part a b =
    cond (eqb (operands_of (get_or part 0 0)) 2) (record { value = applied (get_or part 0 0) a.value b.value 0; used = 1 + a.used + b.used })
    (evaluated_third part a b (read (drop (1 + a.used + b.used) part)))

unfoldable pub evaluated_first : (List ℕ → Evaluated) → List ℕ → Evaluated → Evaluated
evaluated_first read part a =
    cond (eqb (operands_of (get_or part 0 0)) 1) (record { value = applied (get_or part 0 0) a.value 0 0; used = 1 + a.used })
    (evaluated_second read part a (read (drop (1 + a.used) part)))

-- the command without operands at the front, where one stands there whole; else what is read otherwise
unfoldable pub leaf_or : (List ℕ → ℕ) → List ℕ → Evaluated → Evaluated
leaf_or leaf part other = cond (eqb (leaf_whole part) 0) other (record { value = leaf part; used = leaf_whole part })

-- a command with operands at the front, with so many such commands nested at most; `leaf` reads a command without operands
unfoldable pub compound : ℕ → (List ℕ → ℕ) → List ℕ → Evaluated
compound zero leaf part = nothing
compound (suc n) leaf part =
    cond (eqb (operands_of (get_or part 0 0)) 0) nothing
    (evaluated_first (λ l. leaf_or leaf l (compound n leaf l)) part (leaf_or leaf (drop 1 part) (compound n leaf (drop 1 part))))

-- the value of the expression at the front and the bytes it takes
unfoldable pub evaluated : ℕ → (List ℕ → ℕ) → List ℕ → Evaluated
evaluated n leaf part = leaf_or leaf part (compound n leaf part)

-- the guard at an offset is nonzero; where no GUARD stands, true
unfoldable pub guard_at : (List ℕ → ℕ) → List ℕ → ℕ → Bool
guard_at leaf f at = cond (eqb (get_or f at 0) 0x15) (truth (evaluated 8 leaf (drop (at + 1) f)).value) true

-- LESS, ATMOST and NOT judge their first operand the other way
unfoldable pub turned : ℕ → Bool
turned c = cond (eqb c 0x25) true (cond (eqb c 0x26) true (cond (eqb c 0x28) true false))

-- "ADD, AND, OR keep what both operands are"
unfoldable pub kept : ℕ → Bool
kept c = cond (eqb c 0x23) true (cond (eqb c 0x29) true (cond (eqb c 0x2A) true false))

-- an expression of so many bytes is so
abbrev pub judgement : Bool → ℕ → Judged
judgement b n = record { yes = b; used = n }

-- "constants, counters .. are both", and a length; any other leaf is what its mark says
unfoldable pub leaf_marked : Marks → List ℕ → Bool
leaf_marked marks part =
    cond (eqb (get_or part 0 0) 0x21) (get_or marks.variables (get_or part 1 0) false)
    (cond (eqb (get_or part 0 0) 0x2C) (get_or marks.sums (get_or part 1 0 - 8) false)
    (cond (eqb (get_or part 0 0) 0x2E) (get_or marks.differents (get_or part 1 0 - 8) false)
    true))

-- a command of two operands that are both so, one of three, and one operand judged both ways
abbrev pub paired : Judged → Judged → Judged
paired a b = record { yes = a.yes && b.yes; used = 1 + a.used + b.used }

abbrev pub tripled : Judged → Judged → Judged → Judged
tripled a b d = record { yes = a.yes && (b.yes && d.yes); used = 1 + a.used + b.used + d.used }

abbrev pub agreed : Judged → Judged → Judged
agreed a z = record { yes = a.yes && z.yes; used = a.used }

-- one command, its operands judged the same way by `same` and the other way by `other`: EQUAL and IF need their first operand
-- judged both ways, EQUAL the second too
unfoldable pub judged_both : (List ℕ → Judged) → (List ℕ → Judged) → List ℕ → Judged → Judged → Judged → Judged
judged_both same other part a b z =
    cond (eqb (get_or part 0 0) 0x27) (paired (agreed a z) (agreed b (other (drop (1 + a.used) part))))
    (tripled (agreed a z) b (same (drop (1 + a.used + b.used) part)))

unfoldable pub judged_second : (List ℕ → Judged) → (List ℕ → Judged) → List ℕ → Judged → Judged → Judged
judged_second same other part a b = cond (kept (get_or part 0 0)) (paired a b) (judged_both same other part a b (other (drop 1 part)))

unfoldable pub judged_first : (List ℕ → Judged) → (List ℕ → Judged) → List ℕ → Judged → Judged
judged_first same other part a =
    cond (eqb (get_or part 0 0) 0x24) (paired a (other (drop (1 + a.used) part))) (judged_second same other part a (same (drop (1 + a.used) part)))

unfoldable pub judged_turned : (List ℕ → Judged) → List ℕ → Judged → Judged
judged_turned same part a =
    cond (eqb (operands_of (get_or part 0 0)) 1) (record { yes = a.yes; used = 1 + a.used }) (paired a (same (drop (1 + a.used) part)))

unfoldable pub judged : (List ℕ → Judged) → (List ℕ → Judged) → (List ℕ → Bool) → List ℕ → Judged
judged same other leaf part =
    cond (eqb (operands_of (get_or part 0 0)) 0) (judgement (leaf part) (leaf_used part))
    (cond (turned (get_or part 0 0)) (judged_turned same part (other (drop 1 part))) (judged_first same other part (same (drop 1 part))))

-- the expression at the front is so, rising or falling, and the bytes it takes, with so many commands nested at most: `mine` says
-- which leaves are so, `others` which are the other
unfoldable pub trend_at : ℕ → (List ℕ → Bool) → (List ℕ → Bool) → List ℕ → Judged
trend_at zero mine others part = judgement false 0
trend_at (suc n) mine others part = judged (trend_at n mine others) (trend_at n others mine) mine part

-- the guard at an offset is falling; where no GUARD stands, none falls
unfoldable pub falls_at : (List ℕ → Bool) → (List ℕ → Bool) → List ℕ → ℕ → Bool
falls_at falls rises f at = cond (eqb (get_or f at 0) 0x15) (trend_at 8 falls rises (drop (at + 1) f)).yes false
