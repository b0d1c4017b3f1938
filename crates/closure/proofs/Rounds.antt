-- Rounds over the steps.
use Rattle.std.proofs.Common.{◌≡◌, ℕ, zero, suc, ◌+◌, ◌-◌, ◌*◌, ◌<◌, Bool, false, List, ◌++◌, length, get_or, take, fold, refl, sym, ap, subst, ◌∙◌, ⊎_elim, eq-or-lt_of_le, arith, rules}
use Rattle.std.proofs.lemmas.List.{places}
use Rattle.closure.specs.declared.Edge.{Edge}
use Rattle.closure.specs.inner.Reach.{mark, rounds}

-- what is left of the rounds: one more
pub rounds-on : (n v : ℕ) (es : List Edge) (m : List Bool) → n < 16 → rounds (16 - n) v es m ≡ rounds (16 - (n + 1)) v es (fold (mark v) m es)
unfolding rounds
rounds-on n v es m h = let p : 16 - n ≡ suc (16 - (n + 1)) = omega arith in rw p

-- after a round that adds nothing none does
pub rounds-still : (n v : ℕ) (es : List Edge) (m : List Bool) → fold (mark v) m es ≡ m → rounds n v es m ≡ m
unfolding rounds
rounds-still zero v es m h = refl
rounds-still (suc n) v es m h = ap (rounds n v es) h ∙ rounds-still n v es m h

-- the marks of one more variable, behind those of the variables before it
pub stored : (f : ℕ → List Bool) (n : ℕ) (free rest : List Bool) → n < 8 → length free ≡ 128 → length (f n) ≡ 16
    → ((v s : ℕ) → v < n → s < 16 → get_or free (v * 16 + s) false ≡ get_or (f v) s false)
    → (v s : ℕ) → v < n + 1 → s < 16 → get_or (take (n * 16) free ++ (f n ++ rest)) (v * 16 + s) false ≡ get_or (f v) s false
stored f n free rest few all size h v s k l =
    ⊎_elim
    (λ (e : v ≡ n). subst (λ j. get_or (take (n * 16) free ++ (f n ++ rest)) (j * 16 + s) false ≡ get_or (f j) s false) (sym e) (search (rules, places)))
    (λ (b : v < n). let old = h v s b l in search (rules, places, old))
    (eq-or-lt_of_le (omega arith))
