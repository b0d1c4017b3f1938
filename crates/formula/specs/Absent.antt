-- 13 'absent state': "A STEP or COUNT naming a state that the file doesn't declare gets its own number; its place is still that command". Where one stands.
use Rattle.std.specs.Prelude.{ℕ, ◌+◌, ◌≡◌, ◌⊎◌, List, [], ◌∷◌, length}
use Rattle.formula.specs.Formula.{Leaf, Expr, LEAF, ADD, SUB, LESS, ATMOST, EQUAL, NOT, AND, OR, IF, Formula}
use Rattle.formula.specs.Encode.{Command, TIED, STATE, STEP, CLAUSE, GUARD, commands, encode_expr, encode_command, encode}
use Rattle.formula.specs.Correct.{LeafDeclared, Declared, WellFormed}

-- of the expression that begins at offset `at`, the leaf at p has the property
abbrev pub LeafAt : (Leaf → Type 0) → ℕ → Expr → ℕ → Type 0
LeafAt P at (LEAF l) p = (p ≡ at) × P l
LeafAt P at (ADD a b) p = LeafAt P (at + 1) a p ⊎ LeafAt P (at + 1 + length (encode_expr a)) b p
LeafAt P at (SUB a b) p = LeafAt P (at + 1) a p ⊎ LeafAt P (at + 1 + length (encode_expr a)) b p
LeafAt P at (LESS a b) p = LeafAt P (at + 1) a p ⊎ LeafAt P (at + 1 + length (encode_expr a)) b p
LeafAt P at (ATMOST a b) p = LeafAt P (at + 1) a p ⊎ LeafAt P (at + 1 + length (encode_expr a)) b p
LeafAt P at (EQUAL a b) p = LeafAt P (at + 1) a p ⊎ LeafAt P (at + 1 + length (encode_expr a)) b p
LeafAt P at (NOT a) p = LeafAt P (at + 1) a p
LeafAt P at (AND a b) p = LeafAt P (at + 1) a p ⊎ LeafAt P (at + 1 + length (encode_expr a)) b p
LeafAt P at (OR a b) p = LeafAt P (at + 1) a p ⊎ LeafAt P (at + 1 + length (encode_expr a)) b p
LeafAt P at (IF c a b) p =
    LeafAt P (at + 1) c p
    ⊎ (LeafAt P (at + 1 + length (encode_expr c)) a p ⊎ LeafAt P (at + 1 + length (encode_expr c) + length (encode_expr a)) b p)

-- of the command, and of the commands, that begin at offset `at`, the STEP or COUNT at p names a state that is none of so many declared
abbrev pub CommandNames : ℕ → ℕ → Command → ℕ → Type 0
CommandNames states at (TIED v) p = ⊥
CommandNames states at (STATE k) p = ⊥
CommandNames states at (STEP t) p = (p ≡ at) × (¬ Declared states (STEP t))
CommandNames states at (CLAUSE c) p = ⊥
CommandNames states at (GUARD e) p = LeafAt (λ l. ¬ LeafDeclared states l) (at + 1) e p

abbrev pub NamesFrom : ℕ → ℕ → List Command → ℕ → Type 0
NamesFrom states at [] p = ⊥
NamesFrom states at (c ∷ cs) p = CommandNames states at c p ⊎ NamesFrom states (at + length (encode_command c)) cs p

-- the file is well formed up to END, nothing is left over, and its STEP or COUNT at p names a state that it does not declare
pub record AbsentAt (fields : ℕ) (file : List ℕ) (p : ℕ) : Type 0 where
  pub formula : Formula
  pub encoded : file ≡ encode formula
  pub formed : WellFormed fields formula
  pub names : NamesFrom (length formula.states) 0 (commands formula) p
