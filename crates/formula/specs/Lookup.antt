-- A step by its state and number, and the tied variables as a mask; besides, computed and proved to be what `Located` says: the offset of a step in
-- the file, and the table of all offsets.
use Rattle.std.specs.Prelude.{ℕ, zero, suc, ◌+◌, ◌/◌, ◌%◌, ◌^◌, Bool, false, cond, ◌||◌, eqb, length, get_or, take}
use mathlib.Core.List.{List, [], ◌∷◌, ◌++◌, map, flat_map}
use Rattle.std.proofs.Math.Option.{Option, none, some}
use Rattle.std.proofs.Math.ListN.{get_elem?}
use Rattle.formula.specs.Formula.{Step, StateKind, ordinary, Formula}
use Rattle.formula.specs.Encode.{Command, TIED, STATE, encode_command, step_commands, state_commands}
use Rattle.formula.specs.Unbound.{steps_of}

-- "STEP target: the next step, from 0, of the state above it": step k of state s
unfoldable pub step_at : Formula → ℕ → ℕ → Option Step
step_at f s k = get_elem? (steps_of f s) k

-- the kind of state s, ordinary where there is no such state
unfoldable pub kind_at : Formula → ℕ → StateKind
kind_at f s = (get_or f.states s (record { kind = ordinary; steps = [] })).kind

-- the commands before step k of state s
unfoldable pub commands_before : Formula → ℕ → ℕ → List Command
commands_before f s k = map TIED f.tied ++ (flat_map state_commands (take s f.states) ++ (STATE (kind_at f s) ∷ flat_map step_commands (take k (steps_of f s))))

-- "the offset of the command's first byte", of step k of state s
unfoldable pub step_place : Formula → ℕ → ℕ → ℕ
step_place f s k = length (flat_map encode_command (commands_before f s k))

-- a step's offset, 0 where there is no such step
abbrev pub place_if : Option Step → ℕ → ℕ
place_if none p = 0
place_if (some t) p = p

-- the n entries of the table from i on
unfoldable pub table_from : Formula → ℕ → ℕ → List ℕ
table_from f i zero = []
table_from f i (suc n) = place_if (step_at f (i / 8) (i % 8)) (step_place f (i / 8) (i % 8)) ∷ table_from f (suc i) n

-- the offsets of all steps: step k of state s at s * 8 + k
unfoldable pub step_table : Formula → List ℕ
step_table f = table_from f 0 128

-- the variable is among the operands of the TIEDs
unfoldable pub is_tied : ℕ → List ℕ → Bool
is_tied v [] = false
is_tied v (w ∷ ws) = eqb w v || is_tied v ws

-- the bits of the n variables from v on
unfoldable pub mask_from : List ℕ → ℕ → ℕ → ℕ
mask_from ws v zero = 0
mask_from ws v (suc n) = cond (is_tied v ws) (2 ^ v) 0 + mask_from ws (suc v) n

-- the tied variables as a mask, bit v for variable v
unfoldable pub tied_mask : Formula → ℕ
tied_mask f = mask_from f.tied 0 8
