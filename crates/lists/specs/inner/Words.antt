-- Four lists of at most 32 values as 132 words, and what reading them back computes on any bytes.
use Rattle.std.specs.Prelude.{ℕ, zero, suc, ◌+◌, ◌-◌, ◌*◌, ◌/◌, ◌%◌, ◌<◌, ◌≤◌, ◌≡◌, Bool, false, not, ◌||◌, cond, List, [], ◌∷◌, length, get_or, set, ltb, leb, eqb}
use Rattle.event_log.specs.inner.Loading.{loaded_at}
use Rattle.machine.specs.Configuration.{list_of}
use Rattle.machine_code.specs.inner.Bytes.{width_of, offset_of}

-- the words are those of the lists: value i of list v at v * 32 + i, 0 where it has none, and the number of its values at 128 + v
pub record Holds (ls : List (List ℕ)) (l : List ℕ) : Type 0 where
  pub sized : length l ≡ 132
  pub four : length ls ≡ 4
  pub short : (v : ℕ) → v < 4 → length (list_of ls v) ≤ 32
  pub counts : (v : ℕ) → v < 4 → get_or l (128 + v) 0 ≡ length (list_of ls v)
  pub values : (v i : ℕ) → v < 4 → i < 32 → get_or l (v * 32 + i) 0 ≡ get_or (list_of ls v) i 0

-- one value more in list v; a full list stays
unfoldable pub add_in : List ℕ → ℕ → ℕ → List ℕ
add_in l v x =
    cond (ltb v 4)
    (cond (ltb (get_or l (128 + v) 0) 32) (set (set l (v * 32 + get_or l (128 + v) 0) x) (128 + v) (get_or l (128 + v) 0 + 1)) l) l

-- what the clause at a place gathers
unfoldable pub gather_in : List ℕ → List ℕ → ℕ → List ℕ → List ℕ
gather_in f values at l =
    cond (eqb (get_or f at 0) 0x17) (cond (leb 8 (get_or f (at + 2) 0)) (add_in l (get_or f (at + 2) 0 - 8) (get_or values (get_or f (at + 1) 0) 0)) l) l

-- the clauses from a place on, up to the first byte that is no clause's command
unfoldable pub gather_from : ℕ → List ℕ → List ℕ → ℕ → List ℕ → List ℕ
gather_from zero f values at l = l
gather_from (suc n) f values at l = cond (eqb (width_of (get_or f at 0)) 0) l (gather_from n f values (at + width_of (get_or f at 0)) (gather_in f values at l))

-- what the STEP at an offset gathers
unfoldable pub gather_step : List ℕ → List ℕ → ℕ → List ℕ → List ℕ
gather_step f values at l = gather_from (suc (length f)) f values (at + 2) l

-- what it gathered on an event, by the event's number; at 0 there is no step
unfoldable pub entry_in : List ℕ → List ℕ → ℕ → List ℕ → ℕ → ℕ → List ℕ → List ℕ
entry_in b places fields f at event l =
    cond (eqb at 0) l (cond (ltb at (length f)) (gather_step f (loaded_at b fields (get_or places event 0)).event.values at l) l)

-- the state that the step at an offset leads to; where there is none, the state before it
unfoldable pub target_in : List ℕ → ℕ → ℕ → ℕ
target_in f at state = cond (eqb at 0) state (cond (ltb at (length f)) (get_or f (at + 1) 0) state)

-- the lists after the words of a trail, each event * 8 + step number
unfoldable pub read_back : List ℕ → List ℕ → ℕ → List ℕ → List ℕ → ℕ → List ℕ → List ℕ → List ℕ
read_back b places fields f table state l [] = l
read_back b places fields f table state l (w ∷ ws) =
    read_back b places fields f table (target_in f (offset_of table state (w % 8)) state) (entry_in b places fields f (offset_of table state (w % 8)) (w / 8) l) ws

-- one of n values from a place on is x
unfoldable pub meets : List ℕ → ℕ → ℕ → ℕ → Bool
meets l at zero x = false
meets l at (suc n) x = eqb (get_or l at 0) x || meets l (suc at) n x

-- no value of list v is x
abbrev pub new_in : List ℕ → ℕ → ℕ → Bool
new_in l v x = not (meets l (v * 32) (get_or l (128 + v) 0) x)

-- for each list and each of 8 fields, at v * 8 + f: no value of list v is the field's
abbrev pub FreshIs : List ℕ → List ℕ → List Bool → Type 0
FreshIs l values r = (i : ℕ) → i < 32 → get_or r i false ≡ new_in l (i / 8) (get_or values (i % 8) 0)
