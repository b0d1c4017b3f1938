-- What an event alone says of a step, what it says with the values held before the step, and what the step's bytes alone say.
use Rattle.std.specs.Prelude.{ℕ, ◌+◌, ◌≤◌, ◌≡◌, Bool, true, false, not, ◌&&◌, ◌||◌, cond, List, length, get_or, eqb, Option, IfSome}
use Rattle.base.specs.Value.{value_at}
use Rattle.event_log.specs.Log.{Values, present, field}
use Rattle.machine_code.specs.declared.Configuration.{Configuration}
use Rattle.machine_code.specs.inner.Bytes.{holds_by, missed_by, width_of, fired, lapsed}

-- the clause at p, with command c, is of an absent field, or a TEST that is false on the event
unfoldable pub fails_at : List ℕ → ℕ → ℕ → Values → Bool
fails_at f c p event =
    not (present event (get_or f (p + 1) 0)) || (eqb c 0x12 && not (holds_by (get_or f (p + 2) 0) (field event (get_or f (p + 1) 0)) (value_at f (p + 3))))

-- command c, at p, is a TEST that is past due by these values
unfoldable pub misses_at : List ℕ → ℕ → ℕ → List Bool → Values → Bool
misses_at f c p rises latest =
    eqb c 0x12
    && ((get_or rises (get_or f (p + 1) 0) false && present latest (get_or f (p + 1) 0))
    && missed_by (get_or f (p + 2) 0) (field latest (get_or f (p + 1) 0)) (value_at f (p + 3)))

-- the clause at p, with command c, is a TESTV that is false on the event, or a BIND of a held variable to another value
unfoldable pub denies_at : List ℕ → ℕ → ℕ → List Bool → List ℕ → Values → Bool
denies_at f c p held prior event =
    cond (eqb c 0x13) (not (holds_by (get_or f (p + 2) 0) (field event (get_or f (p + 1) 0)) (get_or prior (get_or f (p + 3) 0) 0)))
    (eqb c 0x14
    && (get_or held (get_or f (p + 2) 0) false && not (eqb (field event (get_or f (p + 1) 0)) (get_or prior (get_or f (p + 2) 0) 0))))

-- command c, at p, is a TEST or a TESTV with less or at most of a rising field
unfoldable pub ages_at : List ℕ → ℕ → ℕ → List Bool → Bool
ages_at f c p rises =
    (eqb c 0x12 || eqb c 0x13) && ((eqb (get_or f (p + 2) 0) 2 || eqb (get_or f (p + 2) 0) 4) && get_or rises (get_or f (p + 1) 0) false)

-- at a place begins a clause of the step at `at`, or what follows them: clause by clause from its first
pub data Reaches (f : List ℕ) (at : ℕ) : ℕ → Type 0 where
  begins : Reaches f at (at + 2)
  onward : (place : ℕ) → Reaches f at place → (width_of (get_or f place 0) ≡ 0 → ⊥) → Reaches f at (place + width_of (get_or f place 0))

-- the clauses from a place on that a test lets pass, up to a place
pub data Passed (test : ℕ → ℕ → Bool → Type 0) (f : List ℕ) (from : ℕ) : ℕ → Type 0 where
  start : Passed test f from from
  over : (place : ℕ) → Passed test f from place → (width_of (get_or f place 0) ≡ 0 → ⊥) → test (get_or f place 0) place false
      → Passed test f from (place + width_of (get_or f place 0))

-- the first clause from a place on that a test picks
abbrev pub PickedIs : (ℕ → ℕ → Bool → Type 0) → List ℕ → ℕ → ℕ → Type 0
PickedIs test f from place =
    Passed test f from place × (width_of (get_or f place 0) ≡ 0 → ⊥) × test (get_or f place 0) place true

-- where the clauses from a place on end, none of which it picks: no clause stands there, or it has not so many bytes as asked for
abbrev pub EndedIs : (ℕ → ℕ → Bool → Type 0) → List ℕ → ℕ → ℕ → ℕ → Type 0
EndedIs test f from room place = Passed test f from place × (place + room ≤ length f → width_of (get_or f place 0) ≡ 0)

-- a step said to be barred by the clause at a place does not fire on the event, whatever the configuration and its lists
abbrev pub BarredIs : List ℕ → ℕ → Values → Option ℕ → Type 0
BarredIs f at event r =
    IfSome r (λ place. ((fresh : List Bool) (c : Configuration) → (fired f at c fresh event).fires ≡ false) × Reaches f at place)

-- a step said to be due by its clauses from a place on is expired by these values, whatever the configuration and its lists
abbrev pub DueIs : List ℕ → ℕ → List Bool → Values → Bool → Type 0
DueIs f place rises latest r = r ≡ true → (at : ℕ) → Reaches f at place → (fresh : List Bool) (c : Configuration) → lapsed f at c fresh rises latest ≡ true

-- a step said to be barred by what is held before it does not fire on the event, for a configuration that holds it, whatever its lists
abbrev pub BarsIs : List ℕ → ℕ → List Bool → List ℕ → Values → Bool → Type 0
BarsIs f at held prior event r =
    r ≡ true → (fresh : List Bool) (c : Configuration) → c.held ≡ held → c.values ≡ prior → (fired f at c fresh event).fires ≡ false

-- a step said to last is expired by no values, whatever the configuration and its lists
abbrev pub LastsIs : List ℕ → ℕ → List Bool → Bool → Type 0
LastsIs f at rises r = r ≡ true → (fresh : List Bool) (c : Configuration) (latest : Values) → lapsed f at c fresh rises latest ≡ false
