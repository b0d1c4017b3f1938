-- Rows: "verdict (0 none, 1 alert, 2 subsumed, 3 rejected), last event, steps, a mask with bit v set if variable v is held, eight
-- values (0 if not held)".
use Rattle.std.specs.Prelude.{ℕ, zero, suc, Bool, true, false, cond, ◌&&◌, ◌||◌, List, [], ◌∷◌, ◌++◌, length, get_or, replicate, leb, eqb}
use Rattle.base.specs.Mask.{mask}
use Rattle.event_log.specs.Log.{Log}
use Rattle.formula.specs.Formula.{Formula}
use Rattle.runs.specs.Run.{Trail, last}
use Rattle.runs.specs.Answer.{Answer, found, absent, crowded}
use Rattle.machine.specs.Configuration.{Config}
use Rattle.machine.specs.Machine.{machine, accepting}

-- a start's named run, "the least": whether it accepts, its last event, its steps, the variables held at its end
pub record NamedRun : Type 0 where
  pub accepts : Bool
  pub last : ℕ
  pub steps : ℕ
  pub held : List Bool
  pub values : List ℕ

unfoldable pub named : Formula → Config → Trail → NamedRun
named f c t = record { accepts = accepting f c; last = last t; steps = length t; held = c.held; values = c.values }

-- "held by both with one value", of one variable
abbrev pub alike : Bool → Bool → ℕ → ℕ → Bool
alike a b x y = a && (b && eqb x y)

-- The tie rule, "A tie needs a value": "every tied variable is held by both with one value"
unfoldable pub tied_alike : List ℕ → NamedRun → NamedRun → Bool
tied_alike [] a b = true
tied_alike (v ∷ vs) a b = alike (get_or a.held v false) (get_or b.held v false) (get_or a.values v 0) (get_or b.values v 0) && tied_alike vs a b

-- "an earlier start's named run, accepting or rejecting, ends at or after this start (overlaps it)", with the same tied values
unfoldable pub subsumes : List ℕ → ℕ → NamedRun → NamedRun → Bool
subsumes tied start this earlier = leb start earlier.last && tied_alike tied earlier this

unfoldable pub subsumed : List ℕ → ℕ → NamedRun → List NamedRun → Bool
subsumed tied start this [] = false
subsumed tied start this (e ∷ es) = subsumes tied start this e || subsumed tied start this es

-- "A rejecting one is rejected. An accepting run is subsumed if ..; otherwise it is an alert"
unfoldable pub verdict : List ℕ → ℕ → NamedRun → List NamedRun → ℕ
verdict tied start this earlier = cond this.accepts (cond (subsumed tied start this earlier) 2 1) 3

-- "A none row is all 0. Any other row holds its start's named run"
unfoldable pub none_row : List ℕ
none_row = replicate 12 0

-- its fourth word is "a mask with bit v set if variable v is held"
unfoldable pub row : ℕ → NamedRun → List ℕ
row v r = v ∷ r.last ∷ r.steps ∷ mask r.held ∷ r.values

-- the words written, and the start that was crowded, if one was
pub data Written : Type 0 where
  all : List ℕ → Written
  upto : ℕ → List ℕ → Written

-- a row before those that follow it
abbrev pub before : List ℕ → Written → Written
before r (all ws) = all (r ++ ws)
before r (upto i ws) = upto i (r ++ ws)

module _ (g : Log) (f : Formula) (answer : ℕ → Answer (machine g f)) where
  -- one start: its row and what follows; "on 11 the rows before that start are written"
  abbrev pub one : ℕ → List NamedRun → (List NamedRun → Written) → Answer (machine g f) → Written
  one start earlier rest (found c t width) = before (row (verdict f.tied start (named f c t) earlier) (named f c t)) (rest (earlier ++ (named f c t ∷ [])))
  one start earlier rest (absent width) = before none_row (rest earlier)
  one start earlier rest (crowded n) = upto start []

  -- "Analysis searches every start in order": from `start` on, for so many events; `earlier` are the runs named before
  unfoldable pub rows_from : ℕ → ℕ → List NamedRun → Written
  rows_from zero start earlier = all []
  rows_from (suc n) start earlier = one start earlier (λ now. rows_from n (suc start) now) (answer start)
