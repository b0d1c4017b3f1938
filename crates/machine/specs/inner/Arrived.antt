-- The kinds by which guards are judged where fields never arrived: such a field counts as plain.
use Rattle.std.specs.Prelude.{List, [], ◌∷◌}
use Rattle.std.proofs.Math.Option.{none, some}
use Rattle.event_log.specs.Log.{Kind, plain, Values}

unfoldable pub kinds_in : List Kind → Values → List Kind
kinds_in [] x = []
kinds_in (k ∷ ks) [] = plain ∷ kinds_in ks []
kinds_in (k ∷ ks) (none ∷ x) = plain ∷ kinds_in ks x
kinds_in (k ∷ ks) (some y ∷ x) = k ∷ kinds_in ks x
