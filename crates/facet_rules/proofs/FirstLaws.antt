-- The first fault of two lists of rules.
use Rattle.std.proofs.Common.{◌≡◌, List, [], ◌∷◌, ◌++◌, Option, refl}
use Rattle.xs_codes.specs.declared.fault.Fault.{Fault}
use Rattle.facet_rules.specs.First.{Rule, noted, first_from}

pub first_from_append : (best : Option Fault) (a b : List Rule) → first_from best (a ++ b) ≡ first_from (first_from best a) b
first_from_append best [] b = refl
first_from_append best (rule ∷ rules) b = first_from_append (noted best rule) rules b
