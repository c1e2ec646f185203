-- The first of the faults of a step of restriction.
use Rattle.std.specs.Prelude.{Bool, if◌then◌else◌, List, [], ◌∷◌, Option, None, Some}
use Rattle.xs_codes.specs.declared.code.Code.{Code}
use Rattle.xs_codes.specs.declared.fault.Fault.{Fault}
use Rattle.xs_codes.specs.Least.{is_before}
use Rattle.xs_components.specs.declared.common.Place.{Place}

abbrev pub fault_at : Place → Code → Fault
fault_at at code = record { phase = 5; document = at.document; item = at.item; code = code }

abbrev pub sooner : Option Fault → Fault → Option Fault
sooner None fault = Some fault
sooner (Some best) fault = if is_before fault best then Some fault else Some best

-- a rule of a step: whether it is broken, the element of the facet that breaks it, and its code
pub record Rule : Type 0 where
  pub broken : Bool
  pub at : Place
  pub code : Code

abbrev pub noted : Option Fault → Rule → Option Fault
noted best rule = if rule.broken then sooner best (fault_at rule.at rule.code) else best

-- the first fault of the rules that are broken, and of one that is known
abbrev pub first_from : Option Fault → List Rule → Option Fault
first_from best [] = best
first_from best (rule ∷ rules) = first_from (noted best rule) rules

abbrev pub first_fault : List Rule → Option Fault
first_fault rules = first_from None rules

abbrev pub rule : Bool → Place → Code → Rule
rule broken at code = record { broken = broken; at = at; code = code }
