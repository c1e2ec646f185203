-- What building answers.
use Rattle.std.proofs.Common.{◌≡◌, List, None, Some, Ok, Err}
use Rattle.xs_codes.specs.declared.fault.Fault.{Fault}
use Rattle.xs_components.specs.Tables.{Tables}
use Rattle.component_references.specs.Ranked.{IsRanked}
use Rattle.simple_types.specs.declared.judged.JudgedType.{JudgedType}
use Rattle.simple_types.specs.declared.types.SimpleTypes.{SimpleTypes}
use Rattle.simple_types.specs.Judging.{AreSimplesJudged, AreContentsJudged}
use Rattle.simple_types.specs.SimpleTypes.{AreTypesOf, first_of, first_fault_of, IsBuilt}
use Rattle.simple_types.proofs.Defined.{step_known}
use Rattle.simple_types.proofs.Whole.{all_whole}

pub built_ok : (t : Tables) → IsRanked t → (types : SimpleTypes) → AreTypesOf t types → first_fault_of types ≡ None → IsBuilt t (Ok types)
built_ok t ranked types are none = (are, none, all_whole step_known t ranked types are none)

module _ (t : Tables) (simples complexes : List JudgedType) (are : AreSimplesJudged t simples) (contents_are : AreContentsJudged t simples complexes) where
  -- the types of these tables, where none is at fault
  pub built_whole : IsRanked t → first_of (first_of None simples) complexes ≡ None → IsBuilt t (Ok (record { simples = simples; complexes = complexes }))
  built_whole ranked none = built_ok t ranked (record { simples = simples; complexes = complexes }) (record { simples = are; complexes = contents_are }) none

  -- the first fault among them
  pub built_fault : (fault : Fault) → first_of (first_of None simples) complexes ≡ Some fault → IsBuilt t (Err fault)
  built_fault fault is = (record { simples = simples; complexes = complexes }, record { simples = are; complexes = contents_are }, is)
