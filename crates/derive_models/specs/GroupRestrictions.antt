-- Model groups that redefine others as these do not allow (Structures 4.2.2; 3.9.6).
use Rattle.std.specs.Prelude.{◌≡◌, ◌⊎◌, ℕ, Bool, List, Option, Some, slice_get}
use Rattle.xs_codes.specs.declared.code.Code.{Code}
use Rattle.xs_codes.specs.declared.code.Code.TheVariants.{SrcRedefine6_2_2}
use Rattle.xs_codes.specs.declared.fault.Fault.{Fault}
use Rattle.xs_components.specs.Tables.{Tables}
use Rattle.xs_components.specs.declared.common.TypeId.{TypeId}
use Rattle.xs_components.specs.declared.group.GroupDef.{GroupDef}
use Rattle.derive_models.specs.ModelRestrictions.{IsModelFault}
use Rattle.particle_models.specs.Trees.{Tree}
use Rattle.particle_forms.specs.Models.{group_particle}
use Rattle.particle_restrict.specs.Restricts.{FormRestricts}
use Rattle.particle_restrict.specs.declared.terms.Term.{Term}
use Rattle.redefine_names.specs.Each.{IsOfSome}
use Rattle.redefine_names.specs.declared.pairs.RedefinedPair.{RedefinedPair}
use Rattle.derive_models.specs.Forms.{form_of}
use Rattle.derive_faults.specs.TypeFaults.{type_fault}

-- the form of the model group of the definition of a number, with the members of substitution groups by their names
abbrev pub group_form : Tables → List (List ℕ) → ℕ → Option Tree
group_form t members group = form_of t members (group_particle t group)

-- the terms of particles by number, and which types derive from which without extension, list and union
module _ (t : Tables) (members : List (List ℕ)) (terms : List Term) (derives : TypeId → TypeId → Bool) where
  -- src-redefine.6.2.2: the model group of what redefines another without a reference to itself is no valid restriction of that of the
  -- other.
  abbrev pub BreaksGroup : RedefinedPair → Code → Type 0
  BreaksGroup pair code = (FormRestricts terms derives (group_form t members pair.own) (group_form t members pair.original) → ⊥) × (code ≡ SrcRedefine6_2_2)

  -- a fault of a pair, of what redefines
  abbrev pub IsPairFault : RedefinedPair → Fault → Type 0
  IsPairFault pair fault = (part : GroupDef) × (code : Code) × (slice_get t.groups.parts pair.own ≡ Some part) × BreaksGroup pair code × (fault ≡ type_fault 9 part.at code)

  -- a fault of some pair of groups in phase 9, of the restriction of content models
  abbrev pub IsGroupFault : List RedefinedPair → Fault → Type 0
  IsGroupFault pairs fault = IsOfSome IsPairFault pairs fault

  -- a fault in phase 9: of the content model of some complex type, or of some pair of groups
  abbrev pub IsRestrictionFault : List RedefinedPair → Fault → Type 0
  IsRestrictionFault pairs fault = IsModelFault t members terms derives fault ⊎ IsGroupFault pairs fault
