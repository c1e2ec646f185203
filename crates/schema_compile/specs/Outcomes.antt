-- What becomes of schema documents: a set that documents are assessed by, or the first broken constraint.
use Rattle.std.specs.Prelude.{◌≡◌, ◌⊎◌, ℕ, ◌<◌, Bool, List, [], ◌∷◌, Option, None, Some, Ok, Err, length}
use Rattle.xs_codes.specs.declared.fault.Fault.{Fault}
use Rattle.xs_components.specs.Tables.{Tables}
use Rattle.xs_codes.specs.Least.{IsLeast}
use Rattle.element_declarations.specs.Groups.{AreGroups}
use Rattle.derive_faults.specs.AttrFaults.{AreIdMarks, IsAttrFault, HasUses}
use Rattle.derive_restriction.specs.DerivationFaults.{IsDerivationFault}
use Rattle.derive_models.specs.ModelFaults.{IsFirstModelFault}
use Rattle.derive_faults.specs.ValueFaults.{IsValueFault}
use Rattle.xpath_subset.specs.Faults.{IsIdentityFault}
use Rattle.element_declarations.specs.Classes.{AreClassesOf}
use Rattle.schema_models.specs.SetModels.{IsBroken}
use Rattle.schema_check.specs.Compilation.{IsCompilation}
use Rattle.schema_check.specs.Phases.{IsFirstOfPhases}
use Rattle.schema_check.specs.declared.documents.CompiledSet.{CompiledSet}
use Rattle.schema_set.specs.declared.inputs.SchemaInput.{SchemaInput}
use Rattle.compiled_schema.specs.Usable.{IsUsable}
use Rattle.compiled_schema.specs.declared.compiled.Compiled.{Compiled}
use Rattle.schema_compile.specs.declared.outcome.Outcome.{Outcome}
use Rattle.schema_compile.specs.declared.outcome.Outcome.TheVariants.{Accepted, Broken}

-- phase 6, of attributes and value constraints: src-attribute_group.2, src-ct.4 and src-ct.5 (Structures 3.4.3, 3.6.3),
-- ag-props-correct.2 and .3, ct-props-correct.4 and .5 (Structures 3.4.6, 3.6.6); and of value constraints x-limit.value,
-- a-props-correct.2 and .3, au-props-correct.2, e-props-correct.2 and .5, cos-valid-default.2.1 and .2.2.2 (Structures 3.2.6, 3.3.6, 3.5.6)
abbrev pub IsPropertyFault : Tables → List Bool → Fault → Type 0
IsPropertyFault t ids fault = IsAttrFault t ids fault ⊎ IsValueFault t fault

-- of a set of components with their names and simple types
module _ (made : CompiledSet) where
  -- phase 6, of attributes and value constraints, by the attribute declarations of types of IDs
  abbrev pub attr_phase : Option Fault → Type 0
  attr_phase found = (ids : List Bool) × AreIdMarks made.parts ids × IsLeast (IsPropertyFault made.parts ids) found

  -- phase 7, of derivation, but for the content models of restrictions
  abbrev pub derivation_phase : Option Fault → Type 0
  derivation_phase found = IsLeast (IsDerivationFault made.parts made.names made.redefined.attr_groups.items) found

  -- phase 8, of content models, by the members of substitution groups and the classes of declarations (Structures 3.3.6, 3.8.6)
  abbrev pub model_phase : Option Fault → Type 0
  model_phase found =
      (members : List (List ℕ)) × (classes : List ℕ) × AreGroups made.parts members × AreClassesOf made.parts classes × IsLeast (IsBroken made.names made.parts members classes) found

  -- phase 9, of the content models of restrictions, by the members of substitution groups: cos-particle-restrict.2 and the cases
  -- that are named rcase (Structures 3.4.6, Derivation Valid (Restriction, Complex), 5.4.2; 3.9.6), and src-redefine.6.2.2 (Structures
  -- 4.2.2)
  abbrev pub restriction_phase : Option Fault → Type 0
  restriction_phase found = (members : List (List ℕ)) × AreGroups made.parts members × IsFirstModelFault made.parts made.names members made.redefined.groups.items found

  -- phase 10, of the paths and fields of identity constraints: c-selector-xpath, c-fields-xpaths and c-props-correct.2 (Structures 3.11.6)
  abbrev pub identity_phase : Option Fault → Type 0
  identity_phase found = IsLeast (IsIdentityFault made.parts) found

  -- the phases behind simple types
  abbrev pub late_phases : List (Option Fault → Type 0)
  late_phases = attr_phase ∷ derivation_phase ∷ model_phase ∷ restriction_phase ∷ identity_phase ∷ []

-- each complex type has attribute uses, no two of which have one name
abbrev pub HaveUses : Tables → Type 0
HaveUses t = (n : ℕ) → n < length t.complexes.parts → HasUses t n

-- a set with these names, components and simple types
pub record IsOf (made : CompiledSet) (c : Compiled) : Type 0 where
  pub names : c.names ≡ made.names
  pub parts : c.parts ≡ made.parts
  pub types : c.types ≡ made.types

-- what the components of a set come to in the phases behind simple types
abbrev pub IsSetOutcome : CompiledSet → Outcome → Type 0
IsSetOutcome made (Accepted c) = IsFirstOfPhases (late_phases made) None × IsOf made c × IsUsable c × HaveUses made.parts
IsSetOutcome made (Broken fault) = IsFirstOfPhases (late_phases made) (Some fault)

-- What documents come to where a set starts at the one of this place: the first fault of the first phase that has one, by document,
-- element and the order of codes; else the compiled set, by which documents may be assessed.
abbrev pub IsOutcome : List SchemaInput → ℕ → Outcome → Type 0
IsOutcome documents start outcome =
    ((fault : Fault) × IsCompilation documents start (Err fault) × (outcome ≡ Broken fault)) ⊎
    ((made : CompiledSet) × IsCompilation documents start (Ok made) × IsSetOutcome made outcome)
