-- What simple types and their facets break: Structures 3.14.6, Datatypes 4.3.
use Rattle.std.specs.Prelude.{◌≡◌, ◌⊎◌, ℕ, Bool, true, false, List, Option, None, Some, Contains, Result, Ok, Err, slice_get}
use Rattle.xs_codes.specs.declared.code.Code.{Code}
use Rattle.xs_codes.specs.declared.code.Code.TheVariants.{XSimpleBase, StPropsCorrect3, XSimpleFinal, CosListOfAtomic}
use Rattle.xs_codes.specs.declared.fault.Fault.{Fault}
use Rattle.xs_components.specs.Tables.{Tables}
use Rattle.xs_components.specs.declared.common.TypeId.{TypeId}
use Rattle.xs_components.specs.declared.simple.FacetItem.{FacetItem}
use Rattle.xs_components.specs.declared.simple.SimpleForm.{SimpleForm}
use Rattle.xs_components.specs.declared.simple.SimpleForm.TheVariants.{Restrict, ListOf, UnionOf}
use Rattle.xs_components.specs.declared.simple.SimpleType.{SimpleType}
use Rattle.xs_components.specs.declared.complex.ComplexType.{ComplexType}
use Rattle.xs_components.specs.declared.complex.ContentForm.{ContentForm}
use Rattle.xs_components.specs.declared.complex.ContentForm.TheVariants as contents
use Rattle.facet_checks.specs.declared.list.FacetList.{FacetList}
use Rattle.facet_checks.specs.List.{no_facets}
use Rattle.facet_rules.specs.declared.step.ReadStep.{ReadStep}
use Rattle.facet_rules.specs.First.{Rule, fault_at}
use Rattle.facet_rules.specs.Rules.{step_rules}
use Rattle.facets.specs.declared.facets.Facets.{Facets}
use Rattle.facets.specs.declared.known.Known.{Known}
use Rattle.facets.specs.declared.known.Known.TheVariants.{Neither}
use Rattle.facets.specs.Reading.{IsStepReadBy}
use Rattle.simple_types.specs.Holding.{holds_list}
use Rattle.simple_types.specs.SimpleValidity.{AreInForce}
use Rattle.simple_types.specs.Trees.{simple_tree, restricted_tree, type_tree}
use Rattle.simple_types.specs.TypeRules.{is_any_simple_type, is_final_for_restriction, is_final_for_lists, is_final_for_unions}
use Rattle.simple_types.specs.TypeTree.{TypeTree}
use Rattle.simple_types.specs.declared.types.SimpleTypes.{SimpleTypes}

-- What a simple type breaks by those that it is made of.
-- x-simple.base (own): the base of a restriction is anySimpleType
-- st-props-correct.3 (Structures 3.14.6): the base is final for restriction
-- x-simple.final (own): the item type of a list is final for lists, a member type of a union for unions
-- cos-list-of-atomic (Structures 3.14.6): the item type is a list, or a union that holds a list
abbrev pub Breaks : Tables → SimpleForm → Code → Type 0
Breaks t (Restrict base step) code =
    ((code ≡ XSimpleBase) × (is_any_simple_type base ≡ true)) ⊎ ((code ≡ StPropsCorrect3) × (is_final_for_restriction t base ≡ true))
Breaks t (ListOf item) code =
    ((code ≡ XSimpleFinal) × (is_final_for_lists t item ≡ true)) ⊎ ((code ≡ CosListOfAtomic) × (holds_list (simple_tree t item) ≡ true))
Breaks t (UnionOf members) code = (code ≡ XSimpleFinal) × (of : TypeId) × Contains members of × (is_final_for_unions t of ≡ true)

-- the facets of the base by which a step is judged; none where they are undefined
abbrev pub judging : Facets → Known → FacetList
judging base Neither = no_facets
judging base _ = base.list

-- A step of restriction breaks a rule of facets at one of its facet elements (Datatypes 4.3). Its facets are read by what is defined of
-- the base, and judged by what is in force for it.
pub record BreaksStep (base : TypeTree) (step : List FacetItem) (fault : Fault) : Type 0 where
  pub facets : Facets
  pub known : Known
  pub in_force : AreInForce base facets known
  pub read : ReadStep
  pub reads : IsStepReadBy facets known step read
  pub rule : Rule
  pub among : Contains (step_rules (judging facets known) read.facets) rule
  pub broken : rule.broken ≡ true
  pub is : fault ≡ fault_at rule.at rule.code

-- the step of a simple type that is a restriction
abbrev pub BreaksOwnStep : Tables → SimpleForm → Fault → Type 0
BreaksOwnStep t (Restrict base step) fault = BreaksStep (simple_tree t base) step fault
BreaksOwnStep t _ fault = ⊥

-- the step of simple content by restriction (Structures 3.4.2): of the simple type that stands in it, or else of the base's content
abbrev pub BreaksContent : Tables → Bool → TypeId → ContentForm → Fault → Type 0
BreaksContent t false base (contents.Simple own step) fault = BreaksStep (restricted_tree (simple_tree t) (type_tree t) own base) step fault
BreaksContent t _ base _ fault = ⊥

-- what a simple type breaks: by those that it is made of at the element of the type, by its facets at their elements
abbrev pub BreaksType : Tables → SimpleType → Fault → Type 0
BreaksType t part fault = ((code : Code) × Breaks t part.form code × (fault ≡ fault_at part.at code)) ⊎ BreaksOwnStep t part.form fault

-- a simple type of these components, or the simple content of a complex type, breaks this
pub data IsBroken (t : Tables) (fault : Fault) : Type 0 where
  of_type : (n : ℕ) (part : SimpleType) → slice_get t.simples.parts n ≡ Some part → BreaksType t part fault → IsBroken t fault
  of_content : (n : ℕ) (part : ComplexType) → slice_get t.complexes.parts n ≡ Some part → BreaksContent t part.by_extension part.base part.content fault
      → IsBroken t fault

-- the fault at which building the types of a schema set ends
abbrev pub ending : Result SimpleTypes Fault → Option Fault
ending (Ok types) = None
ending (Err fault) = Some fault
