-- Circular definitions, and the tables with ranks where there are none.
use Rattle.std.specs.Prelude.{◌≡◌, ℕ, ◌+◌, ◌⊎◌, List, Option, None, Some, map, length, take, drop, slice_get}
use Rattle.component_references.specs.NumberedCircles.{Leads, IsRanking}
use Rattle.xs_codes.specs.declared.code.Code.{Code}
use Rattle.xs_codes.specs.declared.code.Code.TheVariants.{StPropsCorrect2, CtPropsCorrect3, MgPropsCorrect2, SrcAttributeGroup3, EPropsCorrect6}
use Rattle.xs_codes.specs.declared.fault.Fault.{Fault}
use Rattle.xs_components.specs.Table.{TableOf}
use Rattle.xs_components.specs.Tables.{Tables}
use Rattle.xs_components.specs.declared.common.Place.{Place}
use Rattle.component_references.specs.References.{type_references, element_references, attr_group_references, model_references}

-- the phase of compiling that looks for circles
abbrev pub circle_fault : Place → Code → Fault
circle_fault at code = record { phase = 4; document = at.document; item = at.item; code = code }

-- One of the parts that stand at these places comes back to itself by references. The number of the first of them is given.
abbrev pub ComesBack : List Place → List (List ℕ) → ℕ → Code → Fault → Type 0
ComesBack places references first code fault =
    (n : ℕ) × (at : Place) × (slice_get places n ≡ Some at) × Leads references (first + n) (first + n) × (fault ≡ circle_fault at code)

-- st-props-correct.2 (Structures 3.14.6): a simple type comes back to itself by bases, item types and member types
abbrev pub IsSimpleCircle : Tables → Fault → Type 0
IsSimpleCircle t fault = ComesBack (map (λ part. part.at) t.simples.parts) (type_references t) 0 StPropsCorrect2 fault

-- ct-props-correct.3 (Structures 3.4.6): a complex type comes back to itself by bases
abbrev pub IsComplexCircle : Tables → Fault → Type 0
IsComplexCircle t fault = ComesBack (map (λ part. part.at) t.complexes.parts) (type_references t) (length t.simples.parts) CtPropsCorrect3 fault

-- mg-props-correct.2 (Structures 3.8.6): a group comes back to itself by the references that it holds at any depth
abbrev pub IsGroupCircle : Tables → Fault → Type 0
IsGroupCircle t fault = ComesBack (map (λ part. part.at) t.groups.parts) (model_references t) 0 MgPropsCorrect2 fault

-- src-attribute_group.3 (Structures 3.6.3): an attribute group comes back to itself by references
abbrev pub IsAttrGroupCircle : Tables → Fault → Type 0
IsAttrGroupCircle t fault = ComesBack (map (λ part. part.at) t.attr_groups.parts) (attr_group_references t) 0 SrcAttributeGroup3 fault

-- e-props-correct.6 (Structures 3.3.6): an element comes back to itself by the heads of substitution groups
abbrev pub IsElementCircle : Tables → Fault → Type 0
IsElementCircle t fault = ComesBack (map (λ part. part.at) t.elements.parts) (element_references t) 0 EPropsCorrect6 fault

-- a type is defined in a circle
abbrev pub IsTypeCircle : Tables → Fault → Type 0
IsTypeCircle t fault = IsSimpleCircle t fault ⊎ IsComplexCircle t fault

-- a circular definition
abbrev pub IsCircular : Tables → Fault → Type 0
IsCircular t fault = (IsTypeCircle t fault ⊎ IsElementCircle t fault) ⊎ (IsAttrGroupCircle t fault ⊎ IsGroupCircle t fault)

-- the table with these ranks
abbrev pub with_ranks : {T : Type 0} → TableOf T → List ℕ → TableOf T
with_ranks table ranks = record table { ranks = ranks }

-- the ranks of the tables of those components that refer to others
pub record Ranks : Type 0 where
  pub simples : List ℕ
  pub complexes : List ℕ
  pub elements : List ℕ
  pub groups : List ℕ
  pub attr_groups : List ℕ
  pub particles : List ℕ

-- the tables with these ranks
abbrev pub with_all_ranks : Tables → Ranks → Tables
with_all_ranks t ranks = record t {
  simples = with_ranks t.simples ranks.simples;
  complexes = with_ranks t.complexes ranks.complexes;
  elements = with_ranks t.elements ranks.elements;
  groups = with_ranks t.groups ranks.groups;
  attr_groups = with_ranks t.attr_groups ranks.attr_groups;
  particles = with_ranks t.particles ranks.particles;
}

-- heights of the parts of two kinds along references; those of the first kind stand first
abbrev pub AreBothHeights : List (List ℕ) → ℕ → List ℕ → List ℕ → Type 0
AreBothHeights references count first second = (all : List ℕ) × IsRanking references all × (first ≡ take count all) × (second ≡ drop count all)

-- The ranks of the components that refer to others are their heights: each is the least above those of what the component refers to.
pub record HaveHeights (t : Tables) : Type 0 where
  pub types : AreBothHeights (type_references t) (length t.simples.parts) t.simples.ranks t.complexes.ranks
  pub elements : IsRanking (element_references t) t.elements.ranks
  pub attr_groups : IsRanking (attr_group_references t) t.attr_groups.ranks
  pub models : AreBothHeights (model_references t) (length t.groups.parts) t.groups.ranks t.particles.ranks
