-- Whatever components refer to is there: the references that give no ranks.
use Rattle.std.specs.Prelude.{ℕ, ◌<◌, Option, None, Some, All, IfSome, length}
use Rattle.xs_components.specs.Tables.{Tables}
use Rattle.xs_components.specs.declared.common.TypeId.{TypeId}
use Rattle.xs_components.specs.declared.complex.ContentForm.{ContentForm}
use Rattle.xs_components.specs.declared.complex.ContentForm.TheVariants as contents
use Rattle.xs_components.specs.declared.constraint.ConstraintKind.{ConstraintKind}
use Rattle.xs_components.specs.declared.constraint.ConstraintKind.TheVariants as kinds
use Rattle.xs_components.specs.declared.particle.Term.{Term}
use Rattle.xs_components.specs.declared.particle.Term.TheVariants as terms
use Rattle.component_references.specs.Heights.{IsType}
use Rattle.component_references.specs.References.{Each, IsPart}

-- the element that a term is
abbrev pub named_element : Term → Option ℕ
named_element (terms.Element element) = Some element
named_element _ = None

-- the key or unique that a keyref refers to
abbrev pub referred_key : ConstraintKind → Option ℕ
referred_key (kinds.Keyref key) = Some key
referred_key _ = None

-- the simple type that stands in simple content
abbrev pub own_type : ContentForm → Option TypeId
own_type (contents.Simple own step) = own
own_type (contents.Complex effective mixed) = None

-- The parts that these refer to are there: an element to its type and its identity constraints, an attribute to its type, a complex
-- type and an attribute group to the attributes that they use, a complex type to its attribute groups and to the simple type that
-- stands in it, a particle to its element, a keyref to its key.
pub record AreThere (t : Tables) : Type 0 where
  pub element_types : Each t.elements (λ part. IfSome part.of (IsType t))
  pub element_constraints : Each t.elements (λ part. All (IsPart t.constraints) part.constraints)
  pub attribute_types : Each t.attributes (λ part. IsType t part.of)
  pub type_uses : Each t.complexes (λ part. All (λ used. used.attribute < length t.attributes.parts) part.uses)
  pub type_groups : Each t.complexes (λ part. All (IsPart t.attr_groups) part.groups)
  pub own_types : Each t.complexes (λ part. IfSome (own_type part.content) (IsType t))
  pub group_uses : Each t.attr_groups (λ part. All (λ used. used.attribute < length t.attributes.parts) part.uses)
  pub to_elements : Each t.particles (λ part. IfSome (named_element part.term) (IsPart t.elements))
  pub keys : Each t.constraints (λ part. IfSome (referred_key part.kind) (IsPart t.constraints))
