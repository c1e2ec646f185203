-- Too many components.
use Rattle.std.specs.Prelude.{◌<◌, ◌≤◌, Bool, true, false, not, ◌==◌, nat_lt, List, [], ◌∷◌, Contains, is_some, if◌then◌else◌}
use Rattle.std.specs.List.{count_by, flat_map}
use Rattle.xs_components.specs.declared.common.Place.{Place}
use Rattle.representations.specs.declared.parts.Represented.{Represented}
use Rattle.representations.specs.declared.parts.Represented.TheVariants as forms
use Rattle.representations.specs.declared.parts.Representation.{Representation}
use Rattle.reference_faults.specs.declared.limit.TheConstants.{MAX_COMPONENTS}

-- what counts as a component: named elements and attributes, types, named groups, attribute groups, and identity constraints
abbrev pub is_component : Represented → Bool
is_component (forms.Element element) = is_some element.name
is_component (forms.Attribute attribute) = is_some attribute.name
is_component (forms.SimpleType name finals) = true
is_component (forms.ComplexType head) = true
is_component (forms.Group name) = true
is_component (forms.AttributeGroup name) = true
is_component (forms.Unique name) = true
is_component (forms.Key name) = true
is_component (forms.Keyref name refer) = true
is_component _ = false

abbrev pub place_of : Representation → List Place
place_of rep = if is_component rep.form then rep.at ∷ [] else []

-- where all components are represented; what a document has that is in the set with two target namespaces is there twice
abbrev pub component_places : List Representation → List Place
component_places reps = flat_map place_of reps

-- by document, then item
abbrev pub comes_before : Place → Place → Bool
comes_before a b = if a.document == b.document then nat_lt a.item b.item else nat_lt a.document b.document

-- x-limit.components (own): it is the first component past the limit, by document and item: no more than the limit are before
-- it, and with those at its place more are
pub record IsPastLimit (places : List Place) (at : Place) : Type 0 where
  pub there : Contains places at
  pub before : count_by (λ p. comes_before p at) places ≤ MAX_COMPONENTS
  pub through : MAX_COMPONENTS < count_by (λ p. not (comes_before at p)) places
