-- Element declarations by their representations (Structures 3.3.2).
use Rattle.std.specs.Prelude.{ℕ, List, [], ◌∷◌, Option, None, Some}
use Rattle.std.specs.List.{flat_map}
use Rattle.std.specs.Option.{option_or, option_and_then, option_to_list}
use Rattle.xs_components.specs.declared.common.TypeId.{TypeId}
use Rattle.xs_components.specs.declared.element.ElementDecl.{ElementDecl}
use Rattle.representations.specs.declared.parts.ElementRepresentation.{ElementRepresentation}
use Rattle.representations.specs.declared.parts.Represented.{Represented}
use Rattle.representations.specs.declared.parts.Represented.TheVariants as forms
use Rattle.representations.specs.declared.parts.Representation.{Representation}
use Rattle.representations.specs.declared.source.Source.{Source}
use Rattle.set_representations.specs.Numbers.{numbers_of, number_at, number_named}
use Rattle.build_types.specs.Types.{given_type}
use Rattle.build_types.specs.Values.{value_of}
use Rattle.build_components.specs.declared.constraints.ConstraintNumbers.{ConstraintNumbers}

-- where identity constraints have these numbers by place
module _ (constraints : ConstraintNumbers) where
  -- the identity constraint that stands at a place
  abbrev pub constraint_at : ℕ → Option ℕ
  constraint_at place = option_or (number_at constraints.keys place) (number_at constraints.keyrefs place)

  -- the identity constraints among members, in order
  abbrev pub constraints_in : List ℕ → List ℕ
  constraints_in members = flat_map (λ member. option_to_list (constraint_at member)) members

-- where types and identity constraints have these numbers by place
module _ (source : Source) (ids : List TypeId) (constraints : ConstraintNumbers) where
  -- The type is named or stands in the element; without one it is left to the head, or is anyType.
  abbrev pub declaration : ElementRepresentation → Representation → ℕ → Option ℕ → ElementDecl
  declaration element rep name head = record {
    name = name;
    at = rep.at;
    global = element.global;
    of = given_type source ids element.of rep.members;
    head = head;
    value = value_of source rep.scope element.value;
    nillable = element.nillable;
    is_abstract = element.is_abstract;
    finals = element.finals;
    blocks = element.blocks;
    constraints = constraints_in constraints rep.members;
  }

  abbrev pub declared : ElementRepresentation → Representation → Option ℕ → Option ℕ → List ElementDecl
  declared element rep None head = []
  declared element rep (Some name) head = declaration element rep name head ∷ []

  -- an element with this head, where one is declared; what refers to another declares none
  abbrev pub elements_by : Represented → Representation → Option ℕ → List ElementDecl
  elements_by (forms.Element element) rep head = declared element rep element.name head
  elements_by _ rep head = []

  -- elements before their heads are known
  abbrev pub headless : Representation → List ElementDecl
  headless rep = elements_by rep.form rep None

-- where elements have these numbers by place
module _ (source : Source) (elements : List (Option ℕ)) where
  -- the head is an element at the top
  abbrev pub named_head : Represented → Option ℕ
  named_head (forms.Element element) = option_and_then (number_named elements source.spaces.now.elements) element.head
  named_head _ = None

  -- the head of the substitution group
  abbrev pub head_of : Representation → Option ℕ
  head_of rep = named_head rep.form

module _ (source : Source) (ids : List TypeId) (constraints : ConstraintNumbers) where
  abbrev pub elements_of : List (Option ℕ) → Representation → List ElementDecl
  elements_of elements rep = elements_by source ids constraints rep.form rep (head_of source elements rep)

  -- the numbers of elements by place, where so many are there before
  abbrev pub element_numbers : ℕ → List (Option ℕ)
  element_numbers before = numbers_of (headless source ids constraints) before source.reps.now

  -- all elements, in the order of their representations
  abbrev pub elements : ℕ → List ElementDecl
  elements before = flat_map (elements_of (element_numbers before)) source.reps.now
