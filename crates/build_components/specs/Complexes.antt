-- Complex types by their representations (Structures 3.4.2).
use Rattle.std.specs.Prelude.{ℕ, suc, Bool, false, List, [], ◌∷◌, ◌++◌, Option, if◌then◌else◌}
use Rattle.std.specs.Option.{option_map, unwrap_or}
use Rattle.xs_components.specs.declared.common.TypeId.{TypeId}
use Rattle.xs_components.specs.declared.common.TypeId.TheVariants.{AnyType}
use Rattle.xs_components.specs.declared.complex.ComplexType.{ComplexType}
use Rattle.xs_components.specs.declared.complex.ContentForm.{ContentForm}
use Rattle.xs_components.specs.declared.complex.ContentForm.TheVariants.{Simple, Complex}
use Rattle.representations.specs.declared.parts.ComplexTypeRepresentation.{ComplexTypeRepresentation}
use Rattle.representations.specs.declared.parts.Represented.{Represented}
use Rattle.representations.specs.declared.parts.Represented.TheVariants as forms
use Rattle.representations.specs.declared.parts.Representation.{Representation}
use Rattle.representations.specs.declared.source.Source.{Source}
use Rattle.build_types.specs.Types.{meant_type, child_type}
use Rattle.build_types.specs.SimpleTypes.{facets}
use Rattle.build_types.specs.Members.{uses, groups_referred, prohibited, wildcard}
use Rattle.build_components.specs.Contents.{has_simple_content, is_mixed, holder, effective_content}

-- a restriction or an extension names its base; a type without one is a restriction of anyType
module _ (source : Source) (ids : List TypeId) where
  abbrev pub base_by : Represented → TypeId
  base_by (forms.Derivation by_extension base) = unwrap_or (option_map (meant_type source ids) base) AnyType
  base_by _ = AnyType

abbrev pub is_extension : Represented → Bool
is_extension (forms.Derivation by_extension base) = by_extension
is_extension _ = false

-- where types, attributes, attribute groups and particles have these numbers by place
module _ (source : Source) (ids : List TypeId) (attributes groups particles : List (Option ℕ)) where
  -- simple content has the simple type that stands in the restriction, if one does, and its facets
  abbrev pub simple_content : List ℕ → ContentForm
  simple_content members = Simple (child_type source ids members) (facets source members)

  abbrev pub complex_content : ℕ → ComplexTypeRepresentation → Representation → ContentForm
  complex_content place head rep = Complex (effective_content source.reps.now particles place rep) (is_mixed source.reps.now head.mixed rep.members)

  abbrev pub content : ℕ → ComplexTypeRepresentation → Representation → ContentForm
  content place head rep =
      if has_simple_content source.reps.now rep.members then simple_content (holder source.reps.now rep).members else complex_content place head rep

  -- the attributes stand where the particle does
  abbrev pub complex_type : ℕ → ComplexTypeRepresentation → Representation → Representation → ComplexType
  complex_type place head rep held = record {
    name = head.name;
    at = rep.at;
    base = base_by source ids held.form;
    by_extension = is_extension held.form;
    is_abstract = head.is_abstract;
    finals = head.finals;
    blocks = head.blocks;
    content = content place head rep;
    uses = uses source attributes held.members;
    groups = groups_referred source groups held.members;
    prohibited = prohibited source held.members;
    wildcard = wildcard source held.members;
  }

  abbrev pub complexes_by : Represented → ℕ → Representation → List ComplexType
  complexes_by (forms.ComplexType head) place rep = complex_type place head rep (holder source.reps.now rep) ∷ []
  complexes_by _ place rep = []

  -- those from a place on, in the order of their representations
  abbrev pub complexes_from : ℕ → List Representation → List ComplexType
  complexes_from place [] = []
  complexes_from place (rep ∷ reps) = complexes_by rep.form place rep ++ complexes_from (suc place) reps

  abbrev pub complex_types : List ComplexType
  complex_types = complexes_from 0 source.reps.now
