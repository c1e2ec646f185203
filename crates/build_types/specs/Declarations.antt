-- Attribute declarations by their representations (Structures 3.2.2).
use Rattle.std.specs.Prelude.{ℕ, List, [], ◌∷◌, Option, None, Some, if◌then◌else◌}
use Rattle.std.specs.Option.{unwrap_or}
use Rattle.xs_codes.specs.declared.builtin.Builtin.TheVariants.{AnySimpleType}
use Rattle.xs_components.specs.declared.attribute.AttributeDecl.{AttributeDecl}
use Rattle.xs_components.specs.declared.common.TypeId.{TypeId}
use Rattle.xs_components.specs.declared.common.TypeId.TheVariants as types
use Rattle.representations.specs.declared.parts.AttributeRepresentation.{AttributeRepresentation}
use Rattle.representations.specs.declared.parts.Represented.{Represented}
use Rattle.representations.specs.declared.parts.Represented.TheVariants as forms
use Rattle.representations.specs.declared.parts.Representation.{Representation}
use Rattle.representations.specs.declared.source.Source.{Source}
use Rattle.build_types.specs.Types.{given_type}
use Rattle.build_types.specs.Values.{value_of}

-- where types have these numbers by place
module _ (source : Source) (ids : List TypeId) where
  -- Without a type it is anySimpleType. The value constraint of a local one is its use's.
  abbrev pub declaration : AttributeRepresentation → Representation → ℕ → AttributeDecl
  declaration attribute rep name = record {
    name = name;
    at = rep.at;
    global = attribute.global;
    of = unwrap_or (given_type source ids attribute.of rep.members) (types.Builtin AnySimpleType);
    value = if attribute.global then value_of source rep.scope attribute.value else None;
  }

  -- one with a name, where it is not prohibited: that corresponds to nothing
  abbrev pub declared : AttributeRepresentation → Representation → Option ℕ → List AttributeDecl
  declared attribute rep None = []
  declared attribute rep (Some name) = if attribute.prohibited then [] else declaration attribute rep name ∷ []

  abbrev pub attributes_by : Represented → Representation → List AttributeDecl
  attributes_by (forms.Attribute attribute) rep = declared attribute rep attribute.name
  attributes_by _ rep = []

  abbrev pub attributes_of : Representation → List AttributeDecl
  attributes_of rep = attributes_by rep.form rep
