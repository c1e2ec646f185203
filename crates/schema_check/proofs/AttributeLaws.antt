-- The types of attributes are simple.
use Rattle.std.proofs.Common.{◌≡◌, ℕ, Bool, true, false, List, [], ◌∷◌, Option, None, Some, All, IfSome, if◌then◌else◌, refl}
use Rattle.std.specs.List.{list_all}
use Rattle.std.specs.Option.{unwrap_or}
use Rattle.std.proofs.lemmas.Bool.{and_parts}
use Rattle.std.proofs.lemmas.List.Elements.{All-nil}
use Rattle.xs_codes.specs.declared.builtin.Builtin.TheVariants.{AnySimpleType}
use Rattle.xs_components.specs.declared.attribute.AttributeDecl.{AttributeDecl}
use Rattle.xs_components.specs.declared.common.TypeId.{TypeId}
use Rattle.xs_components.specs.declared.common.TypeId.TheVariants.{Builtin}
use Rattle.type_derivation.specs.Derives.{is_simple}
use Rattle.representations.specs.declared.parts.AttributeRepresentation.{AttributeRepresentation}
use Rattle.representations.specs.declared.parts.Represented.{Represented}
use Rattle.representations.specs.declared.parts.Represented.TheVariants as forms
use Rattle.representations.specs.declared.parts.Representation.{Representation}
use Rattle.representations.specs.declared.source.Source.{Source}
use Rattle.representations.specs.Names.{spaces_of}
use Rattle.reference_faults.specs.References.{attribute_references, simple_references_if}
use Rattle.reference_faults.specs.Resolution.{kinds_of, is_named, resolves}
use Rattle.build_types.specs.Types.{given_type}
use Rattle.build_types.specs.Declarations.{declaration, declared, attributes_by, attributes_of}
use Rattle.build_components.specs.Built as built
use Rattle.build_components.proofs.ListLaws.{all-one}
use Rattle.schema_check.specs.Resolved.{AreResolved, are_found}
use Rattle.schema_check.specs.Shaped.{IsShaped, AreShaped}
use Rattle.schema_check.proofs.SimpleLaws.{all-places, given-simple}

module _ (source : Source) (spaces : source.spaces.now ≡ spaces_of source.reps.now) (resolved : AreResolved source.reps.now) (shaped : AreShaped source.reps.now) where
  abbrev reps : List Representation
  reps = source.reps.now

  abbrev ids : List TypeId
  ids = built.types source

  abbrev pub HasSimple : AttributeDecl → Type 0
  HasSimple part = is_simple part.of ≡ true

  or-any : (found : Option TypeId) → IfSome found (λ of. is_simple of ≡ true) → is_simple (unwrap_or found (Builtin AnySimpleType)) ≡ true
  or-any None is = refl
  or-any (Some of) is = is

  -- the type that an attribute names is found
  type-found : (attribute : AttributeRepresentation) → are_found reps (forms.Attribute attribute) ≡ true → list_all (resolves (spaces_of reps) (kinds_of reps)) (simple_references_if attribute.of) ≡ true
  type-found attribute found = by attribute.reference found
    where
      by : (reference : Option ℕ) → list_all (resolves (spaces_of reps) (kinds_of reps)) (attribute_references (record attribute { reference = reference })) ≡ true
          → list_all (resolves (spaces_of reps) (kinds_of reps)) (simple_references_if attribute.of) ≡ true
      by None is = is
      by (Some name) is = (and_parts (is_named (spaces_of reps).attributes name) (list_all (resolves (spaces_of reps) (kinds_of reps)) (simple_references_if attribute.of)) is).1

  type-simple : (attribute : AttributeRepresentation) (members : List ℕ) → IsShaped reps members (forms.Attribute attribute) → are_found reps (forms.Attribute attribute) ≡ true
      → is_simple (unwrap_or (given_type source ids attribute.of members) (Builtin AnySimpleType)) ≡ true
  type-simple attribute members shape found =
      or-any (given_type source ids attribute.of members) (given-simple source spaces resolved shaped attribute.of members (type-found attribute found) (shape.plain refl))

  unless-prohibited : (is : Bool) (part : AttributeDecl) → HasSimple part → All HasSimple (if is then [] else part ∷ [])
  unless-prohibited true part has = All-nil HasSimple
  unless-prohibited false part has = all-one HasSimple part has

  declared-simple : (attribute : AttributeRepresentation) (rep : Representation) (name : Option ℕ)
      → is_simple (unwrap_or (given_type source ids attribute.of rep.members) (Builtin AnySimpleType)) ≡ true → All HasSimple (declared source ids attribute rep name)
  declared-simple attribute rep None is = All-nil HasSimple
  declared-simple attribute rep (Some name) is = unless-prohibited attribute.prohibited (declaration source ids attribute rep name) is

  form-simple : (form : Represented) (rep : Representation) → IsShaped reps rep.members form → are_found reps form ≡ true → All HasSimple (attributes_by source ids form rep)
  form-simple (forms.Attribute attribute) rep shape found = declared-simple attribute rep attribute.name (type-simple attribute rep.members shape found)
  form-simple _ rep shape found = All-nil HasSimple

  pub attributes-simple : All HasSimple (built.attributes source)
  attributes-simple = all-places HasSimple (attributes_of source ids) reps (λ k rep at. form-simple rep.form rep (shaped k rep at) (resolved.found k rep at))
