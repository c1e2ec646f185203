-- The types that stand in simple content are simple.
use Rattle.std.proofs.Common.{◌≡◌, ℕ, zero, suc, Bool, true, false, List, [], ◌∷◌, Option, None, Some, All, IfSome, slice_get, if◌then◌else◌, refl, sym, subst}
use Rattle.std.specs.Option.{option_and_then, unwrap_or}
use Rattle.std.proofs.lemmas.List.Elements.{All-nil, All-append}
use Rattle.xs_components.specs.Tables.{Tables}
use Rattle.xs_components.specs.declared.common.TypeId.{TypeId}
use Rattle.xs_components.specs.declared.complex.ComplexType.{ComplexType}
use Rattle.type_derivation.specs.Derives.{is_simple}
use Rattle.type_derivation.specs.Within.{AreSimple}
use Rattle.representations.specs.declared.parts.ComplexTypeRepresentation.{ComplexTypeRepresentation}
use Rattle.representations.specs.declared.parts.Represented.{Represented}
use Rattle.representations.specs.declared.parts.Represented.TheVariants as forms
use Rattle.representations.specs.declared.parts.Representation.{Representation}
use Rattle.representations.specs.declared.source.Source.{Source}
use Rattle.representations.specs.Names.{spaces_of}
use Rattle.build_types.specs.SimpleTypes.{first_member}
use Rattle.build_components.specs.Contents.{has_simple_content, derivation_in, derivation, holder}
use Rattle.build_components.specs.Complexes.{simple_content, complex_content, complex_type, complexes_by, complexes_from}
use Rattle.build_components.specs.Built as built
use Rattle.build_components.specs.There.{own_type}
use Rattle.build_components.proofs.ListLaws.{all-one, all-at}
use Rattle.schema_check.specs.Resolved.{AreResolved}
use Rattle.schema_check.specs.Shaped.{IsShaped, AreShaped, is_derivation, may_hold_complex, is_kind_in}
use Rattle.schema_check.specs.Simple.{AreTypesSimple}
use Rattle.schema_check.proofs.KindLaws.{first-stands}
use Rattle.schema_check.proofs.SimpleLaws.{ArePlain, child-simple, are-simple}
use Rattle.schema_check.proofs.AttributeLaws.{HasSimple, attributes-simple}

derivation-plain : (form : Represented) → is_derivation form ≡ true → may_hold_complex form ≡ false
derivation-plain (forms.Derivation by_extension base) is = refl
derivation-plain _ is = absurd (cc)

module _ (source : Source) (spaces : source.spaces.now ≡ spaces_of source.reps.now) (resolved : AreResolved source.reps.now) (shaped : AreShaped source.reps.now) where
  abbrev reps : List Representation
  reps = source.reps.now

  abbrev ids : List TypeId
  ids = built.types source

  abbrev IsPlain : Representation → Type 0
  IsPlain rep = ArePlain source spaces resolved shaped rep.members

  -- no complex type stands in the restriction or extension of a content
  first-plain : (members : List ℕ) (first : Option Representation) → first_member reps members ≡ first → is_kind_in is_derivation first ≡ true → IfSome first IsPlain
  first-plain members None at is = tt
  first-plain members (Some rep) at is =
      let stands = first-stands reps members rep at in
      (shaped stands.0 rep stands.1).plain (derivation-plain rep.form is)

  in-plain : (form : Represented) (members : List ℕ) → IsShaped reps members form → IfSome (derivation_in reps form members) IsPlain
  in-plain forms.SimpleContent members shape = first-plain members (first_member reps members) refl (shape.derived refl)
  in-plain (forms.ComplexContent mixed) members shape = first-plain members (first_member reps members) refl (shape.derived refl)
  in-plain _ members shape = tt

  content-plain : (members : List ℕ) (content : Option Representation) → first_member reps members ≡ content → IfSome (derivation reps members) IsPlain
  content-plain members None at = subst (λ (o : Option Representation). IfSome (option_and_then (λ (c : Representation). derivation_in reps c.form c.members) o) IsPlain) (sym at) tt
  content-plain members (Some content) at =
      let stands = first-stands reps members content at in
      subst (λ (o : Option Representation). IfSome (option_and_then (λ (c : Representation). derivation_in reps c.form c.members) o) IsPlain) (sym at)
      (in-plain content.form content.members (shaped stands.0 content stands.1))

  or-plain : (held : Option Representation) (rep : Representation) → IfSome held IsPlain → IsPlain rep → IsPlain (unwrap_or held rep)
  or-plain None rep held own = own
  or-plain (Some other) rep held own = held

  holder-plain : (rep : Representation) → IsPlain rep → IsPlain (holder reps rep)
  holder-plain rep own = or-plain (derivation reps rep.members) rep (content-plain rep.members (first_member reps rep.members) refl) own

  -- for these numbers of attributes, attribute groups and particles
  module _ (attributes groups particles : List (Option ℕ)) where
    abbrev HasSimpleContent : ComplexType → Type 0
    HasSimpleContent part = IfSome (own_type part.content) (λ of. is_simple of ≡ true)

    content-simple : (is_simple_content : Bool) (place : ℕ) (head : ComplexTypeRepresentation) (rep : Representation) → IsPlain rep
        → IfSome (own_type (if is_simple_content then simple_content source ids attributes groups particles (holder reps rep).members else complex_content source ids attributes groups particles place head rep))
        (λ of. is_simple of ≡ true)
    content-simple true place head rep plain = child-simple source spaces resolved shaped (holder reps rep).members (holder-plain rep plain)
    content-simple false place head rep plain = tt

    form-simple : (form : Represented) (place : ℕ) (rep : Representation) → IsShaped reps rep.members form → All HasSimpleContent (complexes_by source ids attributes groups particles form place rep)
    form-simple (forms.ComplexType head) place rep shape =
        all-one HasSimpleContent (complex_type source ids attributes groups particles place head rep (holder reps rep))
        (content-simple (has_simple_content reps rep.members) place head rep (shape.plain refl))
    form-simple _ place rep shape = All-nil HasSimpleContent

    contents-simple : (place : ℕ) (some : List Representation) → ((k : ℕ) (rep : Representation) → slice_get some k ≡ Some rep → IsShaped reps rep.members rep.form)
        → All HasSimpleContent (complexes_from source ids attributes groups particles place some)
    contents-simple place [] each = All-nil HasSimpleContent
    contents-simple place (rep ∷ some) each =
        All-append HasSimpleContent (complexes_by source ids attributes groups particles rep.form place rep) (complexes_from source ids attributes groups particles (suc place) some)
        (form-simple rep.form place rep (each zero rep refl)) (contents-simple (suc place) some (λ k other at. each (suc k) other at))

  built-types-simple : AreTypesSimple (built.built source)
  built-types-simple = record {
    attributes = all-at (HasSimple source spaces resolved shaped) (built.attributes source) (attributes-simple source spaces resolved shaped);
    contents = all-at (HasSimpleContent (built.attribute_numbers source) (built.attr_group_numbers source) (built.particles source).numbers) (built.complex_types source)
        (contents-simple (built.attribute_numbers source) (built.attr_group_numbers source) (built.particles source).numbers 0 reps shaped);
  }

-- the same of tables that are equal to those that are built
module _ (source : Source) (t : Tables) (spaces : source.spaces.now ≡ spaces_of source.reps.now) (resolved : AreResolved source.reps.now) (shaped : AreShaped source.reps.now) (is : t ≡ built.built source) where
  pub tables-simple : AreSimple t
  tables-simple = subst AreSimple (sym is) (are-simple source spaces resolved shaped)

  pub types-simple : AreTypesSimple t
  types-simple = subst AreTypesSimple (sym is) (built-types-simple source spaces resolved shaped)
