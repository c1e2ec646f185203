-- What a simple type is made of is simple.
use Rattle.std.proofs.Common.{◌≡◌, ℕ, zero, suc, Bool, true, false, List, [], ◌∷◌, Option, None, Some, All, IfSome, find, slice_get, if◌then◌else◌, refl, sym, ap, subst, ◌∙◌, true≢false}
use Rattle.std.specs.List.{list_all, list_any, flat_map}
use Rattle.std.specs.Option.{option_map, unwrap_or}
use Rattle.std.proofs.lemmas.Bool.{and_parts, or_parts}
use Rattle.std.proofs.lemmas.List.Elements.{All-nil, All-cons, All-append}
use Rattle.std.proofs.lemmas.List.Folds.{list_all-append}
use Rattle.component_tables.specs.Symbols.{first_place}
use Rattle.xs_components.specs.Tables.{Tables}
use Rattle.xs_components.specs.declared.common.TypeId.{TypeId}
use Rattle.xs_components.specs.declared.common.TypeId.TheVariants.{AnyType}
use Rattle.xs_components.specs.declared.simple.SimpleType.{SimpleType}
use Rattle.component_references.specs.Ranked.{named_types}
use Rattle.type_derivation.specs.Derives.{is_simple}
use Rattle.type_derivation.specs.Within.{AreSimple}
use Rattle.representations.specs.declared.parts.Represented.{Represented}
use Rattle.representations.specs.declared.parts.Represented.TheVariants as forms
use Rattle.representations.specs.declared.parts.Representation.{Representation}
use Rattle.representations.specs.declared.parts.TypeName.{TypeName}
use Rattle.representations.specs.declared.parts.TypeName.TheVariants as names
use Rattle.representations.specs.declared.source.Source.{Source}
use Rattle.representations.specs.declared.source.SymbolSpaces.{SymbolSpaces}
use Rattle.representations.specs.Members.{is_type_at}
use Rattle.representations.specs.Names.{spaces_of}
use Rattle.reference_faults.specs.References.{simple_references, simple_references_if}
use Rattle.reference_faults.specs.Resolution.{kinds_of, is_named, resolves}
use Rattle.build_types.specs.Types.{type_at, meant_type, child_type, given_type}
use Rattle.build_types.specs.SimpleTypes as simple
use Rattle.build_components.specs.Built as built
use Rattle.build_components.proofs.ListLaws.{all-one, all-at}
use Rattle.schema_check.specs.Resolved.{AreResolved, are_found}
use Rattle.schema_check.specs.Shaped.{IsShaped, AreShaped, is_complex_type, is_variety, names_no_type, is_kind_in, is_kind_at}
use Rattle.schema_check.proofs.KindLaws.{IsSimplePlace, simple-at, any-found, first-simple, type-simple, first-stands, named-simple}

-- what is made of each of some items is so, where the place of the item is known
pub all-places : {A X : Type 0} (P : X → Type 0) (f : A → List X) (each : List A) → ((k : ℕ) (a : A) → slice_get each k ≡ Some a → All P (f a)) → All P (flat_map f each)
all-places P f [] one = All-nil P
all-places P f (a ∷ each) one = All-append P (f a) (flat_map f each) (one zero a refl) (all-places P f each (λ k b at. one (suc k) b at))

module _ (source : Source) (spaces : source.spaces.now ≡ spaces_of source.reps.now) (resolved : AreResolved source.reps.now) (shaped : AreShaped source.reps.now) where
  abbrev reps : List Representation
  reps = source.reps.now

  abbrev ids : List TypeId
  ids = built.types source

  abbrev pub IsSimple : TypeId → Type 0
  IsSimple of = is_simple of ≡ true

  -- no complex type stands among members
  abbrev pub ArePlain : List ℕ → Type 0
  ArePlain members = list_any (is_kind_at is_complex_type reps) members ≡ false

  place-simple : (place : ℕ) → IsSimplePlace reps place → IsSimple (type_at ids place)
  place-simple place is = simple-at 0 0 reps place is

  -- a name is that of a simple type
  by-name : (name : ℕ) → is_named (kinds_of reps).simples name ≡ true → IsSimple (meant_type source ids (names.Named name))
  by-name name is =
      let found = named-simple reps resolved name is in
      let place : first_place source.spaces.now.types name ≡ Some found.0 = ap (λ (s : SymbolSpaces). first_place s.types name) spaces ∙ found.1 in
      subst (λ (o : Option ℕ). IsSimple (unwrap_or (option_map (type_at ids) o) AnyType)) (sym place) (place-simple found.0 found.2)

  abbrev Resolve : TypeName → Type 0
  Resolve name = list_all (resolves (spaces_of reps) (kinds_of reps)) (simple_references name) ≡ true

  meant-simple : (name : TypeName) → Resolve name → IsSimple (meant_type source ids name)
  meant-simple names.AnyType is = absurd (true≢false (sym is))
  meant-simple (names.Builtin of) is = refl
  meant-simple (names.Named name) is = by-name name (and_parts (is_named (kinds_of reps).simples name) true is).0

  -- a type that stands among members
  if-place : (place : Option ℕ) → IfSome place (IsSimplePlace reps) → IfSome (option_map (type_at ids) place) IsSimple
  if-place None is = tt
  if-place (Some place) is = place-simple place is

  pub child-simple : (members : List ℕ) → ArePlain members → IfSome (child_type source ids members) IsSimple
  child-simple members plain = if-place (find (is_type_at reps) members) (first-simple reps members plain)

  pub given-simple : (name : Option TypeName) (members : List ℕ) → list_all (resolves (spaces_of reps) (kinds_of reps)) (simple_references_if name) ≡ true → ArePlain members
      → IfSome (given_type source ids name members) IsSimple
  given-simple None members is plain = child-simple members plain
  given-simple (Some name) members is plain = meant-simple name is

  some-child : (members : List ℕ) → ArePlain members → list_any (is_type_at reps) members ≡ true → IsSimple (unwrap_or (child_type source ids members) AnyType)
  some-child members plain any =
      let found = any-found (is_type_at reps) members any in
      let is : IsSimplePlace reps found.0 = subst (λ (o : Option ℕ). IfSome o (IsSimplePlace reps)) found.1 (first-simple reps members plain) in
      subst (λ (o : Option ℕ). IsSimple (unwrap_or (option_map (type_at ids) o) AnyType)) (sym found.1) (place-simple found.0 is)

  base-simple : (name : Option TypeName) (members : List ℕ) → list_all (resolves (spaces_of reps) (kinds_of reps)) (simple_references_if name) ≡ true → ArePlain members
      → (name ≡ None → list_any (is_type_at reps) members ≡ true) → IsSimple (unwrap_or (given_type source ids name members) AnyType)
  base-simple None members is plain any = some-child members plain (any refl)
  base-simple (Some name) members is plain any = meant-simple name is

  -- the members of a union
  named-members : (list : List TypeName) → list_all (resolves (spaces_of reps) (kinds_of reps)) (flat_map simple_references list) ≡ true → All IsSimple (simple.named_types source ids list)
  named-members [] is = All-nil IsSimple
  named-members (name ∷ list) is =
      let test = resolves (spaces_of reps) (kinds_of reps) in
      let parts = and_parts (list_all test (simple_references name)) (list_all test (flat_map simple_references list))
      (sym (list_all-append test (simple_references name) (flat_map simple_references list)) ∙ is) in
      All-cons IsSimple (meant_type source ids name) (simple.named_types source ids list) (meant-simple name parts.0) (named-members list parts.1)

  at-member : (here : Bool) (place : ℕ) → is_type_at reps place ≡ here → is_kind_at is_complex_type reps place ≡ false → All IsSimple (if here then type_at ids place ∷ [] else [])
  at-member true place e plain = all-one IsSimple (type_at ids place) (place-simple place (type-simple reps place e plain))
  at-member false place e plain = All-nil IsSimple

  children-simple : (members : List ℕ) → ArePlain members → All IsSimple (simple.child_types source ids members)
  children-simple [] plain = All-nil IsSimple
  children-simple (member ∷ members) plain =
      let parts = or_parts (is_kind_at is_complex_type reps member) (list_any (is_kind_at is_complex_type reps) members) plain in
      All-append IsSimple (simple.types_at source ids member) (simple.child_types source ids members)
      (at-member (is_type_at reps member) member refl parts.0) (children-simple members parts.1)

  variety-simple : (form : Represented) (members : List ℕ) → IsShaped reps members form → are_found reps form ≡ true → is_variety form ≡ true → All IsSimple (named_types (simple.form_by source ids form members))
  variety-simple (forms.Restriction base) members shape found is =
      all-one IsSimple (unwrap_or (given_type source ids base members) AnyType)
      (base-simple base members found (shape.plain refl) (λ none. shape.given (ap (λ (b : Option TypeName). names_no_type (forms.Restriction b)) none)))
  variety-simple (forms.ItemType of) members shape found is =
      all-one IsSimple (unwrap_or (given_type source ids of members) AnyType)
      (base-simple of members found (shape.plain refl) (λ none. shape.given (ap (λ (b : Option TypeName). names_no_type (forms.ItemType b)) none)))
  variety-simple (forms.Union list) members shape found is =
      All-append IsSimple (simple.named_types source ids list) (simple.child_types source ids members) (named-members list found) (children-simple members (shape.plain refl))
  variety-simple _ members shape found is = absurd (cc)

  made-simple : (members : List ℕ) (first : Option Representation) → simple.first_member reps members ≡ first → is_kind_in is_variety first ≡ true → All IsSimple (named_types (simple.form_in source ids first))
  made-simple members None at is = absurd (cc)
  made-simple members (Some rep) at is =
      let stands = first-stands reps members rep at in
      variety-simple rep.form rep.members (shaped stands.0 rep stands.1) (resolved.found stands.0 rep stands.1) is

  abbrev IsMadeSimple : SimpleType → Type 0
  IsMadeSimple part = All IsSimple (named_types part.form)

  type-made : (form : Represented) (rep : Representation) → IsShaped reps rep.members form → All IsMadeSimple (simple.simples_by source ids form rep.at rep.members)
  type-made (forms.SimpleType name finals) rep shape =
      all-one IsMadeSimple (record { name = name; at = rep.at; finals = finals; form = simple.simple_form source ids rep.members })
      (made-simple rep.members (simple.first_member reps rep.members) refl (shape.made refl))
  type-made _ rep shape = All-nil IsMadeSimple

  pub are-simple : AreSimple (built.built source)
  are-simple = record {
    named = all-at IsMadeSimple (simple.simple_types source ids) (all-places IsMadeSimple (simple.simples_of source ids) reps (λ k rep at. type-made rep.form rep (shaped k rep at)));
  }

-- this is known by the simple types alone
pub alike-simple : (t other : Tables) → other.simples.parts ≡ t.simples.parts → AreSimple t → AreSimple other
alike-simple t other same one = record { named = λ n part at. one.named n part (sym (ap (λ (parts : List SimpleType). slice_get parts n) same) ∙ at) }
