-- Types by place, by name and by what stands in an element are types of the tables.
use Rattle.std.proofs.Common.{ℕ, zero, suc, ◌+◌, ◌≤◌, List, [], ◌∷◌, Bool, true, false, Option, None, Some, length, arith}
use Rattle.std.specs.Prelude.{All, IfSome, find, if◌then◌else◌}
use Rattle.std.specs.Option.{option_map, unwrap_or}
use Rattle.std.proofs.lemmas.List.Elements.{All-nil, All-append}
use Rattle.component_tables.specs.Symbols.{first_place}
use Rattle.xs_components.specs.Tables.{Tables}
use Rattle.xs_components.specs.declared.common.Place.{Place}
use Rattle.xs_components.specs.declared.common.TypeId.{TypeId}
use Rattle.xs_components.specs.declared.common.TypeId.TheVariants.{AnyType}
use Rattle.xs_components.specs.declared.simple.SimpleType.{SimpleType}
use Rattle.component_references.specs.Heights.{IsType}
use Rattle.component_references.specs.Ranked.{named_types}
use Rattle.representations.specs.declared.parts.Represented.{Represented}
use Rattle.representations.specs.declared.parts.Represented.TheVariants as forms
use Rattle.representations.specs.declared.parts.Representation.{Representation}
use Rattle.representations.specs.declared.parts.TypeName.{TypeName}
use Rattle.representations.specs.declared.parts.TypeName.TheVariants as names
use Rattle.representations.specs.declared.source.Source.{Source}
use Rattle.representations.specs.Members.{is_type_at}
use Rattle.build_types.specs.Numbers.{type_id, type_ids, simples_in, complexes_in}
use Rattle.build_types.specs.Types.{type_at, meant_type, child_type, given_type}
use Rattle.build_types.specs.SimpleTypes as simple
use Rattle.build_components.proofs.ListLaws.{all-flat_map, all-map, all-one}

abbrev pub simples_total : List Representation → ℕ
simples_total [] = 0
simples_total (rep ∷ reps) = simples_in rep.form + simples_total reps

abbrev pub complexes_total : List Representation → ℕ
complexes_total [] = 0
complexes_total (rep ∷ reps) = complexes_in rep.form + complexes_total reps

module _ (t : Tables) where
  type-there : (simples complexes : ℕ) (form : Represented) → simples + simples_in form ≤ length t.simples.parts → complexes + complexes_in form ≤ length t.complexes.parts
      → IsType t (type_id simples complexes form)
  type-there simples complexes (forms.SimpleType name finals) a b = omega (arith, a)
  type-there simples complexes (forms.ComplexType head) a b = omega (arith, b)
  type-there simples complexes _ a b = tt

  pub types-there : (simples complexes : ℕ) (reps : List Representation) → simples + simples_total reps ≤ length t.simples.parts → complexes + complexes_total reps ≤ length t.complexes.parts
      → (place : ℕ) → IsType t (type_at (type_ids simples complexes reps) place)
  types-there simples complexes [] a b place = tt
  types-there simples complexes (rep ∷ reps) a b zero = type-there simples complexes rep.form (omega (arith, a)) (omega (arith, b))
  types-there simples complexes (rep ∷ reps) a b (suc place) =
      types-there (simples + simples_in rep.form) (complexes + complexes_in rep.form) reps (omega (arith, a)) (omega (arith, b)) place

  module _ (source : Source) (ids : List TypeId) (there : (place : ℕ) → IsType t (type_at ids place)) where
    at-place : (place : Option ℕ) → IsType t (unwrap_or (option_map (type_at ids) place) AnyType)
    at-place None = tt
    at-place (Some place) = there place

    pub meant-there : (name : TypeName) → IsType t (meant_type source ids name)
    meant-there names.AnyType = tt
    meant-there (names.Builtin of) = tt
    meant-there (names.Named name) = at-place (first_place source.spaces.now.types name)

    pub given-there : (name : Option TypeName) (members : List ℕ) → IsType t (unwrap_or (given_type source ids name members) AnyType)
    given-there None members = at-place (find (is_type_at source.reps.now) members)
    given-there (Some name) members = meant-there name

    if-there : (place : Option ℕ) → IfSome (option_map (type_at ids) place) (IsType t)
    if-there None = tt
    if-there (Some place) = there place

    pub own-there : (members : List ℕ) → IfSome (child_type source ids members) (IsType t)
    own-there members = if-there (find (is_type_at source.reps.now) members)

    pub named-there : (name : Option TypeName) (members : List ℕ) → IfSome (given_type source ids name members) (IsType t)
    named-there None members = own-there members
    named-there (Some name) members = meant-there name

    child-there : (is : Bool) (place : ℕ) → All (IsType t) (if is then type_at ids place ∷ [] else [])
    child-there true place = all-one (IsType t) (type_at ids place) (there place)
    child-there false place = All-nil (IsType t)

    children-there : (members : List ℕ) → All (IsType t) (simple.child_types source ids members)
    children-there members = all-flat_map (IsType t) (simple.types_at source ids) (λ place. child-there (is_type_at source.reps.now place) place) members

    form-there : (form : Represented) (members : List ℕ) → All (IsType t) (named_types (simple.form_by source ids form members))
    form-there (forms.Restriction base) members = all-one (IsType t) (unwrap_or (given_type source ids base members) AnyType) (given-there base members)
    form-there (forms.ItemType of) members = all-one (IsType t) (unwrap_or (given_type source ids of members) AnyType) (given-there of members)
    form-there (forms.Union named) members =
        All-append (IsType t) (simple.named_types source ids named) (simple.child_types source ids members) (all-map (IsType t) (meant_type source ids) meant-there named) (children-there members)
    form-there _ members = all-one (IsType t) AnyType tt

    in-there : (found : Option Representation) → All (IsType t) (named_types (simple.form_in source ids found))
    in-there None = all-one (IsType t) AnyType tt
    in-there (Some rep) = form-there rep.form rep.members

    -- a simple type refers to types that are there
    abbrev pub RefersWell : SimpleType → Type 0
    RefersWell part = All (IsType t) (named_types part.form)

    simple-there : (form : Represented) (at : Place) (members : List ℕ) → All RefersWell (simple.simples_by source ids form at members)
    simple-there (forms.SimpleType name finals) at members =
        all-one RefersWell (record { name = name; at = at; finals = finals; form = simple.simple_form source ids members }) (in-there (simple.first_member source.reps.now members))
    simple-there _ at members = All-nil RefersWell

    pub simples-there : All RefersWell (simple.simple_types source ids)
    simples-there = all-flat_map RefersWell (simple.simples_of source ids) (λ rep. simple-there rep.form rep.at rep.members) source.reps.now
