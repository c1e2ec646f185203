-- A type that a name or a declaration gives is there.
use Rattle.std.proofs.Common.{◌≡◌, ℕ, ◌-◌, Bool, true, false, List, [], Option, None, Some, length, refl}
use Rattle.std.specs.Prelude.{IfSome, nat_lt, if◌then◌else◌, bytes_eq, codes, slice_index_or}
use Rattle.std.specs.Option.{option_map, option_and_then}
use Rattle.std.proofs.lemmas.Bool.{ltb-true}
use Rattle.xs_codes.specs.declared.builtin.Builtin.{Builtin as Built}
use Rattle.xs_names.specs.Names.{NameTable, name_number}
use Rattle.xs_components.specs.Tables.{Tables}
use Rattle.xs_components.specs.declared.common.TypeId.{TypeId}
use Rattle.xs_components.specs.declared.common.TypeId.TheVariants.{AnyType, Builtin, Simple, Complex}
use Rattle.component_references.specs.Heights.{IsType}
use Rattle.component_tables.specs.Symbols.{first_place}
use Rattle.xs_codes.specs.Builtins.{builtin_named}
use Rattle.schema_values.specs.GrammarNames.{schema_namespace}
use Rattle.component_tables.specs.Types.{DeclarationTable, global_of}
use Rattle.component_tables.specs.Named.{Spaces, type_names, complex_at, type_at, type_with, own_type, named_type}
use Rattle.elem_governing.specs.Governing.{declared_type, type_said, governed, govern_root, govern_child, child_mode, accepting_particle, particle_declaration}
use Rattle.elem_governing.specs.LocalType.{qname_value, may_govern, said_of, by_type, by_name, xsi_type}
use Rattle.elem_governing.specs.View.{IsView}
use Rattle.elem_governing.specs.declared.pairs.Mode.{Mode}
use Rattle.elem_governing.specs.declared.pairs.Mode.TheVariants.{Strict, Lax, Skip}
use Rattle.elem_governing.specs.declared.local_types.XsiType.{XsiType}
use Rattle.elem_governing.specs.declared.local_types.XsiType.TheVariants.{Absent, NotQName, Unresolved, NotDerived, Governs}
use Rattle.component_tables.proofs.DeclaredLaws.{type-there}

module _ (t : Tables) where
  complex-there : (number : ℕ) → IfSome (complex_at t number) (IsType t)
  complex-there number = of (nat_lt number (length t.complexes.parts)) refl
    where
      of : (b : Bool) → nat_lt number (length t.complexes.parts) ≡ b → IfSome (if b then Some (Complex number) else None) (IsType t)
      of true e = ltb-true number (length t.complexes.parts) e
      of false e = tt

  place-there : (place : ℕ) → IfSome (type_at t place) (IsType t)
  place-there place = of (nat_lt place (length t.simples.parts)) refl
    where
      of : (b : Bool) → nat_lt place (length t.simples.parts) ≡ b → IfSome (if b then Some (Simple place) else complex_at t (place - length t.simples.parts)) (IsType t)
      of true e = ltb-true place (length t.simples.parts) e
      of false e = complex-there (place - length t.simples.parts)

  top-there : (place : Option ℕ) → IfSome (option_and_then (type_at t) place) (IsType t)
  top-there None = tt
  top-there (Some place) = place-there place

  number-there : (number : Option ℕ) → IfSome (option_and_then (type_with t) number) (IsType t)
  number-there None = tt
  number-there (Some number) = top-there (first_place (type_names t) number)

  built-there : (kind : Option Built) → IfSome (option_map Builtin kind) (IsType t)
  built-there None = tt
  built-there (Some kind) = tt

  own-there : (any : Bool) (kind : Option Built) → IfSome (if any then Some AnyType else option_map Builtin kind) (IsType t)
  own-there true kind = tt
  own-there false kind = built-there kind

  named-there : (names : NameTable) (space : ℕ) (local : List ℕ) → IfSome (named_type names t space local) (IsType t)
  named-there names space local = of (bytes_eq (slice_index_or names.spaces space []) schema_namespace)
    where
      of : (b : Bool) → IfSome (if b then own_type local else option_and_then (type_with t) (name_number names space local)) (IsType t)
      of true = own-there (bytes_eq local (codes "anyType")) (builtin_named local)
      of false = number-there (name_number names space local)

  -- what xsi:type names is there
  SaysThere : XsiType → Type 0
  SaysThere Absent = Unit {0}
  SaysThere NotQName = Unit {0}
  SaysThere Unresolved = Unit {0}
  SaysThere NotDerived = Unit {0}
  SaysThere (Governs of) = IsType t of

  said-there : (governs : Bool) (of : TypeId) → IsType t of → SaysThere (said_of governs of)
  unfolding SaysThere
  said-there true of there = there
  said-there false of there = tt

  type-said : (declaration : Option ℕ) (of : Option TypeId) → IfSome of (IsType t) → SaysThere (by_type t declaration of)
  unfolding SaysThere
  type-said declaration None there = tt
  type-said declaration (Some of) there = said-there (may_govern t declaration of) of there

  name-said : (names : NameTable) (declaration : Option ℕ) (name : Option (ℕ × List ℕ)) → SaysThere (by_name names t declaration name)
  unfolding SaysThere
  name-said names declaration None = tt
  name-said names declaration (Some name) = type-said declaration (named_type names t name.0 name.1) (named-there names name.0 name.1)

  text-said : (names : NameTable) (declaration : Option ℕ) (xsi : Option (List ℕ)) (scope : List (List ℕ × ℕ)) → SaysThere (xsi_type names t declaration xsi scope)
  unfolding SaysThere
  text-said names declaration None scope = tt
  text-said names declaration (Some text) scope = name-said names declaration (qname_value scope text)

  governing-there : (said : XsiType) (declared : TypeId) → SaysThere said → IsType t declared → IsType t (type_said said declared)
  unfolding SaysThere
  governing-there Absent declared there own = own
  governing-there NotQName declared there own = own
  governing-there Unresolved declared there own = own
  governing-there NotDerived declared there own = own
  governing-there (Governs of) declared there own = there

  module _ (d : DeclarationTable) (named : Spaces) (view : IsView t d named) where
    declared-there : (declaration : Option ℕ) → IsType t (declared_type t declaration)
    declared-there None = tt
    declared-there (Some element) = type-there t view.ranked view.types element

    governed-there : (names : NameTable) (mode : Mode) (declaration : Option ℕ) (xsi : Option (List ℕ)) (scope : List (List ℕ × ℕ)) → IfSome (governed names t mode declaration xsi scope).of (IsType t)
    governed-there names Strict declaration xsi scope = governing-there (xsi_type names t declaration xsi scope) (declared_type t declaration) (text-said names declaration xsi scope) (declared-there declaration)
    governed-there names Lax declaration xsi scope = governing-there (xsi_type names t declaration xsi scope) (declared_type t declaration) (text-said names declaration xsi scope) (declared-there declaration)
    governed-there names Skip declaration xsi scope = tt

pub root-there : (names : NameTable) (t : Tables) (d : DeclarationTable) (named : Spaces) → IsView t d named
    → (name : ℕ) (xsi : Option (List ℕ)) (scope : List (List ℕ × ℕ)) → IfSome (govern_root names t name xsi scope).of (IsType t)
root-there names t d named view name xsi scope = governed-there t d named view names Strict (global_of t name) xsi scope

pub child-there : (names : NameTable) (t : Tables) (d : DeclarationTable) (named : Spaces) → IsView t d named
    → (parent : Mode) (term : Option ℕ) (name : ℕ) (xsi : Option (List ℕ)) (scope : List (List ℕ × ℕ)) → IfSome (govern_child names t parent term name xsi scope).of (IsType t)
child-there names t d named view parent term name xsi scope =
    governed-there t d named view names (child_mode parent (accepting_particle t term)) (particle_declaration t name (accepting_particle t term)) xsi scope
