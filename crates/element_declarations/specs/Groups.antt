-- Substitution groups (Structures 3.3.6).
use Rattle.std.specs.Prelude.{◌≡◌, ◌≢◌, ◌==◌, ◌↔◌, ◌⊎◌, ℕ, ◌<◌, Bool, true, false, List, [], ◌∷◌, Option, None, Some, Contains, map, length, slice_get}
use Rattle.std.specs.List.{list_any}
use Rattle.std.specs.Option.{option_and_then}
use Rattle.std.specs.List.Sorted.{IsStrictlySortedBy}
use Rattle.std.specs.Ordering.{nat_cmp, ordering_then}
use Rattle.std.specs.declared.cmp.Ordering.{Ordering}
use Rattle.xs_components.specs.Tables.{Tables}
use Rattle.xs_components.specs.declared.common.Methods.{Methods}
use Rattle.xs_components.specs.declared.common.Place.{Place}
use Rattle.xs_components.specs.declared.common.TypeId.{TypeId}
use Rattle.xs_components.specs.declared.common.TypeId.TheVariants.{AnyType, Builtin, Simple, Complex}
use Rattle.xs_components.specs.declared.complex.ComplexType.{ComplexType}
use Rattle.xs_components.specs.declared.element.ElementDecl.{ElementDecl}
use Rattle.xs_components.specs.declared.particle.Term.{Term}
use Rattle.xs_components.specs.declared.particle.Term.TheVariants.{Element, Any, Group, Sequence, Choice, All as AllOf}
use Rattle.xs_components.specs.Heads.{names_of}
use Rattle.component_tables.specs.Types.{type_of}
use Rattle.type_derivation.specs.Chains.{Derives}

-- the head that a declaration names: its {substitution group affiliation} (Structures 3.3.1)
abbrev pub head_of : Tables → ℕ → Option ℕ
head_of t element = option_and_then (λ part. part.head) (slice_get t.elements.parts element)

-- an element heads the group of another that names it, or that names one whose group it heads
pub data HasHead (t : Tables) : ℕ → ℕ → Type 0 where
  named : (element head : ℕ) → head_of t element ≡ Some head → HasHead t element head
  through : (element above head : ℕ) → head_of t element ≡ Some above → HasHead t above head → HasHead t element head

abbrev pub no_methods : Methods
no_methods = record { extension = false; restriction = false; substitution = false; by_list = false; by_union = false }

abbrev pub element_blocks : Option ElementDecl → Methods
element_blocks None = no_methods
element_blocks (Some part) = part.blocks

-- the {disallowed substitutions} of a declaration (Structures 3.3.1)
abbrev pub disallowed : Tables → ℕ → Methods
disallowed t element = element_blocks (slice_get t.elements.parts element)

abbrev pub complex_blocks : Option ComplexType → Methods
complex_blocks None = no_methods
complex_blocks (Some part) = part.blocks

-- the {prohibited substitutions} of a complex type (Structures 3.4.1); other types have none
abbrev pub prohibited : Tables → TypeId → Methods
prohibited t AnyType = no_methods
prohibited t (Builtin b) = no_methods
prohibited t (Simple id) = no_methods
prohibited t (Complex id) = complex_blocks (slice_get t.complexes.parts id)

abbrev pub part_base : Option ComplexType → Option TypeId
part_base None = None
part_base (Some part) = Some part.base

-- the {base type definition} of a complex type
abbrev pub complex_base : Tables → TypeId → Option TypeId
complex_base t AnyType = None
complex_base t (Builtin b) = None
complex_base t (Simple id) = None
complex_base t (Complex id) = part_base (slice_get t.complexes.parts id)

-- A type is between another and a base, where the bases of complex types lead from the other to it before they come to the base.
pub data IsBetween (t : Tables) (base : TypeId) : TypeId → TypeId → Type 0 where
  right_above : (sub mid : TypeId) → sub ≢ base → complex_base t sub ≡ Some mid → mid ≢ base → IsBetween t base sub mid
  further_above : (sub next_type mid : TypeId) → sub ≢ base → complex_base t sub ≡ Some next_type → IsBetween t base next_type mid → IsBetween t base sub mid

-- some type between the two prohibits a method
abbrev pub IsProhibitedBetween : Tables → TypeId → TypeId → (Methods → Bool) → Type 0
IsProhibitedBetween t base sub has = (mid : TypeId) × IsBetween t base sub mid × (has (prohibited t mid) ≡ true)

-- A method is blocked between a head and a member (Structures 3.3.6, Substitution Group OK, 2.3): the head disallows it, or the
-- head's type prohibits it, or a type between the member's type and the head's does.
abbrev pub IsBlocked : Tables → ℕ → ℕ → (Methods → Bool) → Type 0
IsBlocked t head element has =
    (has (disallowed t head) ≡ true) ⊎ ((has (prohibited t (type_of t head)) ≡ true) ⊎ IsProhibitedBetween t (type_of t head) (type_of t element) has)

-- these are the methods of derivation that are blocked
pub record AreBlocked (t : Tables) (head element : ℕ) (blocked : Methods) : Type 0 where
  pub extension : (blocked.extension ≡ true) ↔ IsBlocked t head element (λ m. m.extension)
  pub restriction : (blocked.restriction ≡ true) ↔ IsBlocked t head element (λ m. m.restriction)

-- An element may stand for a head (Structures 3.3.6, Substitution Group OK, 2.1 and 2.3): the head does not disallow substitution, and
-- the element's type derives from the head's without a blocked method.
pub record MayStand (t : Tables) (head element : ℕ) : Type 0 where
  pub allowed : (disallowed t head).substitution ≡ false
  pub blocked : Methods
  pub blocks : AreBlocked t head element blocked
  pub derives : Derives t blocked (type_of t element) (type_of t head)

-- Another element is a member of the substitution group of a head: it has this head, and may stand for it.
pub record IsMember (t : Tables) (head element : ℕ) : Type 0 where
  pub has_head : HasHead t element head
  pub stands : MayStand t head element

abbrev pub part_place : Option ElementDecl → Place
part_place None = record { document = 0; item = 0 }
part_place (Some part) = part.at

abbrev pub place_of : Tables → ℕ → Place
place_of t element = part_place (slice_get t.elements.parts element)

abbrev pub part_name : Option ElementDecl → ℕ
part_name None = 0
part_name (Some part) = part.name

abbrev pub name_of : Tables → ℕ → ℕ
name_of t element = part_name (slice_get t.elements.parts element)

-- which of two elements comes first: by document, then item, then number, since a document may be in the set twice
abbrev pub by_place : Tables → ℕ → ℕ → Ordering
by_place t a b =
    ordering_then
    (ordering_then (nat_cmp (place_of t a).document (place_of t b).document) (nat_cmp (place_of t a).item (place_of t b).item))
    (nat_cmp a b)

-- these are the names of the members of the group that an element heads: its own, and then those of the others by their places
pub record IsGroup (t : Tables) (head : ℕ) (names : List ℕ) : Type 0 where
  pub members : List ℕ
  pub exact : (element : ℕ) → Contains members element ↔ IsMember t head element
  pub ordered : IsStrictlySortedBy (by_place t) members
  pub all_names : names ≡ name_of t head ∷ map (name_of t) members

-- the term is this element
abbrev pub is_element : Term → ℕ → Bool
is_element (Element e) element = e == element
is_element (Any wildcard) element = false
is_element (Group group) element = false
is_element (Sequence members) element = false
is_element (Choice members) element = false
is_element (AllOf members) element = false

-- a content model names the element: it is the {term} of a particle (Structures 3.9.1)
abbrev pub is_named : Tables → ℕ → Bool
is_named t element = list_any (λ part. is_element part.term element) t.particles.parts

-- What is found for an element: the names of its group, where a content model names it, and else its own name alone. Nobody asks
-- for the groups of the others, which may have as many members as there are pairs of elements.
pub record IsEntry (t : Tables) (head : ℕ) (names : List ℕ) : Type 0 where
  pub named : is_named t head ≡ true → IsGroup t head names
  pub other : is_named t head ≡ false → names ≡ name_of t head ∷ []

-- these are the groups of the elements that content models name
pub record AreGroups (t : Tables) (groups : List (List ℕ)) : Type 0 where
  pub each : length groups ≡ length t.elements.parts
  pub are : (head : ℕ) → head < length groups → IsEntry t head (names_of groups head)
