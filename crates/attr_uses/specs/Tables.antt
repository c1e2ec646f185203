-- What stands for the attribute uses of types and of attribute groups.
use Rattle.std.specs.Prelude.{◌≡◌, ℕ, ◌+◌, ◌^◌, ◌<◌, ◌≤◌, Bool, true, false, ◌||◌, not, List, [], ◌∷◌, Option, None, Some, Result, Ok, Err, ⊤, filter, length, slice_get, slice_index_or, MatchOption}
use Rattle.std.specs.List.{list_any}
use Rattle.std.specs.Option.{is_some}
use Rattle.xs_codes.specs.declared.fault.Fault.{Fault}
use Rattle.xs_components.specs.Sets.{admits}
use Rattle.xs_components.specs.Tables.{Tables}
use Rattle.xs_components.specs.declared.common.Wildcard.{Wildcard}
use Rattle.xs_components.specs.declared.common.TypeId.TheVariants.{Complex}
use Rattle.xs_components.specs.declared.attribute.AttributeDecl.{AttributeDecl}
use Rattle.xs_components.specs.declared.attribute.AttrUse.{AttrUse}
use Rattle.attr_uses.specs.Entries.{same_use}
use Rattle.attr_uses.specs.Maps.{MapNodes, IsMapOf}
use Rattle.attr_uses.specs.declared.entry.Entry.{Entry}
use Rattle.attr_uses.specs.declared.entry.UseAt.{UseAt}
use Rattle.attr_uses.specs.declared.entry.NeededUse.{NeededUse}
use Rattle.attr_uses.specs.Written.{use_at, has_name}
use Rattle.attr_uses.specs.Uses.{AttrUses, uses_of, group_uses, use_named, is_listed, any_wildcard}
use Rattle.attr_uses.specs.declared.store.KeptTable.{KeptTable}
use Rattle.attr_uses.specs.declared.store.Store.{Store}
use Rattle.attr_uses.specs.declared.tables.AttrTables.{AttrTables}
use Rattle.attr_uses.specs.declared.tables.AttrTable.{AttrTable}

abbrev pub gives_value : Option AttributeDecl → Bool
gives_value None = false
gives_value (Some decl) = is_some decl.value

abbrev pub is_needed_use : Tables → Option AttrUse → Bool
is_needed_use t None = false
is_needed_use t (Some part) = part.required || is_some part.value || gives_value (slice_get t.attributes.parts part.attribute)

-- A use for which an element without the attribute has to be looked at: it is required, or it or its declaration has a value
-- constraint (Structures 3.4.4).
abbrev pub is_needed : Tables → UseAt → Bool
is_needed t u = is_needed_use t (use_at t u)

abbrev pub is_id_use : List Bool → Option AttrUse → Bool
is_id_use ids None = false
is_id_use ids (Some part) = slice_index_or ids part.attribute false

-- a use of a declaration that is marked as one whose type is or derives from ID
abbrev pub is_id : Tables → List Bool → UseAt → Bool
is_id t ids u = is_id_use ids (use_at t u)

-- the entry of some uses of one name
abbrev pub entry_of : Tables → List Bool → List UseAt → Option Entry
entry_of t ids [] = None
entry_of t ids (u ∷ us) = Some record { first = u; double = list_any (λ v. not (same_use u v)) us; needed = is_needed t u; id = is_id t ids u }

-- the entry of a name among some uses
abbrev pub entry_for : Tables → List Bool → List UseAt → ℕ → Option Entry
entry_for t ids uses name = entry_of t ids (filter (has_name t name) uses)

-- one set of namespaces, and one processContents
pub record IsLike (a b : Wildcard) : Type 0 where
  pub process : a.process ≡ b.process
  pub same : (ns : ℕ) → admits a.namespaces ns ≡ admits b.namespaces ns

-- no wildcard, or one that is like another
abbrev pub IsWildcard : Option Wildcard → Option Wildcard → Type 0
IsWildcard None None = ⊤
IsWildcard None (Some b) = ⊥
IsWildcard (Some a) None = ⊥
IsWildcard (Some a) (Some b) = IsLike a b

abbrev pub kept_wildcard : List Wildcard → Option ℕ → Option Wildcard
kept_wildcard kept None = None
kept_wildcard kept (Some n) = slice_get kept n

abbrev pub IsKeptWildcard : List Wildcard → Option ℕ → Type 0
IsKeptWildcard kept None = ⊤
IsKeptWildcard kept (Some n) = n < length kept

-- a map that has something for exactly these names
pub record IsSetOf (maps : MapNodes) (top : ℕ) (names : List ℕ) : Type 0 where
  pub entries : ℕ → Option Entry
  pub map : IsMapOf maps top entries
  pub has : (name : ℕ) → name < 2 ^ maps.depth → is_some (entries name) ≡ is_listed names (Some name)

-- a kept table stands for attribute uses
pub record StandsFor (t : Tables) (ids : List Bool) (store : Store) (table : KeptTable) (value : AttrUses) : Type 0 where
  pub uses : IsMapOf store.maps table.uses.top (entry_for t ids value.uses)
  pub prohibited : IsSetOf store.maps table.prohibited.top value.prohibited
  pub kept : IsKeptWildcard store.wildcards table.wildcard
  pub wildcard : IsWildcard (kept_wildcard store.wildcards table.wildcard) value.wildcard

-- an answer is that of the definition: what stands for it, or its fault
abbrev pub Answers : Tables → List Bool → Store → Result KeptTable Fault → Result AttrUses Fault → Type 0
Answers t ids store (Ok table) (Ok value) = StandsFor t ids store table value
Answers t ids store (Ok table) (Err fault) = ⊥
Answers t ids store (Err fault) (Ok value) = ⊥
Answers t ids store (Err fault) (Err other) = fault ≡ other

abbrev pub IsAnswer : Tables → List Bool → Store → Option (Result KeptTable Fault) → Result AttrUses Fault → Type 0
IsAnswer t ids store None value = ⊥
IsAnswer t ids store (Some answer) value = Answers t ids store answer value

-- the names of attributes have numbers below this power of 2, and the first wildcard is that of anyType
pub record IsStore (store : Store) : Type 0 where
  pub deep : store.maps.depth ≡ 32
  pub any : kept_wildcard store.wildcards (Some 0) ≡ Some any_wildcard

-- These are the tables of all attribute groups and of all complex types.
pub record AreTablesOf (t : Tables) (ids : List Bool) (tables : AttrTables) : Type 0 where
  pub store : IsStore tables.store
  pub groups : (n : ℕ) → n < length t.attr_groups.parts → IsAnswer t ids tables.store (slice_get tables.groups n) (group_uses t n)
  pub types : (n : ℕ) → n < length t.complexes.parts → IsAnswer t ids tables.store (slice_get tables.types n) (uses_of t (Complex n))

-- some use is another one than the first
abbrev pub has_another : List UseAt → Bool
has_another [] = false
has_another (u ∷ us) = list_any (λ v. not (same_use u v)) us

-- some different uses have one name
abbrev pub HasTwoOfOneName : Tables → List UseAt → Type 0
HasTwoOfOneName t uses = (name : ℕ) × (name < 2 ^ 32) × (has_another (filter (has_name t name) uses) ≡ true)

abbrev pub is_id_named : Tables → List Bool → Option UseAt → Bool
is_id_named t ids None = false
is_id_named t ids (Some u) = is_id t ids u

-- The first uses of two names are of declarations that are marked; where no name has different uses, these are all uses of it.
abbrev pub HasTwoIds : Tables → List Bool → List UseAt → Type 0
HasTwoIds t ids uses =
    (one other : ℕ) × (one < other) × (other < 2 ^ 32) × (is_id_named t ids (use_named t uses one) ≡ true) × (is_id_named t ids (use_named t uses other) ≡ true)

abbrev pub is_needed_named : Tables → Option UseAt → Bool
is_needed_named t None = false
is_needed_named t (Some u) = is_needed t u

-- no name from one number on and below another has a first use that is needed
abbrev pub NoneNeeded : Tables → List UseAt → ℕ → ℕ → Type 0
NoneNeeded t uses from bound = (name : ℕ) → from ≤ name → name < bound → is_needed_named t (use_named t uses name) ≡ false

-- the least number of a name, from one on, whose first use is needed
pub record IsNextNeeded (t : Tables) (uses : List UseAt) (from name : ℕ) : Type 0 where
  pub behind : from ≤ name
  pub within : name < 2 ^ 32
  pub needed : is_needed_named t (use_named t uses name) ≡ true
  pub none : NoneNeeded t uses from name

-- the numbers, from one on, of all names whose first uses are needed, the least first, and the first use of each
abbrev pub AreNeeded : Tables → List UseAt → ℕ → List NeededUse → Type 0
AreNeeded t uses from [] = NoneNeeded t uses from (2 ^ 32)
AreNeeded t uses from (one ∷ more) = IsNextNeeded t uses from one.name × (use_named t uses one.name ≡ Some one.at) × AreNeeded t uses (one.name + 1) more

-- two lists of uses have the same first use of each name from one number on and below another
abbrev pub AreAlike : Tables → List UseAt → List UseAt → ℕ → ℕ → Type 0
AreAlike t uses others from bound = (name : ℕ) → from ≤ name → name < bound → use_named t uses name ≡ use_named t others name

pub record IsUnlikeNext (t : Tables) (uses others : List UseAt) (from name : ℕ) : Type 0 where
  pub behind : from ≤ name
  pub within : name < 2 ^ 32
  pub alike : AreAlike t uses others from name

-- the number of a name, from a number on, such that both have the same first use of each name before it; or they have the same for all
-- from there on
abbrev pub IsNextUnlike : Tables → List UseAt → List UseAt → ℕ → Option ℕ → Type 0
IsNextUnlike t uses others from next = MatchOption next (AreAlike t uses others from (2 ^ 32)) (IsUnlikeNext t uses others from)

-- the table stands alone for some attribute uses
abbrev pub IsTableOf : Tables → List Bool → Result AttrTable Fault → Result AttrUses Fault → Type 0
IsTableOf t ids (Ok table) value = Answers t ids table.tables.store (Ok table.kept) value
IsTableOf t ids (Err fault) (Ok value) = ⊥
IsTableOf t ids (Err fault) (Err other) = fault ≡ other
