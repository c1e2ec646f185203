-- What stays in the store, and what is made in it.
use Rattle.std.specs.Prelude.{◌≡◌, ℕ, Bool, false, ◌<◌, List, Option, None, Some, Result, Ok, Err, ⊤, map, length, slice_get, slice_index}
use Rattle.std.specs.Option.{option_map}
use Rattle.xs_codes.specs.declared.fault.Fault.{Fault}
use Rattle.xs_components.specs.Sets.{admits}
use Rattle.xs_components.specs.declared.namespace_constraint.NsConstraint.{NsConstraint}
use Rattle.xs_components.specs.Tables.{Tables}
use Rattle.xs_components.specs.declared.common.Wildcard.{Wildcard}
use Rattle.xs_components.specs.declared.common.TypeId.{TypeId}
use Rattle.xs_components.specs.declared.common.TypeId.TheVariants.{AnyType, Builtin, Simple, Complex}
use Rattle.attr_uses.specs.Maps.{KeepsMaps}
use Rattle.attr_uses.specs.declared.entry.Entry.{Entry}
use Rattle.attr_uses.specs.declared.entry.UseAt.{UseAt}
use Rattle.attr_uses.specs.declared.entry.UseHolder.{UseHolder}
use Rattle.attr_uses.specs.Wildcards.{intersection, union}
use Rattle.attr_uses.specs.Written.{OwnParts, use_name}
use Rattle.attr_uses.specs.Uses.{AttrUses, no_uses, own_uses, with_group, with_groups, accepted_groups, or_fault, group_uses, uses_of}
use Rattle.attr_uses.specs.Tables.{StandsFor, Answers, IsAnswer, is_needed, is_id, IsWildcard, kept_wildcard, IsKeptWildcard}
use Rattle.attr_uses.specs.declared.store.KeptTable.{KeptTable}
use Rattle.attr_uses.specs.declared.store.Store.{Store}
use Rattle.attr_uses.specs.declared.wildcards.Joining.{Joining}
use Rattle.attr_uses.specs.declared.wildcards.Joining.TheVariants.{Intersection, Union}

-- the entry of one use
abbrev pub entry_alone : Tables → List Bool → UseAt → Entry
entry_alone t ids u = record { first = u; double = false; needed = is_needed t u; id = is_id t ids u }

-- the entry of one use, with its name
abbrev pub named_entry : Tables → List Bool → UseAt → Option (ℕ × Entry)
named_entry t ids u = option_map (λ name. (name, entry_alone t ids u)) (use_name t u)

-- all maps and all wildcards are as they were
pub record Keeps (old new : Store) : Type 0 where
  pub maps : KeepsMaps old.maps new.maps
  pub wildcards : (n : ℕ) (w : Wildcard) → slice_get old.wildcards n ≡ Some w → slice_get new.wildcards n ≡ Some w

abbrev pub join_of : Joining → NsConstraint → NsConstraint → Option NsConstraint
join_of Intersection = intersection
join_of Union = union

abbrev pub SameSet : NsConstraint → NsConstraint → Type 0
SameSet a b = (ns : ℕ) → admits a ns ≡ admits b ns

-- both none, or one set of namespaces
abbrev pub IsFound : Option NsConstraint → Option NsConstraint → Type 0
IsFound None None = ⊤
IsFound None (Some b) = ⊥
IsFound (Some a) None = ⊥
IsFound (Some a) (Some b) = SameSet a b

-- a form, or none where there is none
abbrev pub IsForm : List Wildcard → Option (Option ℕ) → Option (Option Wildcard) → Type 0
IsForm kept None None = ⊤
IsForm kept None (Some w) = ⊥
IsForm kept (Some n) None = ⊥
IsForm kept (Some n) (Some w) = IsKeptWildcard kept n × IsWildcard (kept_wildcard kept n) w

abbrev pub IsMade : Tables → List Bool → Store → Option KeptTable → Option AttrUses → Type 0
IsMade t ids store None None = ⊤
IsMade t ids store None (Some value) = ⊥
IsMade t ids store (Some table) None = ⊥
IsMade t ids store (Some table) (Some value) = StandsFor t ids store table value

-- the answer for the number of a component, which is missing where the number is of none
abbrev pub IsAnswerAt : Tables → List Bool → Store → Option (Result KeptTable Fault) → Result AttrUses Fault → Type 0
IsAnswerAt t ids store None value = value ≡ Ok no_uses
IsAnswerAt t ids store (Some answer) value = Answers t ids store answer value

-- some attribute uses that a kept table stands for
abbrev pub IsTable : Store → KeptTable → Type 0
IsTable store table = (t : Tables) × (ids : List Bool) × (value : AttrUses) × StandsFor t ids store table value

-- the uses and those of a group, if it is not refused
abbrev pub with_next : AttrUses → Result AttrUses Fault → Option AttrUses
with_next value (Ok group) = with_group value group
with_next value (Err fault) = Some value

abbrev pub fault_of : Option (Result KeptTable Fault) → Option Fault
fault_of None = None
fault_of (Some (Ok table)) = None
fault_of (Some (Err fault)) = Some fault

abbrev pub table_or : Option KeptTable → Fault → Result KeptTable Fault
table_or None fault = Err fault
table_or (Some table) fault = Ok table

-- the uses with those of groups, none of which is refused
abbrev pub accepted_uses : (ℕ → Result AttrUses Fault) → UseHolder → OwnParts → Result AttrUses Fault
accepted_uses group holder own = or_fault own.no_form (with_groups (own_uses holder own) (accepted_groups (map group own.groups)))

abbrev pub table_of : Option (Result KeptTable Fault) → Option KeptTable
table_of None = None
table_of (Some (Ok table)) = Some table
table_of (Some (Err fault)) = None

-- the types that are made of no others, and a complex type whose answer is there
abbrev pub IsKnown : Tables → List Bool → Store → List (Result KeptTable Fault) → TypeId → Type 0
IsKnown t ids store types AnyType = ⊤
IsKnown t ids store types (Builtin b) = ⊤
IsKnown t ids store types (Simple id) = ⊤
IsKnown t ids store types (Complex id) = IsAnswer t ids store (slice_get types id) (uses_of t (Complex id))

-- the answers for all components of lower rank are there
abbrev pub AreBelow : ℕ → List ℕ → ℕ → (ℕ → Type 0) → Type 0
AreBelow count ranks rank P = (y : ℕ) → y < count → slice_index ranks y < rank → P y

abbrev pub IsGroupAnswer : Tables → List Bool → Store → List (Result KeptTable Fault) → ℕ → Type 0
IsGroupAnswer t ids store groups n = IsAnswer t ids store (slice_get groups n) (group_uses t n)

abbrev pub IsTypeAnswer : Tables → List Bool → Store → List (Result KeptTable Fault) → ℕ → Type 0
IsTypeAnswer t ids store types n = IsAnswer t ids store (slice_get types n) (uses_of t (Complex n))

-- the answers for all attribute groups are there
pub record AreGroups (t : Tables) (ids : List Bool) (store : Store) (groups : List (Result KeptTable Fault)) : Type 0 where
  pub alike : length groups ≡ length t.attr_groups.parts
  pub each : (n : ℕ) → n < length t.attr_groups.parts → IsGroupAnswer t ids store groups n

-- the answers for all complex types are there
pub record AreTypes (t : Tables) (ids : List Bool) (store : Store) (types : List (Result KeptTable Fault)) : Type 0 where
  pub alike : length types ≡ length t.complexes.parts
  pub each : (n : ℕ) → n < length t.complexes.parts → IsTypeAnswer t ids store types n
