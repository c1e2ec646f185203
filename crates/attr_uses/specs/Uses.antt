-- The attribute uses and the attribute wildcard of complex types and of attribute groups (Structures 3.4.2, 3.6.2).
use Rattle.std.specs.Prelude.{ℕ, ◌==◌, Bool, false, ◌&&◌, not, List, [], ◌∷◌, ◌++◌, map, filter, Option, None, Some, Result, Ok, Err, slice_get, slice_index, if◌then◌else◌}
use Rattle.std.specs.List.{list_any}
use Rattle.std.specs.Option.{option_map, option_and_then}
use Rattle.xs_codes.specs.declared.code.Code.TheVariants.{SrcCt5}
use Rattle.xs_codes.specs.declared.fault.Fault.{Fault}
use Rattle.xs_components.specs.declared.namespace_constraint.NsConstraint.TheVariants.{Any}
use Rattle.xs_components.specs.Tables.{Tables}
use Rattle.xs_components.specs.declared.common.Wildcard.{Wildcard}
use Rattle.xs_components.specs.declared.common.Process.TheVariants.{Lax}
use Rattle.xs_components.specs.declared.common.TypeId.{TypeId}
use Rattle.xs_components.specs.declared.common.TypeId.TheVariants.{AnyType, Builtin, Simple, Complex}
use Rattle.xs_components.specs.declared.complex.ComplexType.{ComplexType}
use Rattle.component_references.specs.Descent.{along}
use Rattle.component_references.specs.Heights.{type_height}
use Rattle.attr_uses.specs.declared.entry.UseAt.{UseAt}
use Rattle.attr_uses.specs.declared.entry.UseHolder.{UseHolder}
use Rattle.attr_uses.specs.declared.entry.UseHolder.TheVariants.{Complex as OfType, AttrGroup as OfGroup}
use Rattle.attr_uses.specs.Wildcards.{joined_wildcard, intersection, union}
use Rattle.attr_uses.specs.Written.{OwnParts, fault_at, own_of_type, own_parts, use_name, has_name, places, united_uses}

-- the attribute uses, the names of prohibited attributes, and the wildcard
pub record AttrUses : Type 0 where
  pub uses : List UseAt
  pub prohibited : List ℕ
  pub wildcard : Option Wildcard

abbrev pub no_uses : AttrUses
no_uses = record { uses = []; prohibited = []; wildcard = None }

-- what is written in a component
abbrev pub own_uses : UseHolder → OwnParts → AttrUses
own_uses holder own = record { uses = places holder 0 own.uses; prohibited = own.prohibited; wildcard = own.wildcard }

-- The uses of a component, and then those of an attribute group that it refers to; the wildcard is the intersection of both
-- (the complete wildcard, Structures 3.4.2). None where it has no form.
abbrev pub with_group : AttrUses → AttrUses → Option AttrUses
with_group own group =
    option_map (λ wildcard. record { uses = united_uses own.uses group.uses; prohibited = own.prohibited ++ group.prohibited; wildcard = wildcard })
    (joined_wildcard intersection own.wildcard group.wildcard)

-- one group after another
abbrev pub with_groups : AttrUses → List AttrUses → Option AttrUses
with_groups own [] = Some own
with_groups own (group ∷ groups) = option_and_then (λ both. with_groups both groups) (with_group own group)

abbrev pub or_fault : Fault → Option AttrUses → Result AttrUses Fault
or_fault fault None = Err fault
or_fault fault (Some uses) = Ok uses

-- the fault of the first that is refused
abbrev pub first_refusal : List (Result AttrUses Fault) → Option Fault
first_refusal [] = None
first_refusal (Ok uses ∷ rest) = first_refusal rest
first_refusal (Err fault ∷ rest) = Some fault

-- those that are not refused
abbrev pub accepted_groups : List (Result AttrUses Fault) → List AttrUses
accepted_groups [] = []
accepted_groups (Ok uses ∷ rest) = uses ∷ accepted_groups rest
accepted_groups (Err fault ∷ rest) = accepted_groups rest

abbrev pub refused_or : Option Fault → Result AttrUses Fault → Result AttrUses Fault
refused_or None uses = uses
refused_or (Some fault) uses = Err fault

-- The uses that a component has of its own and by its attribute groups, and its complete wildcard (Structures 3.4.2, 3.6.2). It is
-- refused where a group is, and where the wildcards have no intersection.
abbrev pub uses_with_groups : (ℕ → Result AttrUses Fault) → UseHolder → OwnParts → Result AttrUses Fault
uses_with_groups group holder own =
    refused_or (first_refusal (map group own.groups)) (or_fault own.no_form (with_groups (own_uses holder own) (accepted_groups (map group own.groups))))

abbrev pub group_step : Tables → (ℕ → Result AttrUses Fault) → ℕ → Result AttrUses Fault
group_step t group n = uses_with_groups group (OfGroup n) (own_parts t (OfGroup n))

-- Of an attribute group (Structures 3.6.2); a fault where an intersection of wildcards that it is made of has no form.
unfoldable pub group_uses : Tables → ℕ → Result AttrUses Fault
group_uses t n = along (slice_index t.attr_groups.ranks) (Ok no_uses) (group_step t) n

-- whether one of these uses has the name
abbrev pub name_among : Tables → List UseAt → Option ℕ → Bool
name_among t uses None = false
name_among t uses (Some name) = list_any (has_name t name) uses

abbrev pub is_listed : List ℕ → Option ℕ → Bool
is_listed names None = false
is_listed names (Some name) = list_any (λ other. other == name) names

-- A use of the base that a restriction leaves: no use of the type has its name, and its name is not prohibited.
abbrev pub is_left : Tables → AttrUses → UseAt → Bool
is_left t own u = not (name_among t own.uses (use_name t u)) && not (is_listed own.prohibited (use_name t u))

-- By restriction: the uses of the type and those of the base that it leaves; the wildcard is that of the type.
abbrev pub restricted_uses : Tables → AttrUses → AttrUses → AttrUses
restricted_uses t own base = record own { uses = own.uses ++ filter (is_left t own) base.uses }

-- By extension: the uses of the type and those of the base; the wildcard is the union of both.
abbrev pub extended_uses : AttrUses → AttrUses → Option AttrUses
extended_uses own base =
    option_map (λ wildcard. record { uses = united_uses own.uses base.uses; prohibited = own.prohibited; wildcard = wildcard })
    (joined_wildcard union own.wildcard base.wildcard)

-- src-ct.5 (Structures 3.4.3): the union with the wildcard of the base has no form.
abbrev pub with_base : Tables → ComplexType → AttrUses → AttrUses → Result AttrUses Fault
with_base t part own base = if part.by_extension then or_fault (fault_at part.at SrcCt5) (extended_uses own base) else Ok (restricted_uses t own base)

abbrev pub with_base_of : Tables → ComplexType → AttrUses → Result AttrUses Fault → Result AttrUses Fault
with_base_of t part own (Err fault) = Err fault
with_base_of t part own (Ok base) = with_base t part own base

abbrev pub with_own : Tables → ComplexType → Result AttrUses Fault → Result AttrUses Fault → Result AttrUses Fault
with_own t part (Err fault) base = Err fault
with_own t part (Ok own) base = with_base_of t part own base

abbrev pub type_part : Tables → (TypeId → Result AttrUses Fault) → ℕ → Option ComplexType → Result AttrUses Fault
type_part t uses n None = Ok no_uses
type_part t uses n (Some part) = with_own t part (uses_with_groups (group_uses t) (OfType n) (own_of_type (Some part))) (uses part.base)

-- what admits every namespace, and is lax
abbrev pub any_wildcard : Wildcard
any_wildcard = record { namespaces = Any; process = Lax }

-- anyType has no attribute uses, and a wildcard that admits every namespace and is lax (Structures 3.4.7).
abbrev pub any_type_uses : AttrUses
any_type_uses = record { uses = []; prohibited = []; wildcard = Some any_wildcard }

abbrev pub type_step : Tables → (TypeId → Result AttrUses Fault) → TypeId → Result AttrUses Fault
type_step t uses AnyType = Ok any_type_uses
type_step t uses (Builtin b) = Ok no_uses
type_step t uses (Simple id) = Ok no_uses
type_step t uses (Complex id) = type_part t uses id (slice_get t.complexes.parts id)

-- The attribute uses and the attribute wildcard of a type (Structures 3.4.2); a fault where an intersection or a union of
-- wildcards that they are made of has no form.
unfoldable pub uses_of : Tables → TypeId → Result AttrUses Fault
uses_of t of = along (type_height t) (Ok no_uses) (type_step t) of

abbrev pub first_of : List UseAt → Option UseAt
first_of [] = None
first_of (u ∷ us) = Some u

-- the first use of a name
abbrev pub use_named : Tables → List UseAt → ℕ → Option UseAt
use_named t uses name = first_of (filter (has_name t name) uses)
