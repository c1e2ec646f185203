-- The rules of a simple type and of those that it is made of: Structures 3.14.6.
use Rattle.std.specs.Prelude.{Bool, true, false, not, List, [], ◌∷◌, Option, None, Some, slice_get}
use Rattle.xs_codes.specs.declared.builtin.Builtin.{Builtin}
use Rattle.xs_codes.specs.declared.builtin.Builtin.TheVariants.{AnySimpleType}
use Rattle.xs_codes.specs.declared.code.Code.TheVariants.{XSimpleBase, StPropsCorrect3, XSimpleFinal, CosListOfAtomic}
use Rattle.xs_codes.specs.declared.fault.Fault.{Fault}
use Rattle.xs_components.specs.Tables.{Tables}
use Rattle.xs_components.specs.declared.common.Methods.{Methods}
use Rattle.xs_components.specs.declared.common.Place.{Place}
use Rattle.xs_components.specs.declared.common.TypeId.{TypeId}
use Rattle.xs_components.specs.declared.common.TypeId.TheVariants as types
use Rattle.xs_components.specs.declared.simple.SimpleType.{SimpleType}
use Rattle.facet_rules.specs.First.{Rule, rule}

abbrev pub no_fault : Option Fault
no_fault = None

abbrev pub finals_in : Option SimpleType → Option Methods
finals_in None = None
finals_in (Some part) = Some part.finals

-- the methods by which no type is derived from this one; a built-in type has none
abbrev pub finals_of : Tables → TypeId → Option Methods
finals_of t (types.Simple id) = finals_in (slice_get t.simples.parts id)
finals_of t _ = None

abbrev pub has_restriction : Option Methods → Bool
has_restriction None = false
has_restriction (Some finals) = finals.restriction

abbrev pub has_list : Option Methods → Bool
has_list None = false
has_list (Some finals) = finals.by_list

abbrev pub has_union : Option Methods → Bool
has_union None = false
has_union (Some finals) = finals.by_union

-- st-props-correct.3 (Structures 3.14.6): the base is final for restriction
abbrev pub is_final_for_restriction : Tables → TypeId → Bool
is_final_for_restriction t of = has_restriction (finals_of t of)

abbrev pub is_final_for_lists : Tables → TypeId → Bool
is_final_for_lists t of = has_list (finals_of t of)

abbrev pub is_final_for_unions : Tables → TypeId → Bool
is_final_for_unions t of = has_union (finals_of t of)

abbrev pub is_any : Builtin → Bool
is_any AnySimpleType = true
is_any _ = false

abbrev pub is_any_simple_type : TypeId → Bool
is_any_simple_type (types.Builtin kind) = is_any kind
is_any_simple_type _ = false

-- x-simple.base (own): the base of a restriction is anySimpleType. Behind it the base may be final for restriction.
abbrev pub base_rules : Tables → Place → TypeId → List Rule
base_rules t at base = rule (is_any_simple_type base) at XSimpleBase ∷ rule (is_final_for_restriction t base) at StPropsCorrect3 ∷ []

-- x-simple.final (own): the item type is final for lists. cos-list-of-atomic (Structures 3.14.6): it is a list, or a union that holds
-- one.
abbrev pub item_rules : Tables → Place → TypeId → Bool → List Rule
item_rules t at item is_atomic = rule (is_final_for_lists t item) at XSimpleFinal ∷ rule (not is_atomic) at CosListOfAtomic ∷ []

-- x-simple.final: a member type is final for unions
abbrev pub members_rules : Tables → Place → List TypeId → List Rule
members_rules t at [] = []
members_rules t at (member ∷ members) = rule (is_final_for_unions t member) at XSimpleFinal ∷ members_rules t at members
