-- What governs an attribute: Structures 3.2.4, 3.4.4 and 3.10.4.
use Rattle.std.specs.Prelude.{ℕ, Bool, true, false, Option, None, Some, Result, Ok, Err, slice_get}
use Rattle.std.specs.Option.{option_and_then}
use Rattle.xs_codes.specs.declared.code.Code.TheVariants.{CvcComplexType3_2_1, CvcComplexType3_2_2}
use Rattle.xs_codes.specs.declared.fault.Fault.{Fault}
use Rattle.xs_names.specs.Names.{NameTable, space_of}
use Rattle.xs_components.specs.Sets.{admits}
use Rattle.xs_components.specs.Tables.{Tables}
use Rattle.xs_components.specs.declared.attribute.AttrUse.{AttrUse}
use Rattle.xs_components.specs.declared.common.Process.{Process}
use Rattle.xs_components.specs.declared.common.Process.TheVariants.{Strict, Lax, Skip}
use Rattle.xs_components.specs.declared.common.TypeId.{TypeId}
use Rattle.xs_components.specs.declared.common.TypeId.TheVariants.{AnyType, Builtin, Simple, Complex}
use Rattle.xs_components.specs.declared.common.Wildcard.{Wildcard}
use Rattle.attr_uses.specs.declared.entry.UseAt.{UseAt}
use Rattle.attr_uses.specs.Written.{use_at}
use Rattle.attr_uses.specs.Uses.{AttrUses, no_uses, uses_of, use_named}
use Rattle.assess_records.specs.Instance.{instance_attribute}
use Rattle.assess_records.specs.declared.instance_names.InstanceAttribute.{InstanceAttribute}
use Rattle.component_tables.specs.Named.{attribute_with}
use Rattle.attr_assess.specs.declared.governing.AttrGoverning.{AttrGoverning}
use Rattle.attr_assess.specs.declared.governing.AttrGoverning.TheVariants.{Instance, Declared, Unassessed, Refused}
use Rattle.attr_assess.specs.Instance.{instance_type}

-- The attribute uses and the wildcard of a type. Those of an accepted schema set are not refused.
abbrev pub accepted_uses : Result AttrUses Fault → AttrUses
accepted_uses (Ok uses) = uses
accepted_uses (Err fault) = no_uses

abbrev pub uses_for : Tables → TypeId → AttrUses
uses_for t of = accepted_uses (uses_of t of)

-- by a declaration at the top, if there is one
abbrev pub by_top : Option ℕ → AttrGoverning → AttrGoverning
by_top None otherwise = otherwise
by_top (Some id) otherwise = Declared id None

-- Item Valid (Wildcard), Structures 3.10.4: under skip what is admitted is not assessed; under lax it is where a declaration at
-- the top has its name. cvc-complex-type.3.2.2 (Structures 3.4.4): the wildcard is strict, and no declaration has the name.
abbrev pub by_process : Process → Option ℕ → AttrGoverning
by_process Skip top = Unassessed
by_process Lax top = by_top top Unassessed
by_process Strict top = by_top top (Refused CvcComplexType3_2_2)

-- cvc-complex-type.3.2.2 (Structures 3.4.4): the wildcard does not admit the namespace of the name.
abbrev pub if_admitted : Bool → Process → Option ℕ → AttrGoverning
if_admitted true process top = by_process process top
if_admitted false process top = Refused CvcComplexType3_2_2

-- cvc-complex-type.3.2.1 (Structures 3.4.4): no use has the name, and there is no wildcard.
abbrev pub by_wildcard : Option Wildcard → ℕ → Option ℕ → AttrGoverning
by_wildcard None space top = Refused CvcComplexType3_2_1
by_wildcard (Some w) space top = if_admitted (admits w.namespaces space) w.process top

-- the declaration of a use, which is written there
abbrev pub by_written : UseAt → Option AttrUse → AttrGoverning
by_written u None = Unassessed
by_written u (Some part) = Declared part.attribute (Some u)

-- Structures 3.4.4: the declaration of the use with the name; else by the wildcard
abbrev pub by_use : Tables → Option UseAt → AttrGoverning → AttrGoverning
by_use t None wild = wild
by_use t (Some u) wild = by_written u (use_at t u)

-- among the attribute uses and the wildcard of a complex type
abbrev pub by_uses : Tables → NameTable → AttrUses → ℕ → AttrGoverning
by_uses t names value name =
    by_use t (use_named t value.uses name) (by_wildcard value.wildcard (space_of names name) (attribute_with t name))

-- Attributes of an element of simple type, other than the four, are not assessed (cvc-type.3.1.1 is a code of the element).
abbrev pub by_type : Tables → NameTable → TypeId → ℕ → AttrGoverning
by_type t names (Builtin kind) name = Unassessed
by_type t names (Simple id) name = Unassessed
by_type t names AnyType name = by_uses t names (uses_for t AnyType) name
by_type t names (Complex id) name = by_uses t names (uses_for t (Complex id)) name

-- the four need no use
abbrev pub unless_instance : Option InstanceAttribute → AttrGoverning → AttrGoverning
unless_instance None otherwise = otherwise
unless_instance (Some which) otherwise = Instance (instance_type which)

abbrev pub governing_by : Tables → NameTable → TypeId → ℕ → AttrGoverning
governing_by t names of name = unless_instance (instance_attribute names name) (by_type t names of name)

-- What governs the attribute of a name, by the governing type of its element, which a skipped element does not have.
abbrev pub attr_governing : Tables → NameTable → Option TypeId → ℕ → AttrGoverning
attr_governing t names None name = Unassessed
attr_governing t names (Some of) name = governing_by t names of name
