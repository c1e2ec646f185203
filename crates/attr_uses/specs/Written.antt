-- What a complex type or an attribute group has of its own, and where an attribute use is written.
use Rattle.std.specs.Prelude.{ℕ, suc, Bool, false, ◌==◌, List, [], ◌∷◌, ◌++◌, not, filter, Option, None, Some, slice_get}
use Rattle.std.specs.List.{list_any}
use Rattle.std.specs.Option.{option_map, option_and_then}
use Rattle.xs_codes.specs.declared.code.Code.{Code}
use Rattle.xs_codes.specs.declared.code.Code.TheVariants.{SrcAttributeGroup2, SrcCt4}
use Rattle.xs_codes.specs.declared.fault.Fault.{Fault}
use Rattle.attr_uses.specs.Entries.{same_use}
use Rattle.attr_uses.specs.declared.entry.UseHolder.{UseHolder}
use Rattle.attr_uses.specs.declared.entry.UseHolder.TheVariants.{Complex as OfType, AttrGroup as OfGroup}
use Rattle.attr_uses.specs.declared.entry.UseAt.{UseAt}
use Rattle.xs_components.specs.Tables.{Tables}
use Rattle.xs_components.specs.declared.common.Place.{Place}
use Rattle.xs_components.specs.declared.common.Wildcard.{Wildcard}
use Rattle.xs_components.specs.declared.attribute.AttrUse.{AttrUse}
use Rattle.xs_components.specs.declared.complex.ComplexType.{ComplexType}
use Rattle.xs_components.specs.declared.attr_group.AttrGroupDef.{AttrGroupDef}

-- what stands in a component itself, and the fault of an intersection of wildcards without a form
pub record OwnParts : Type 0 where
  pub uses : List AttrUse
  pub groups : List ℕ
  pub prohibited : List ℕ
  pub wildcard : Option Wildcard
  pub no_form : Fault

abbrev pub fault_at : Place → Code → Fault
fault_at at code = record { phase = 6; document = at.document; item = at.item; code = code }

-- src-ct.4 (Structures 3.4.3): the intersection of the wildcards of a complex type has no form.
abbrev pub own_of_type : Option ComplexType → OwnParts
own_of_type None = record { uses = []; groups = []; prohibited = []; wildcard = None; no_form = fault_at record { document = 0; item = 0 } SrcCt4 }
own_of_type (Some part) = record {
  uses = part.uses;
  groups = part.groups;
  prohibited = part.prohibited;
  wildcard = part.wildcard;
  no_form = fault_at part.at SrcCt4;
}

-- src-attribute_group.2 (Structures 3.6.3): the intersection of the wildcards of an attribute group has no form.
abbrev pub own_of_group : Option AttrGroupDef → OwnParts
own_of_group None = record { uses = []; groups = []; prohibited = []; wildcard = None; no_form = fault_at record { document = 0; item = 0 } SrcAttributeGroup2 }
own_of_group (Some part) = record {
  uses = part.uses;
  groups = part.groups;
  prohibited = part.prohibited;
  wildcard = part.wildcard;
  no_form = fault_at part.at SrcAttributeGroup2;
}

abbrev pub own_parts : Tables → UseHolder → OwnParts
own_parts t (OfType n) = own_of_type (slice_get t.complexes.parts n)
own_parts t (OfGroup n) = own_of_group (slice_get t.attr_groups.parts n)

-- the attribute use that is written there
abbrev pub use_at : Tables → UseAt → Option AttrUse
use_at t u = slice_get (own_parts t u.holder).uses u.place

-- the name of its declaration
abbrev pub use_name : Tables → UseAt → Option ℕ
use_name t u = option_and_then (λ part. option_map (λ decl. decl.name) (slice_get t.attributes.parts part.attribute)) (use_at t u)

abbrev pub is_name : Option ℕ → ℕ → Bool
is_name None name = false
is_name (Some own) name = own == name

abbrev pub has_name : Tables → ℕ → UseAt → Bool
has_name t name u = is_name (use_name t u) name

-- where the uses of one component are written, from a place on
abbrev pub places : UseHolder → ℕ → List AttrUse → List UseAt
places holder place [] = []
places holder place (part ∷ parts) = record { holder = holder; place = place } ∷ places holder (suc place) parts

-- the uses of one list, and those of another that are not among them: an `attribute` element that is reached twice is one use
abbrev pub united_uses : List UseAt → List UseAt → List UseAt
united_uses some more = some ++ filter (λ u. not (list_any (same_use u) some)) more
