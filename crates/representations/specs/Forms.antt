-- The names that stand in what an element of a schema document declares.
use Rattle.std.specs.Prelude.{◌≡◌, ℕ, ◌||◌, Bool, true, false, List, [], ◌∷◌, Option, None, Some}
use Rattle.std.specs.Option.{unwrap_or}
use Rattle.tree_rows.specs.declared.name.Expanded.{Expanded}
use Rattle.xs_names.specs.Names.{NameTable, with_space}
use Rattle.schema_values.specs.declared.spaces.SpaceToken.{SpaceToken}
use Rattle.schema_values.specs.declared.spaces.SpaceToken.TheVariants as tokens
use Rattle.schema_values.specs.declared.spaces.Spaces.{Spaces}
use Rattle.schema_values.specs.declared.spaces.Spaces.TheVariants as spaces
use Rattle.schema_shape.specs.declared.forms.AttributeForm.{AttributeForm}
use Rattle.schema_shape.specs.declared.forms.ElementForm.{ElementForm}
use Rattle.schema_shape.specs.declared.forms.Form.{Form}
use Rattle.schema_shape.specs.declared.forms.Form.TheVariants as forms
use Rattle.representations.specs.declared.naming.Naming.{Naming}
use Rattle.representations.specs.Naming.{with_space_of, with_declared, with_global, with_reference, with_reference_if}

-- Structures 3.3.2: a local element is in the target namespace by form, else by the document's default
abbrev pub element_table : Naming → ElementForm → NameTable → NameTable
element_table naming form t =
    with_reference_if naming form.head (with_reference_if naming form.of (with_reference_if naming form.reference
    (with_declared naming (form.global || unwrap_or form.qualified naming.elements_qualified) form.name t)))

-- Structures 3.2.2: likewise an attribute
abbrev pub attribute_table : Naming → AttributeForm → NameTable → NameTable
attribute_table naming form t =
    with_reference_if naming form.of (with_reference_if naming form.reference
    (with_declared naming (form.global || unwrap_or form.qualified naming.attributes_qualified) form.name t))

abbrev pub members_table : Naming → List Expanded → NameTable → NameTable
members_table naming [] t = t
members_table naming (member ∷ members) t = members_table naming members (with_reference naming member t)

-- the namespaces that a wildcard lists by name
abbrev pub token_table : SpaceToken → NameTable → NameTable
token_table tokens.Target t = t
token_table tokens.Local t = t
token_table (tokens.Named space) t = with_space t space

abbrev pub tokens_table : List SpaceToken → NameTable → NameTable
tokens_table [] t = t
tokens_table (token ∷ more) t = tokens_table more (token_table token t)

abbrev pub spaces_table : Spaces → NameTable → NameTable
spaces_table spaces.Any t = t
spaces_table spaces.Other t = t
spaces_table (spaces.These listed) t = tokens_table listed t

-- the table with the names of a form
abbrev pub form_table : Naming → Form → NameTable → NameTable
form_table naming (forms.Import namespace location) t = with_space_of t namespace
form_table naming (forms.Element form) t = element_table naming form t
form_table naming (forms.Attribute form) t = attribute_table naming form t
form_table naming (forms.ComplexType form) t = with_declared naming true form.name t
form_table naming (forms.SimpleType name finals) t = with_declared naming true name t
form_table naming (forms.Group name) t = with_global naming name t
form_table naming (forms.AttributeGroup name) t = with_global naming name t
form_table naming (forms.Identity kind name refer) t = with_reference_if naming refer (with_global naming name t)
form_table naming (forms.Derivation by_extension base) t = with_reference_if naming base t
form_table naming (forms.GroupReference to occurs) t = with_reference_if naming to t
form_table naming (forms.AttributeGroupReference to) t = with_reference_if naming to t
form_table naming (forms.Any wildcard occurs) t = spaces_table wildcard.spaces t
form_table naming (forms.AnyAttribute wildcard) t = spaces_table wildcard.spaces t
form_table naming (forms.Restriction base) t = with_reference_if naming base t
form_table naming (forms.ItemType of) t = with_reference_if naming of t
form_table naming (forms.Union members) t = members_table naming members t
form_table naming _ t = t
