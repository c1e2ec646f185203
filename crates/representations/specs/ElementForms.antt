-- What an element of a schema document represents, by what it declares (Structures 3).
use Rattle.std.specs.Prelude.{ℕ, ◌||◌, Bool, true, false, List, Option, Some}
use Rattle.std.specs.Option.{option_map, unwrap_or}
use Rattle.tree_rows.specs.declared.name.Expanded.{Expanded}
use Rattle.xs_names.specs.Names.{NameTable}
use Rattle.xs_components.specs.declared.common.Methods.{Methods}
use Rattle.schema_values.specs.declared.occurs.Occurs.{Occurs}
use Rattle.schema_shape.specs.declared.forms.AttributeForm.{AttributeForm}
use Rattle.schema_shape.specs.declared.forms.ComplexTypeForm.{ComplexTypeForm}
use Rattle.schema_shape.specs.declared.forms.Compositor.{Compositor}
use Rattle.schema_shape.specs.declared.forms.Compositor.TheVariants as compositors
use Rattle.schema_shape.specs.declared.forms.ElementForm.{ElementForm}
use Rattle.schema_shape.specs.declared.forms.Form.{Form}
use Rattle.schema_shape.specs.declared.forms.Form.TheVariants as shapes
use Rattle.schema_shape.specs.declared.forms.IdentityKind.{IdentityKind}
use Rattle.schema_shape.specs.declared.forms.IdentityKind.TheVariants as identities
use Rattle.schema_shape.specs.declared.forms.Use.{Use}
use Rattle.schema_shape.specs.declared.forms.Use.TheVariants as uses
use Rattle.schema_shape.specs.declared.forms.ValueForm.{ValueForm}
use Rattle.representations.specs.declared.naming.Naming.{Naming}
use Rattle.representations.specs.Naming.{declared_number, reference_number_if, name_in}
use Rattle.representations.specs.declared.parts.AttributeRepresentation.{AttributeRepresentation}
use Rattle.representations.specs.declared.parts.ComplexTypeRepresentation.{ComplexTypeRepresentation}
use Rattle.representations.specs.declared.parts.ElementRepresentation.{ElementRepresentation}
use Rattle.representations.specs.declared.parts.GivenValue.{GivenValue}
use Rattle.representations.specs.declared.parts.Represented.{Represented}
use Rattle.representations.specs.declared.parts.Represented.TheVariants as forms
use Rattle.representations.specs.declared.defaults.Defaults.{Defaults}
use Rattle.representations.specs.Methods.{chosen, for_derivation, for_substitution, for_simple_type}
use Rattle.representations.specs.Types.{type_name_if, type_names}
use Rattle.representations.specs.Wildcards.{wildcard_of}

abbrev pub given_value : Option ValueForm → Option GivenValue
given_value value = option_map (λ v. record { fixed = v.fixed; text = v.text }) value

abbrev pub flag : Option Bool → Bool
flag given = unwrap_or given false

abbrev pub is_required : Use → Bool
is_required uses.Required = true
is_required _ = false

abbrev pub is_prohibited : Use → Bool
is_prohibited uses.Prohibited = true
is_prohibited _ = false

-- Structures 3.9.2: how often it may come where it is a particle; else once
abbrev pub once : Occurs
once = record { min = 1; max = Some 1 }

abbrev pub occurs_in : Form → Occurs
occurs_in (shapes.Element form) = form.occurs
occurs_in (shapes.GroupReference to occurs) = occurs
occurs_in (shapes.ModelGroup compositor occurs) = occurs
occurs_in (shapes.Any wildcard occurs) = occurs
occurs_in _ = once

-- Structures 3.8.2
abbrev pub model_group : Compositor → Represented
model_group compositors.All = forms.All
model_group compositors.Choice = forms.Choice
model_group compositors.Sequence = forms.Sequence

-- what has no names in it
abbrev pub nameless : Form → Represented
nameless (shapes.Selector path) = forms.Selector path
nameless (shapes.Field path) = forms.Field path
nameless shapes.SimpleContent = forms.SimpleContent
nameless (shapes.ComplexContent mixed) = forms.ComplexContent mixed
nameless (shapes.ModelGroup compositor occurs) = model_group compositor
nameless (shapes.Facet kind text fixed) = forms.Facet kind text fixed
nameless _ = forms.Nothing

-- by a table of names, in a document with these defaults
module _ (t : NameTable) (naming : Naming) (defaults : Defaults) where
  -- Structures 3.3.2: what is at the top is in the target namespace, and what is not by its form, else by the document's default
  abbrev pub element_of : ElementForm → ElementRepresentation
  element_of form = record {
    global = form.global;
    name = declared_number t naming (form.global || unwrap_or form.qualified naming.elements_qualified) form.name;
    reference = reference_number_if t naming form.reference;
    of = type_name_if t naming form.of;
    head = reference_number_if t naming form.head;
    value = given_value form.value;
    nillable = flag form.nillable;
    is_abstract = flag form.is_abstract;
    finals = for_derivation (chosen form.finals defaults.finals);
    blocks = for_substitution (chosen form.blocks defaults.blocks);
  }

  -- Structures 3.2.2
  abbrev pub attribute_of : AttributeForm → AttributeRepresentation
  attribute_of form = record {
    global = form.global;
    name = declared_number t naming (form.global || unwrap_or form.qualified naming.attributes_qualified) form.name;
    reference = reference_number_if t naming form.reference;
    of = type_name_if t naming form.of;
    value = given_value form.value;
    required = is_required form.used;
    prohibited = is_prohibited form.used;
  }

  -- Structures 3.4.2
  abbrev pub complex_type_of : ComplexTypeForm → ComplexTypeRepresentation
  complex_type_of form = record {
    name = declared_number t naming true form.name;
    is_abstract = flag form.is_abstract;
    finals = for_derivation (chosen form.finals defaults.finals);
    blocks = for_derivation (chosen form.blocks defaults.blocks);
    mixed = flag form.mixed;
  }

  -- Structures 3.14.2
  abbrev pub simple_type_of : Option (List ℕ) → Option Methods → Represented
  simple_type_of name finals = forms.SimpleType (declared_number t naming true name) (for_simple_type (chosen finals defaults.finals))

  -- Structures 3.11.2
  abbrev pub identity_of : IdentityKind → List ℕ → Option Expanded → Represented
  identity_of identities.Unique name refer = forms.Unique (name_in t naming.target name)
  identity_of identities.Key name refer = forms.Key (name_in t naming.target name)
  identity_of identities.Keyref name refer = forms.Keyref (name_in t naming.target name) (reference_number_if t naming refer)

  -- an import gives no component
  abbrev pub represented : Form → Represented
  represented (shapes.Import namespace location) = forms.Nothing
  represented (shapes.Element form) = forms.Element (element_of form)
  represented (shapes.Attribute form) = forms.Attribute (attribute_of form)
  represented (shapes.ComplexType form) = forms.ComplexType (complex_type_of form)
  represented (shapes.SimpleType name finals) = simple_type_of name finals
  represented (shapes.Group name) = forms.Group (name_in t naming.target name)
  represented (shapes.AttributeGroup name) = forms.AttributeGroup (name_in t naming.target name)
  represented (shapes.Identity kind name refer) = identity_of kind name refer
  represented (shapes.Derivation by_extension base) = forms.Derivation by_extension (type_name_if t naming base)
  represented (shapes.GroupReference to occurs) = forms.GroupReference (reference_number_if t naming to)
  represented (shapes.AttributeGroupReference to) = forms.AttributeGroupReference (reference_number_if t naming to)
  represented (shapes.Any wildcard occurs) = forms.Any (wildcard_of t naming wildcard)
  represented (shapes.AnyAttribute wildcard) = forms.AnyAttribute (wildcard_of t naming wildcard)
  represented (shapes.Restriction base) = forms.Restriction (type_name_if t naming base)
  represented (shapes.ItemType of) = forms.ItemType (type_name_if t naming of)
  represented (shapes.Union members) = forms.Union (type_names t naming members)
  represented form = nameless form
