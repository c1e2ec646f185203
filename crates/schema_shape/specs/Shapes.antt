-- What an element of a schema document declares (Structures, appendix A). A part is none where its attribute is not there. Each
-- element declares something; what one with a fault declares is of no account.
use Rattle.std.specs.Prelude.{ℕ, Bool, true, false, List, [], ◌∷◌, ◌++◌, Option, Some, None, if◌then◌else◌, codes}
use Rattle.std.specs.Option.{option_map, option_and_then, option_or, unwrap_or}
use Rattle.std.specs.Str.{bytes_eq}
use Rattle.tag_names.specs.Scopes.{namespace_named}
use Rattle.tree_rows.specs.Forest.{Forest, none, text as text_node, element}
use Rattle.tree_rows.specs.declared.row.Attribute.{Attribute}
use Rattle.tree_rows.specs.declared.row.Binding.{Binding}
use Rattle.xs_components.specs.declared.common.Process.{Process}
use Rattle.xs_components.specs.declared.common.Process.TheVariants as process
use Rattle.xs_components.specs.declared.simple.FacetKind.{FacetKind}
use Rattle.xs_components.specs.declared.simple.FacetKind.TheVariants as facets
use Rattle.schema_values.specs.GrammarNames.{tag_of}
use Rattle.schema_values.specs.Table.{is_in}
use Rattle.schema_values.specs.declared.grammar_kinds.AttributeName.{AttributeName}
use Rattle.schema_values.specs.declared.grammar_kinds.AttributeName.TheVariants as an
use Rattle.schema_values.specs.declared.grammar_kinds.Class.TheVariants as c
use Rattle.schema_values.specs.declared.grammar_kinds.Kind.{Kind}
use Rattle.schema_values.specs.declared.grammar_kinds.Kind.TheVariants as k
use Rattle.schema_values.specs.Attributes.{raw_of, value_of, name_of, names_of, flag_of, methods_of}
use Rattle.schema_values.specs.Occurrences.{occurs_of}
use Rattle.schema_values.specs.Spaces.{spaces_of}
use Rattle.schema_values.specs.declared.spaces.Spaces.{Spaces}
use Rattle.schema_values.specs.declared.spaces.Spaces.TheVariants as spaces
use Rattle.schema_faults.specs.Constructs.{Construct}
use Rattle.schema_shape.specs.declared.forms.AttributeForm.{AttributeForm}
use Rattle.schema_shape.specs.declared.forms.ComplexTypeForm.{ComplexTypeForm}
use Rattle.schema_shape.specs.declared.forms.Compositor.{Compositor}
use Rattle.schema_shape.specs.declared.forms.Compositor.TheVariants as compositors
use Rattle.schema_shape.specs.declared.forms.ElementForm.{ElementForm}
use Rattle.schema_shape.specs.declared.forms.Form.{Form}
use Rattle.schema_shape.specs.declared.forms.Form.TheVariants as forms
use Rattle.schema_shape.specs.declared.forms.IdentityKind.{IdentityKind}
use Rattle.schema_shape.specs.declared.forms.IdentityKind.TheVariants as identities
use Rattle.schema_shape.specs.declared.forms.SchemaForm.{SchemaForm}
use Rattle.schema_shape.specs.declared.forms.Shape.{Shape}
use Rattle.schema_shape.specs.declared.forms.Use.{Use}
use Rattle.schema_shape.specs.declared.forms.Use.TheVariants as uses
use Rattle.schema_shape.specs.declared.forms.ValueForm.{ValueForm}
use Rattle.schema_shape.specs.declared.forms.WildcardForm.{WildcardForm}

-- the value of an attribute that is required
abbrev pub required_of : AttributeName → List Attribute → List ℕ
required_of name attributes = unwrap_or (value_of name attributes) []

-- whether a form attribute says qualified
abbrev pub qualified_of : AttributeName → List Attribute → Option Bool
qualified_of name attributes = option_map (bytes_eq (codes "qualified")) (value_of name attributes)

-- the default or fixed value, as it stands (Structures 3.2.2, 3.3.2)
abbrev pub value_form : List Attribute → Option ValueForm
value_form attributes =
    option_or (option_map (λ text. record { fixed = true; text = text }) (raw_of an.Fixed attributes))
    (option_map (λ text. record { fixed = false; text = text }) (raw_of an.Default attributes))

-- the schema element (Structures 3.15.2); an empty target is that of the absent namespace
abbrev pub target_of : List Attribute → Option (List ℕ)
target_of attributes = option_and_then namespace_named (value_of an.TargetNamespace attributes)

abbrev pub schema_form : List Attribute → SchemaForm
schema_form attributes = record {
  target = target_of attributes;
  finals = methods_of an.FinalDefault attributes;
  blocks = methods_of an.BlockDefault attributes;
  elements_qualified = qualified_of an.ElementFormDefault attributes;
  attributes_qualified = qualified_of an.AttributeFormDefault attributes;
}

-- Structures 3.3.2
abbrev pub element_form : Bool → List Binding → List Attribute → ElementForm
element_form global scope attributes = record {
  global = global;
  name = value_of an.Name attributes;
  reference = name_of an.Ref scope attributes;
  of = name_of an.Type scope attributes;
  head = name_of an.SubstitutionGroup scope attributes;
  value = value_form attributes;
  nillable = flag_of an.Nillable attributes;
  is_abstract = flag_of an.Abstract attributes;
  finals = methods_of an.Final attributes;
  blocks = methods_of an.Block attributes;
  qualified = qualified_of an.Form attributes;
  occurs = occurs_of attributes;
}

-- the use is optional where it is not there
abbrev pub use_of : List ℕ → Use
use_of text =
    if bytes_eq text (codes "required") then uses.Required
    else (if bytes_eq text (codes "prohibited") then uses.Prohibited else uses.Optional)

-- Structures 3.2.2
abbrev pub attribute_form : Bool → List Binding → List Attribute → AttributeForm
attribute_form global scope attributes = record {
  global = global;
  name = value_of an.Name attributes;
  reference = name_of an.Ref scope attributes;
  of = name_of an.Type scope attributes;
  value = value_form attributes;
  qualified = qualified_of an.Form attributes;
  used = use_of (required_of an.Use attributes);
}

-- Structures 3.4.2
abbrev pub complex_type_form : List Attribute → ComplexTypeForm
complex_type_form attributes = record {
  name = value_of an.Name attributes;
  is_abstract = flag_of an.Abstract attributes;
  finals = methods_of an.Final attributes;
  blocks = methods_of an.Block attributes;
  mixed = flag_of an.Mixed attributes;
}

-- a wildcard is strict where processContents is not there, and of any namespace where namespace is not there (Structures 3.10.2)
abbrev pub process_of : List ℕ → Process
process_of text =
    if bytes_eq text (codes "lax") then process.Lax
    else (if bytes_eq text (codes "skip") then process.Skip else process.Strict)

abbrev pub spaces_by : Option (List ℕ) → Spaces
spaces_by None = spaces.Any
spaces_by (Some text) = spaces_of text

abbrev pub wildcard_form : List Attribute → WildcardForm
wildcard_form attributes = record {
  spaces = spaces_by (value_of an.Namespace attributes);
  process = process_of (required_of an.ProcessContents attributes);
}

-- a facet's value as it stands (Datatypes 4.3)
abbrev pub facet : FacetKind → List Attribute → Form
facet kind attributes = forms.Facet kind (unwrap_or (raw_of an.Value attributes) []) (unwrap_or (flag_of an.Fixed attributes) false)

-- Structures 3.11.2
abbrev pub identity : IdentityKind → List Binding → List Attribute → Form
identity kind scope attributes = forms.Identity kind (required_of an.Name attributes) (name_of an.Refer scope attributes)

-- the facets and what else stands in simple types (Structures 3.14.2)
abbrev pub simple_form : Kind → List Binding → List Attribute → Form
simple_form k.Restriction scope attributes = forms.Restriction (name_of an.Base scope attributes)
simple_form k.List scope attributes = forms.ItemType (name_of an.ItemType scope attributes)
simple_form k.Union scope attributes = forms.Union (names_of an.MemberTypes scope attributes)
simple_form k.Length scope attributes = facet facets.Length attributes
simple_form k.MinLength scope attributes = facet facets.MinLength attributes
simple_form k.MaxLength scope attributes = facet facets.MaxLength attributes
simple_form k.Pattern scope attributes = facet facets.Pattern attributes
simple_form k.Enumeration scope attributes = facet facets.Enumeration attributes
simple_form k.WhiteSpace scope attributes = facet facets.WhiteSpace attributes
simple_form k.MaxInclusive scope attributes = facet facets.MaxInclusive attributes
simple_form k.MaxExclusive scope attributes = facet facets.MaxExclusive attributes
simple_form k.MinInclusive scope attributes = facet facets.MinInclusive attributes
simple_form k.MinExclusive scope attributes = facet facets.MinExclusive attributes
simple_form k.TotalDigits scope attributes = facet facets.TotalDigits attributes
simple_form k.FractionDigits scope attributes = facet facets.FractionDigits attributes
simple_form _ scope attributes = forms.Nothing

abbrev pub derivation : Bool → List Binding → List Attribute → Form
derivation by_extension scope attributes = forms.Derivation by_extension (name_of an.Base scope attributes)

abbrev pub model_group : Compositor → List Attribute → Form
model_group compositor attributes = forms.ModelGroup compositor (occurs_of attributes)

-- what stands in complex types and groups (Structures 3.4.2, 3.6.2, 3.7.2, 3.8.2, 3.10.2)
abbrev pub content_form : Kind → List Binding → List Attribute → Form
content_form k.SimpleContent scope attributes = forms.SimpleContent
content_form k.ComplexContent scope attributes = forms.ComplexContent (flag_of an.Mixed attributes)
content_form k.SimpleContentRestriction scope attributes = derivation false scope attributes
content_form k.SimpleContentExtension scope attributes = derivation true scope attributes
content_form k.ComplexContentRestriction scope attributes = derivation false scope attributes
content_form k.ComplexContentExtension scope attributes = derivation true scope attributes
content_form k.GroupReference scope attributes = forms.GroupReference (name_of an.Ref scope attributes) (occurs_of attributes)
content_form k.AttributeGroupReference scope attributes = forms.AttributeGroupReference (name_of an.Ref scope attributes)
content_form k.NamedAll scope attributes = model_group compositors.All attributes
content_form k.NamedChoice scope attributes = model_group compositors.Choice attributes
content_form k.NamedSequence scope attributes = model_group compositors.Sequence attributes
content_form k.All scope attributes = model_group compositors.All attributes
content_form k.Choice scope attributes = model_group compositors.Choice attributes
content_form k.Sequence scope attributes = model_group compositors.Sequence attributes
content_form k.Any scope attributes = forms.Any (wildcard_form attributes) (occurs_of attributes)
content_form k.AnyAttribute scope attributes = forms.AnyAttribute (wildcard_form attributes)
content_form kind scope attributes = simple_form kind scope attributes

-- Structures 3.14.2
abbrev pub simple_type : List Attribute → Form
simple_type attributes = forms.SimpleType (value_of an.Name attributes) (methods_of an.Final attributes)

-- declarations and definitions
abbrev pub component_form : Kind → List Binding → List Attribute → Form
component_form k.TopElement scope attributes = forms.Element (element_form true scope attributes)
component_form k.LocalElement scope attributes = forms.Element (element_form false scope attributes)
component_form k.TopAttribute scope attributes = forms.Attribute (attribute_form true scope attributes)
component_form k.LocalAttribute scope attributes = forms.Attribute (attribute_form false scope attributes)
component_form k.TopComplexType scope attributes = forms.ComplexType (complex_type_form attributes)
component_form k.LocalComplexType scope attributes = forms.ComplexType (complex_type_form attributes)
component_form k.TopSimpleType scope attributes = simple_type attributes
component_form k.LocalSimpleType scope attributes = simple_type attributes
component_form k.TopGroup scope attributes = forms.Group (required_of an.Name attributes)
component_form k.TopAttributeGroup scope attributes = forms.AttributeGroup (required_of an.Name attributes)
component_form k.Unique scope attributes = identity identities.Unique scope attributes
component_form k.Key scope attributes = identity identities.Key scope attributes
component_form k.Keyref scope attributes = identity identities.Keyref scope attributes
component_form k.Selector scope attributes = forms.Selector (required_of an.Xpath attributes)
component_form k.Field scope attributes = forms.Field (required_of an.Xpath attributes)
component_form kind scope attributes = content_form kind scope attributes

-- an include or a redefine of a location; without one, which is a fault, it leads nowhere
abbrev pub including : Option (List ℕ) → Form
including None = forms.Nothing
including (Some location) = forms.Include location

abbrev pub redefining : Option (List ℕ) → Form
redefining None = forms.Nothing
redefining (Some location) = forms.Redefine location

-- what an element of this kind declares; first the schema, and what composes it of several documents (Structures 4.2)
abbrev pub form_of : Kind → List Binding → List Attribute → Form
form_of k.Schema scope attributes = forms.Schema (schema_form attributes)
form_of k.Include scope attributes = including (value_of an.SchemaLocation attributes)
form_of k.Import scope attributes = forms.Import (value_of an.Namespace attributes) (value_of an.SchemaLocation attributes)
form_of k.Redefine scope attributes = redefining (value_of an.SchemaLocation attributes)
form_of kind scope attributes = component_form kind scope attributes

-- the numbers of the elements among the siblings, but for annotations
abbrev pub member_numbers : Forest → List ℕ
member_numbers none = []
member_numbers (text_node number chars next) = member_numbers next
member_numbers (element number name bindings attributes children next) =
    if is_in c.Annotation (tag_of name) then member_numbers next else number ∷ member_numbers next

-- what an element declares, and where: its number, the nearest element above that has bindings, its own bindings, and the
-- elements in it
abbrev pub shape_of : Construct → Shape
shape_of e = record {
  item = e.item;
  above = e.above;
  bindings = e.bindings;
  members = member_numbers e.children;
  form = form_of e.kind e.scope e.attributes;
}

-- annotations declare nothing, nor does what is below them
abbrev pub declares : Kind → Bool
declares k.Annotation = false
declares k.Notation = false
declares k.Ignored = false
declares _ = true

abbrev pub shapes_of : Construct → List Shape
shapes_of e = if declares e.kind then shape_of e ∷ [] else []

-- what these elements declare, in their order
abbrev pub shapes : List Construct → List Shape
shapes [] = []
shapes (e ∷ es) = shapes_of e ++ shapes es
