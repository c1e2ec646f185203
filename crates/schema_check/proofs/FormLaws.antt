-- What the elements of each kind represent.
use Rattle.std.proofs.Common.{◌≡◌, ℕ, Bool, true, false, List, Option, None, Some, refl, sym, ap, ◌∙◌, true≢false}
use Rattle.tree_rows.specs.declared.row.Attribute.{Attribute}
use Rattle.tree_rows.specs.declared.row.Binding.{Binding}
use Rattle.xs_names.specs.Names.{NameTable}
use Rattle.schema_values.specs.Attributes.{value_of}
use Rattle.schema_values.specs.Places.{root_kind, top_kind, below_redefine, inner_kind, below_simple_content, below_complex_content, below_top_group, kind_below}
use Rattle.schema_values.specs.Table.{is_in}
use Rattle.schema_values.specs.declared.grammar_kinds.AttributeName.TheVariants as an
use Rattle.schema_values.specs.declared.grammar_kinds.Class.TheVariants as c
use Rattle.schema_values.specs.declared.grammar_kinds.Kind.{Kind}
use Rattle.schema_values.specs.declared.grammar_kinds.Kind.TheVariants as k
use Rattle.schema_values.specs.declared.grammar_kinds.Tag.{Tag}
use Rattle.schema_values.specs.declared.grammar_kinds.Tag.TheVariants as tags
use Rattle.schema_shape.specs.Shapes.{form_of, declares, including, redefining}
use Rattle.representations.specs.declared.naming.Naming.{Naming}
use Rattle.representations.specs.declared.parts.Represented.{Represented}
use Rattle.representations.specs.declared.parts.Represented.TheVariants as forms
use Rattle.representations.specs.Members.{is_type}
use Rattle.representations.specs.declared.defaults.Defaults.{Defaults}
use Rattle.representations.specs.ElementForms.{represented}
use Rattle.schema_check.specs.Shaped.{is_complex_type, is_variety, is_derivation, may_hold_complex}
use Rattle.schema_check.proofs.TagLaws.{is_complex_tag, holds_complex}

abbrev is_complex_kind : Kind → Bool
is_complex_kind k.TopComplexType = true
is_complex_kind k.LocalComplexType = true
is_complex_kind _ = false

root-plain : (tag : Tag) → is_complex_kind (root_kind tag) ≡ false
root-plain tags.Schema = refl
root-plain _ = refl

top-plain : (tag : Tag) → is_complex_tag tag ≡ false → is_complex_kind (top_kind tag) ≡ false
top-plain tags.ComplexType other = absurd (true≢false other)
top-plain _ other = refl

redefine-plain : (tag : Tag) → is_complex_tag tag ≡ false → is_complex_kind (below_redefine tag) ≡ false
redefine-plain tags.Include other = refl
redefine-plain tags.Import other = refl
redefine-plain tags.Redefine other = refl
redefine-plain tags.ComplexType other = absurd (true≢false other)
redefine-plain _ other = refl

inner-plain : (tag : Tag) → is_complex_tag tag ≡ false → is_complex_kind (inner_kind tag) ≡ false
inner-plain tags.ComplexType other = absurd (true≢false other)
inner-plain _ other = refl

simple-content-plain : (tag : Tag) → is_complex_tag tag ≡ false → is_complex_kind (below_simple_content tag) ≡ false
simple-content-plain tags.ComplexType other = absurd (true≢false other)
simple-content-plain _ other = refl

complex-content-plain : (tag : Tag) → is_complex_tag tag ≡ false → is_complex_kind (below_complex_content tag) ≡ false
complex-content-plain tags.ComplexType other = absurd (true≢false other)
complex-content-plain _ other = refl

group-plain : (tag : Tag) → is_complex_tag tag ≡ false → is_complex_kind (below_top_group tag) ≡ false
group-plain tags.ComplexType other = absurd (true≢false other)
group-plain _ other = refl

kind-plain : (parent : Kind) (tag : Tag) → is_complex_tag tag ≡ false → is_complex_kind (kind_below parent tag) ≡ false
kind-plain k.Annotation tag other = refl
kind-plain k.Notation tag other = refl
kind-plain k.NoSchema tag other = refl
kind-plain k.Ignored tag other = refl
kind-plain k.Document tag other = root-plain tag
kind-plain k.Schema tag other = top-plain tag other
kind-plain k.Redefine tag other = redefine-plain tag other
kind-plain k.SimpleContent tag other = simple-content-plain tag other
kind-plain k.ComplexContent tag other = complex-content-plain tag other
kind-plain k.TopGroup tag other = group-plain tag other
kind-plain _ tag other = inner-plain tag other

module _ (t : NameTable) (naming : Naming) (defaults : Defaults) where
  -- what an element of this kind represents
  abbrev pub form_at : Kind → List Binding → List Attribute → Represented
  form_at kind scope attributes = represented t naming defaults (form_of kind scope attributes)

  -- an include and a redefine represent nothing, with a location and without
  pub including-nothing : (location : Option (List ℕ)) → represented t naming defaults (including location) ≡ forms.Nothing
  including-nothing None = refl
  including-nothing (Some location) = refl

  pub redefining-nothing : (location : Option (List ℕ)) → represented t naming defaults (redefining location) ≡ forms.Nothing
  redefining-nothing None = refl
  redefining-nothing (Some location) = refl

  pub include-nothing : (scope : List Binding) (attributes : List Attribute) → form_at k.Include scope attributes ≡ forms.Nothing
  include-nothing scope attributes = including-nothing (value_of an.SchemaLocation attributes)

  pub redefine-nothing : (scope : List Binding) (attributes : List Attribute) → form_at k.Redefine scope attributes ≡ forms.Nothing
  redefine-nothing scope attributes = redefining-nothing (value_of an.SchemaLocation attributes)

  complex-form : (kind : Kind) (scope : List Binding) (attributes : List Attribute) → is_complex_type (form_at kind scope attributes) ≡ is_complex_kind kind
  complex-form k.TopComplexType scope attributes = refl
  complex-form k.LocalComplexType scope attributes = refl
  complex-form k.Include scope attributes = ap is_complex_type (include-nothing scope attributes)
  complex-form k.Redefine scope attributes = ap is_complex_type (redefine-nothing scope attributes)
  complex-form _ scope attributes = refl

  -- no complex type by another name
  pub below-plain : (parent : Kind) (tag : Tag) → is_complex_tag tag ≡ false → (scope : List Binding) (attributes : List Attribute) → is_complex_type (form_at (kind_below parent tag) scope attributes) ≡ false
  below-plain parent tag other scope attributes = complex-form (kind_below parent tag) scope attributes ∙ kind-plain parent tag other

  -- elements, and what nothing is represented of, may hold complex types
  pub may-hold : (kind : Kind) (scope : List Binding) (attributes : List Attribute) → may_hold_complex (form_at kind scope attributes) ≡ false → holds_complex kind ≡ false
  may-hold k.Schema scope attributes other = absurd (true≢false other)
  may-hold k.Include scope attributes other = absurd (true≢false (sym (ap may_hold_complex (include-nothing scope attributes)) ∙ other))
  may-hold k.Import scope attributes other = absurd (true≢false other)
  may-hold k.Redefine scope attributes other = absurd (true≢false (sym (ap may_hold_complex (redefine-nothing scope attributes)) ∙ other))
  may-hold k.TopElement scope attributes other = absurd (true≢false other)
  may-hold k.LocalElement scope attributes other = absurd (true≢false other)
  may-hold k.Annotation scope attributes other = absurd (true≢false other)
  may-hold k.Notation scope attributes other = absurd (true≢false other)
  may-hold k.Document scope attributes other = absurd (true≢false other)
  may-hold k.NoSchema scope attributes other = absurd (true≢false other)
  may-hold k.Ignored scope attributes other = absurd (true≢false other)
  may-hold _ scope attributes other = refl

  -- what each element of such a name is below one of a kind
  abbrev pub Becomes : Kind → (Represented → Bool) → Tag → Type 0
  Becomes parent is_kind tag = (declares (kind_below parent tag) ≡ true) × ((scope : List Binding) (attributes : List Attribute) → is_kind (form_at (kind_below parent tag) scope attributes) ≡ true)

  pub top-variety : (tag : Tag) → is_in c.Variety tag ≡ true → Becomes k.TopSimpleType is_variety tag
  top-variety tags.Restriction is = (refl, λ scope attributes. refl)
  top-variety tags.List is = (refl, λ scope attributes. refl)
  top-variety tags.Union is = (refl, λ scope attributes. refl)
  top-variety _ is = absurd (true≢false (sym is))

  pub local-variety : (tag : Tag) → is_in c.Variety tag ≡ true → Becomes k.LocalSimpleType is_variety tag
  local-variety tags.Restriction is = (refl, λ scope attributes. refl)
  local-variety tags.List is = (refl, λ scope attributes. refl)
  local-variety tags.Union is = (refl, λ scope attributes. refl)
  local-variety _ is = absurd (true≢false (sym is))

  pub simple-derivation : (tag : Tag) → is_in c.Derivation tag ≡ true → Becomes k.SimpleContent is_derivation tag
  simple-derivation tags.Restriction is = (refl, λ scope attributes. refl)
  simple-derivation tags.Extension is = (refl, λ scope attributes. refl)
  simple-derivation _ is = absurd (true≢false (sym is))

  pub complex-derivation : (tag : Tag) → is_in c.Derivation tag ≡ true → Becomes k.ComplexContent is_derivation tag
  complex-derivation tags.Restriction is = (refl, λ scope attributes. refl)
  complex-derivation tags.Extension is = (refl, λ scope attributes. refl)
  complex-derivation _ is = absurd (true≢false (sym is))

  pub restriction-type : (tag : Tag) → is_in c.SimpleType tag ≡ true → Becomes k.Restriction is_type tag
  restriction-type tags.SimpleType is = (refl, λ scope attributes. refl)
  restriction-type _ is = absurd (true≢false (sym is))

  pub list-type : (tag : Tag) → is_in c.SimpleType tag ≡ true → Becomes k.List is_type tag
  list-type tags.SimpleType is = (refl, λ scope attributes. refl)
  list-type _ is = absurd (true≢false (sym is))

-- these are no annotations
pub variety-apart : (tag : Tag) → is_in c.Variety tag ≡ true → is_in c.Annotation tag ≡ false
variety-apart tags.Annotation is = absurd (true≢false (sym is))
variety-apart _ is = refl

pub derivation-apart : (tag : Tag) → is_in c.Derivation tag ≡ true → is_in c.Annotation tag ≡ false
derivation-apart tags.Annotation is = absurd (true≢false (sym is))
derivation-apart _ is = refl
