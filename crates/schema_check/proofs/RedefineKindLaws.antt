-- What elements of schema documents declare, by what they stand in: the schema and its redefines hold no others of these, and a
-- target namespace and the name of a reference are such as can be written.
use Rattle.std.proofs.Common.{◌≡◌, ℕ, ◌==◌, ◌&&◌, Bool, true, false, List, [], ◌∷◌, Option, None, Some, if◌then◌else◌, length, refl, sym, ap, subst, ◌∙◌, true≢false, arith}
use Rattle.std.specs.Prelude.{is_some}
use Rattle.std.specs.Option.{option_and_then}
use Rattle.std.specs.List.{before_first, after_first}
use Rattle.std.specs.Str.{chars}
use Rattle.std.proofs.lemmas.Bool.Decides.{nat_tests}
use Rattle.std.proofs.lemmas.Option.{none-some, same_Some}
use Rattle.xs_names.specs.Characters.{is_ncname, is_colon}
use Rattle.xs_names.specs.QName.{qname}
use Rattle.tag_names.specs.Scopes.{namespace_named, namespace_by, of_prefix, element_space}
use Rattle.tree_rows.specs.declared.name.Expanded.{Expanded}
use Rattle.tree_rows.specs.declared.row.Attribute.{Attribute}
use Rattle.tree_rows.specs.declared.row.Binding.{Binding}
use Rattle.schema_values.specs.Attributes.{value_of, name_of}
use Rattle.schema_values.specs.Names.{bound_name, qname_by, qname_of}
use Rattle.schema_values.specs.Places.{root_kind, top_kind, below_redefine, inner_kind, below_simple_content, below_complex_content, below_top_group, kind_below}
use Rattle.schema_values.specs.declared.grammar_kinds.AttributeName.{AttributeName}
use Rattle.schema_values.specs.declared.grammar_kinds.AttributeName.TheVariants as an
use Rattle.schema_values.specs.declared.grammar_kinds.Kind.{Kind}
use Rattle.schema_values.specs.declared.grammar_kinds.Kind.TheVariants as k
use Rattle.schema_values.specs.declared.grammar_kinds.Tag.{Tag}
use Rattle.schema_values.specs.declared.grammar_kinds.Tag.TheVariants as tags
use Rattle.schema_shape.specs.Shapes.{form_of, including, redefining}
use Rattle.schema_shape.specs.declared.forms.Form.{Form}
use Rattle.schema_shape.specs.declared.forms.Form.TheVariants as forms
use Rattle.schema_set.specs.EffectiveSet.{form_target}
use Rattle.redefine_originals.specs.declared.versions.Redefinable.{Redefinable}
use Rattle.redefine_originals.specs.declared.versions.Redefinable.TheVariants as redefinable

-- ---- what stands in neither a document nor a schema
abbrev pub is_inner : Kind → Bool
is_inner k.Document = false
is_inner k.Schema = false
is_inner _ = true

-- and is no redefine
abbrev pub is_part : Kind → Bool
is_part k.Document = false
is_part k.Schema = false
is_part k.Redefine = false
is_part _ = true

-- what declares neither a schema nor a redefine
abbrev pub is_plain : Form → Bool
is_plain (forms.Schema schema) = false
is_plain (forms.Redefine location) = false
is_plain _ = true

pub part-inner : (kind : Kind) → is_part kind ≡ true → is_inner kind ≡ true
part-inner k.Document is = absurd (true≢false (sym is))
part-inner k.Schema is = absurd (true≢false (sym is))
part-inner _ is = refl

top-part : (tag : Tag) → is_part (below_redefine tag) ≡ true
top-part tags.Include = refl
top-part tags.Import = refl
top-part tags.Redefine = refl
top-part _ = refl

inner-part : (tag : Tag) → is_part (inner_kind tag) ≡ true
inner-part tags.Schema = refl
inner-part _ = refl

simple-part : (tag : Tag) → is_part (below_simple_content tag) ≡ true
simple-part tags.Schema = refl
simple-part _ = refl

complex-part : (tag : Tag) → is_part (below_complex_content tag) ≡ true
complex-part tags.Schema = refl
complex-part _ = refl

group-part : (tag : Tag) → is_part (below_top_group tag) ≡ true
group-part tags.Schema = refl
group-part _ = refl

-- so is what is below it
pub below-part : (kind : Kind) (tag : Tag) → is_inner kind ≡ true → is_part (kind_below kind tag) ≡ true
below-part k.Document tag is = absurd (true≢false (sym is))
below-part k.Schema tag is = absurd (true≢false (sym is))
below-part k.Annotation tag is = refl
below-part k.Notation tag is = refl
below-part k.NoSchema tag is = refl
below-part k.Ignored tag is = refl
below-part k.Redefine tag is = top-part tag
below-part k.SimpleContent tag is = simple-part tag
below-part k.ComplexContent tag is = complex-part tag
below-part k.TopGroup tag is = group-part tag
below-part _ tag is = inner-part tag

-- nothing is below which a document stands
abbrev is_document : Kind → Bool
is_document k.Document = true
is_document _ = false

part-none : (kind : Kind) → is_part kind ≡ true → is_document kind ≡ false
part-none k.Document is = absurd (true≢false (sym is))
part-none _ is = refl

root-none : (tag : Tag) → is_document (root_kind tag) ≡ false
root-none tags.Schema = refl
root-none _ = refl

top-none : (tag : Tag) → is_document (top_kind tag) ≡ false
top-none tags.Schema = refl
top-none _ = refl

below-none : (kind : Kind) (tag : Tag) → is_document (kind_below kind tag) ≡ false
below-none k.Document tag = root-none tag
below-none k.Schema tag = top-none tag
below-none k.Annotation tag = refl
below-none k.Notation tag = refl
below-none k.NoSchema tag = refl
below-none k.Ignored tag = refl
below-none k.Redefine tag = part-none (below_redefine tag) (top-part tag)
below-none k.SimpleContent tag = part-none (below_simple_content tag) (simple-part tag)
below-none k.ComplexContent tag = part-none (below_complex_content tag) (complex-part tag)
below-none k.TopGroup tag = part-none (below_top_group tag) (group-part tag)
below-none _ tag = part-none (inner_kind tag) (inner-part tag)

module _ (scope : List Binding) (attributes : List Attribute) where
  including-plain : (location : Option (List ℕ)) → is_plain (including location) ≡ true
  including-plain None = refl
  including-plain (Some location) = refl

  pub part-plain : (kind : Kind) → is_part kind ≡ true → is_plain (form_of kind scope attributes) ≡ true
  part-plain k.Document is = absurd (true≢false (sym is))
  part-plain k.Schema is = absurd (true≢false (sym is))
  part-plain k.Redefine is = absurd (true≢false (sym is))
  part-plain k.Include is = including-plain (value_of an.SchemaLocation attributes)
  part-plain _ is = refl

  plain-or : (kind : Kind) → is_document kind ≡ false → is_plain (form_of kind scope attributes) ≡ true → is_inner kind ≡ true
  plain-or k.Document none is = absurd (true≢false none)
  plain-or k.Schema none is = absurd (true≢false (sym is))
  plain-or _ none is = refl

  pub plain-inner : (parent : Kind) (tag : Tag) → is_plain (form_of (kind_below parent tag) scope attributes) ≡ true → is_inner (kind_below parent tag) ≡ true
  plain-inner parent tag is = plain-or (kind_below parent tag) (below-none parent tag) is

-- ---- namespaces: one that is there has a name that is not empty
abbrev pub IsSpace : Option (List ℕ) → Type 0
IsSpace None = Unit {0}
IsSpace (Some []) = ⊥
IsSpace (Some (b ∷ bs)) = Unit {0}

named-space : (name : List ℕ) → IsSpace (namespace_named name)
named-space [] = tt
named-space (b ∷ bs) =
    let long : (length (b ∷ bs) == 0) ≡ false = grind (arith, nat_tests) in
    subst IsSpace (sym (ap (λ (none : Bool). if none then None else Some (b ∷ bs)) long)) tt

by-space : (found : Option (List ℕ)) → IsSpace (namespace_by found)
by-space None = tt
by-space (Some name) = named-space name

element-space : (scope : List Binding) (prefix : Option (List ℕ)) → IsSpace (element_space scope prefix)
element-space scope None = by-space (of_prefix scope [])
element-space scope (Some prefix) = by-space (of_prefix scope prefix)

target-space : (value : Option (List ℕ)) → IsSpace (option_and_then namespace_named value)
target-space None = tt
target-space (Some name) = named-space name

module _ (scope : List Binding) (attributes : List Attribute) where
  no-target : (location : Option (List ℕ)) → form_target (redefining location) ≡ None
  no-target None = refl
  no-target (Some location) = refl

  no-target-included : (location : Option (List ℕ)) → form_target (including location) ≡ None
  no-target-included None = refl
  no-target-included (Some location) = refl

  pub form-space : (kind : Kind) → IsSpace (form_target (form_of kind scope attributes))
  form-space k.Schema = target-space (value_of an.TargetNamespace attributes)
  form-space k.Include = subst IsSpace (sym (no-target-included (value_of an.SchemaLocation attributes))) tt
  form-space k.Redefine = subst IsSpace (sym (no-target (value_of an.SchemaLocation attributes))) tt
  form-space _ = tt

-- ---- references to groups and attribute groups
abbrev pub to_of : Redefinable → Option Expanded → Option (Redefinable × Expanded)
to_of kind None = None
to_of kind (Some name) = Some (kind, name)

abbrev pub refers : Form → Option (Redefinable × Expanded)
refers (forms.GroupReference to occurs) = to_of redefinable.Group to
refers (forms.AttributeGroupReference to) = to_of redefinable.AttributeGroup to
refers _ = None

-- a name that a QName gives
pub record IsWritten (name : Expanded) : Type 0 where
  pub space : IsSpace name.namespace
  pub local : is_ncname (chars name.local) ≡ true

module _ (scope : List Binding) where
  bound-written : (parts : Option (List ℕ) × List ℕ) → is_ncname (chars parts.1) ≡ true → (name : Expanded) → bound_name scope parts ≡ Some name → IsWritten name
  bound-written (None, local) is name e =
      let same = same_Some (record { namespace = element_space scope None; local = local }) name e in
      subst IsWritten same (record { space = element-space scope None; local = is })
  bound-written (Some prefix, local) is name e = by (of_prefix scope prefix) e
    where
      by : (found : Option (List ℕ)) → (if is_some found then Some (record { namespace = element_space scope (Some prefix); local = local }) else None) ≡ Some name → IsWritten name
      by None e = absurd (none-some name e)
      by (Some space) e =
          let same = same_Some (record { namespace = element_space scope (Some prefix); local = local }) name e in
          subst IsWritten same (record { space = element-space scope (Some prefix); local = is })

  qname-written : (parts : Option (Option (List ℕ) × List ℕ)) → ((p : Option (List ℕ) × List ℕ) → parts ≡ Some p → is_ncname (chars p.1) ≡ true) → (name : Expanded) → qname_by scope parts ≡ Some name → IsWritten name
  qname-written None each name e = absurd (none-some name e)
  qname-written (Some parts) each name e = bound-written parts (each parts refl) name e

  pub text-written : (text : List ℕ) (name : Expanded) → qname_of scope text ≡ Some name → IsWritten name
  text-written text name e = qname-written (qname text) (qname-local text) name e
    where
      both-true : (a b : Bool) → (a && b) ≡ true → b ≡ true
      both-true true b is = is
      both-true false b is = absurd (true≢false (sym is))

      cut : (text : List ℕ) (b : Bool) → (is_ncname (chars (before_first is_colon text)) && is_ncname (chars (after_first is_colon text))) ≡ b → (p : Option (List ℕ) × List ℕ)
          → (if b then Some (Some (before_first is_colon text), after_first is_colon text) else None) ≡ Some p → is_ncname (chars p.1) ≡ true
      cut text true is p e =
          ap (λ (q : Option (List ℕ) × List ℕ). is_ncname (chars q.1)) (sym (same_Some (Some (before_first is_colon text), after_first is_colon text) p e))
          ∙ both-true (is_ncname (chars (before_first is_colon text))) (is_ncname (chars (after_first is_colon text))) is
      cut text false is p e = absurd (none-some p e)

      whole : (text : List ℕ) (b : Bool) → is_ncname (chars text) ≡ b → (p : Option (List ℕ) × List ℕ)
          → (if b then Some (None, text) else (if is_ncname (chars (before_first is_colon text)) && is_ncname (chars (after_first is_colon text)) then Some (Some (before_first is_colon text), after_first is_colon text) else None)) ≡ Some p
          → is_ncname (chars p.1) ≡ true
      whole text true is p e = ap (λ (q : Option (List ℕ) × List ℕ). is_ncname (chars q.1)) (sym (same_Some (None, text) p e)) ∙ is
      whole text false is p e = cut text (is_ncname (chars (before_first is_colon text)) && is_ncname (chars (after_first is_colon text))) refl p e

      qname-local : (text : List ℕ) (p : Option (List ℕ) × List ℕ) → qname text ≡ Some p → is_ncname (chars p.1) ≡ true
      qname-local text p e = whole text (is_ncname (chars text)) refl p e

  value-written : (value : Option (List ℕ)) (name : Expanded) → option_and_then (qname_of scope) value ≡ Some name → IsWritten name
  value-written None name e = absurd (none-some name e)
  value-written (Some text) name e = text-written text name e

  module _ (attributes : List Attribute) where
    pub name-written : (attribute : AttributeName) (name : Expanded) → name_of attribute scope attributes ≡ Some name → IsWritten name
    name-written attribute name e = value-written (value_of attribute attributes) name e

    to-is : (kind of : Redefinable) (to : Option Expanded) (name : Expanded) → to_of kind to ≡ Some (of, name) → to ≡ Some name
    to-is kind of None name e = absurd (none-some (of, name) e)
    to-is kind of (Some other) name e = ap (λ (found : Redefinable × Expanded). Some found.1) (same_Some (kind, other) (of, name) e)

    including-refers : (location : Option (List ℕ)) → refers (including location) ≡ None
    including-refers None = refl
    including-refers (Some location) = refl

    redefining-refers : (location : Option (List ℕ)) → refers (redefining location) ≡ None
    redefining-refers None = refl
    redefining-refers (Some location) = refl

    -- the name of a reference can be written
    pub form-written : (kind : Kind) (of : Redefinable) (name : Expanded) → refers (form_of kind scope attributes) ≡ Some (of, name) → IsWritten name
    form-written k.GroupReference of name e = name-written an.Ref name (to-is redefinable.Group of (name_of an.Ref scope attributes) name e)
    form-written k.AttributeGroupReference of name e = name-written an.Ref name (to-is redefinable.AttributeGroup of (name_of an.Ref scope attributes) name e)
    form-written k.Include of name e = absurd (none-some (of, name) (sym (including-refers (value_of an.SchemaLocation attributes)) ∙ e))
    form-written k.Redefine of name e = absurd (none-some (of, name) (sym (redefining-refers (value_of an.SchemaLocation attributes)) ∙ e))
    form-written _ of name e = absurd (none-some (of, name) e)
