-- Forms that have no names in them.
use Rattle.std.proofs.Common.{◌≡◌, ℕ, Bool, List, Option, refl}
use Rattle.tree_rows.specs.declared.name.Expanded.{Expanded}
use Rattle.xs_names.specs.Names.{NameTable}
use Rattle.xs_components.specs.declared.common.Methods.{Methods}
use Rattle.schema_values.specs.declared.occurs.Occurs.{Occurs}
use Rattle.schema_shape.specs.declared.forms.AttributeForm.{AttributeForm}
use Rattle.schema_shape.specs.declared.forms.ComplexTypeForm.{ComplexTypeForm}
use Rattle.schema_shape.specs.declared.forms.ElementForm.{ElementForm}
use Rattle.schema_shape.specs.declared.forms.Form.{Form}
use Rattle.schema_shape.specs.declared.forms.Form.TheVariants as shapes
use Rattle.schema_shape.specs.declared.forms.IdentityKind.{IdentityKind}
use Rattle.schema_shape.specs.declared.forms.WildcardForm.{WildcardForm}
use Rattle.representations.specs.declared.naming.Naming.{Naming}
use Rattle.representations.specs.Forms.{form_table}
use Rattle.representations.specs.declared.defaults.Defaults.{Defaults}
use Rattle.representations.specs.ElementForms.{represented, nameless}

-- a form that is none of those with names
pub record HasNoNames (form : Form) : Type 0 where
  pub no_import : (namespace : Option (List ℕ)) (location : Option (List ℕ)) → ¬ (form ≡ shapes.Import namespace location)
  pub no_element : (e : ElementForm) → ¬ (form ≡ shapes.Element e)
  pub no_attribute : (e : AttributeForm) → ¬ (form ≡ shapes.Attribute e)
  pub no_complextype : (e : ComplexTypeForm) → ¬ (form ≡ shapes.ComplexType e)
  pub no_simpletype : (name : Option (List ℕ)) (finals : Option Methods) → ¬ (form ≡ shapes.SimpleType name finals)
  pub no_group : (name : List ℕ) → ¬ (form ≡ shapes.Group name)
  pub no_attributegroup : (name : List ℕ) → ¬ (form ≡ shapes.AttributeGroup name)
  pub no_identity : (kind : IdentityKind) (name : List ℕ) (refer : Option Expanded) → ¬ (form ≡ shapes.Identity kind name refer)
  pub no_derivation : (by_extension : Bool) (base : Option Expanded) → ¬ (form ≡ shapes.Derivation by_extension base)
  pub no_groupreference : (to : Option Expanded) (occurs : Occurs) → ¬ (form ≡ shapes.GroupReference to occurs)
  pub no_attributegroupreference : (to : Option Expanded) → ¬ (form ≡ shapes.AttributeGroupReference to)
  pub no_any : (wildcard : WildcardForm) (occurs : Occurs) → ¬ (form ≡ shapes.Any wildcard occurs)
  pub no_anyattribute : (wildcard : WildcardForm) → ¬ (form ≡ shapes.AnyAttribute wildcard)
  pub no_restriction : (base : Option Expanded) → ¬ (form ≡ shapes.Restriction base)
  pub no_itemtype : (o : Option Expanded) → ¬ (form ≡ shapes.ItemType o)
  pub no_union : (members : List Expanded) → ¬ (form ≡ shapes.Union members)

module _ (naming : Naming) (defaults : Defaults) (t : NameTable) where
  pub nameless-table : (form : Form) → HasNoNames form → form_table naming form t ≡ t
  nameless-table (shapes.Import namespace location) = λ no. absurd (no.no_import namespace location refl)
  nameless-table (shapes.Element e) = λ no. absurd (no.no_element e refl)
  nameless-table (shapes.Attribute e) = λ no. absurd (no.no_attribute e refl)
  nameless-table (shapes.ComplexType e) = λ no. absurd (no.no_complextype e refl)
  nameless-table (shapes.SimpleType name finals) = λ no. absurd (no.no_simpletype name finals refl)
  nameless-table (shapes.Group name) = λ no. absurd (no.no_group name refl)
  nameless-table (shapes.AttributeGroup name) = λ no. absurd (no.no_attributegroup name refl)
  nameless-table (shapes.Identity kind name refer) = λ no. absurd (no.no_identity kind name refer refl)
  nameless-table (shapes.Derivation by_extension base) = λ no. absurd (no.no_derivation by_extension base refl)
  nameless-table (shapes.GroupReference to occurs) = λ no. absurd (no.no_groupreference to occurs refl)
  nameless-table (shapes.AttributeGroupReference to) = λ no. absurd (no.no_attributegroupreference to refl)
  nameless-table (shapes.Any wildcard occurs) = λ no. absurd (no.no_any wildcard occurs refl)
  nameless-table (shapes.AnyAttribute wildcard) = λ no. absurd (no.no_anyattribute wildcard refl)
  nameless-table (shapes.Restriction base) = λ no. absurd (no.no_restriction base refl)
  nameless-table (shapes.ItemType o) = λ no. absurd (no.no_itemtype o refl)
  nameless-table (shapes.Union members) = λ no. absurd (no.no_union members refl)
  nameless-table (shapes.Schema form) = λ no. refl
  nameless-table (shapes.Include location) = λ no. refl
  nameless-table (shapes.Redefine location) = λ no. refl
  nameless-table (shapes.Selector path) = λ no. refl
  nameless-table (shapes.Field path) = λ no. refl
  nameless-table shapes.SimpleContent = λ no. refl
  nameless-table (shapes.ComplexContent mixed) = λ no. refl
  nameless-table (shapes.ModelGroup compositor occurs) = λ no. refl
  nameless-table (shapes.Facet kind text fixed) = λ no. refl
  nameless-table shapes.Nothing = λ no. refl

  pub nameless-same : (form : Form) → HasNoNames form → represented t naming defaults form ≡ nameless form
  nameless-same (shapes.Import namespace location) = λ no. absurd (no.no_import namespace location refl)
  nameless-same (shapes.Element e) = λ no. absurd (no.no_element e refl)
  nameless-same (shapes.Attribute e) = λ no. absurd (no.no_attribute e refl)
  nameless-same (shapes.ComplexType e) = λ no. absurd (no.no_complextype e refl)
  nameless-same (shapes.SimpleType name finals) = λ no. absurd (no.no_simpletype name finals refl)
  nameless-same (shapes.Group name) = λ no. absurd (no.no_group name refl)
  nameless-same (shapes.AttributeGroup name) = λ no. absurd (no.no_attributegroup name refl)
  nameless-same (shapes.Identity kind name refer) = λ no. absurd (no.no_identity kind name refer refl)
  nameless-same (shapes.Derivation by_extension base) = λ no. absurd (no.no_derivation by_extension base refl)
  nameless-same (shapes.GroupReference to occurs) = λ no. absurd (no.no_groupreference to occurs refl)
  nameless-same (shapes.AttributeGroupReference to) = λ no. absurd (no.no_attributegroupreference to refl)
  nameless-same (shapes.Any wildcard occurs) = λ no. absurd (no.no_any wildcard occurs refl)
  nameless-same (shapes.AnyAttribute wildcard) = λ no. absurd (no.no_anyattribute wildcard refl)
  nameless-same (shapes.Restriction base) = λ no. absurd (no.no_restriction base refl)
  nameless-same (shapes.ItemType o) = λ no. absurd (no.no_itemtype o refl)
  nameless-same (shapes.Union members) = λ no. absurd (no.no_union members refl)
  nameless-same (shapes.Schema form) = λ no. refl
  nameless-same (shapes.Include location) = λ no. refl
  nameless-same (shapes.Redefine location) = λ no. refl
  nameless-same (shapes.Selector path) = λ no. refl
  nameless-same (shapes.Field path) = λ no. refl
  nameless-same shapes.SimpleContent = λ no. refl
  nameless-same (shapes.ComplexContent mixed) = λ no. refl
  nameless-same (shapes.ModelGroup compositor occurs) = λ no. refl
  nameless-same (shapes.Facet kind text fixed) = λ no. refl
  nameless-same shapes.Nothing = λ no. refl
