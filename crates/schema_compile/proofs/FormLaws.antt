-- What the forms of documents represent has names of a table that has one.
use Rattle.std.proofs.Common.{◌≡◌, ℕ, ◌<◌, ◌+◌, ◌||◌, Bool, true, List, [], ◌∷◌, Option, None, Some, length, refl}
use Rattle.std.specs.Prelude.{All, IfSome, reverse}
use Rattle.std.specs.Option.{unwrap_or}
use Rattle.std.proofs.lemmas.List.Elements.{All-nil, All-cons, All-head, All-tail, All-append}
use Rattle.xs_names.specs.Names.{NameTable}
use Rattle.schema_shape.specs.declared.forms.Compositor.TheVariants as compositors
use Rattle.schema_shape.specs.declared.forms.Form.{Form}
use Rattle.schema_shape.specs.declared.forms.Form.TheVariants as forms
use Rattle.schema_shape.specs.declared.forms.IdentityKind.TheVariants as identities
use Rattle.schema_shape.specs.declared.forms.Shape.{Shape}
use Rattle.schema_set.specs.declared.documents.SetDocument.{SetDocument}
use Rattle.representations.specs.declared.naming.Naming.{Naming}
use Rattle.representations.specs.Naming.{declared_number, declared_space, naming_of}
use Rattle.representations.specs.declared.parts.Representation.{Representation}
use Rattle.representations.specs.declared.parts.Represented.{Represented}
use Rattle.representations.specs.declared.parts.Represented.TheVariants as parts
use Rattle.representations.specs.declared.defaults.Defaults.{Defaults}
use Rattle.representations.specs.Methods.{defaults_of}
use Rattle.representations.specs.ElementForms.{represented}
use Rattle.set_representations.specs.Documents.{representation, representations_from, shapes_of, document_representations, representations_of}
use Rattle.set_representations.specs.Scopes.{openings}
use Rattle.schema_compile.proofs.TableLaws.{count, name-below}
use Rattle.schema_compile.proofs.FillLaws.{IsFilled, AreFilled}

-- an element, an attribute, a simple type or a complex type has a name of the table, if it has one
abbrev pub HasNumber : NameTable → Represented → Type 0
HasNumber t (parts.Element element) = IfSome element.name (λ n. n < count t)
HasNumber t (parts.Attribute attribute) = IfSome attribute.name (λ n. n < count t)
HasNumber t (parts.SimpleType name finals) = IfSome name (λ n. n < count t)
HasNumber t (parts.ComplexType head) = IfSome head.name (λ n. n < count t)
HasNumber t _ = Unit {0}

abbrev pub HaveNumbers : NameTable → List Representation → Type 0
HaveNumbers t reps = All (λ rep. HasNumber t rep.form) reps

module _ (t : NameTable) (naming : Naming) where
  declared-below : (in_target : Bool) (name : Option (List ℕ)) → ((local : List ℕ) → name ≡ Some local → 0 < count t) → IfSome (declared_number t naming in_target name) (λ n. n < count t)
  declared-below in_target None some = tt
  declared-below in_target (Some local) some = name-below t (declared_space naming in_target) local (some local refl)

  module _ (defaults : Defaults) where
    form-numbered : (form : Form) → IsFilled t form → HasNumber t (represented t naming defaults form)
    form-numbered (forms.Element form) filled = declared-below (form.global || unwrap_or form.qualified naming.elements_qualified) form.name filled
    form-numbered (forms.Attribute form) filled = declared-below (form.global || unwrap_or form.qualified naming.attributes_qualified) form.name filled
    form-numbered (forms.ComplexType form) filled = declared-below true form.name filled
    form-numbered (forms.SimpleType name finals) filled = declared-below true name filled
    form-numbered (forms.Identity identities.Unique name refer) filled = tt
    form-numbered (forms.Identity identities.Key name refer) filled = tt
    form-numbered (forms.Identity identities.Keyref name refer) filled = tt
    form-numbered (forms.ModelGroup compositors.All occurs) filled = tt
    form-numbered (forms.ModelGroup compositors.Choice occurs) filled = tt
    form-numbered (forms.ModelGroup compositors.Sequence occurs) filled = tt
    form-numbered _ filled = tt

    module _ (document first : ℕ) where
      from-numbered : (before : List Shape) (place : ℕ) (shapes : List Shape) → AreFilled t shapes → HaveNumbers t (representations_from t naming defaults document first before place shapes)
      from-numbered before place [] filled = All-nil (λ (rep : Representation). HasNumber t rep.form)
      from-numbered before place (shape ∷ behind) filled =
          All-cons (λ (rep : Representation). HasNumber t rep.form) (representation t naming defaults document first before place shape behind)
          (representations_from t naming defaults document first (shape ∷ before) (place + 1) behind)
          (form-numbered shape.form (All-head (λ (s : Shape). IsFilled t s.form) shape behind filled))
          (from-numbered (shape ∷ before) (place + 1) behind (All-tail (λ (s : Shape). IsFilled t s.form) shape behind filled))

pub all-numbered : (t : NameTable) (place first : ℕ) (ds : List SetDocument) → All (λ d. AreFilled t (shapes_of d)) ds → HaveNumbers t (representations_of t place first ds)
all-numbered t place first [] filled = All-nil (λ (rep : Representation). HasNumber t rep.form)
all-numbered t place first (d ∷ ds) filled =
    All-append (λ (rep : Representation). HasNumber t rep.form) (document_representations t place first d)
    (representations_of t (place + length (shapes_of d)) (first + openings (reverse (shapes_of d))) ds)
    (from-numbered t (naming_of d.target (shapes_of d)) (defaults_of (shapes_of d)) d.number first [] place (shapes_of d) (All-head (λ (e : SetDocument). AreFilled t (shapes_of e)) d ds filled))
    (all-numbered t (place + length (shapes_of d)) (first + openings (reverse (shapes_of d))) ds (All-tail (λ (e : SetDocument). AreFilled t (shapes_of e)) d ds filled))
