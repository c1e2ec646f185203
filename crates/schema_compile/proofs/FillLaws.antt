-- A table with the names of documents has a name, where one of them declares a name.
use Rattle.std.proofs.Common.{◌≡◌, ℕ, ◌<◌, ◌≤◌, ◌||◌, Bool, true, List, [], ◌∷◌, Option, None, Some}
use Rattle.std.specs.Prelude.{All}
use Rattle.std.specs.Option.{unwrap_or}
use Rattle.std.proofs.lemmas.List.Elements.{All-nil, All-cons}
use Rattle.std.proofs.lemmas.Option.{none-some}
use Rattle.xs_names.specs.Names.{NameTable}
use Rattle.schema_shape.specs.declared.forms.Form.{Form}
use Rattle.schema_shape.specs.declared.forms.Form.TheVariants as forms
use Rattle.schema_shape.specs.declared.forms.Shape.{Shape}
use Rattle.schema_set.specs.declared.documents.SetDocument.{SetDocument}
use Rattle.representations.specs.declared.naming.Naming.{Naming}
use Rattle.representations.specs.Naming.{with_space_of, with_declared, declared_space, naming_of}
use Rattle.representations.specs.Forms.{form_table}
use Rattle.representations.specs.Documents.{bindings_table, shape_table, shapes_table, document_table}
use Rattle.set_representations.specs.Documents.{shapes_of, set_table}
use Rattle.schema_compile.proofs.TableLaws.{count, some-more, expanded-some, two-more, three-more, shapes-more, set-more}

-- the name that an element, an attribute, a simple type or a complex type declares
abbrev pub declared_name : Form → Option (List ℕ)
declared_name (forms.Element form) = form.name
declared_name (forms.Attribute form) = form.name
declared_name (forms.ComplexType form) = form.name
declared_name (forms.SimpleType name finals) = name
declared_name _ = None

-- the table has a name if the form declares one
abbrev pub IsFilled : NameTable → Form → Type 0
IsFilled t form = (local : List ℕ) → declared_name form ≡ Some local → 0 < count t

abbrev pub AreFilled : NameTable → List Shape → Type 0
AreFilled t shapes = All (λ shape. IsFilled t shape.form) shapes

module _ (naming : Naming) where
  declared-some : (in_target : Bool) (name : Option (List ℕ)) (t : NameTable) (local : List ℕ) → name ≡ Some local → 0 < count (with_declared naming in_target name t)
  declared-some in_target None t local is = absurd (none-some local is)
  declared-some in_target (Some own) t local is = expanded-some t (declared_space naming in_target) own

  form-fills : (form : Form) (t : NameTable) → IsFilled (form_table naming form t) form
  form-fills (forms.Element form) t local is =
      some-more _ _ (declared-some (form.global || unwrap_or form.qualified naming.elements_qualified) form.name t local is)
      ((three-more naming form.head form.of form.reference (with_declared naming (form.global || unwrap_or form.qualified naming.elements_qualified) form.name t)).many)
  form-fills (forms.Attribute form) t local is =
      some-more _ _ (declared-some (form.global || unwrap_or form.qualified naming.attributes_qualified) form.name t local is)
      ((two-more naming form.of form.reference (with_declared naming (form.global || unwrap_or form.qualified naming.attributes_qualified) form.name t)).many)
  form-fills (forms.ComplexType form) t local is = declared-some true form.name t local is
  form-fills (forms.SimpleType name finals) t local is = declared-some true name t local is
  form-fills _ t local is = absurd (none-some local is)

  shapes-fill : (shapes : List Shape) (t : NameTable) → AreFilled (shapes_table naming shapes t) shapes
  shapes-fill [] t = All-nil (λ (shape : Shape). IsFilled t shape.form)
  shapes-fill (shape ∷ shapes) t =
      All-cons (λ (s : Shape). IsFilled (shapes_table naming shapes (shape_table naming shape t)) s.form) shape shapes
      (λ local is. some-more _ _ (form-fills shape.form (bindings_table shape.bindings t) local is) (shapes-more naming shapes (shape_table naming shape t)).many)
      (shapes-fill shapes (shape_table naming shape t))

filled-more : (t u : NameTable) (shapes : List Shape) → count t ≤ count u → AreFilled t shapes → AreFilled u shapes
filled-more t u shapes l h = λ n shape m local is. some-more _ _ (h n shape m local is) l

pub set-fills : (ds : List SetDocument) (t : NameTable) → All (λ d. AreFilled (set_table t ds) (shapes_of d)) ds
set-fills [] t = All-nil (λ (d : SetDocument). AreFilled t (shapes_of d))
set-fills (d ∷ ds) t =
    All-cons (λ (e : SetDocument). AreFilled (set_table (document_table d.target (shapes_of d) t) ds) (shapes_of e)) d ds
    (filled-more (document_table d.target (shapes_of d) t) (set_table (document_table d.target (shapes_of d) t) ds) (shapes_of d) (set-more ds (document_table d.target (shapes_of d) t)).many
    (shapes-fill (naming_of d.target (shapes_of d)) (shapes_of d) (with_space_of t d.target)))
    (set-fills ds (document_table d.target (shapes_of d) t))
