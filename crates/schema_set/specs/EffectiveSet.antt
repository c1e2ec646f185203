-- Which documents are in a schema set, and with which target namespaces (Structures 4.2).
use Rattle.std.specs.Prelude.{◌≡◌, ℕ, ◌+◌, ◌⊎◌, List, [], ◌∷◌, Option, Some, None, All, Contains, slice_get, if◌then◌else◌}
use Rattle.std.specs.Option.{option_and_then}
use Rattle.std.specs.List.{list_any}
use Rattle.std.specs.Str.{bytes_eq}
use Rattle.xs_names.specs.WhiteSpace.{collapsed}
use Rattle.schema_shape.specs.declared.forms.Form.{Form}
use Rattle.schema_shape.specs.declared.forms.Form.TheVariants as forms
use Rattle.schema_shape.specs.declared.forms.Shape.{Shape}
use Rattle.schema_set.specs.declared.documents.Available.{Available}
use Rattle.schema_set.specs.declared.documents.SetDocument.{SetDocument}

-- the target namespace that the schema element says
abbrev pub form_target : Form → Option (List ℕ)
form_target (forms.Schema schema) = schema.target
form_target _ = None

-- the target namespace of a document, whose first shape is that of the schema element
abbrev pub own_target : List Shape → Option (List ℕ)
own_target shapes = option_and_then (λ shape. form_target shape.form) (slice_get shapes 0)

-- Structures 4.2.1, 4.2.2: an include or a redefine adds the document of a location with the including one's target
abbrev pub IsInclusion : Form → List ℕ → Type 0
IsInclusion form location = (form ≡ forms.Include location) ⊎ (form ≡ forms.Redefine location)

-- Structures 4.2.3: an import adds the document of a location with that one's own target
abbrev pub IsImport : Form → List ℕ → Type 0
IsImport form location = (namespace : Option (List ℕ)) × (form ≡ forms.Import namespace (Some location))

-- some shape of the document of this number has such a form
abbrev pub Says : List Available → ℕ → (Form → Type 0) → Type 0
Says available document IsForm = (n : ℕ) × (a : Available) × (shape : Shape) × (n + 1 ≡ document) × (slice_get available n ≡ Some a) × Contains a.shaped.shapes shape × IsForm shape.form

-- the number of the first document that one of whose locations is this, the white space of both collapsed
abbrev pub document_from : ℕ → List ℕ → List Available → Option ℕ
document_from number location [] = None
document_from number location (a ∷ others) =
    if list_any (λ other. bytes_eq (collapsed other) (collapsed location)) a.locations then Some number else document_from (number + 1) location others

abbrev pub document_at : List Available → List ℕ → Option ℕ
document_at available location = document_from 1 location available

-- The least set that has the document of the place `start` with its own target, and with each document those that it includes, redefines and
-- imports. A location of no document adds nothing.
pub data InSet (available : List Available) (start : ℕ) : ℕ → Option (List ℕ) → Type 0 where
  first : (a : Available) → slice_get available start ≡ Some a → InSet available start (start + 1) (own_target a.shaped.shapes)
  included : (document other : ℕ) (target : Option (List ℕ)) (location : List ℕ) → InSet available start document target → Says available document (λ form. IsInclusion form location)
      → document_at available location ≡ Some other → InSet available start other target
  imported : (document n : ℕ) (target : Option (List ℕ)) (location : List ℕ) (b : Available) → InSet available start document target → Says available document (λ form. IsImport form location)
      → document_at available location ≡ Some (n + 1) → slice_get available n ≡ Some b → InSet available start (n + 1) (own_target b.shaped.shapes)

-- the document of this number stands there
abbrev pub IsDocument : List Available → SetDocument → Type 0
IsDocument available d = (n : ℕ) × (a : Available) × (n + 1 ≡ d.number) × (slice_get available n ≡ Some a) × (d.shaped.now ≡ a.shaped)

-- these are the documents of the set, each of them, and none twice with one target
pub record IsEffectiveSet (available : List Available) (start : ℕ) (documents : List SetDocument) : Type 0 where
  pub there : All (IsDocument available) documents
  pub only : All (λ d. InSet available start d.number d.target) documents
  pub each : (number : ℕ) (target : Option (List ℕ)) → InSet available start number target → (d : SetDocument) × Contains documents d × (d.number ≡ number) × (d.target ≡ target)
  pub once : (m n : ℕ) (d e : SetDocument) → slice_get documents m ≡ Some d → slice_get documents n ≡ Some e → d.number ≡ e.number → d.target ≡ e.target → m ≡ n
