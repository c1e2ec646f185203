-- The representations of a schema set.
use Rattle.std.specs.Prelude.{ℕ, ◌+◌, List, [], ◌∷◌, ◌++◌, Option, length, reverse}
use Rattle.std.specs.List.{flat_map}
use Rattle.xs_names.specs.Names.{NameTable}
use Rattle.xs_names.specs.Scope.{first_scope}
use Rattle.schema_faults.specs.Constructs.{nearest}
use Rattle.schema_shape.specs.declared.forms.Form.{Form}
use Rattle.schema_shape.specs.declared.forms.Form.TheVariants as shapes
use Rattle.schema_shape.specs.declared.forms.Shape.{Shape}
use Rattle.schema_set.specs.declared.documents.SetDocument.{SetDocument}
use Rattle.representations.specs.declared.naming.Naming.{Naming}
use Rattle.representations.specs.Naming.{space_in, naming_of}
use Rattle.representations.specs.Documents.{document_table}
use Rattle.representations.specs.declared.parts.Representation.{Representation}
use Rattle.representations.specs.declared.origins.Origin.{Origin}
use Rattle.representations.specs.declared.defaults.Defaults.{Defaults}
use Rattle.representations.specs.Methods.{defaults_of}
use Rattle.representations.specs.ElementForms.{represented, occurs_in}
use Rattle.set_representations.specs.Members.{places_of}
use Rattle.set_representations.specs.Scopes.{openings, scope_place, scopes_in}

-- in the document of this number, whose scopes begin at a place
module _ (t : NameTable) (naming : Naming) (defaults : Defaults) (document first : ℕ) where
  -- an element at this place, with those before it, the latest first, and those behind it; its scope is that of the nearest element
  -- at or above it that has bindings
  abbrev pub representation : List Shape → ℕ → Shape → List Shape → Representation
  representation before place shape behind = record {
    at = record { document = document; item = shape.item };
    scope = scope_place first (shape ∷ before) (nearest shape.above shape.item shape.bindings);
    min = (occurs_in shape.form).min;
    max = (occurs_in shape.form).max;
    members = places_of (place + 1) behind shape.members;
    form = represented t naming defaults shape.form;
  }

  abbrev pub representations_from : List Shape → ℕ → List Shape → List Representation
  representations_from before place [] = []
  representations_from before place (shape ∷ behind) =
      representation before place shape behind ∷ representations_from (shape ∷ before) (place + 1) behind

-- the elements of a document
abbrev pub shapes_of : SetDocument → List Shape
shapes_of d = d.shaped.now.shapes

-- a document, where so many representations and scopes stand before its own
abbrev pub document_representations : NameTable → ℕ → ℕ → SetDocument → List Representation
document_representations t place first d =
    representations_from t (naming_of d.target (shapes_of d)) (defaults_of (shapes_of d)) d.number first [] place (shapes_of d)

abbrev pub representations_of : NameTable → ℕ → ℕ → List SetDocument → List Representation
representations_of t place first [] = []
representations_of t place first (d ∷ ds) =
    document_representations t place first d
    ++ representations_of t (place + length (shapes_of d)) (first + openings (reverse (shapes_of d))) ds

-- the scopes that the elements of a document open
abbrev pub document_scopes : NameTable → SetDocument → List (List (List ℕ × ℕ))
document_scopes t d = scopes_in t (reverse (shapes_of d))

-- Structures 4.2.3: the namespaces that imports name
abbrev pub import_of : NameTable → Form → List ℕ
import_of t (shapes.Import namespace location) = space_in t namespace ∷ []
import_of t _ = []

abbrev pub imports_of : NameTable → List Shape → List ℕ
imports_of t shapes = flat_map (λ shape. import_of t shape.form) shapes

abbrev pub origin_of : NameTable → ℕ → SetDocument → Origin
origin_of t place d = record { target = space_in t d.target; imports = imports_of t (shapes_of d); end = place + length (shapes_of d) }

abbrev pub origins_of : NameTable → ℕ → List SetDocument → List Origin
origins_of t place [] = []
origins_of t place (d ∷ ds) = origin_of t place d ∷ origins_of t (place + length (shapes_of d)) ds

-- the table with the names of these documents
abbrev pub set_table : NameTable → List SetDocument → NameTable
set_table t [] = t
set_table t (d ∷ ds) = set_table (document_table d.target (shapes_of d) t) ds

-- the documents of a set: the scope outside of all elements stands before those of the documents
abbrev pub representations : NameTable → List SetDocument → List Representation
representations t ds = representations_of t 0 1 ds

abbrev pub scopes : NameTable → List SetDocument → List (List (List ℕ × ℕ))
scopes t ds = first_scope ∷ flat_map (document_scopes t) ds

abbrev pub origins : NameTable → List SetDocument → List Origin
origins t ds = origins_of t 0 ds
