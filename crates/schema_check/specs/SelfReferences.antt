-- References of redefining components to their own names, by the elements of the documents of a set (Structures 4.2.2).
use Rattle.std.specs.Prelude.{◌≡◌, ℕ, List, Option, Some, Contains, All, slice_get}
use Rattle.std.specs.Str.{IsUtf8}
use Rattle.tree_rows.specs.Whole.{IsTree}
use Rattle.xs_names.specs.Names.{NameTable}
use Rattle.xs_codes.specs.declared.fault.Fault.{Fault}
use Rattle.schema_shape.specs.declared.forms.Shape.{Shape}
use Rattle.schema_set.specs.Documents.{available, IsSet}
use Rattle.schema_set.specs.declared.documents.SetDocument.{SetDocument}
use Rattle.schema_set.specs.declared.inputs.SchemaInput.{SchemaInput}
use Rattle.redefine_originals.specs.declared.versions.Redefinable.{Redefinable}
use Rattle.redefine_originals.specs.Originals.{elements, shapes_of, AreOriginals}
use Rattle.redefine_originals.specs.Versions.{Child, redefining, declared_as}
use Rattle.redefine_faults.specs.Redefinitions.{IsSelfReference, IsRedefineFault}
use Rattle.representations.specs.declared.parts.Representation.{Representation}
use Rattle.set_representations.specs.Documents.{representations, set_table}
use Rattle.redefine_names.specs.Renamed.{renamed}
use Rattle.redefine_names.specs.VersionNames.{with_versions}

-- The element at a place is a reference to itself of the redefining component at another: it stands below it in one document, and refers
-- to the component of its kind and name in the target namespace that the document has in the set.
pub record RefersToItself (set : List SetDocument) (version place : ℕ) : Type 0 where
  pub document : SetDocument
  pub child : Child
  pub reference : Shape
  pub of : Redefinable
  pub name : List ℕ
  pub redefines : Contains (redefining (shapes_of document)) child
  pub declares : declared_as child.shape.form ≡ Some (of, name)
  pub at : slice_get (elements set) version ≡ Some (document, child.shape)
  pub there : slice_get (elements set) place ≡ Some (document, reference)
  pub refers : IsSelfReference (shapes_of document) document.target of name child.shape reference

-- the set that starts at one of the documents, by their trees, and the originals of what it redefines, where no constraint on redefines is
-- broken
pub record AreComposed (inputs : List SchemaInput) (set : List SetDocument) (originals : List (Option ℕ)) : Type 0 where
  pub start : ℕ
  pub trees : All (λ input. IsTree input.tree) inputs
  pub is_set : IsSet inputs start set
  pub are_originals : AreOriginals (available inputs) set originals
  pub sound : (f : Fault) → IsRedefineFault (available inputs) start f → ⊥

-- by a table that the names of the set's documents are put into
module _ (t : NameTable) (set : List SetDocument) where
  abbrev pub set_names : NameTable
  set_names = set_table t set

  -- what the elements of the set represent
  abbrev pub set_reps : List Representation
  set_reps = representations set_names set

  -- the same, originals under names of their own
  abbrev pub set_versions : List (Option ℕ) → List Representation
  set_versions originals = renamed (with_versions set_names set_reps originals) set_reps originals

-- the names of a table are text
abbrev pub AreTexts : NameTable → Type 0
AreTexts t = All (λ name. IsUtf8 name.1) t.names
