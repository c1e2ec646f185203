-- Which version of a component is the original of which, by places (Structures 4.2.2). The elements of the documents of a set have places:
-- document by document, in document order.
use Rattle.std.specs.Prelude.{◌≡◌, ℕ, ◌+◌, ◌==◌, ◌&&◌, List, [], ◌∷◌, Option, None, Some, length, map, if◌then◌else◌}
use Rattle.std.specs.List.{AllZip, find, flat_map, position_from}
use Rattle.std.specs.Option.{option_and_then}
use Rattle.schema_set.specs.declared.documents.Available.{Available}
use Rattle.schema_set.specs.declared.documents.SetDocument.{SetDocument}
use Rattle.schema_set.specs.Order.{same_target}
use Rattle.redefine_originals.specs.declared.versions.Redefinable.{Redefinable}
use Rattle.redefine_originals.specs.Versions.{Child, Version, declared_as, redefining, IsOriginal}
use Rattle.schema_shape.specs.declared.forms.Shape.{Shape}

abbrev pub shapes_of : SetDocument → List Shape
shapes_of d = d.shaped.now.shapes

-- the elements of the documents of a set, by their places
abbrev pub elements : List SetDocument → List (SetDocument × Shape)
elements set = flat_map (λ d. map (λ s. (d, s)) (shapes_of d)) set

-- The place of the element of a number in the document of a number that has this target namespace in the set. Places of these documents
-- begin here.
abbrev pub version_place : ℕ → List SetDocument → Option (List ℕ) → ℕ → ℕ → Option ℕ
version_place place [] target document item = None
version_place place (d ∷ ds) target document item =
    if d.number == document && same_target d.target target then position_from (λ s. s.item == item) place (shapes_of d)
    else version_place (place + length (shapes_of d)) ds target document item

-- an element of this number that stands in a redefine of a document
abbrev pub child_of : List Shape → ℕ → Option Child
child_of shapes item = find (λ c. c.shape.item == item) (redefining shapes)

-- of a set of documents
module _ (available : List Available) (set : List SetDocument) (target : Option (List ℕ)) where
  -- the place of the original of what a redefine of this location holds, by its kind and name
  abbrev pub IsPlaceOf : List ℕ → Option (Redefinable × List ℕ) → Option ℕ → Type 0
  IsPlaceOf location None place = place ≡ None
  IsPlaceOf location (Some declared) place =
      (found : Option Version) × IsOriginal available location declared.0 declared.1 found × (place ≡ option_and_then (λ v. version_place 0 set target v.document v.shape.item) found)

  -- what stands in no redefine has no original
  abbrev pub IsChildPlace : Option Child → Option ℕ → Type 0
  IsChildPlace None place = place ≡ None
  IsChildPlace (Some child) place = IsPlaceOf child.location (declared_as child.shape.form) place

-- Structures 4.2.2: the place of the original of what an element of a document redefines; there the document has the target namespace
-- that the redefining one has
abbrev pub IsOriginalPlace : List Available → List SetDocument → SetDocument × Shape → Option ℕ → Type 0
IsOriginalPlace available set element place = IsChildPlace available set element.0.target (child_of (shapes_of element.0) element.1.item) place

-- the same of all elements of the set, by their places
abbrev pub AreOriginals : List Available → List SetDocument → List (Option ℕ) → Type 0
AreOriginals available set originals = AllZip (IsOriginalPlace available set) (elements set) originals
