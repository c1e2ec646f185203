-- The places of the elements of a set, as the code has them.
use Rattle.std.specs.Prelude.{◌≡◌, ℕ, ◌+◌, ◌==◌, ◌&&◌, Bool, List, [], ◌∷◌, Option, None, length, nat_eq, if◌then◌else◌}
use Rattle.std.specs.HashMap.{get}
use Rattle.std.specs.List.{list_any, position_from}
use Rattle.schema_set.specs.declared.documents.SetDocument.{SetDocument}
use Rattle.schema_set.specs.Order.{same_target}
use Rattle.redefine_originals.specs.inside.Lists.{listed}
use Rattle.schema_shape.specs.declared.forms.Shape.{Shape}
use Rattle.redefine_originals.specs.Originals.{shapes_of, version_place}
use Rattle.redefine_originals.specs.declared.places.DocumentPlaces.{DocumentPlaces}
use Rattle.redefine_originals.specs.declared.places.PlacedDocument.{PlacedDocument}
use Rattle.redefine_originals.specs.declared.places.SetPlaces.{SetPlaces}

-- the place of the element of this number
abbrev pub place_found : DocumentPlaces → ℕ → Option ℕ
place_found places item = get nat_eq places.inner item

-- the places of the elements of a document, which begin at this one
abbrev pub HasPlaces : ℕ → List Shape → DocumentPlaces → Type 0
HasPlaces place shapes places = (item : ℕ) → place_found places item ≡ position_from (λ s. s.item == item) place shapes

-- the place of the element of this number in the first of documents that has this target namespace
abbrev pub found_in : List PlacedDocument → Option (List ℕ) → ℕ → Option ℕ
found_in [] target item = None
found_in (p ∷ ps) target item = if same_target p.target.now target then place_found p.places item else found_in ps target item

abbrev pub ArePlaces : SetPlaces → Type 0
ArePlaces places = (target : Option (List ℕ)) (document item : ℕ) → found_in (listed places.documents document) target item ≡ version_place 0 places.set.now target document item

-- how many elements documents have together
abbrev pub total : List SetDocument → ℕ
total [] = 0
total (d ∷ ds) = length (shapes_of d) + total ds

-- a document has this number and this target namespace
abbrev pub is_asked : Option (List ℕ) → ℕ → SetDocument → Bool
is_asked target document d = d.number == document && same_target d.target target

abbrev pub has_target : Option (List ℕ) → PlacedDocument → Bool
has_target target p = same_target p.target.now target

-- by their numbers, documents of a set with the places of their elements
pub record ArePlaced (ds : List SetDocument) (documents : ℕ → List PlacedDocument) : Type 0 where
  pub among : (target : Option (List ℕ)) (document : ℕ) → list_any (has_target target) (documents document) ≡ list_any (is_asked target document) ds
  pub found : (target : Option (List ℕ)) (document item : ℕ) → found_in (documents document) target item ≡ version_place 0 ds target document item
