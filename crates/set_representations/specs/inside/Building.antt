-- What is kept while the documents of a set are read.
use Rattle.std.specs.Prelude.{◌≡◌, ℕ, ◌+◌, List, [], ◌∷◌, ◌++◌, Option, Some, length, reverse, slice_get, slice_index_or, nat_eq}
use Rattle.std.specs.Option.{unwrap_or}
use Rattle.std.specs.HashMap.{get}
use Rattle.xs_names.specs.Names.{NameTable, Grown}
use Rattle.xs_names.specs.Scope.{first_scope}
use Rattle.schema_shape.specs.declared.forms.Shape.{Shape}
use Rattle.representations.specs.declared.parts.Representation.{Representation}
use Rattle.representations.specs.Named.{AreNamed}
use Rattle.representations.specs.Lasting.{IsLasting}
use Rattle.representations.specs.Wildcards.{KnowsTarget}
use Rattle.set_representations.specs.Members.{all_members}
use Rattle.set_representations.specs.Scopes.{scope_place, scopes_in}
use Rattle.set_representations.specs.Documents.{representations_from, imports_of}
use Rattle.set_representations.specs.declared.item_places.ItemPlaces.{ItemPlaces}
use Rattle.set_representations.specs.declared.reader.Reader.{Reader}

-- the place of an element of this number
abbrev pub found : ItemPlaces → ℕ → Option ℕ
found places item = get nat_eq places.inner item

-- the place of the scope that an element opened
abbrev pub opened_place : ItemPlaces → ℕ → ℕ
opened_place opened item = unwrap_or (found opened item) 0

abbrev pub scope_at : List (List (List ℕ × ℕ)) → ℕ → List (List ℕ × ℕ)
scope_at scopes place = slice_index_or scopes place first_scope

-- the scopes are those that there were, the first of them outside of all elements, and those that the elements before opened
pub record IsOpened (t : NameTable) (base : List (List (List ℕ × ℕ))) (before : List Shape) (opened : ItemPlaces) (scopes : List (List (List ℕ × ℕ))) : Type 0 where
  pub begins : slice_get base 0 ≡ Some first_scope
  pub places : (item : ℕ) → opened_place opened item ≡ scope_place (length base) before item
  pub all : IsLasting t (λ later. base ++ scopes_in later before) scopes

-- so much of a document is read: what is represented so far and what is to come are the whole
pub record IsRead (t : NameTable) (base : List (List (List ℕ × ℕ))) (whole : NameTable → List Representation) (imported : NameTable → List ℕ)
    (before left : List Shape) (reader : Reader) (reps : List Representation) (scopes : List (List (List ℕ × ℕ))) : Type 0 where
  pub target : KnowsTarget t reader.reading
  pub opened : IsOpened t base before reader.opened scopes
  pub members : reader.members ≡ reverse (all_members (length reps) left)
  pub made : (later : NameTable) → Grown t later
      → reps ++ representations_from later reader.reading.naming reader.reading.defaults reader.number (length base) before (length reps) left ≡ whole later
  pub imports : (later : NameTable) → Grown t later → reader.imports ++ imports_of later left ≡ imported later
  pub named : AreNamed t reps
