-- What is known of the documents that there are before a set is closed.
use Rattle.std.specs.Prelude.{◌≡◌, ℕ, ◌<◌, ◌^◌, List, length, map}
use Rattle.xs_names.specs.WhiteSpace.{collapsed}
use Rattle.std.specs.HashMap.{get_by_text}
use Rattle.schema_set.specs.EffectiveSet.{own_target, document_at}
use Rattle.schema_set.specs.declared.documents.Available.{Available}
use Rattle.schema_set.specs.Order.{target_place}
use Rattle.schema_set.specs.declared.sources.Sources.{Sources}

abbrev pub own_places : List Available → List Available → List ℕ
own_places available documents = map (λ a. target_place available (own_target a.shaped.shapes)) documents

-- the place of the own target namespace of each document, and the number of the document of each location
pub record AreSources (s : Sources) : Type 0 where
  pub some : 0 < length s.available.now
  pub few : length s.available.now < 2 ^ 16
  pub places : s.places.items ≡ own_places s.available.now s.available.now
  pub numbers : (location : List ℕ) → get_by_text s.numbers (collapsed location) ≡ document_at s.available.now location
