-- What is known of the documents in whose components originals are found.
use Rattle.std.specs.Prelude.{List}
use Rattle.schema_set.specs.declared.documents.Available.{Available}
use Rattle.schema_set.specs.Sourced.{AreSources}
use Rattle.redefine_originals.specs.Versions.{shapes_at}
use Rattle.redefine_originals.specs.declared.document_versions.DocumentVersions.{DocumentVersions}
use Rattle.redefine_originals.specs.declared.index.Originals.{Originals}
use Rattle.redefine_originals.specs.inside.DocumentVersions.{HasVersions}
use Rattle.redefine_originals.specs.inside.Orders.{IsByNumber, AreOrders}

-- the versions of each document, by its number
abbrev pub AreVersions : List Available → List DocumentVersions → Type 0
AreVersions available = IsByNumber (λ number versions. HasVersions number (shapes_at available number) versions) available

-- where each location leads, the versions of each document, and in which order documents are looked through from each
pub record AreIndexed (o : Originals) : Type 0 where
  pub sources : AreSources o.sources
  pub versions : AreVersions o.sources.available.now o.versions.items
  pub orders : AreOrders o.sources.available.now o.orders.items
