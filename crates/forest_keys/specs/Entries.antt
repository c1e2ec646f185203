-- The entries of a document's elements.
use Rattle.std.specs.Prelude.{◌≡◌, List, map}
use Rattle.tree_rows.specs.Forest.{Forest}
use Rattle.xpath_subset.specs.declared.paths.IdentityPaths.{IdentityPaths}
use Rattle.assessment.specs.Attribution.{SchemaSet}
use Rattle.assessment.specs.Assessment.{Assessed, entries, IsAssessment}
use Rattle.what_is_found.specs.Identity.{beside_of}
use Rattle.tree_assess.specs.Entries.{entry_of}
use Rattle.tree_assess.specs.declared.entry.ElementEntry.{ElementEntry}

-- these are the entries of the assessment of a document by a schema set, in document order, with the codes of its identity constraints, whose paths
-- are these,
-- and of its IDs
pub record AreEntries (s : SchemaSet) (identities : List IdentityPaths) (f : Forest) (es : List ElementEntry) : Type 0 where
  pub found : Assessed
  pub assessed : IsAssessment s (beside_of s identities f found) f found
  pub entries_are : map entry_of es ≡ entries found
