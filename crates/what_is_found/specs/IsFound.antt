-- What is found out about the elements of a document by a schema set (Structures 5.2).
use Rattle.std.specs.Prelude.{◌≡◌, ℕ, ◌+◌, ◌==◌, List, [], ◌∷◌, if◌then◌else◌}
use Rattle.xs_names.specs.Names.{IsSound}
use Rattle.tree_rows.specs.Forest.{Document}
use Rattle.tree_rows.specs.Whole.{IsTree}
use Rattle.attr_assess.specs.Added.{AreNamed}
use Rattle.assessment.specs.Attribution.{SchemaSet}
use Rattle.assessment.specs.Assessment.{Entry, Assessed, entries, IsAssessment}
use Rattle.xpath_subset.specs.Reads.{AreIdentities}
use Rattle.xpath_subset.specs.declared.paths.IdentityPaths.{IdentityPaths}
use Rattle.what_is_found.specs.Identity.{beside_of}

-- These are the entries of the assessment of a document by a set, in document order, with the codes of the set's identity constraints (3.11.4)
-- and of the document's IDs (3.3.4). The set's table has each name once, those of its attribute declarations among them, the document is one
-- tree, and the paths of a set's constraints are read in one way: so there are no others.
pub record IsFound (s : SchemaSet) (d : Document) (es : List Entry) : Type 0 where
  pub sound : IsSound s.names
  pub named : AreNamed s.names s.parts
  pub tree : IsTree d
  pub identities : List IdentityPaths
  pub read : AreIdentities s.parts identities
  pub found : Assessed
  pub assessed : IsAssessment s (beside_of s identities d.forest found) d.forest found
  pub entries_are : es ≡ entries found

-- how many entries have the number
abbrev pub times_found : ℕ → List Entry → ℕ
times_found key [] = 0
times_found key (e ∷ more) = (if e.number == key then 1 else 0) + times_found key more
