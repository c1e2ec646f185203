-- What is kept of a document's elements as what is found of them.
use Rattle.std.specs.Prelude.{◌≡◌, ℕ, true, List, []}
use Rattle.xs_codes.specs.declared.fault.Found.{Found}
use Rattle.tree_rows.specs.Forest.{Forest, Document}
use Rattle.identity_tables.specs.Ids.{id_codes}
use Rattle.identity_constraints.specs.Satisfied.{identity_at}
use Rattle.assessment.specs.Assessment.{Assessed, Beside}
use Rattle.assessment.specs.Bearings.{borne_values}
use Rattle.assessment.specs.Local.{Kept, kept_entries}
use Rattle.compiled_schema.specs.Usable.{IsUsable, set_of}
use Rattle.compiled_schema.specs.declared.compiled.Compiled.{Compiled}
use Rattle.what_is_found.specs.Identity.{seen}
use Rattle.doc_nodes.specs.Nodes.{Nodes, is_element_at}
use Rattle.doc_changes.specs.Stands.{StandsFor}
use Rattle.doc_changes.specs.Readers.{scope_at}
use Rattle.model_lists.specs.Lists.{ListsView}
use Rattle.kept_records.specs.Slots.{KeptSlots, IsMade, kept_at, entry_at}
use Rattle.kept_records.specs.Fit.{models_of, root_codes, IsTop, AllFitBut}

-- the nodes are those of the document, by names of the set's table, and nothing is kept but of its elements
pub record IsOver (c : Compiled) (ns : Nodes) (ks : KeptSlots) (d : Document) : Type 0 where
  pub usable : IsUsable c
  pub stands : StandsFor c.names ns d
  pub only : (n : ℕ) → IsMade ks n → is_element_at ns n ≡ true

-- all that is kept fits, from the root on
pub record AreSettled (c : Compiled) (ns : Nodes) (ks : KeptSlots) (v : ListsView) (ids : List Found) (d : Document) : Type 0 where
  pub over : IsOver c ns ks d
  pub top : IsTop (set_of c) ns ks
  pub fit : AllFitBut (set_of c) (models_of c) ns ks v ids []

-- by number, as assessment reads it
abbrev pub read_as : Nodes → KeptSlots → ℕ → Kept
read_as ns ks n = record { found = entry_at ks n; scope = scope_at ns n; stuck = (kept_at ks n).stuck; counts = (kept_at ks n).counts }

-- what is found, in the document's shape
abbrev pub found_in : Nodes → KeptSlots → Forest → Assessed
found_in ns ks f = kept_entries (read_as ns ks) f

-- these are the codes that are kept beside of each element
pub record SaysKept (b : Beside) (ks : KeptSlots) (codes : List Found) : Type 0 where
  pub identity : (n : ℕ) → IsMade ks n → b.identity n ≡ (kept_at ks n).identity
  pub ids : (n : ℕ) → IsMade ks n → b.ids n ≡ root_codes codes n

-- they are what is to be said beside of what is found: the codes of identity constraints (Structures 3.11.4) of each element, and those of
-- IDs (3.3.4) at the root
pub record SaysFound (c : Compiled) (ns : Nodes) (ks : KeptSlots) (codes : List Found) (d : Document) : Type 0 where
  pub identity : (n : ℕ) → IsMade ks n → (kept_at ks n).identity ≡ identity_at c.names c.parts c.identities.items n (seen (found_in ns ks d.forest))
  pub ids : codes ≡ id_codes (borne_values (found_in ns ks d.forest))
