-- What an edit does to a document with all that is kept of its elements.
use Rattle.std.specs.Prelude.{◌≡◌, ◌≢◌, Ok, Err}
use Rattle.tree_edits.specs.Tests.{edited}
use Rattle.tree_edits.specs.declared.edit.Edit.{Edit}
use Rattle.tree_edits.specs.declared.edit.EditError.{EditError}
use Rattle.tree_edits.specs.declared.edit.EditError.TheVariants.{Memory}
use Rattle.compiled_schema.specs.Usable.{set_of}
use Rattle.compiled_schema.specs.declared.compiled.Compiled.{Compiled}
use Rattle.session_model.specs.State.{with_names}
use Rattle.doc_nodes.specs.Nodes.{Nodes}
use Rattle.doc_edits.specs.Changes.{CanMake, IsOf, IsPrepared, changed}
use Rattle.doc_edits.specs.declared.change.Change.{Change}
use Rattle.kept_inverses.specs.from_kept_state.KeptState.{KeptState}
use Rattle.edit_session.specs.Held.{document_in, IsPresent}

-- no test of the edit stands, and the change is the edit's; the table of the set has become one with the names of the document that is to
-- come, and what is kept is right by it as it was
pub record IsReady (old new : Compiled) (ns : Nodes) (k : KeptState) (edit : Edit) (change : Change) : Type 0 where
  pub makes : edited (document_in old ns) edit ≡ Ok (changed new.names (document_in old ns) change)
  pub can : CanMake new.names ns (document_in old ns) change
  pub is_of : IsOf edit change
  pub prepared : IsPrepared old.names new.names ns (document_in old ns) edit change
  pub named : set_of new ≡ with_names (set_of old) (changed new.names (document_in old ns) change).forest
  pub same_document : document_in new ns ≡ document_in old ns
  pub present : IsPresent new ns k

-- the edit was made: the nodes are those of the document after it, and all that is kept is right
pub record IsDone (old new : Compiled) (ns ms : Nodes) (k : KeptState) (edit : Edit) : Type 0 where
  pub document_is : edited (document_in old ns) edit ≡ Ok (document_in new ms)
  pub set_is : set_of new ≡ with_names (set_of old) (document_in new ms).forest
  pub present : IsPresent new ms k

-- it is refused so, unless memory is wanting, and the set is as it was
pub record IsRefused (old new : Compiled) (ns : Nodes) (edit : Edit) (error : EditError) : Type 0 where
  pub why : error ≢ Memory → edited (document_in old ns) edit ≡ Err error
  pub same : error ≢ Memory → new ≡ old

-- then the nodes are as they were as well, and what is kept of them
pub record IsLeft (old new : Compiled) (ns ms : Nodes) (k l : KeptState) (edit : Edit) (error : EditError) : Type 0 where
  pub refused : IsRefused old new ns edit error
  pub nodes : error ≢ Memory → ms ≡ ns
  pub kept : error ≢ Memory → l ≡ k
