-- What edits and steps along the history touch, and when the edit of an author comes too late.
use Rattle.std.specs.Prelude.{ℕ, Bool, true, false, nat_lt, Option, Some, None}
use Rattle.tree_rows.specs.Forest.{Forest}
use Rattle.tree_rows.specs.Kinds.{kind_of}
use Rattle.tree_rows.specs.declared.row.NodeKind.{NodeKind}
use Rattle.tree_edits.specs.declared.edit.Edit.{Edit}
use Rattle.tree_edits.specs.declared.edit.Edit.TheVariants as edits
use Rattle.tree_edits.specs.Inverses.{Change, put_back, take_out, rename, write, reword}
use Rattle.edit_session.specs.Parents.{parent_of}
use Rattle.edit_history.specs.Turns.{stale}
use Rattle.edit_history.specs.declared.touched.Touched.{Touched}
use Rattle.open_document.specs.State.{OpenState}
use Rattle.open_document.specs.declared.touches.TurnFault.{TurnFault}
use Rattle.open_document.specs.declared.touches.TurnFault.TheVariants.{BadRevision, Stale}

-- ---- what is touched

-- the list of a node's children
abbrev pub list_of : ℕ → Touched
list_of parent = record { node = None; list = Some parent }

-- the node itself
abbrev pub node_alone : ℕ → Touched
node_alone node = record { node = Some node; list = None }

-- the node itself and the list that it is in, which the root has not
abbrev pub node_in : ℕ → Forest → Touched
node_in node f = record { node = Some node; list = parent_of node f }

-- An edit of a tree: what is put somewhere touches the list there; a node that goes, or has another name, itself and the list that it is in; one
-- whose text or attributes change, itself.
abbrev pub touched : Edit → Forest → Touched
touched (edits.Insert parent place its) f = list_of parent
touched (edits.AddText parent place text) f = list_of parent
touched (edits.SetText node text) f = node_alone node
touched (edits.Remove node) f = node_in node f
touched (edits.Rename node name) f = node_in node f
touched (edits.SetAttr node name value) f = node_alone node
touched (edits.UnsetAttr node name) f = node_alone node

-- a change of a tree touches what an edit does that makes it
abbrev pub touches : Change → Forest → Touched
touches (put_back parent place part) f = list_of parent
touches (take_out key) f = node_in key f
touches (rename key name) f = node_in key f
touches (write key name place value) f = node_alone key
touches (reword key chars) f = node_alone key

-- ---- turns of authors

-- the node that an edit names
abbrev pub named : Edit → ℕ
named (edits.Insert parent place its) = parent
named (edits.AddText parent place text) = parent
named (edits.SetText node text) = node
named (edits.Remove node) = node
named (edits.Rename node name) = node
named (edits.SetAttr node name value) = node
named (edits.UnsetAttr node name) = node

-- of a node that is live
abbrev pub if_live : Option NodeKind → Option ℕ → Option ℕ
if_live None revision = None
if_live (Some kind) revision = revision

-- the latest revision that another author made after the one that was seen, by touching what the edit touches; where the node that the edit names
-- is live
abbrev pub stale_by : OpenState → ℕ → ℕ → Edit → Option ℕ
stale_by s author seen edit = if_live (kind_of (named edit) s.session.document.forest) (stale s.turns author seen (touched edit s.session.document.forest))

-- why an edit by an author who had seen a revision is not looked at: there is no such revision yet, or it comes too late
abbrev pub fault_by : Bool → Option ℕ → Option TurnFault
fault_by true stale = Some BadRevision
fault_by false (Some revision) = Some (Stale revision)
fault_by false None = None

abbrev pub turn_fault : OpenState → ℕ → ℕ → Edit → Option TurnFault
turn_fault s author seen edit = fault_by (nat_lt s.session.revision seen) (stale_by s author seen edit)
