use Rattle.std.proofs.Common.{◌≡◌, take, false}
use Rattle.std.specs.List.{list_any}
use Rattle.tree_rows.specs.Naming.{same_name}
use Rattle.doc_nodes.specs.declared.content.NameAttribute.{NameAttribute}
use Rattle.doc_changes.specs.Stands.{expanded_of}
use Rattle.doc_edits.proofs.names.number_among.Given as goal

abbrev pub invariant-loop-attribute : goal.invariant-loop-attribute
invariant-loop-attribute l = list_any (λ (a : NameAttribute). same_name (expanded_of l.names a.name) l.name) (take l.attribute-index l.attributes) ≡ false
