use Rattle.std.proofs.Common.{◌∙◌}
use Rattle.doc_nodes.specs.Nodes.{node}
use Rattle.doc_edits.proofs.Naming.{no_attributes, some_attributes}
use Rattle.doc_edits.proofs.names.attributes_of.Goals as goal

pub returns-in-None : goal.returns-in-None
returns-in-None c = no_attributes (node c.args.doc.now c.args.node) c.in-None.ensures.content

pub returns-in-Some : goal.returns-in-Some
returns-in-Some c = c.attributes_in.ensures ∙ some_attributes (node c.args.doc.now c.args.node) c.in-Some.content.now c.in-Some.ensures.content
