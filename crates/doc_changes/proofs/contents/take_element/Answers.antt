use Rattle.std.proofs.Common.{ap}
use Rattle.doc_nodes.specs.Nodes.{is_element}
use Rattle.doc_changes.proofs.Holding.{holds_element}
use Rattle.doc_changes.proofs.contents.take_element.Goals as goal

pub replace-requires : goal.replace-requires
replace-requires c = let h = holds_element c.args.links.now c.args.number c.requires in (h.it, h.is, ap is_element h.holds)
