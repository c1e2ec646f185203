use Rattle.std.proofs.Common.{ap}
use Rattle.doc_nodes.specs.Nodes.{is_element}
use Rattle.doc_changes.proofs.Holding.{holds_chars, text_stands}
use Rattle.doc_changes.proofs.contents.set_text.Goals as goal

pub replace-requires : goal.replace-requires
replace-requires c = let h = holds_chars c.args.links.now c.args.number c.requires in (h.it, h.is, ap is_element h.holds)

pub returns-clause-tree : goal.returns-clause-tree
returns-clause-tree c = λ t d z.
    text_stands t c.args.links.now c.replace.new.self d z c.args.number c.args.text (holds_chars c.args.links.now c.args.number c.requires) c.replace.ensures.change c.replace.ensures.sound
