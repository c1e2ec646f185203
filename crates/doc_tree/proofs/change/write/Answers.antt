use Rattle.std.proofs.Common.{refl, ◌∙◌}
use Rattle.doc_changes.proofs.Holding.{holds_element}
use Rattle.doc_tree.proofs.Own.{element_kind}
use Rattle.doc_tree.proofs.Writes.{value_held, place_held, written_stands}
use Rattle.doc_tree.proofs.change.write.Goals as goal

pub write_attribute-requires-clause-element : goal.write_attribute-requires-clause-element
write_attribute-requires-clause-element c = let q = c.requires in element_kind q.0 c.args.links.now q.1 q.2 c.args.node q.4.0

pub write_attribute-requires-clause-place : goal.write_attribute-requires-clause-place
write_attribute-requires-clause-place c =
    let q = c.requires in let links = c.args.links.now in
    let own = holds_element links c.args.node (element_kind q.0 links q.1 q.2 c.args.node q.4.0) in
    place_held q.0 links q.1 q.2 c.args.node own c.args.name c.args.place c.args.value q.4.2

pub returns-clause-tree : goal.returns-clause-tree
returns-clause-tree c = λ t d z l fits.
    let links = c.args.links.now in
    let own = holds_element links c.args.node (element_kind t links d z c.args.node fits.0) in
    written_stands t links d z c.args.node own c.write_attribute.new.links c.args.name c.args.place c.args.value c.in_ok-old.ensures.sound l fits.2
    (c.in_ok-old.ensures.change own.it own.e own.is own.holds)

pub returns-clause-inverse : goal.returns-clause-inverse
returns-clause-inverse c = λ t d z l fits.
    let links = c.args.links.now in
    let own = holds_element links c.args.node (element_kind t links d z c.args.node fits.0) in
    (refl, l, refl, refl, c.in_ok-old.ensures.old ∙ value_held t links d z c.args.node own c.args.name l)
