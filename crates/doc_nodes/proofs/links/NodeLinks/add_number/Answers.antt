use Rattle.doc_nodes.proofs.Seen.{sound}
use Rattle.doc_nodes.proofs.Changing.{grown_links}
use Rattle.doc_nodes.proofs.links.NodeLinks.add_number.Goals as goal

pub invariant_of-self : goal.invariant_of-self
invariant_of-self c =
    let e = c.add_number.ensures in
    grown_links c.add_number.result c.self.inside.slots.slots c.add_number.new.self.slots c.self.inside.lists e.ok e.few e.err c.self.invariant

pub returns-clause-sound : goal.returns-clause-sound
returns-clause-sound c =
    let e = c.add_number.ensures in
    sound c.add_number.new.self.slots c.self.inside.lists
    (grown_links c.add_number.result c.self.inside.slots.slots c.add_number.new.self.slots c.self.inside.lists e.ok e.few e.err c.self.invariant)
