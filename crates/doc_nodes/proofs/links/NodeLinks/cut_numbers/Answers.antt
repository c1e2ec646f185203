use Rattle.doc_nodes.proofs.Seen.{sound}
use Rattle.doc_nodes.proofs.Changing.{cut_links, cut_seen}
use Rattle.doc_nodes.proofs.links.NodeLinks.cut_numbers.Goals as goal

pub invariant_of-self : goal.invariant_of-self
invariant_of-self c =
    let free = rw (← c.self.view_is) at c.requires in
    cut_links c.self.inside.slots.slots c.cut_numbers.new.self.slots c.self.inside.lists c.args.until c.cut_numbers.ensures free c.self.invariant

pub returns-clause-change : goal.returns-clause-change
returns-clause-change c = rw (← c.self.view_is) (cut_seen c.self.inside.slots.slots c.cut_numbers.new.self.slots c.self.inside.lists c.args.until c.cut_numbers.ensures)

pub returns-clause-sound : goal.returns-clause-sound
returns-clause-sound c =
    let free = rw (← c.self.view_is) at c.requires in
    sound c.cut_numbers.new.self.slots c.self.inside.lists
    (cut_links c.self.inside.slots.slots c.cut_numbers.new.self.slots c.self.inside.lists c.args.until c.cut_numbers.ensures free c.self.invariant)
