use Rattle.std.proofs.Common.{sym}
use Rattle.doc_nodes.proofs.Seen.{sound, counted}
use Rattle.doc_nodes.proofs.links.NodeLinks.child_count.Goals as goal

pub returns-in-None-clause-sound : goal.returns-in-None-clause-sound
returns-in-None-clause-sound c = rw (← c.self.view_is) (sound _ _ c.self.invariant)

pub returns-in-Some-clause-sound : goal.returns-in-Some-clause-sound
returns-in-Some-clause-sound c = rw (← c.self.view_is) (sound _ _ c.self.invariant)

pub returns-in-Some-clause-count : goal.returns-in-Some-clause-count
returns-in-Some-clause-count c = rw (← c.self.view_is) (counted c.self.inside.slots.slots c.self.inside.lists c.args.number c.in-Some.slot.now c.self.invariant (sym c.in-Some.ensures))
