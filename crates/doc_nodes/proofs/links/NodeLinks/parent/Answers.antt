use Rattle.doc_nodes.proofs.Seen.{sound}
use Rattle.doc_nodes.proofs.links.NodeLinks.parent.Goals as goal

pub returns-in-None-clause-sound : goal.returns-in-None-clause-sound
returns-in-None-clause-sound c = rw (← c.self.view_is) (sound _ _ c.self.invariant)

pub returns-in-None-hook-clause-sound : goal.returns-in-None-hook-clause-sound
returns-in-None-hook-clause-sound c = rw (← c.self.view_is) (sound _ _ c.self.invariant)

pub returns-in-Some-hook-clause-sound : goal.returns-in-Some-hook-clause-sound
returns-in-Some-hook-clause-sound c = rw (← c.self.view_is) (sound _ _ c.self.invariant)
