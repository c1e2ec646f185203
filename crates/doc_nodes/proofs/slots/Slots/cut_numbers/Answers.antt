use Rattle.std.proofs.Common.{sym}
use Rattle.std.proofs.lemmas.List.{take-map}
use Rattle.doc_nodes.specs.Slots.{slot_by}
use Rattle.doc_nodes.proofs.slots.Slots.cut_numbers.Goals as goal

pub returns : goal.returns
returns c = rw (← c.self.view_is, c.truncate.ensures.items) (sym (take-map (slot_by c.self.inside.slab) c.args.until c.self.inside.keys.items))
