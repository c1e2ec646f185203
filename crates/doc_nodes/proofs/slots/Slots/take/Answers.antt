use Rattle.doc_nodes.proofs.Keyed.{taken_key, kept_take_out, writes_take}
use Rattle.doc_nodes.proofs.slots.Slots.take.Goals as goal

pub invariant_of-self : goal.invariant_of-self
invariant_of-self c =
    let s = c.self.inside in
    let there = rw (← c.self.view_is) at c.requires.1 in
    let t = taken_key s.keys.items s.slab c.args.number c.index.result.now c.requires.0 c.in-Some.key there c.index.ensures c.in-Some.is in
    kept_take_out s.keys.items s.slab c.remove.new.self c.args.number c.in-Some.key c.self.invariant t.0 t.1 c.remove.ensures.updates

pub returns-clause-change : goal.returns-clause-change
returns-clause-change c =
    let s = c.self.inside in
    let there = rw (← c.self.view_is) at c.requires.1 in
    let t = taken_key s.keys.items s.slab c.args.number c.index.result.now c.requires.0 c.in-Some.key there c.index.ensures c.in-Some.is in
    rw (← c.self.view_is) (writes_take s.keys.items s.slab c.remove.new.self c.args.number c.in-Some.key c.self.invariant t.0 t.1 c.remove.ensures.updates)
