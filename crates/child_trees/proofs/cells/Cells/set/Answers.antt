use Rattle.std.proofs.lemmas.List.{length-map}
use Rattle.child_trees.proofs.Celled.{sets_map, maps_written, AreCells-written}
use Rattle.child_trees.proofs.cells.Cells.set.Goals as goal

pub invariant_of-self : goal.invariant_of-self
invariant_of-self g c =
    let M = g.M.Summary in
    let slot = rw (← c.self.view_is) at c.requires.slot in
    let l = rw length-map at slot in
    AreCells-written M.live M.map_of c.self.inside.summary c.set_leaf.new.self c.self.inside.cells.items c.args.slot c.index.result.now c.set_leaf.ensures.others c.self.invariant l c.index.ensures c.set_leaf.ensures.live

pub returns-in-Some-clause-map : goal.returns-in-Some-clause-map
returns-in-Some-clause-map g c =
    let M = g.M.Summary in
    let slot = rw (← c.self.view_is) at c.requires.slot in
    let l = rw length-map at slot in
    rw (c.in-Some.is, ← c.self.view_is) (sets_map M.unit _ _ c.args.slot _ slot c.set_leaf.ensures.shape (maps_written M.live M.map_of c.self.inside.summary c.set_leaf.new.self c.self.inside.cells.items c.args.slot c.index.result.now _ c.set_leaf.ensures.others c.self.invariant l c.index.ensures c.set_leaf.ensures.value))

pub invariant_of-self-in-None : goal.invariant_of-self-in-None
invariant_of-self-in-None g c =
    let M = g.M.Summary in
    let slot = rw (← c.self.view_is) at c.requires.slot in
    let l = rw length-map at slot in
    AreCells-written M.live M.map_of c.self.inside.summary c.set_unit.new.self c.self.inside.cells.items c.args.slot c.index.result.now c.set_unit.ensures.others c.self.invariant l c.index.ensures c.set_unit.ensures.live

pub returns-in-None-clause-map : goal.returns-in-None-clause-map
returns-in-None-clause-map g c =
    let M = g.M.Summary in
    let slot = rw (← c.self.view_is) at c.requires.slot in
    let l = rw length-map at slot in
    rw (c.in-None.is, ← c.self.view_is) (sets_map M.unit _ _ c.args.slot _ slot c.set_unit.ensures.shape (maps_written M.live M.map_of c.self.inside.summary c.set_unit.new.self c.self.inside.cells.items c.args.slot c.index.result.now _ c.set_unit.ensures.others c.self.invariant l c.index.ensures c.set_unit.ensures.value))
