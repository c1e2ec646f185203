use Rattle.std.proofs.Common.{sym, ◌∙◌}
use Rattle.std.proofs.lemmas.List.{length-map}
use Rattle.child_trees.proofs.Celled.{sets_map, maps_written, AreCells-written, read_map}
use Rattle.child_trees.proofs.cells.Cells.join.Goals as goal

pub invariant_of-self : goal.invariant_of-self
invariant_of-self g c =
    let M = g.M.Summary in
    let into = rw (← c.self.view_is) at c.requires.into in
    let i = rw length-map at into in
    AreCells-written M.live M.map_of c.self.inside.summary c.combine.new.self c.self.inside.cells.items c.args.into c.index-3.result.now c.combine.ensures.others c.self.invariant i c.index-3.ensures c.combine.ensures.live

pub returns-clause-map : goal.returns-clause-map
returns-clause-map g c =
    let M = g.M.Summary in
    let s = c.self.inside.summary in
    let t = c.combine.new.self in
    let cs = c.self.inside.cells.items in
    let h = M.unit (M.shape s) in
    let l = rw (← c.self.view_is, length-map) at c.requires.left in
    let r = rw (← c.self.view_is, length-map) at c.requires.right in
    let into = rw (← c.self.view_is) at c.requires.into in
    let i = rw length-map at into in
    let value = c.combine.ensures.value ∙ sym (λ k. M.join (read_map (M.map_of s) cs c.args.left c.index.result.now h l c.index.ensures k) (read_map (M.map_of s) cs c.args.right c.index-2.result.now h r c.index-2.ensures k)) in
    rw (← c.self.view_is) (sets_map M.unit _ _ c.args.into _ into c.combine.ensures.shape (maps_written M.live M.map_of s t cs c.args.into c.index-3.result.now _ c.combine.ensures.others c.self.invariant i c.index-3.ensures value))
