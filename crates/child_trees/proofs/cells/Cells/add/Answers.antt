use Rattle.std.proofs.Common.{◌∙◌}
use Rattle.std.proofs.lemmas.Result.{err_from_is_err_and}
use Rattle.child_trees.proofs.Celled.{same_view, adds_slot, AreCells-pushed, maps_pushed, maps_kept, KeepsCells-then}
use Rattle.child_trees.proofs.cells.Cells.add.Goals as goal

pub returns-in_err-cell-clause-err : goal.returns-in_err-cell-clause-err
returns-in_err-cell-clause-err g c =
    let M = g.M.Summary in
    let s = c.self.inside.summary in
    let t = c.new_cell.new.self in
    let p = err_from_is_err_and c.from_residual.result c.from_residual.ensures.1 in
    rw (p.1, ← c.self.view_is) (same_view _ _ c.new_cell.ensures.shape (maps_kept M.live M.map_of s t c.self.inside.cells.items c.new_cell.ensures.others c.self.invariant))

pub invariant_of-self-in-Ok : goal.invariant_of-self-in-Ok
invariant_of-self-in-Ok g c =
    let M = g.M.Summary in
    rw c.in-Ok.ensures.items (AreCells-pushed M.live M.map_of c.self.inside.summary c.new_cell.new.self c.self.inside.cells.items c.in_ok-cell.cell c.new_cell.ensures.others c.self.invariant c.in_ok-cell.ensures.fresh c.in_ok-cell.ensures.made)

pub returns-in-Ok-clause-ok : goal.returns-in-Ok-clause-ok
returns-in-Ok-clause-ok g c =
    let M = g.M.Summary in
    let t = c.new_cell.new.self in
    rw (c.in-Ok.ensures.items, ← c.self.view_is) (adds_slot M.unit _ _ (M.map_of t c.in_ok-cell.cell) c.new_cell.ensures.shape (maps_pushed M.live M.map_of c.self.inside.summary t c.self.inside.cells.items c.in_ok-cell.cell c.new_cell.ensures.others c.self.invariant))

pub returns-in-Err-clause-err : goal.returns-in-Err-clause-err
returns-in-Err-clause-err g c =
    let M = g.M.Summary in
    let s = c.self.inside.summary in
    let t = c.new_cell.new.self in
    let u = c.free.new.self in
    let keeps = KeepsCells-then M.live M.map_of s t u c.in_ok-cell.cell c.new_cell.ensures.others c.in_ok-cell.ensures.fresh c.free.ensures.others in
    rw (c.in-Err.ensures.items, ← c.self.view_is) (same_view _ _ (c.free.ensures.shape ∙ c.new_cell.ensures.shape) (maps_kept M.live M.map_of s u c.self.inside.cells.items keeps c.self.invariant))
