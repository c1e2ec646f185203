use Rattle.std.proofs.Common.{get_or, sym, subst}
use Rattle.std.proofs.lemmas.List.{length-map}
use Rattle.std.proofs.lemmas.List.{get_or-map}
use Rattle.child_trees.proofs.cells.Cells.act.Goals as goal

pub returns-clause-maps : goal.returns-clause-maps
returns-clause-maps g c =
    let M = g.M.Summary in
    let s = c.self.inside.summary in
    let cs = c.self.inside.cells.items in
    let x = c.index.result.now in
    rw (← c.self.view_is) (λ j d l.
    let w = rw length-map at l in
    subst (M.is_map (M.shape s)) (sym (get_or-map (M.map_of s) cs j x d w)) (g.met.M.Summary.maps s (get_or cs j x) (c.self.invariant.live_at j x w)))
