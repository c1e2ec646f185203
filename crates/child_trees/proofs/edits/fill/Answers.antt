use Rattle.child_trees.proofs.Celled.{adds_then}
use Rattle.child_trees.proofs.edits.fill.Goals as goal

pub more-preserved : goal.more-preserved
more-preserved g c = adds_then g.M.Summary.unit c.args.cells.now c.more.cells c.add.new.self c.more.invariant c.in_ok-add.ensures.ok
