use Rattle.std.proofs.Common.{length, ap, arith}
use Rattle.child_trees.proofs.Keeping.{all_stay}
use Rattle.child_trees.proofs.edits.reserve.Goals as goal

pub returns-in_err-fill-clause-lists : goal.returns-in_err-fill-clause-lists
returns-in_err-fill-clause-lists g c =
    let M = g.M.Summary in let v = c.args.cells.now in let e = c.fill.ensures.cells in let ns = c.args.trees.now.nodes in
    all_stay M.unit M.join v c.fill.new.cells ns ns (λ p b u k. k) e.size (λ p b u j k h. e.others j (k.within j h)) e.shape

pub returns-clause-lists : goal.returns-clause-lists
returns-clause-lists g c =
    let M = g.M.Summary in let v = c.args.cells.now in let e = c.fill.ensures.cells in
    all_stay M.unit M.join v c.fill.new.cells c.args.trees.now.nodes c.reserve.new.self.nodes c.reserve.ensures.others e.size (λ p b u j k h. e.others j (k.within j h)) e.shape

pub returns-clause-cells : goal.returns-clause-cells
returns-clause-cells g c = omega (arith, c.in_ok-fill.ensures.ok, c.reserve.ensures.most, ap length c.nodes.ensures)
