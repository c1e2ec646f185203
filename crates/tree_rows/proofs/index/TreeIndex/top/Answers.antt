use Rattle.std.proofs.Common.{◌∙◌}
use Rattle.tree_rows.specs.Rows.{siblings}
use Rattle.tree_rows.proofs.Cutting.{whole_cut, forest_is}
use Rattle.tree_rows.proofs.index.TreeIndex.top.Goals as goal

pub invariant_of-result : goal.invariant_of-result
invariant_of-result c =
    whole_cut c.self.inside.rows.now c.as_slice.result.now c.self.invariant.rows_are (c.as_slice.ensures.value ∙ c.self.invariant.counts_are)

pub returns : goal.returns
returns c = forest_is 1 (siblings c.self.inside.rows.now 1) c.self.inside.rows.now c.self.invariant.rows_are ∙ c.self.view_is
