use Rattle.std.proofs.Common.{ap, ◌∙◌}
use Rattle.tree_rows.specs.Rows.{siblings}
use Rattle.tree_rows.specs.Sizes.{sizes}
use Rattle.tree_rows.proofs.Counting.{sizes_all}
use Rattle.tree_rows.proofs.index.TreeIndex.new.Goals as goal

pub invariant_of-result : goal.invariant_of-result
invariant_of-result c = record {
  rows_are = c.requires;
  counts_are = c.in_ok-below.ensures ∙ ap sizes c.requires ∙ sizes_all 1 (siblings c.args.rows.now 1);
}
