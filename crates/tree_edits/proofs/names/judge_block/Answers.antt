use Rattle.std.proofs.Common.{ap, sym, ◌∙◌}
use Rattle.tree_edits.specs.Sizes.{all_nodes, all_deepest}
use Rattle.tree_edits.proofs.BlockSizes.{block_count, block_depth, no_item}
use Rattle.tree_edits.proofs.names.judge_block.Goals as goal

pub returns-clause-nodes : goal.returns-clause-nodes
returns-clause-nodes c =
    let last = rw c.in_default.is at c.split_first.ensures.cases in
    c.end.ensures.nodes ∙ ap (all_nodes c.items.walk.size) (no_item c.items.left.now last) ∙ c.items.invariant.nodes
    ∙ sym (block_count c.args.scope.now c.args.items.now c.requires.one)

pub returns-clause-depth : goal.returns-clause-depth
returns-clause-depth c =
    let last = rw c.in_default.is at c.split_first.ensures.cases in
    c.end.ensures.depth ∙ ap (all_deepest c.items.walk.size) (no_item c.items.left.now last) ∙ c.items.invariant.depth
    ∙ sym (block_depth c.args.scope.now c.args.items.now c.requires.one)
