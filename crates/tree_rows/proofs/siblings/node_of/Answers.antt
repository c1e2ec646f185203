use Rattle.std.proofs.Common.{◌+◌, sym, ap, ◌∙◌}
use Rattle.tree_rows.specs.Rows.{node}
use Rattle.tree_rows.specs.Cuts.{forest_in}
use Rattle.tree_rows.proofs.Cutting.{opens_cut, cut_of, forest_is}
use Rattle.tree_rows.proofs.siblings.node_of.Goals as goal

pub split_at-requires : goal.split_at-requires
split_at-requires c = (opens_cut c.args.row.now c.args.rows.now c.args.count c.args.counts.now c.requires).within

pub split_at-requires-2 : goal.split_at-requires-2
split_at-requires-2 c = (opens_cut c.args.row.now c.args.rows.now c.args.count c.args.counts.now c.requires).counted

pub invariant_of-result : goal.invariant_of-result
invariant_of-result c =
    let o = opens_cut c.args.row.now c.args.rows.now c.args.count c.args.counts.now c.requires in
    cut_of (o.depth + 1) o.children c.split_at.result.0.now c.split_at-2.result.0.now (c.split_at.ensures.front ∙ o.below) (c.split_at-2.ensures.front ∙ o.below_counts)

pub invariant_of-result-2 : goal.invariant_of-result-2
invariant_of-result-2 c =
    let o = opens_cut c.args.row.now c.args.rows.now c.args.count c.args.counts.now c.requires in
    cut_of o.depth o.next c.split_at.result.1.now c.split_at-2.result.1.now (c.split_at.ensures.back ∙ o.beside) (c.split_at-2.ensures.back ∙ o.beside_counts)

pub returns : goal.returns
returns c =
    let o = opens_cut c.args.row.now c.args.rows.now c.args.count c.args.counts.now c.requires in
    let row = c.args.row.now in
    o.is
    ∙ ap (λ f. node row.number row.content row.bindings row.attributes f o.next) (sym (forest_is (o.depth + 1) o.children c.split_at.result.0.now (c.split_at.ensures.front ∙ o.below)))
    ∙ ap (node row.number row.content row.bindings row.attributes (forest_in c.split_at.result.0.now)) (sym (forest_is o.depth o.next c.split_at.result.1.now (c.split_at.ensures.back ∙ o.beside)))
