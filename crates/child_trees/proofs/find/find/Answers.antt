use Rattle.std.proofs.Common.{Some, ap, ◌∙◌}
use Rattle.child_trees.specs.Tops.{top_at}
use Rattle.child_trees.proofs.find.find.Goals as goal

pub top-requires : goal.top-requires
top-requires c =
    let r = c.requires in let l = r.4 in
    let spot = c.spot-spot.ensures r.0 r.1 r.2 r.3 l.tree l.at in
    (Some r.1, ap (λ z. top_at c.args.tops.now z.list) spot ∙ l.top_is)
