use Rattle.std.proofs.Common.{◌∙◌, sym, ap, length}
use Rattle.xs_positions.proofs.Growing.{length-trees_of}
use Rattle.xs_positions.proofs.expr.Expr.nodes.Goals as goal

pub returns-clause-count : goal.returns-clause-count
returns-clause-count c =
    ap length c.deref.ensures.value ∙ (sym (length-trees_of c.self.inside.nodes.items) ∙ ap length c.self.view_is)
