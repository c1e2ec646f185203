use Rattle.std.proofs.Common.{◌∙◌}
use Rattle.doc_edits.proofs.Placing.{many_by}
use Rattle.doc_edits.proofs.places.are_too_many.Goals as goal

pub returns : goal.returns
returns c = λ t d z. c.are_past.ensures ∙ many_by d c.args.more c.node_count.result c.next_free.result (c.node_count.ensures.tree t d z) (c.next_free.ensures.tree t d z)
