use Rattle.std.proofs.Common.{sym, ◌∙◌}
use Rattle.std.proofs.lemmas.Option.{none-some}
use Rattle.doc_edits.proofs.Placing.{unknown_removed, root_stays, node_there}
use Rattle.doc_edits.proofs.places.child_here.Goals as goal

pub returns-in-None-clause-err : goal.returns-in-None-clause-err
returns-in-None-clause-err c = λ t d z. unknown_removed t c.args.doc.now d z c.args.node (sym c.in-None.ensures.kind)

pub returns-in-None-parent-clause-err : goal.returns-in-None-parent-clause-err
returns-in-None-parent-clause-err c = λ t d z.
    let it = node_there c.args.doc.now c.args.node (λ e. none-some _ (sym (c.in-Some.ensures.kind ∙ e))) in
    root_stays t c.args.doc.now d z c.args.node it.0 it.1 (sym c.in-None-parent.ensures.parent)
