use Rattle.std.proofs.Common.{arith}
use Rattle.tree_edits.proofs.Outcomes.{err_same}
use Rattle.doc_edits.proofs.Placing.{bad_place, has_place}
use Rattle.doc_edits.proofs.places.place_here.Goals as goal

pub returns-in_err-element_here-clause-err : goal.returns-in_err-element_here-clause-err
returns-in_err-element_here-clause-err c =
    err_same c.from_residual.result c.in_err-element_here.field-0.0 _ c.from_residual.ensures.1
    (λ t d z change. (c.in_err-element_here.ensures.err t d z).puts c.args.index change)

pub returns-then-index-child_count-clause-err : goal.returns-then-index-child_count-clause-err
returns-then-index-child_count-clause-err c = λ t d z change.
    bad_place t c.args.doc.now d z c.args.parent c.in_ok-element_here.ensures.ok c.args.index (omega (arith, c.if-index-child_count.true, c.child_count.ensures.count)) change

pub returns-clause-ok : goal.returns-clause-ok
returns-clause-ok c = λ t d z.
    has_place t c.args.doc.now d z c.args.parent c.in_ok-element_here.ensures.ok c.args.index (omega (arith, c.if-index-child_count.false, c.child_count.ensures.count))
