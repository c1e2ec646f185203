use Rattle.std.proofs.Common.{sym, arith}
use Rattle.edit_session.proofs.Placed.{refused-index}
use Rattle.edit_session.proofs.around.element_here.Goals as goal

pub returns-then-index-child_count-clause-refused : goal.returns-then-index-child_count-clause-refused
returns-then-index-child_count-clause-refused c = λ s z.
    refused-index s c.args.doc.now c.args.node c.args.index z (sym (rw c.in-Some-Element.field-0-is at c.in-Some-Element.ensures.kind))
    (rw c.in-Some-Element.field-0-is at (c.in-Some-Element.ensures.tree s.set.names s.document z)) (omega (arith, c.if-index-child_count.true, c.child_count.ensures.count))
