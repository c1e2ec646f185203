use Rattle.std.proofs.Common.{sym}
use Rattle.doc_edits.proofs.Placing.{unknown, text_there}
use Rattle.doc_edits.proofs.places.element_here.Goals as goal

pub returns-in-None-clause-err : goal.returns-in-None-clause-err
returns-in-None-clause-err c = λ t d z. unknown t c.args.doc.now d z c.args.node (sym c.in-None.ensures.kind)

pub returns-in-Some-Chars-clause-err : goal.returns-in-Some-Chars-clause-err
returns-in-Some-Chars-clause-err c = λ t d z. text_there t c.args.doc.now d z c.args.node (sym (rw c.in-Some-Chars.field-0-is at c.in-Some-Chars.ensures.kind))
