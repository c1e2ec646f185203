use Rattle.std.proofs.Common.{sym}
use Rattle.doc_edits.proofs.Placing.{unknown_text, no_text}
use Rattle.doc_edits.proofs.places.text_here.Goals as goal

pub returns-in-None-clause-err : goal.returns-in-None-clause-err
returns-in-None-clause-err c = λ t d chars z. unknown_text t c.args.doc.now d z c.args.node (sym c.in-None.ensures.kind) chars

pub returns-in-Some-Element-clause-err : goal.returns-in-Some-Element-clause-err
returns-in-Some-Element-clause-err c = λ t d chars z. no_text t c.args.doc.now d z c.args.node (sym (rw c.in-Some-Element.field-0-is at c.in-Some-Element.ensures.kind)) chars
