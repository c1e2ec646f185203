use Rattle.std.proofs.Common.{refl, sym}
use Rattle.doc_edits.proofs.Own.{element-name}
use Rattle.doc_edits.proofs.reading.name_again.Goals as goal

pub returns : goal.returns
returns c = λ t d z. let own = element-name t c.args.doc.now d z c.args.node c.requires c.in-Some.name (sym c.in-Some.ensures.name) in (refl, own.0, own.1)
