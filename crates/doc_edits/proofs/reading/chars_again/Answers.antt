use Rattle.std.proofs.Common.{refl, sym, ◌∙◌}
use Rattle.doc_edits.proofs.Own.{text-chars}
use Rattle.doc_edits.proofs.reading.chars_again.Goals as goal

pub returns : goal.returns
returns c = λ t d z. (refl, c.in_ok-text-in-Some.ensures ∙ text-chars t c.args.doc.now d z c.args.node c.requires c.in-Some.text.now (sym c.in-Some.ensures.chars))
