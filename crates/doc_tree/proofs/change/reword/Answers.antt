use Rattle.std.proofs.Common.{refl}
use Rattle.doc_tree.proofs.Own.{text_kind, own_chars}
use Rattle.doc_tree.proofs.change.reword.Goals as goal

pub chars_of-requires : goal.chars_of-requires
chars_of-requires c = let q = c.requires in text_kind q.0 c.args.links.now q.1 q.2 c.args.node q.3

pub set_text-requires : goal.set_text-requires
set_text-requires c = let q = c.requires in text_kind q.0 c.args.links.now q.1 q.2 c.args.node q.3

pub returns-clause-tree : goal.returns-clause-tree
returns-clause-tree c = λ t d z. c.set_text.ensures.tree t d z

pub returns-clause-inverse : goal.returns-clause-inverse
returns-clause-inverse c = λ t d z fits. (refl, own_chars t c.args.links.now d z c.args.node c.in_ok-old.old fits c.in_ok-old.ensures)

pub returns-in_err-old-clause-sound : goal.returns-in_err-old-clause-sound
returns-in_err-old-clause-sound c = c.requires.2.links
