use Rattle.std.proofs.Common.{refl, sym, ap, ◌∙◌}
use Rattle.std.specs.Option.{option_and_then}
use Rattle.doc_nodes.specs.Nodes.{node}
use Rattle.doc_changes.specs.Held as held
use Rattle.doc_tree.proofs.Answering.{and_content, chars_are}
use Rattle.doc_tree.proofs.tree.DocTree.chars.Goals as goal

pub returns-in-None-clause-chars : goal.returns-in-None-clause-chars
returns-in-None-clause-chars c = rw (← c.self.view_is) (
    let ns = c.self.inside.links in let n = c.args.node in
    ap (option_and_then held.chars_in) c.in-None.ensures.content ∙ sym (and_content held.chars_in (node ns n)))

pub returns-in-None-clause-tree : goal.returns-in-None-clause-tree
returns-in-None-clause-tree c = rw (← c.self.view_is) (λ t d z.
    let ns = c.self.inside.links in let n = c.args.node in
    (ap (option_and_then held.chars_in) c.in-None.ensures.content ∙ sym (and_content held.chars_in (node ns n))) ∙ chars_are t ns d z n (node ns n) refl)

pub returns-in-None-clause-sound : goal.returns-in-None-clause-sound
returns-in-None-clause-sound c = rw (← c.self.view_is) c.content.ensures.sound

pub returns-in-Some-clause-chars : goal.returns-in-Some-clause-chars
returns-in-Some-clause-chars c = rw (← c.self.view_is) (
    let ns = c.self.inside.links in let n = c.args.node in
    c.text_in.ensures ∙ ap (option_and_then held.chars_in) c.in-Some.ensures.content ∙ sym (and_content held.chars_in (node ns n)))

pub returns-in-Some-clause-tree : goal.returns-in-Some-clause-tree
returns-in-Some-clause-tree c = rw (← c.self.view_is) (λ t d z.
    let ns = c.self.inside.links in let n = c.args.node in
    (c.text_in.ensures ∙ ap (option_and_then held.chars_in) c.in-Some.ensures.content ∙ sym (and_content held.chars_in (node ns n))) ∙ chars_are t ns d z n (node ns n) refl)

pub returns-in-Some-clause-sound : goal.returns-in-Some-clause-sound
returns-in-Some-clause-sound c = rw (← c.self.view_is) c.content.ensures.sound
