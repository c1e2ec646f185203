use Rattle.std.proofs.Common.{refl, sym, ap, ◌∙◌}
use Rattle.std.specs.Option.{option_map, option_and_then}
use Rattle.doc_nodes.specs.Nodes.{node}
use Rattle.doc_changes.specs.Held as held
use Rattle.doc_changes.specs.Stands.{expanded_of}
use Rattle.doc_tree.proofs.Answering.{and_content, name_is}
use Rattle.doc_tree.proofs.tree.DocTree.name.Goals as goal

pub returns-in-None-clause-name : goal.returns-in-None-clause-name
returns-in-None-clause-name c = rw (← c.self.view_is) (
    let ns = c.self.inside.links in let n = c.args.node in
    ap (option_and_then held.name_in) c.in-None.ensures.content ∙ sym (and_content held.name_in (node ns n)))

pub returns-in-None-clause-tree : goal.returns-in-None-clause-tree
returns-in-None-clause-tree c = rw (← c.self.view_is) (λ t d z.
    let ns = c.self.inside.links in let n = c.args.node in
    ap (option_map (expanded_of t)) (ap (option_and_then held.name_in) c.in-None.ensures.content ∙ sym (and_content held.name_in (node ns n))) ∙ name_is t ns d z n (node ns n) refl)

pub returns-in-None-clause-sound : goal.returns-in-None-clause-sound
returns-in-None-clause-sound c = rw (← c.self.view_is) c.content.ensures.sound

pub returns-in-Some-clause-name : goal.returns-in-Some-clause-name
returns-in-Some-clause-name c = rw (← c.self.view_is) (
    let ns = c.self.inside.links in let n = c.args.node in
    c.name_in.ensures ∙ ap (option_and_then held.name_in) c.in-Some.ensures.content ∙ sym (and_content held.name_in (node ns n)))

pub returns-in-Some-clause-tree : goal.returns-in-Some-clause-tree
returns-in-Some-clause-tree c = rw (← c.self.view_is) (λ t d z.
    let ns = c.self.inside.links in let n = c.args.node in
    ap (option_map (expanded_of t)) (c.name_in.ensures ∙ ap (option_and_then held.name_in) c.in-Some.ensures.content ∙ sym (and_content held.name_in (node ns n))) ∙ name_is t ns d z n (node ns n) refl)

pub returns-in-Some-clause-sound : goal.returns-in-Some-clause-sound
returns-in-Some-clause-sound c = rw (← c.self.view_is) c.content.ensures.sound
