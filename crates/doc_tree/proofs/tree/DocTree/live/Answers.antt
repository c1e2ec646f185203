use Rattle.std.proofs.Common.{Some, refl, sym, ap, ◌∙◌}
use Rattle.std.specs.Option.{option_map}
use Rattle.doc_nodes.specs.Nodes.{node}
use Rattle.doc_changes.specs.Held as held
use Rattle.doc_tree.proofs.Answering.{by_content, kind_is}
use Rattle.doc_tree.proofs.tree.DocTree.live.Goals as goal

pub returns-in-None-clause-kind : goal.returns-in-None-clause-kind
returns-in-None-clause-kind c = rw (← c.self.view_is) (
    let ns = c.self.inside.links in let n = c.args.node in
    ap (option_map held.kind_in) c.in-None.ensures.content ∙ sym (by_content held.kind_in (node ns n)))

pub returns-in-None-clause-tree : goal.returns-in-None-clause-tree
returns-in-None-clause-tree c = rw (← c.self.view_is) (λ t d z.
    let ns = c.self.inside.links in let n = c.args.node in
    (ap (option_map held.kind_in) c.in-None.ensures.content ∙ sym (by_content held.kind_in (node ns n))) ∙ kind_is t ns d z n (node ns n) refl)

pub returns-in-None-clause-sound : goal.returns-in-None-clause-sound
returns-in-None-clause-sound c = rw (← c.self.view_is) c.content.ensures.sound

pub returns-in-Some-clause-kind : goal.returns-in-Some-clause-kind
returns-in-Some-clause-kind c = rw (← c.self.view_is) (
    let ns = c.self.inside.links in let n = c.args.node in
    ap Some c.kind_in.ensures ∙ ap (option_map held.kind_in) c.in-Some.ensures.content ∙ sym (by_content held.kind_in (node ns n)))

pub returns-in-Some-clause-tree : goal.returns-in-Some-clause-tree
returns-in-Some-clause-tree c = rw (← c.self.view_is) (λ t d z.
    let ns = c.self.inside.links in let n = c.args.node in
    (ap Some c.kind_in.ensures ∙ ap (option_map held.kind_in) c.in-Some.ensures.content ∙ sym (by_content held.kind_in (node ns n))) ∙ kind_is t ns d z n (node ns n) refl)

pub returns-in-Some-clause-sound : goal.returns-in-Some-clause-sound
returns-in-Some-clause-sound c = rw (← c.self.view_is) c.content.ensures.sound
