use Rattle.std.proofs.Common.{refl, sym, ap, ◌∙◌}
use Rattle.std.specs.Option.{option_map, option_and_then}
use Rattle.std.specs.Prelude.{slice_get}
use Rattle.doc_nodes.specs.Nodes.{node}
use Rattle.doc_changes.specs.Held as held
use Rattle.doc_changes.specs.Stands.{attribute_of}
use Rattle.doc_tree.proofs.Answering.{and_content, attribute_is}
use Rattle.doc_tree.proofs.tree.DocTree.attr_at.Goals as goal

pub returns-in-None-clause-tree : goal.returns-in-None-clause-tree
returns-in-None-clause-tree c = rw (← c.self.view_is) (λ t d z.
    let ns = c.self.inside.links in let n = c.args.node in
    ap (option_map (attribute_of t)) (ap (option_and_then (λ y. slice_get (held.attributes_in y) c.args.place)) c.in-None.ensures.content ∙ sym (and_content (λ y. slice_get (held.attributes_in y) c.args.place) (node ns n))) ∙ attribute_is t ns d z n c.args.place (node ns n) refl)

pub returns-in-None-attribute_in-clause-tree : goal.returns-in-None-attribute_in-clause-tree
returns-in-None-attribute_in-clause-tree c = rw (← c.self.view_is) (λ t d z.
    let ns = c.self.inside.links in let n = c.args.node in
    ap (option_map (attribute_of t)) (c.in-None-attribute_in.ensures ∙ ap (option_and_then (λ y. slice_get (held.attributes_in y) c.args.place)) c.in-Some.ensures.content ∙ sym (and_content (λ y. slice_get (held.attributes_in y) c.args.place) (node ns n))) ∙ attribute_is t ns d z n c.args.place (node ns n) refl)

pub returns-in-Some-attribute_in-clause-tree : goal.returns-in-Some-attribute_in-clause-tree
returns-in-Some-attribute_in-clause-tree c = rw (← c.self.view_is) (λ t d z.
    let ns = c.self.inside.links in let n = c.args.node in
    ap (option_map (attribute_of t)) (c.in-Some-attribute_in.ensures ∙ ap (option_and_then (λ y. slice_get (held.attributes_in y) c.args.place)) c.in-Some.ensures.content ∙ sym (and_content (λ y. slice_get (held.attributes_in y) c.args.place) (node ns n))) ∙ attribute_is t ns d z n c.args.place (node ns n) refl)
