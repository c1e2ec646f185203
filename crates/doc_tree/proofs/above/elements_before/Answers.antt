use Rattle.std.proofs.Common.{length, take, sym, ap, ◌∙◌, Some}
use Rattle.std.specs.Prelude.{filter}
use Rattle.std.proofs.lemmas.Option.{same_Some, none-some}
use Rattle.doc_nodes.specs.Nodes.{node, is_element_at, children_by}
use Rattle.doc_tree.proofs.Walking.{placed_parent}
use Rattle.doc_tree.proofs.Beside.{no_place}
use Rattle.doc_tree.proofs.above.elements_before.Goals as goal

pub returns-in-None-clause-before : goal.returns-in-None-clause-before
returns-in-None-clause-before c = λ p place k. no_place c.args.links.now p place c.args.node c.parent.ensures.sound k (sym c.in-None.is ∙ c.parent.ensures.parent)

pub returns-in-None-place-clause-before : goal.returns-in-None-place-clause-before
returns-in-None-place-clause-before c = λ p place k. absurd (none-some place (c.in-None-place.ensures.place p place k))

pub returns-in-Some-place-clause-before : goal.returns-in-Some-place-clause-before
returns-in-Some-place-clause-before c = λ p place k.
    let ns = c.args.links.now in
    let up = same_Some c.in-Some.parent p (sym c.in-Some.is ∙ c.parent.ensures.parent ∙ placed_parent ns p place c.args.node c.parent.ensures.sound k) in
    let here = same_Some c.in-Some-place.place place (c.in-Some-place.ensures.place p place k) in
    ap Some c.elements_upto.ensures.count
    ∙ ap (λ q. Some (length (filter (is_element_at ns) (take c.in-Some-place.place (children_by (node ns q)))))) up
    ∙ ap (λ m. Some (length (filter (is_element_at ns) (take m (children_by (node ns p)))))) here
