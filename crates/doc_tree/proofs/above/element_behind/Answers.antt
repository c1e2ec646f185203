use Rattle.std.proofs.Common.{◌+◌, length, drop, sym, ap, ◌∙◌, arith}
use Rattle.std.specs.Prelude.{find}
use Rattle.std.proofs.lemmas.Option.{same_Some, none-some, slice_get_past}
use Rattle.doc_nodes.specs.Nodes.{node, is_element_at, children_by}
use Rattle.doc_tree.proofs.above.element_behind.Goals as goal

pub returns-in-None-clause-element : goal.returns-in-None-clause-element
returns-in-None-clause-element c = λ place k. absurd (none-some place (c.in-None.ensures.place c.args.parent place k))

pub returns-then-place-beside-clause-element : goal.returns-then-place-beside-clause-element
returns-then-place-beside-clause-element c = λ place k.
    let ns = c.args.links.now in
    c.element_from.ensures.element ∙ ap (λ m. find (is_element_at ns) (drop (m + 1) (children_by (node ns c.args.parent)))) (same_Some c.in-Some.place place (c.in-Some.ensures.place c.args.parent place k))

pub returns-else-place-beside-clause-element : goal.returns-else-place-beside-clause-element
returns-else-place-beside-clause-element c = λ place k.
    let same = same_Some c.in-Some.place place (c.in-Some.ensures.place c.args.parent place k) in
    let all = c.child_count-beside.ensures.count in let own = ap (λ o. length (children_by o)) k.1 in let past = c.if-place-beside.false in
    absurd (none-some c.args.node (sym (slice_get_past k.0.children place (omega (arith, same, all, own, past))) ∙ k.2))
