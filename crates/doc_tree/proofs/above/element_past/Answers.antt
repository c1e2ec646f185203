use Rattle.std.proofs.Common.{◌<◌, sym, ◌∙◌, arith}
use Rattle.doc_nodes.specs.Nodes.{node, depth_by}
use Rattle.doc_tree.proofs.Walking.{above_depth, past_found, past_on, past_none}
use Rattle.doc_tree.proofs.above.element_past.Goals as goal

pub returns-then-is_some-clause-tree : goal.returns-then-is_some-clause-tree
returns-then-is_some-clause-tree c = λ t d z.
    let h = sym c.parent.ensures.parent ∙ c.in-Some.is in
    past_found t c.args.links.now d z c.up.below c.in-Some.parent h c.element_behind-element.result c.element_behind-element.ensures.element (sym c.is_some.ensures ∙ c.if-is_some.true)
    ∙ c.up.invariant t d z

pub up-smaller : goal.up-smaller
up-smaller c =
    let ns = c.args.links.now in
    let e = above_depth ns c.up.below c.in-Some.parent c.parent.ensures.sound (sym c.parent.ensures.parent ∙ c.in-Some.is) in
    let less : depth_by (node ns c.in-Some.parent) < depth_by (node ns c.up.below) = omega (arith, e) in
    less

pub up-preserved : goal.up-preserved
up-preserved c = λ t d z.
    let h = sym c.parent.ensures.parent ∙ c.in-Some.is in
    past_on t c.args.links.now d z c.up.below c.in-Some.parent h c.element_behind-element.result c.element_behind-element.ensures.element (sym c.is_some.ensures ∙ c.if-is_some.false)
    ∙ c.up.invariant t d z

pub returns-clause-tree : goal.returns-clause-tree
returns-clause-tree c = λ t d z. sym (past_none t c.args.links.now d z c.up.below (sym c.parent.ensures.parent ∙ c.in_default.is)) ∙ c.up.invariant t d z
