use Rattle.std.proofs.Common.{sym, ap, ◌∙◌}
use Rattle.std.specs.Prelude.{not}
use Rattle.std.specs.Option.{is_some}
use Rattle.doc_nodes.specs.Nodes.{element_children}
use Rattle.child_listing.proofs.Listed.{named-more, nameless-more, none-named}
use Rattle.child_listing.proofs.listing.elements_below.Goals as goal
use Rattle.child_listing.proofs.listing.elements_below.Goals.{in-Some+in_ok-push, in_default}

pub returns-then-is_none : goal.returns-then-is_none
returns-then-is_none c =
    let ns = c.args.doc.now in
    c.new.ensures.items
    ∙ none-named ns (element_children ns c.args.node) (ap is_some (sym c.element_at.ensures.element) ∙ c.is_none.ensures ∙ ap not c.if-is_none.true)

pub loop-child-preserved : goal.loop-child-preserved
loop-child-preserved c =
    let ns = c.args.doc.now in
    let children = c.deref-child-items.result.now in
    let i = c.loop-child.child-index in
    elim c.match-name.branch [
      | in-Some+in_ok-push w ↦
          (λ k. (w.found-is k).items) ∙ w.in_ok-push.ensures.items
          ∙ named-more ns children i w.in-Some.name c.loop-child.found.items c.loop-child-test.true c.loop-child.invariant (sym w.in-Some.is ∙ c.name.ensures.name)
      | in_default w ↦ (λ k. (w.found-is k).items) ∙ nameless-more ns children i c.loop-child.found.items c.loop-child-test.true c.loop-child.invariant (sym w.in_default.is ∙ c.name.ensures.name)
    ]
