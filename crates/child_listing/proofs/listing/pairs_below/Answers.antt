use Rattle.std.proofs.Common.{◌≡◌, [], ◌∷◌, length, None, sym, ap, subst, ◌∙◌}
use Rattle.std.specs.Iterator.Adapters.{zip_first, zip_second}
use Rattle.std.specs.Slice.Iter.{iter_rest}
use Rattle.std.proofs.lemmas.List.{length-append}
use Rattle.std.proofs.lemmas.Slice.Zip.{zip_turn, zip_end}
use Rattle.child_listing.proofs.Listed.{IsGivenAt, AreUpTo, none-yet, one-further, all-nodes, least-of-same, given-at}
use Rattle.child_listing.proofs.listing.pairs_below.Goals as goal

pub loop-element-init : goal.loop-element-init
loop-element-init c =
    let elements = c.args.children.0.now in
    let terms = c.args.children.1.now in
    subst (AreUpTo (IsGivenAt c.args.set.now c.args.doc.now c.args.parent.now terms) elements 0) (sym c.in_ok-pairs.ensures.items)
    (none-yet (IsGivenAt c.args.set.now c.args.doc.now c.args.parent.now terms) elements)

pub loop-element-preserved : goal.loop-element-preserved
loop-element-preserved c =
    let elements = c.args.children.0.now in
    let terms = c.args.children.1.now in
    let first : iter_rest (zip_first c.into_iter-element-iterator.result) ≡ elements = cc in
    let own : iter_rest (zip_second c.zip-element-items.result) ≡ terms = c.zip-element-items.ensures.second.0 in
    let second : iter_rest (zip_second c.into_iter-element-iterator.result) ≡ terms = (λ k. iter_rest (zip_second (c.into_iter-element-iterator.ensures.into_iter_gives k))) ∙ own in
    let i = length c.loop-element.yielded in
    let turn = zip_turn elements terms c.loop-element.yielded c.into_iter-element-iterator.result c.loop-element.element-iterator c.next.new.self c.next.result first second c.loop-element.yielded_by _ c.in-Some.is c.next.ensures.steps in
    let child = c.in_ok-child.child in
    subst (AreUpTo (IsGivenAt c.args.set.now c.args.doc.now c.args.parent.now terms) elements _) (sym c.in_ok-push.ensures.items)
    (one-further (IsGivenAt c.args.set.now c.args.doc.now c.args.parent.now terms) elements i _ c.loop-element.pairs.items child c.loop-element.invariant (length-append c.loop-element.yielded (_ ∷ [])) turn.0
    (λ d. c.in_ok-child.ensures.node ∙ ap (λ e. e.0) (turn.2 d))
    (given-at c.args.set.now c.args.doc.now c.args.parent.now terms i c.in-Some.element.now.0 c.in-Some.term.now child c.in_ok-child.ensures.node (turn.3 None) c.in_ok-child.ensures.pair c.in_ok-child.ensures.governed))

pub returns-clause-nodes : goal.returns-clause-nodes
returns-clause-nodes c =
    let elements = c.args.children.0.now in
    let terms = c.args.children.1.now in
    let first : iter_rest (zip_first c.into_iter-element-iterator.result) ≡ elements = cc in
    let second : iter_rest (zip_second c.into_iter-element-iterator.result) ≡ terms = cc in
    let i = length c.loop-element.yielded in
    let end = zip_end elements terms c.loop-element.yielded c.into_iter-element-iterator.result c.loop-element.element-iterator c.next.new.self c.next.result first second c.loop-element.yielded_by c.in-None.is c.next.ensures.steps in
    all-nodes (IsGivenAt c.args.set.now c.args.doc.now c.args.parent.now terms) elements i c.loop-element.pairs.items c.loop-element.invariant
    (least-of-same i (length elements) (length terms) end c.requires.each)

pub returns-clause-pairs : goal.returns-clause-pairs
returns-clause-pairs c = λ place child e. (c.loop-element.invariant.each place child e).0

pub returns-clause-governed : goal.returns-clause-governed
returns-clause-governed c = λ place child e. (c.loop-element.invariant.each place child e).1
