use Rattle.std.proofs.Common.{◌≡◌, ◌<◌, Option, ℕ, length, sym, subst, ◌∙◌, arith}
use Rattle.element_declarations.specs.inside.Nearest.{nearest_of}
use Rattle.element_declarations.proofs.JoinLaws.{IsJoinedBelow, left, join-begins, goes-lower, join-more}
use Rattle.element_declarations.proofs.grouping.join.Goals as goal

pub up-init : goal.up-init
up-init c =
    let near = c.requires.nearest in
    join-begins c.args.parts.now c.requires.ranked c.args.element c.args.lists.now.items c.nearest_at-above.result
    (sym (c.nearest_at-above.ensures ∙ near.are c.args.element (let e = near.each in let l = c.requires.there in omega arith)))

pub up-smaller : goal.up-smaller
up-smaller c =
    let near = c.requires.nearest in
    let next = c.nearest_at-above-in-Some.result in
    let so = subst (λ o. IsJoinedBelow c.args.parts.now c.args.element c.args.lists.now.items o c.up.lists.items) c.in-Some.is c.up.invariant in
    let is : nearest_of c.args.parts.now c.in-Some.head ≡ next = sym (c.nearest_at-above-in-Some.ensures ∙ near.are c.in-Some.head (let e = near.each in let l = so.there in omega arith)) in
    subst (λ o. left c.args.parts.now next < left c.args.parts.now o) (sym c.in-Some.is) (goes-lower c.args.parts.now c.requires.ranked c.in-Some.head next is)

pub up-preserved : goal.up-preserved
up-preserved c =
    let near = c.requires.nearest in
    let next = c.nearest_at-above-in-Some.result in
    let so = subst (λ o. IsJoinedBelow c.args.parts.now c.args.element c.args.lists.now.items o c.up.lists.items) c.in-Some.is c.up.invariant in
    let is : nearest_of c.args.parts.now c.in-Some.head ≡ next = sym (c.nearest_at-above-in-Some.ensures ∙ near.are c.in-Some.head (let e = near.each in let l = so.there in omega arith)) in
    join-more c.args.parts.now c.requires.ranked c.args.element c.args.lists.now.items c.in-Some.head next c.up.lists.items c.offer.new.lists.items is so c.in_ok-offer.ensures
