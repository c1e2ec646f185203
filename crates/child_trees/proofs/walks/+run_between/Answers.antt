use Rattle.std.proofs.Common.{◌≡◌, ◌≢◌, ◌+◌, ◌-◌, ◌<◌, ◌≤◌, length, take, drop, min, sym, ap, ◌∙◌, subst, arith, rules}
use Rattle.leaf_trees.specs.Tree.{size}
use Rattle.leaf_trees.specs.Arena.{at}
use Rattle.child_trees.specs.Cells.{map_at}
use Rattle.child_trees.specs.Lists.{acts_along}
use Rattle.child_trees.specs.Sums.{entries, TakesFew}
use Rattle.child_trees.proofs.Acting.{node_acts}
use Rattle.child_trees.proofs.Along.{acts_along-append, between_sides, between_upto, between_none, between_all}
use Rattle.child_trees.proofs.Spending.{few_sides, few_upto}
use Rattle.child_trees.proofs.Split.{top_has_cell, top_size, sides_by_size, side_sums}
use Rattle.child_trees.proofs.walks.+run_between.Goals as goal

pub returns-then-from-end-clause-value : goal.returns-then-from-end-clause-value
returns-then-from-end-clause-value g t c = λ x h.
    let M = g.M.Summary in let v = c.args.cells.now in let f = map_at M.unit v in let ns = c.args.nodes.now in
    let end_is : c.min-end.result ≡ min c.args.to (size x) = c.min-end.ensures ∙ ap (min c.args.to) (top_size (length v.maps) ns c.args.top x h.cells) in
    let le : c.min-end.result ≤ c.args.from = omega (arith, c.if-from-end.true) in
    let none = subst (λ k. k ≤ c.args.from) end_is le in
    ap (acts_along M.acts c.args.state) (sym (sym (between_upto f x c.args.from c.args.to) ∙ between_none f x c.args.from (min c.args.to (size x)) none))

pub act-requires-clause-slot : goal.act-requires-clause-slot
act-requires-clause-slot g t c = let r = c.requires.tree in top_has_cell (length c.args.cells.now.maps) c.args.nodes.now c.args.top r.0 r.1.cells

pub returns-then-end-from-clause-value : goal.returns-then-end-from-clause-value
returns-then-end-from-clause-value g t c = λ x h.
    let M = g.M.Summary in let v = c.args.cells.now in let f = map_at M.unit v in let ns = c.args.nodes.now in
    let n = top_size (length v.maps) ns c.args.top x h.cells in
    let first : c.args.from ≡ 0 = omega (arith, c.if-end-from.true, c.if-from-end.false, c.min-end.ensures) in
    let last : size x ≤ c.args.to = omega (arith, c.if-end-from.true, c.if-from-end.false, c.min-end.ensures, n) in
    node_acts g.met.M.Summary.laws v ns c.args.top x h c.act.ensures.maps c.args.state c.requires.state c.act.result c.act.ensures.value
    ∙ ap (acts_along M.acts c.args.state) (sym (between_all f x c.args.from c.args.to first last))

pub run_between-middle-requires : goal.run_between-middle-requires
run_between-middle-requires g t c κs within =
    let M = g.M.Summary in let v = c.args.cells.now in let ns = c.args.nodes.now in let r = c.requires.tree in
    let many : 1 < size r.0 = omega (arith, c.if-end-from.false, c.if-from-end.false, c.min-end.ensures, top_size (length v.maps) ns c.args.top r.0 r.1.cells) in
    let s = sides_by_size (length v.maps) ns c.args.top r.0 r.1.cells many in
    let lower = s.left_lower in
    let w = (side_sums M.unit M.join v ns c.args.top r.0 r.1 s).left in
    search rules

pub run_between-requires : goal.run_between-requires
run_between-requires g t c κs within =
    let M = g.M.Summary in let v = c.args.cells.now in let ns = c.args.nodes.now in let r = c.requires.tree in
    let many : 1 < size r.0 = omega (arith, c.if-end-from.false, c.if-from-end.false, c.min-end.ensures, top_size (length v.maps) ns c.args.top r.0 r.1.cells) in
    let s = sides_by_size (length v.maps) ns c.args.top r.0 r.1.cells many in
    let lower = s.right_lower in
    let w = (side_sums M.unit M.join v ns c.args.top r.0 r.1 s).right in
    search rules

pub returns-clause-value : goal.returns-clause-value
returns-clause-value g t c = λ x h.
    let M = g.M.Summary in let v = c.args.cells.now in let f = map_at M.unit v in let ns = c.args.nodes.now in
    let n = top_size (length v.maps) ns c.args.top x h.cells in
    let many : 1 < size x = omega (arith, c.if-end-from.false, c.if-from-end.false, c.min-end.ensures, n) in
    let s = sides_by_size (length v.maps) ns c.args.top x h.cells many in
    let S = side_sums M.unit M.join v ns c.args.top x h s in
    let p = c.saturating_sub-from_right.result in let q = c.saturating_sub-end_right.result in let end = c.min-end.result in
    let end_is : end ≡ min c.args.to (size x) = c.min-end.ensures ∙ ap (min c.args.to) n in
    let both = between_sides f x c.args.top s.l s.r s.is c.args.from end (at ns (at ns c.args.top).left).counts.leaves p q s.left_size c.saturating_sub-from_right.ensures c.saturating_sub-end_right.ensures in
    c.run_between.ensures.value s.r S.right
    ∙ ap (λ z. acts_along M.acts z (drop p (take q (entries f s.r)))) (c.run_between-middle.ensures.value s.l S.left)
    ∙ sym (acts_along-append M.acts c.args.state (drop c.args.from (take end (entries f s.l))) (drop p (take q (entries f s.r))))
    ∙ ap (acts_along M.acts c.args.state) (sym both ∙ ap (λ k. drop c.args.from (take k (entries f x))) end_is ∙ between_upto f x c.args.from c.args.to)

pub returns-clause-steps : goal.returns-clause-steps
returns-clause-steps g t c = λ x h.
    let M = g.M.Summary in let v = c.args.cells.now in let ns = c.args.nodes.now in
    let n = top_size (length v.maps) ns c.args.top x h.cells in
    let many : 1 < size x = omega (arith, c.if-end-from.false, c.if-from-end.false, c.min-end.ensures, n) in
    let s = sides_by_size (length v.maps) ns c.args.top x h.cells many in
    let S = side_sums M.unit M.join v ns c.args.top x h s in
    let end = c.min-end.result in
    let end_is : end ≡ min c.args.to (size x) = c.min-end.ensures ∙ ap (min c.args.to) n in
    let lt : c.args.from < end = omega (arith, c.if-from-end.false) in
    let le : end ≤ size x = omega (arith, end_is) in
    let not : end - c.args.from ≢ size x = λ e. c.if-end-from.false (e ∙ sym n) in
    let spent : c.run_between.new.steps - c.args.steps.now ≡ (c.run_between-middle.new.steps - c.args.steps.now) + (c.run_between.new.steps - c.run_between-middle.new.steps) = omega (arith, c.run_between-middle.ensures.least, c.run_between.ensures.least) in
    let few = few_sides x c.args.top s.l s.r c.args.from end (at ns (at ns c.args.top).left).counts.leaves c.saturating_sub-from_right.result c.saturating_sub-end_right.result _ _ (c.run_between.new.steps - c.args.steps.now) s.is s.left_size c.saturating_sub-from_right.ensures c.saturating_sub-end_right.ensures spent lt le not (c.run_between-middle.ensures.steps s.l S.left) (c.run_between.ensures.steps s.r S.right) in
    few_upto x c.args.from c.args.to _ (subst (λ k. TakesFew x c.args.from k (c.run_between.new.steps - c.args.steps.now)) end_is few)
