use Rattle.std.proofs.Common.{length, take, sym, ap, ◌∙◌, arith}
use Rattle.child_trees.specs.Lists.{get, acts_along}
use Rattle.child_trees.proofs.Viewing.{seen, found, lies, home, some_is}
use Rattle.child_trees.proofs.seqs.Seqs.prefix.Goals as goal

pub find-at-requires : goal.find-at-requires
find-at-requires g c =
    let M = g.M.Summary in let s = c.self.inside in let v = s.cells in let ns = s.trees.nodes in let item = c.item.inside.number in
    let r = rw (← c.self.view_is, ← c.item.view_is) at c.requires.item in
    let F = found M.unit M.join v ns s.tops c.self.invariant.lists item r.0 r.1 r.2 r.3 in
    (r.0, F.top, r.1, F.rooted.tree, lies M.unit M.join v ns s.tops item r.0 r.1 r.2 F)

pub upto-requires-clause-live : goal.upto-requires-clause-live
upto-requires-clause-live g c =
    let M = g.M.Summary in let s = c.self.inside in let v = s.cells in let ns = s.trees.nodes in let item = c.item.inside.number in
    let r = rw (← c.self.view_is, ← c.item.view_is) at c.requires.item in
    let H = home M.unit M.join v ns s.tops c.self.invariant.lists item r.0 r.1 r.2 r.3 c.find-at.result c.find-at.ensures in
    rw (← c.self.view_is) (r.2, ap (get (seen M.unit v ns s.tops)) H.list_is ∙ r.3.list)

pub upto-requires-clause-place : goal.upto-requires-clause-place
upto-requires-clause-place g c =
    let M = g.M.Summary in let s = c.self.inside in let v = s.cells in let ns = s.trees.nodes in let item = c.item.inside.number in
    let r = rw (← c.self.view_is, ← c.item.view_is) at c.requires.item in
    let H = home M.unit M.join v ns s.tops c.self.invariant.lists item r.0 r.1 r.2 r.3 c.find-at.result c.find-at.ensures in
    rw (← c.self.view_is) (λ xs e.
    let same = some_is xs r.2 (sym e ∙ ap (get (seen M.unit v ns s.tops)) H.list_is ∙ r.3.list) in
    omega (arith, r.3.within, H.place_is, ap length same))

pub upto-requires-clause-state : goal.upto-requires-clause-state
upto-requires-clause-state g c = c.requires.state

pub returns-clause-value : goal.returns-clause-value
returns-clause-value g c = rw (← c.self.view_is, ← c.item.view_is) (λ q p xs i.
    let M = g.M.Summary in let s = c.self.inside in let v = s.cells in let ns = s.trees.nodes in let item = c.item.inside.number in
    let H = home M.unit M.join v ns s.tops c.self.invariant.lists item q p xs i c.find-at.result c.find-at.ensures in
    let value = rw (← c.self.view_is) at c.upto.ensures.value in
    value xs (ap (get (seen M.unit v ns s.tops)) H.list_is ∙ i.list) ∙ ap (λ k. acts_along M.acts c.args.state (take k xs)) H.place_is)

pub returns-clause-steps : goal.returns-clause-steps
returns-clause-steps g c = rw (← c.self.view_is, ← c.item.view_is) (λ q p xs i.
    let M = g.M.Summary in let s = c.self.inside in let v = s.cells in let ns = s.trees.nodes in let item = c.item.inside.number in
    let H = home M.unit M.join v ns s.tops c.self.invariant.lists item q p xs i c.find-at.result c.find-at.ensures in
    let steps = rw (← c.self.view_is) at c.upto.ensures.steps in
    steps xs (ap (get (seen M.unit v ns s.tops)) H.list_is ∙ i.list))
