-- The size of the tree is at most the limit.
use Rattle.std.proofs.Common.{◌≡◌, ◌<◌, ◌^◌, length, ap, ◌∙◌, arith}
use Rattle.xs_positions.specs.Nodes.{tree_at}
use Rattle.xs_positions.specs.Measures.{measure_of, AreMeasured}
use Rattle.xs_positions.specs.Walk.{tree_in}
use Rattle.xs_positions.proofs.Walking.{measured_at}
use Rattle.xs_positions.proofs.find.find_positions.Goals as goal

pub list_positions-requires-clause-fits : goal.list_positions-requires-clause-fits
list_positions-requires-clause-fits c =
    let nodes = c.nodes-nodes.result.now in
    let l : c.args.root < length nodes = (let a : c.args.root < length c.args.expr.now = c.requires in let e = c.nodes-nodes.ensures.count in omega arith) in
    let m : AreMeasured nodes c.in_ok-measures.measures.items = record { ordered = c.nodes-nodes.ensures.ordered; measured = c.in_ok-measures.ensures } in
    let is : c.index-2.result.now ≡ measure_of (tree_in nodes c.args.root) =
    c.index-2.ensures ∙ measured_at nodes c.in_ok-measures.measures.items c.args.root c.index.result c.index-2.result.now m l c.index.ensures in
    let a = ap (λ m. m.size) is in
    let b : c.args.limit < 2 ^ 32 = c.ranges.limit.fits in
    let d = c.if-index-from.false in
    let e = c.from.ensures in
    omega arith

pub returns-clause-found : goal.returns-clause-found
returns-clause-found c =
    let e : tree_in c.nodes-nodes.result.now c.args.root ≡ tree_at c.args.expr.now c.args.root = ap (λ ts. tree_at ts c.args.root) c.nodes-nodes.ensures.trees in
    rw (← e) c.in_ok-positions.ensures
