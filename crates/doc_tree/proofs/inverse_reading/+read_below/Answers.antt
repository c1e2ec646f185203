use Rattle.std.proofs.Common.{◌+◌, sym, ap, arith}
use Rattle.std.proofs.lemmas.Option.{slice_get_within}
use Rattle.doc_nodes.specs.Nodes.{node, children_by, depth_by}
use Rattle.doc_tree.proofs.RowsRead.{begun, level, head, room, next_so, ended}
use Rattle.doc_tree.proofs.inverse_reading.+read_below.Goals as goal

pub children-init : goal.children-init
children-init t c = λ u below over. begun u c.args.links.now c.args.number below over (c.args.depth + 1) c.args.rows.now.items

pub read_row-requires : goal.read_row-requires
read_row-requires t c =
    let q = c.requires.over in let so = c.children.invariant q.0 q.1 q.2 in
    let h = head q.0 c.args.links.now c.args.number q.1 q.2 (c.args.depth + 1) c.args.rows.now.items c.children.rows.items c.children.place so c.in-Some.child c.in-Some.ensures.child in
    (h.it, h.is)

pub read_below-requires : goal.read_below-requires
read_below-requires t c =
    let q = c.requires.over in let so = c.children.invariant q.0 q.1 q.2 in
    let h = head q.0 c.args.links.now c.args.number q.1 q.2 (c.args.depth + 1) c.args.rows.now.items c.children.rows.items c.children.place so c.in-Some.child c.in-Some.ensures.child in
    let r = (room q.0 c.args.links.now c.args.number q.1 q.2 (c.args.depth + 1) c.args.rows.now.items c.children.rows.items c.children.place so c.in-Some.child c.in-Some.ensures.child).0 in
    let d = ap depth_by h.is in let e = h.deeper in let l = level q.0 c.args.links.now c.args.number q.1 q.2 in
    (omega (arith, c.decreases, d, e, l, r), ((q.0, h.below, h.over), omega (arith, c.requires.depth, d, e, l)))

pub overflow_add-place : goal.overflow_add-place
overflow_add-place t c =
    let q = c.requires.over in let so = c.children.invariant q.0 q.1 q.2 in
    let r = (room q.0 c.args.links.now c.args.number q.1 q.2 (c.args.depth + 1) c.args.rows.now.items c.children.rows.items c.children.place so c.in-Some.child c.in-Some.ensures.child).1 in
    omega (arith, r)

pub children-smaller : goal.children-smaller
children-smaller t c =
    let l = slice_get_within (children_by (node c.args.links.now c.args.number)) c.children.place c.in-Some.child (sym c.in-Some.ensures.child) in omega (arith, l)

pub children-preserved : goal.children-preserved
children-preserved t c = λ u below over.
    let so = c.children.invariant u below over in
    let h = head u c.args.links.now c.args.number below over (c.args.depth + 1) c.args.rows.now.items c.children.rows.items c.children.place so c.in-Some.child c.in-Some.ensures.child in
    next_so u c.args.links.now c.args.number below over (c.args.depth + 1) c.args.rows.now.items c.children.rows.items c.children.place so c.in-Some.child c.in-Some.ensures.child
    c.in_ok-read_row.field-0 c.push.new.self.items c.read_below.new.rows.items (c.in_ok-read_row.ensures h.it h.is) c.in_ok-push.ensures.items (c.in_ok-read_below.ensures u h.below h.over)

pub returns : goal.returns
returns t c = λ u below over.
    ended u c.args.links.now c.args.number below over (c.args.depth + 1) c.args.rows.now.items c.children.rows.items c.children.place (c.children.invariant u below over) c.in_default.ensures.child
