use Rattle.std.proofs.Common.{◌+◌, ◌++◌, get_or, ap, ◌∙◌, refl, arith}
use Rattle.tree_rows.specs.Rows.{rows_of}
use Rattle.doc_nodes.specs.Nodes.{node, children_by}
use Rattle.doc_tree.proofs.Below.{begun, first, ended, child_level, under_child, lower, next_so, come_to, past_all}
use Rattle.doc_tree.proofs.rows.+read_below.Goals as goal

pub loop-child-init : goal.loop-child-init
loop-child-init t c = λ below under. begun c.args.names.now c.args.links.now c.args.number c.args.depth c.args.rows.now.items below under

pub read_row-requires : goal.read_row-requires
read_row-requires t c =
    let n = c.args.names.now in let l = c.args.links.now in let k = c.loop-child.child-index in let all = c.deref-child-items.result.now in let child = get_or all k 0 in
    let old = c.args.rows.now.items in let now = c.loop-child.rows.items in
    let e = come_to all (children_by (node l c.args.number)) k child (c.deref-child-items.ensures.value ∙ c.in_ok-children.ensures.children) c.loop-child-test.true refl in
    let q = c.requires.under in let so = c.loop-child.invariant q.0 q.1 in
    let f = first n l c.args.number c.args.depth old now k q.0 q.1 c.requires.depth so child e in
    (f.it, f.is, f.known)

pub read_below-requires : goal.read_below-requires
read_below-requires t c =
    let n = c.args.names.now in let l = c.args.links.now in let k = c.loop-child.child-index in let all = c.deref-child-items.result.now in let child = get_or all k 0 in
    let old = c.args.rows.now.items in let now = c.loop-child.rows.items in
    let e = come_to all (children_by (node l c.args.number)) k child (c.deref-child-items.ensures.value ∙ c.in_ok-children.ensures.children) c.loop-child-test.true refl in
    let q = c.requires.under in let so = c.loop-child.invariant q.0 q.1 in
    let f = first n l c.args.number c.args.depth old now k q.0 q.1 c.requires.depth so child e in
    let low = lower n l c.args.number c.args.depth old now k q.0 q.1 c.requires.depth so child e in
    (omega (arith, c.decreases, low), ((f.below, under_child n l c.args.number c.args.depth old now k q.0 q.1 c.requires.depth so child e), child_level n l c.args.number c.args.depth old now k q.0 q.1 c.requires.depth so child e))

pub loop-child-preserved : goal.loop-child-preserved
loop-child-preserved t c = λ below under.
    let n = c.args.names.now in let l = c.args.links.now in let k = c.loop-child.child-index in let all = c.deref-child-items.result.now in let child = get_or all k 0 in
    let old = c.args.rows.now.items in let now = c.loop-child.rows.items in
    let e = come_to all (children_by (node l c.args.number)) k child (c.deref-child-items.ensures.value ∙ c.in_ok-children.ensures.children) c.loop-child-test.true refl in
    let so = c.loop-child.invariant below under in
    let f = first n l c.args.number c.args.depth old now k below under c.requires.depth so child e in
    let inner = under_child n l c.args.number c.args.depth old now k below under c.requires.depth so child e in
    next_so n l c.args.number c.args.depth old now k below under c.requires.depth so child e
    c.in_ok-read_row.field-0 c.read_below.new.rows.items (c.in_ok-read_row.ensures f.it f.is)
    (c.in_ok-read_below.ensures f.below inner ∙ ap (λ rows. rows ++ rows_of (c.args.depth + 1 + 1) f.below) c.in_ok-push.ensures.items)

pub returns : goal.returns
returns t c = λ below under.
    let n = c.args.names.now in let l = c.args.links.now in let k = c.loop-child.child-index in let all = c.deref-child-items.result.now in
    ended n l c.args.number c.args.depth c.args.rows.now.items c.loop-child.rows.items k below under c.requires.depth (c.loop-child.invariant below under)
    (past_all all (children_by (node l c.args.number)) k (c.deref-child-items.ensures.value ∙ c.in_ok-children.ensures.children) c.loop-child-test.false)
