use Rattle.std.proofs.Common.{length, sym, ap, subst, arith}
use Rattle.doc_nodes.specs.Nodes.{Nodes}
use Rattle.tree_building.proofs.RowCounts.{count-rows}
use Rattle.doc_changes.specs.Stands.{StandsFor}
use Rattle.doc_tree.proofs.Counting.{planted_count, room_for}
use Rattle.doc_tree.proofs.tree.DocTree.insert.Goals as goal

pub overflow_cast-self : goal.overflow_cast-self
overflow_cast-self c =
    let q = c.requires.fits in let f = c.args.part.now.forest in
    let z = subst (λ (ns : Nodes). StandsFor c.args.names.now ns q.0) (sym c.self.view_is) q.1 in
    let r = room_for c.args.names.now c.self.inside.links q.0 z c.args.parent c.args.index f q.2 in
    let rows = ap length c.rows.ensures in let all = count-rows 1 f in
    omega (arith, r, rows, all)

pub overflow_add-self : goal.overflow_add-self
overflow_add-self c =
    let q = c.requires.fits in let f = c.args.part.now.forest in let i = c.self.invariant in
    let z = subst (λ (ns : Nodes). StandsFor c.args.names.now ns q.0) (sym c.self.view_is) q.1 in
    let r = room_for c.args.names.now c.self.inside.links q.0 z c.args.parent c.args.index f q.2 in
    let rows = ap length c.rows.ensures in let all = count-rows 1 f in
    omega (arith, r, i, rows, all)

pub invariant_of-self-2 : goal.invariant_of-self-2
invariant_of-self-2 c =
    let q = c.requires.fits in let f = c.args.part.now.forest in let i = c.self.invariant in
    let z = subst (λ (ns : Nodes). StandsFor c.args.names.now ns q.0) (sym c.self.view_is) q.1 in
    let r = planted_count c.args.names.now c.insert_part.new.names c.self.inside.links c.insert_part.new.links q.0 z c.args.parent c.args.index f q.2 (c.in_ok-number.ensures.tree q.0 z) in
    let rows = ap length c.rows.ensures in let all = count-rows 1 f in
    omega (arith, r, i, rows, all)
