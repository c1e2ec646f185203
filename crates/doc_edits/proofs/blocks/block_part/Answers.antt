use Rattle.std.proofs.Common.{sym, ap, ◌∙◌}
use Rattle.tree_rows.specs.Forest.{count, deepest_of}
use Rattle.tree_building.specs.Building.{block}
use Rattle.tree_edits.specs.Edits.{found}
use Rattle.tree_edits.specs.Tests.{depth_of, with_nodes}
use Rattle.tree_edits.specs.declared.edit.EditError.TheVariants.{Memory}
use Rattle.tree_edits.proofs.Inserting.{early_is}
use Rattle.tree_edits.proofs.Outcomes.{err_same}
use Rattle.doc_edits.proofs.Placing.{room_for, put_room}
use Rattle.doc_edits.proofs.Inserting.{room_refused, late_refused, inserted, part_tree}
use Rattle.doc_edits.proofs.blocks.block_part.Goals as goal

pub returns-in_err-judged-clause-err : goal.returns-in_err-judged-clause-err
returns-in_err-judged-clause-err c = err_same c.from_residual.result Memory _ c.from_residual.ensures.1 (λ t d place z. tt)

pub returns-in_err-early-clause-err : goal.returns-in_err-early-clause-err
returns-in_err-early-clause-err c =
    err_same c.from_residual-in_err-early.result c.in_err-early.field-0.0 _ c.from_residual-in_err-early.ensures.1
    (λ t d place z. early_is d c.args.parent place c.args.scope.now c.args.items.now (depth_of (found c.args.parent 1 d.forest))
    c.in_ok-judged.judged.names c.in_err-early.field-0.0 c.in_ok-judged.ensures.names c.in_err-early.ensures.err)

pub returns-in_err-fit-clause-err : goal.returns-in_err-fit-clause-err
returns-in_err-fit-clause-err c =
    let j = c.in_ok-judged.ensures in
    err_same c.from_residual-in_err-fit.result c.in_err-fit.field-0.0 _ c.from_residual-in_err-fit.ensures.1
    (λ t d place z. room_refused d c.args.parent place c.args.scope.now c.args.items.now (depth_of (found c.args.parent 1 d.forest))
    c.in_ok-judged.judged.names c.in_err-fit.field-0.0 j.names c.in_ok-early.ensures.ok
    (c.in_err-fit.ensures.err t d z place (block c.args.scope.now c.args.items.now) (sym j.nodes) (sym j.depth)))

pub returns-in_err-late-clause-err : goal.returns-in_err-late-clause-err
returns-in_err-late-clause-err c =
    let j = c.in_ok-judged.ensures in let new = block c.args.scope.now c.args.items.now in
    err_same c.from_residual-in_err-late.result c.in_err-late.field-0.0 _ c.from_residual-in_err-late.ensures.1
    (λ t d place z. late_refused d c.args.parent place c.args.scope.now c.args.items.now (depth_of (found c.args.parent 1 d.forest))
    c.in_ok-judged.judged.names c.in_err-late.field-0.0 (with_nodes d c.args.parent place new) j.names c.in_ok-early.ensures.ok c.in_err-late.ensures.err
    (put_room d c.args.parent place new
    (room_for d c.args.parent c.in_ok-judged.judged.nodes c.in_ok-judged.judged.depth new (c.in_ok-fit.ensures.ok t d z) (sym j.nodes) (sym j.depth))))

pub returns-in_err-rows-clause-err : goal.returns-in_err-rows-clause-err
returns-in_err-rows-clause-err c = err_same c.from_residual-in_err-rows.result Memory _ c.from_residual-in_err-rows.ensures.1 (λ t d place z. tt)

pub tree_of-requires-clause-tree : goal.tree_of-requires-clause-tree
tree_of-requires-clause-tree c =
    let j = c.in_ok-judged.ensures in let s = c.requires.stands in
    rw c.in_ok-rows.ensures.is_block (part_tree s.1 c.args.parent c.args.scope.now c.args.items.now c.in_ok-judged.judged.names c.in_ok-judged.judged.nodes c.in_ok-judged.judged.depth
    c.requires.one j.names c.in_ok-late.ensures.ok (c.in_ok-fit.ensures.ok s.0 s.1 s.2) (sym j.nodes) (sym j.depth))

pub returns-clause-part : goal.returns-clause-part
returns-clause-part c = c.tree_of.ensures ∙ c.in_ok-rows.ensures.is_block

pub returns-clause-ok : goal.returns-clause-ok
returns-clause-ok c = λ t d place z.
    let j = c.in_ok-judged.ensures in let new = block c.args.scope.now c.args.items.now in let is = c.tree_of.ensures ∙ c.in_ok-rows.ensures.is_block in
    rw is (inserted d c.args.parent place c.args.scope.now c.args.items.now (depth_of (found c.args.parent 1 d.forest)) c.in_ok-judged.judged.names (with_nodes d c.args.parent place new)
    j.names c.in_ok-early.ensures.ok c.in_ok-late.ensures.ok
    (put_room d c.args.parent place new
    (room_for d c.args.parent c.in_ok-judged.judged.nodes c.in_ok-judged.judged.depth new (c.in_ok-fit.ensures.ok t d z) (sym j.nodes) (sym j.depth))))

pub returns-clause-room : goal.returns-clause-room
returns-clause-room c = λ t d z.
    let j = c.in_ok-judged.ensures in let is = c.tree_of.ensures ∙ c.in_ok-rows.ensures.is_block in
    room_for d c.args.parent c.in_ok-judged.judged.nodes c.in_ok-judged.judged.depth _ (c.in_ok-fit.ensures.ok t d z) (ap count is ∙ sym j.nodes) (ap (deepest_of 1) is ∙ sym j.depth)
