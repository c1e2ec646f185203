use Rattle.std.proofs.Common.{sym, ◌∙◌}
use Rattle.tree_edits.specs.Spots.{inserting}
use Rattle.tree_edits.proofs.Outcomes.{ok_map, on_ok, err_map, err_same}
use Rattle.tree_edits.proofs.Inserting.{block_at, why_of}
use Rattle.tree_edits.proofs.apply.insert_block.Goals as goal

pub returns-in_err-spot-clause-err : goal.returns-in_err-spot-clause-err
returns-in_err-spot-clause-err c =
    let refuses = rw c.deref.ensures.value at c.in_err-spot.ensures.err in
    err_same c.from_residual.result c.in_err-spot.field-0.0 _ c.from_residual.ensures.1
    (refuses (inserting c.args.rows.now.items c.args.next_free c.args.parent c.args.index c.args.items.now))

pub returns-clause-ok : goal.returns-clause-ok
returns-clause-ok c =
    let spot = rw c.deref.ensures.value at c.in_ok-spot.ensures.ok in
    let scope = rw c.deref-2.ensures.value at c.in_ok-scope.ensures in
    ok_map c.put_block.result _ _ c.put_block.ensures.ok
    (λ free p. sym (block_at c.args.rows.now.items c.args.next_free c.args.parent c.args.index c.in_ok-spot.spot c.in_ok-scope.scope c.args.items.now spot scope)
    ∙ (p c.args.parent c.args.index spot).inserts)

pub returns-clause-sound : goal.returns-clause-sound
returns-clause-sound c =
    let spot = rw c.deref.ensures.value at c.in_ok-spot.ensures.ok in
    on_ok c.put_block.result _ _ c.put_block.ensures.ok (λ free p. (p c.args.parent c.args.index spot).sound)

pub returns-clause-err : goal.returns-clause-err
returns-clause-err c =
    let spot = rw c.deref.ensures.value at c.in_ok-spot.ensures.ok in
    let scope = rw c.deref-2.ensures.value at c.in_ok-scope.ensures in
    err_map c.put_block.result _ _ c.put_block.ensures.err
    (λ e p. why_of _ _ e (block_at c.args.rows.now.items c.args.next_free c.args.parent c.args.index c.in_ok-spot.spot c.in_ok-scope.scope c.args.items.now spot scope)
    (p c.args.parent c.args.index))
