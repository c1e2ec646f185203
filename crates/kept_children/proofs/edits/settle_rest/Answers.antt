use Rattle.std.proofs.Common.{[], sym, subst, ◌∙◌}
use Rattle.std.proofs.lemmas.Result.{on_ok_weaker}
use Rattle.compiled_schema.specs.declared.compiled.Compiled.{Compiled}
use Rattle.child_lists.specs.from_kept_records.Slots.{pair_at}
use Rattle.child_lists.specs.from_kept_state.Kept.{children_at}
use Rattle.child_lists.specs.from_kept_judging.Judged.{AreChildren}
use Rattle.child_lists.specs.Family.{IsMidway}
use Rattle.kept_children.specs.Edited.{IsRightFor}
use Rattle.kept_below.proofs.Identity.{identity-then}
use Rattle.kept_children.proofs.Ending.{children-right}
use Rattle.kept_children.proofs.edits.settle_rest.Goals as goal

pub settle_all_marked-requires-clause-midway : goal.settle_all_marked-requires-clause-midway
settle_all_marked-requires-clause-midway g c = (c.args.own.1.now, c.requires.midway)

pub settle_parent-requires-clause-midway : goal.settle_parent-requires-clause-midway
settle_parent-requires-clause-midway g c =
    let done = c.in_ok-settle_all_marked.ensures in
    let was = c.args.own.1.now in
    subst (λ (s : Compiled). IsMidway s c.args.doc.now c.settle_all_marked.new.kept c.args.own.0 was []) (sym done.same) (done.midway was c.requires.midway)

pub settle_parent-requires-clause-children : goal.settle_parent-requires-clause-children
settle_parent-requires-clause-children g c =
    let done = c.in_ok-settle_all_marked.ensures in
    let ns = c.args.doc.now in
    let k = c.settle_all_marked.new.kept in
    let n = c.args.own.0 in
    subst (λ (s : Compiled). AreChildren s ns k n (pair_at k.records.slots n) (children_at k.records.slots n)) (sym done.same)
    (children-right c.args.set.now ns k n done.attributed done.counted done.given)

pub returns-clause-right : goal.returns-clause-right
returns-clause-right g c =
    on_ok_weaker c.settle_parent.result (subst (λ (s : Compiled). IsRightFor s c.args.doc.now c.settle_parent.new.kept) c.in_ok-settle_all_marked.ensures.same) c.settle_parent.ensures.right

pub returns-clause-same : goal.returns-clause-same
returns-clause-same g c = c.settle_parent.ensures.same ∙ c.in_ok-settle_all_marked.ensures.same

pub returns-clause-identity : goal.returns-clause-identity
returns-clause-identity g c =
    on_ok_weaker c.settle_parent.result (identity-then c.args.kept.now c.settle_all_marked.new.kept c.settle_parent.new.kept c.in_ok-settle_all_marked.ensures.identity) c.settle_parent.ensures.identity
