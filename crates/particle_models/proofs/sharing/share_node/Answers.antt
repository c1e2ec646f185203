use Rattle.std.proofs.Common.{◌∙◌}
use Rattle.particle_models.specs.Sharing.{inhabited_of}
use Rattle.particle_models.proofs.Shared.{made_tree, sequence_made, choice_made, parts_inside}
use Rattle.particle_models.proofs.sharing.share_node.Goals as goal

pub sequence-requires : goal.sequence-requires
sequence-requires c =
    parts_inside (inhabited_of c.args.inhabited.now) c.args.expr.now c.args.ids.now _ _ c.deref.result.now c.as_slice.ensures (c.deref.ensures.value ∙ c.in_ok-parts-in-Sequence.ensures)
    _ c.requires.ids (rw c.in-Sequence.is at c.requires.parts)

pub choice-requires : goal.choice-requires
choice-requires c =
    parts_inside (inhabited_of c.args.inhabited.now) c.args.expr.now c.args.ids.now _ _ c.deref-in-Choice.result.now c.as_slice-in-Choice.ensures (c.deref-in-Choice.ensures.value ∙ c.in_ok-parts-in-Choice.ensures)
    _ c.requires.ids (rw c.in-Choice.is at c.requires.parts)

pub returns-in_ok-parts-in-Sequence-clause-tree : goal.returns-in_ok-parts-in-Sequence-clause-tree
returns-in_ok-parts-in-Sequence-clause-tree c =
    made_tree c.sequence.result c.args.expr.now _ _ _ c.sequence.ensures.id c.sequence.ensures.ok
    (sequence_made (inhabited_of c.args.inhabited.now) c.args.expr.now c.args.ids.now _ _ c.deref.result.now c.as_slice.ensures (c.deref.ensures.value ∙ c.in_ok-parts-in-Sequence.ensures)
    c.args.node.now c.in-Sequence.is c.requires.parts)

pub returns-in_ok-parts-in-Choice-clause-tree : goal.returns-in_ok-parts-in-Choice-clause-tree
returns-in_ok-parts-in-Choice-clause-tree c =
    made_tree c.choice.result c.args.expr.now _ _ _ c.choice.ensures.id c.choice.ensures.ok
    (choice_made (inhabited_of c.args.inhabited.now) c.args.expr.now c.args.ids.now _ _ c.deref-in-Choice.result.now c.as_slice-in-Choice.ensures (c.deref-in-Choice.ensures.value ∙ c.in_ok-parts-in-Choice.ensures)
    c.args.node.now c.in-Choice.is c.requires.parts)
