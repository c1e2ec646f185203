use Rattle.std.proofs.Common.{◌≡◌, ℕ, ◌+◌, ◌<◌, ◌^◌, length, sym, ap, ◌∙◌, arith}
use Rattle.xs_positions.specs.Tree.{Tree, size, sequence_of, choice_of}
use Rattle.xs_positions.specs.PositionWords.{IsWord, Passes}
use Rattle.xs_positions.specs.Nodes.{ids_of}
use Rattle.xs_positions.specs.Sets.{Describes}
use Rattle.xs_positions.specs.Parts.{sets_of, unused, one_position, IsPartOf}
use Rattle.xs_positions.specs.Walk.{tree_in, trees_in}
use Rattle.xs_positions.proofs.Walking.{measured_at, node_tree, node_parts}
use Rattle.xs_positions.proofs.Describing.{Describes-one}
use Rattle.xs_positions.proofs.Tasks.{ids_here, copies_given}
use Rattle.xs_positions.proofs.Steps.{if_ok, unused_sets, no_rounds}
use Rattle.xs_positions.proofs.walk.build_part.Goals as goal

pub join_all-requires : goal.join_all-requires
join_all-requires c =
    let ns = c.args.nodes.now in
    let n = node_tree ns c.args.id c.index.result c.index-nodes-index.result _ c.requires.measured.ordered c.requires.id c.index.ensures c.index-nodes-index.is c.in-Sequence.is in
    let h = ids_here ns c.args.id c.index.result c.index-nodes-index.result c.requires.id c.index.ensures c.index-nodes-index.is ∙ ap ids_of c.in-Sequence.is in
    (trees_in ns c.in-Sequence.field-0.items, rw h at c.requires.parts, rw n at c.requires.inhabited, rw n at c.requires.fits)

pub returns-in-Symbol : goal.returns-in-Symbol
returns-in-Symbol c =
    let ns = c.args.nodes.now in
    let n = node_tree ns c.args.id c.index.result c.index-nodes-index.result _ c.requires.measured.ordered c.requires.id c.index.ensures c.index-nodes-index.is c.in-Symbol.is in
    if_ok (λ part. sets_of part ≡ one_position c.args.base) (λ part. Describes (IsWord (tree_in ns c.args.id) c.args.base) c.args.base (size (tree_in ns c.args.id)) (sets_of part))
    c.one.result (λ part e. rw (n, e) (Describes-one c.args.base)) c.one.ensures.sets

pub returns-in-Sequence : goal.returns-in-Sequence
returns-in-Sequence c =
    let ns = c.args.nodes.now in
    let n = node_tree ns c.args.id c.index.result c.index-nodes-index.result _ c.requires.measured.ordered c.requires.id c.index.ensures c.index-nodes-index.is c.in-Sequence.is in
    let h = ids_here ns c.args.id c.index.result c.index-nodes-index.result c.requires.id c.index.ensures c.index-nodes-index.is ∙ ap ids_of c.in-Sequence.is in
    if_ok (IsPartOf (sequence_of (trees_in ns c.in-Sequence.field-0.items)) c.args.base)
    (λ part. Describes (IsWord (tree_in ns c.args.id) c.args.base) c.args.base (size (tree_in ns c.args.id)) (sets_of part))
    c.join_all.result (λ part d. rw n d.sets) (c.join_all.ensures (trees_in ns c.in-Sequence.field-0.items) (rw h at c.requires.parts) (rw n at c.requires.inhabited))

pub returns-in-Choice : goal.returns-in-Choice
returns-in-Choice c =
    let ns = c.args.nodes.now in
    let n = node_tree ns c.args.id c.index.result c.index-nodes-index.result _ c.requires.measured.ordered c.requires.id c.index.ensures c.index-nodes-index.is c.in-Choice.is in
    let h = ids_here ns c.args.id c.index.result c.index-nodes-index.result c.requires.id c.index.ensures c.index-nodes-index.is ∙ ap ids_of c.in-Choice.is in
    if_ok (IsPartOf (choice_of (trees_in ns c.in-Choice.field-0.items)) c.args.base)
    (λ part. Describes (IsWord (tree_in ns c.args.id) c.args.base) c.args.base (size (tree_in ns c.args.id)) (sets_of part))
    c.choose.result (λ part d. rw n d.sets) (c.choose.ensures (trees_in ns c.in-Choice.field-0.items) (rw h at c.requires.parts))

pub repeat-requires : goal.repeat-requires
repeat-requires c =
    let ns = c.args.nodes.now in
    let part : c.in-Repeat.part < c.args.id = node_parts ns c.args.id c.index.result c.index-nodes-index.result _ c.requires.measured.ordered c.requires.id c.index.ensures c.index-nodes-index.is c.in-Repeat.is in
    let l : c.in-Repeat.part < length ns = (let k : c.args.id < length ns = c.requires.id in omega arith) in
    let o = measured_at ns c.args.measures.now c.in-Repeat.part c.index-in-Repeat.result _ c.requires.measured l c.index-in-Repeat.ensures in (
      tree_in ns c.in-Repeat.part,
      copies_given ns c.requires.measured.ordered c.args.id c.requires.id c.index.result c.index-nodes-index.result c.index.ensures c.index-nodes-index.is c.in-Repeat.is
          c.args.base c.args.parts.items c.requires.parts c.requires.inhabited c.requires.fits (sym (ap (λ x. x.inhabited) o) ∙ c.if-measures-index.true),
    )

pub returns-then-measures-index : goal.returns-then-measures-index
returns-then-measures-index c =
    let ns = c.args.nodes.now in
    let n = node_tree ns c.args.id c.index.result c.index-nodes-index.result _ c.requires.measured.ordered c.requires.id c.index.ensures c.index-nodes-index.is c.in-Repeat.is in
    let part : c.in-Repeat.part < c.args.id = node_parts ns c.args.id c.index.result c.index-nodes-index.result _ c.requires.measured.ordered c.requires.id c.index.ensures c.index-nodes-index.is c.in-Repeat.is in
    let l : c.in-Repeat.part < length ns = (let k : c.args.id < length ns = c.requires.id in omega arith) in
    let o = measured_at ns c.args.measures.now c.in-Repeat.part c.index-in-Repeat.result _ c.requires.measured l c.index-in-Repeat.ensures in
    let given = copies_given ns c.requires.measured.ordered c.args.id c.requires.id c.index.result c.index-nodes-index.result c.index.ensures c.index-nodes-index.is c.in-Repeat.is
    c.args.base c.args.parts.items c.requires.parts c.requires.inhabited c.requires.fits (sym (ap (λ x. x.inhabited) o) ∙ c.if-measures-index.true) in
    rw n (c.repeat.ensures (tree_in ns c.in-Repeat.part) given)

pub returns-else-measures-index : goal.returns-else-measures-index
returns-else-measures-index c =
    let ns = c.args.nodes.now in
    let n = node_tree ns c.args.id c.index.result c.index-nodes-index.result _ c.requires.measured.ordered c.requires.id c.index.ensures c.index-nodes-index.is c.in-Repeat.is in
    let part : c.in-Repeat.part < c.args.id = node_parts ns c.args.id c.index.result c.index-nodes-index.result _ c.requires.measured.ordered c.requires.id c.index.ensures c.index-nodes-index.is c.in-Repeat.is in
    let l : c.in-Repeat.part < length ns = (let k : c.args.id < length ns = c.requires.id in omega arith) in
    let m = measured_at ns c.args.measures.now c.args.id c.index-else-measures-index.result _ c.requires.measured c.requires.id c.index-else-measures-index.ensures in
    let o = measured_at ns c.args.measures.now c.in-Repeat.part c.index-in-Repeat.result _ c.requires.measured l c.index-in-Repeat.ensures in
    let tree : Tree = tree_in ns c.args.id in
    let none : (p : ℕ) → Passes (IsWord tree c.args.base) p → ⊥ = λ p g.
    no_rounds (tree_in ns c.in-Repeat.part) c.in-Repeat.min c.in-Repeat.max c.args.base _ o c.if-measures-index.false p (rw n at g) in
    if_ok (λ part. sets_of part ≡ unused _) (λ part. Describes (IsWord tree c.args.base) c.args.base (size tree) (sets_of part)) c.unused.result
    (λ part made. unused_sets tree c.args.base _ part m (let f : c.args.base + size tree < 2 ^ 32 = c.requires.fits in omega arith) none made) c.unused.ensures.sets
