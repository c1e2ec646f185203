-- What a node's number reads is its tree, whose parts have smaller numbers.
use Rattle.std.proofs.Common.{◌≡◌, ◌<◌, ◌++◌, length, replicate, sym, ap, ◌∙◌, arith}
use Rattle.std.specs.List.{flat_map}
use Rattle.xs_positions.specs.Tree.{symbols, times}
use Rattle.xs_positions.specs.Walk.{tree_in, trees_in}
use Rattle.xs_positions.proofs.Walking.{length_measured, measured_at, node_tree, symbols-sequence_of, symbols-choice_of, no_symbols}
use Rattle.xs_positions.proofs.Tasks.{steps_some, parts_inside, map-copies}
use Rattle.xs_positions.proofs.Listed.{on_ok, listed_none, listed_symbol, listed_wait, reverse_copies, symbols-copies}
use Rattle.xs_positions.proofs.symbols.list_node.Goals as goal

pub bounds-measures-index : goal.bounds-measures-index
bounds-measures-index c =
    let e = length_measured c.args.nodes.now c.args.measures.now c.requires.measured in
    rw c.index.ensures (let l : c.args.id < length c.args.nodes.now = c.requires.id in omega arith)

pub returns-then-measures-index-eq0 : goal.returns-then-measures-index-eq0
returns-then-measures-index-eq0 c =
    listed_none c.args.nodes.now c.args.id c.args.listed.now.items c.args.todo.now.items
    (no_symbols _ _ (measured_at c.args.nodes.now c.args.measures.now c.args.id c.index.result _ c.requires.measured c.requires.id c.index.ensures) c.if-measures-index-eq0.true)
    (steps_some (tree_in c.args.nodes.now c.args.id))

pub returns-in_ok-push-in-Symbol : goal.returns-in_ok-push-in-Symbol
returns-in_ok-push-in-Symbol c =
    let n = node_tree c.args.nodes.now c.args.id c.index-2.result c.index-nodes-index.result _ c.requires.measured.ordered c.requires.id c.index-2.ensures c.index-nodes-index.is c.in-Symbol.is in
    rw c.in_ok-push-in-Symbol.ensures.items
    (listed_symbol c.args.nodes.now c.args.id _ c.args.listed.now.items c.args.todo.now.items (ap symbols n) (steps_some (tree_in c.args.nodes.now c.args.id)))

pub returns-in-Sequence : goal.returns-in-Sequence
returns-in-Sequence c =
    let ns = c.args.nodes.now in
    let n = node_tree ns c.args.id c.index-2.result c.index-nodes-index.result _ c.requires.measured.ordered c.requires.id c.index-2.ensures c.index-nodes-index.is c.in-Sequence.is in
    let inside = parts_inside ns c.requires.measured.ordered c.args.id c.requires.id c.index-2.result c.index-nodes-index.result _ c.index-2.ensures c.index-nodes-index.is c.in-Sequence.is c.deref.result.now c.deref.ensures.value in
    let e : symbols (tree_in ns c.args.id) ≡ flat_map symbols (trees_in ns c.deref.result.now) =
    ap symbols n ∙ (symbols-sequence_of (trees_in ns c.in-Sequence.parts.items) ∙ ap (λ ps. flat_map symbols (trees_in ns ps)) (sym c.deref.ensures.value)) in
    on_ok c.wait_for.result _ _ (λ h. rw h (listed_wait ns c.args.id c.args.listed.now.items c.args.todo.now.items c.deref.result.now e inside.0 inside.1)) c.wait_for.ensures

pub returns-in-Choice : goal.returns-in-Choice
returns-in-Choice c =
    let ns = c.args.nodes.now in
    let n = node_tree ns c.args.id c.index-2.result c.index-nodes-index.result _ c.requires.measured.ordered c.requires.id c.index-2.ensures c.index-nodes-index.is c.in-Choice.is in
    let inside = parts_inside ns c.requires.measured.ordered c.args.id c.requires.id c.index-2.result c.index-nodes-index.result _ c.index-2.ensures c.index-nodes-index.is c.in-Choice.is c.deref-in-Choice.result.now c.deref-in-Choice.ensures.value in
    let e : symbols (tree_in ns c.args.id) ≡ flat_map symbols (trees_in ns c.deref-in-Choice.result.now) =
    ap symbols n ∙ (symbols-choice_of (trees_in ns c.in-Choice.parts.items) ∙ ap (λ ps. flat_map symbols (trees_in ns ps)) (sym c.deref-in-Choice.ensures.value)) in
    on_ok c.wait_for-in-Choice.result _ _ (λ h. rw h (listed_wait ns c.args.id c.args.listed.now.items c.args.todo.now.items c.deref-in-Choice.result.now e inside.0 inside.1)) c.wait_for-in-Choice.ensures

pub returns-in-Repeat : goal.returns-in-Repeat
returns-in-Repeat c =
    let ns = c.args.nodes.now in
    let n = node_tree ns c.args.id c.index-2.result c.index-nodes-index.result _ c.requires.measured.ordered c.requires.id c.index-2.ensures c.index-nodes-index.is c.in-Repeat.is in
    let inside = parts_inside ns c.requires.measured.ordered c.args.id c.requires.id c.index-2.result c.index-nodes-index.result _ c.index-2.ensures c.index-nodes-index.is c.in-Repeat.is (replicate c.copies.result c.in-Repeat.part) (ap (λ k. replicate k c.in-Repeat.part) c.copies.ensures) in
    let e : symbols (tree_in ns c.args.id) ≡ flat_map symbols (trees_in ns (replicate c.copies.result c.in-Repeat.part)) =
    ap symbols n ∙ (ap (λ k. times k (symbols (tree_in ns c.in-Repeat.part))) (sym c.copies.ensures) ∙ (sym (symbols-copies c.copies.result (tree_in ns c.in-Repeat.part)) ∙
    ap (flat_map symbols) (sym (map-copies (tree_in ns) c.copies.result c.in-Repeat.part)))) in
    on_ok c.wait_for_copies.result (c.wait_for_copies.new.todo.items ≡ c.args.todo.now.items ++ replicate c.copies.result c.in-Repeat.part) _ (λ h. rw (h ∙ ap (λ l. c.args.todo.now.items ++ l) (sym (reverse_copies c.copies.result c.in-Repeat.part))) (listed_wait ns c.args.id c.args.listed.now.items c.args.todo.now.items (replicate c.copies.result c.in-Repeat.part) e inside.0 inside.1)) c.wait_for_copies.ensures
