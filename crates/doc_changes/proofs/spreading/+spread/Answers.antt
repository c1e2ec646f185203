use Rattle.std.proofs.Common.{OnOk, sym, ◌∙◌, subst, refl, arith}
use Rattle.xs_names.proofs.GrownLaws.{Grown-trans}
use Rattle.tree_edits.proofs.BlockNaming.{HaveNames}
use Rattle.doc_changes.specs.inside.Spreading.{AreNodesOf, CanFill, Filled}
use Rattle.plain_tree.specs.Found.{HasNames}
use Rattle.doc_changes.proofs.Known.{known_next, names_of_tag}
use Rattle.doc_changes.proofs.Growth.{count_taken}
use Rattle.doc_changes.proofs.Spread.{nodes_free, nodes_apart, nodes_parent, fill_begun, fill_ended, can_fill, fill_next, fewer_left, below_less}
use Rattle.doc_changes.proofs.spreading.+spread.Goals as goal

pub put_below-new_nodes-requires : goal.put_below-new_nodes-requires
put_below-new_nodes-requires t c = record { called = subst HaveNames (sym c.again.ensures) c.requires.can.names; names = c.requires.names }

pub put_below-put_children-requires-clause-parent : goal.put_below-put_children-requires-clause-parent
put_below-put_children-requires-clause-parent t c =
    nodes_parent c.new_nodes.new.names c.args.links.now c.args.parent c.args.siblings c.requires.can c.in_ok-nodes.nodes.items (subst (AreNodesOf c.new_nodes.new.names c.in_ok-nodes.nodes.items) c.again.ensures c.in_ok-nodes.ensures.nodes) c.requires.bare

pub put_below-put_children-requires-clause-free : goal.put_below-put_children-requires-clause-free
put_below-put_children-requires-clause-free t c = λ d h.
    nodes_free c.new_nodes.new.names c.args.links.now c.args.parent c.args.siblings c.requires.can c.in_ok-nodes.nodes.items (subst (AreNodesOf c.new_nodes.new.names c.in_ok-nodes.nodes.items) c.again.ensures c.in_ok-nodes.ensures.nodes) d h

pub put_below-put_children-requires-clause-distinct : goal.put_below-put_children-requires-clause-distinct
put_below-put_children-requires-clause-distinct t c =
    nodes_apart c.new_nodes.new.names c.args.links.now c.args.parent c.args.siblings c.requires.can c.in_ok-nodes.nodes.items (subst (AreNodesOf c.new_nodes.new.names c.in_ok-nodes.nodes.items) c.again.ensures c.in_ok-nodes.ensures.nodes)

pub put_below-left-init : goal.put_below-left-init
put_below-left-init t c =
    fill_begun c.new_nodes.new.names c.args.links.now c.put_children.new.self c.args.parent c.args.siblings c.in_ok-nodes.nodes.items c.requires.can c.requires.bare
    (subst (AreNodesOf c.new_nodes.new.names c.in_ok-nodes.nodes.items) c.again.ensures c.in_ok-nodes.ensures.nodes) c.in_ok-put_children.ensures.ok c.in_ok-put_children.ensures.sound c.in_ok-nodes.ensures.names

pub put_below-fill-requires : goal.put_below-fill-requires
put_below-fill-requires t c =
    let s = c.in-Some.field-0 in
    let few = fewer_left c.new_nodes.new.names c.left.names c.args.links.now c.left.links c.args.parent c.args.siblings c.left.left c.requires.can c.left.invariant s.row.now s.children s.next c.in-Some.ensures in (
      omega (arith, c.decreases, few),
      (can_fill c.new_nodes.new.names c.left.names c.args.links.now c.left.links c.args.parent c.args.siblings c.left.left c.requires.can c.left.invariant s.row.now s.children s.next c.in-Some.ensures, c.left.invariant.sound),
    )

pub put_below-left-smaller : goal.put_below-left-smaller
put_below-left-smaller t c =
    let s = c.in-Some.field-0 in
    let k = count_taken s.row.now s.children s.next c.left.left c.in-Some.ensures in omega (arith, k.0, k.1)

pub put_below-left-preserved : goal.put_below-left-preserved
put_below-left-preserved t c =
    let s = c.in-Some.field-0 in
    fill_next c.new_nodes.new.names c.left.names c.args.links.now c.left.links c.args.parent c.args.siblings c.left.left c.requires.can c.left.invariant s.row.now s.children s.next c.in-Some.ensures
    c.fill.new.names c.fill.new.links c.in_ok-fill.ensures.grown c.in_ok-fill.ensures.names c.in_ok-fill.ensures.known c.in_ok-fill.ensures.filled

pub put_below-returns-in_err-fill-clause-grown : goal.put_below-returns-in_err-fill-clause-grown
put_below-returns-in_err-fill-clause-grown t c =
    Grown-trans c.args.names.now c.new_nodes.new.names c.fill.new.names c.in_ok-nodes.ensures.grown (Grown-trans c.new_nodes.new.names c.left.names c.fill.new.names c.left.invariant.grown c.in_err-fill.ensures.grown)

pub put_below-returns-clause-planted : goal.put_below-returns-clause-planted
put_below-returns-clause-planted t c =
    fill_ended c.new_nodes.new.names c.left.names c.args.links.now c.left.links c.args.parent c.args.siblings c.left.left c.left.invariant c.in_default.ensures

pub put_below-returns-clause-grown : goal.put_below-returns-clause-grown
put_below-returns-clause-grown t c = Grown-trans c.args.names.now c.new_nodes.new.names c.left.names c.in_ok-nodes.ensures.grown c.left.invariant.grown

pub put_below-returns-clause-names : goal.put_below-returns-clause-names
put_below-returns-clause-names t c = c.left.invariant.sound

pub fill-returns-in-Chars-clause-filled : goal.fill-returns-in-Chars-clause-filled
fill-returns-in-Chars-clause-filled t c = subst (λ k. Filled c.args.names.now c.args.links.now c.args.links.now c.args.row.now.number k c.args.children) (sym c.in-Chars.is) refl

pub fill-put_below-requires : goal.fill-put_below-requires
fill-put_below-requires t c =
    let less = below_less c.args.row.now _ c.args.children c.in-Element.is in
    let can = subst (λ k. CanFill c.args.links.now c.args.row.now.number k c.args.children) c.in-Element.is c.requires.can in
    (omega (arith, c.decreases, less), (can.0, (can.1, c.requires.names)))

pub fill-returns-in-Element-clause-filled : goal.fill-returns-in-Element-clause-filled
fill-returns-in-Element-clause-filled t c =
    subst (λ k. OnOk c.put_below.result (Filled c.put_below.new.names c.args.links.now c.put_below.new.links c.args.row.now.number k c.args.children)) (sym c.in-Element.is) c.put_below.ensures.planted

pub put_below-returns-in_err-nodes-clause-known : goal.put_below-returns-in_err-nodes-clause-known
put_below-returns-in_err-nodes-clause-known t c = λ h. c.new_nodes.ensures.known (subst (HasNames c.args.names.now) (sym c.again.ensures) h)

pub put_below-returns-in_err-put_children-clause-known : goal.put_below-returns-in_err-put_children-clause-known
put_below-returns-in_err-put_children-clause-known t c = λ h. c.new_nodes.ensures.known (subst (HasNames c.args.names.now) (sym c.again.ensures) h)

pub put_below-returns-in_err-fill-clause-known : goal.put_below-returns-in_err-fill-clause-known
put_below-returns-in_err-fill-clause-known t c = λ h.
    let a = c.new_nodes.ensures.known (subst (HasNames c.args.names.now) (sym c.again.ensures) h) in let k = subst (λ u. HasNames u c.args.siblings) (sym a) h in
    let s = c.in-Some.field-0 in
    (known_next c.new_nodes.new.names c.left.names c.fill.new.names s.row.now s.children s.next c.left.left c.in-Some.ensures c.in_err-fill.ensures.known (c.left.invariant.known k)).0 ∙ a

pub put_below-returns-clause-known : goal.put_below-returns-clause-known
put_below-returns-clause-known t c = λ h.
    let a = c.new_nodes.ensures.known (subst (HasNames c.args.names.now) (sym c.again.ensures) h) in let k = subst (λ u. HasNames u c.args.siblings) (sym a) h in
    (c.left.invariant.known k).0 ∙ a

pub fill-returns-in-Element-clause-known : goal.fill-returns-in-Element-clause-known
fill-returns-in-Element-clause-known t c = λ h. c.put_below.ensures.known (names_of_tag c.args.names.now c.args.row.now c.args.children _ c.in-Element.is h).1
