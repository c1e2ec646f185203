use Rattle.std.proofs.Common.{arith}
use Rattle.xs_names.proofs.GrownLaws.{Grown-trans}
use Rattle.doc_changes.proofs.Growth.{count_taken}
use Rattle.doc_changes.proofs.Known.{names_alone, known_next}
use Rattle.doc_changes.proofs.Spread.{made_begun, made_ended, named_next, made_next}
use Rattle.doc_changes.proofs.spreading.new_nodes.Goals as goal

pub left-init : goal.left-init
left-init c = made_begun c.args.names.now c.new-made.result.items c.args.siblings c.new-made.ensures.items c.requires.names

pub new_node-requires : goal.new_node-requires
new_node-requires c =
    let s = c.in-Some.field-0 in
    record {
      called = named_next c.args.names.now c.left.names c.left.made.items c.args.siblings c.left.left c.left.invariant c.requires.called s.row.now s.children s.next c.in-Some.ensures;
      names = c.left.invariant.sound;
    }

pub left-smaller : goal.left-smaller
left-smaller c =
    let s = c.in-Some.field-0 in
    let k = count_taken s.row.now s.children s.next c.left.left c.in-Some.ensures in omega (arith, k.0, k.1)

pub left-preserved : goal.left-preserved
left-preserved c =
    let s = c.in-Some.field-0 in
    made_next c.args.names.now c.left.names c.left.made.items c.args.siblings c.left.left c.left.invariant c.requires.called s.row.now s.children s.next c.in-Some.ensures
    c.new_node.new.names c.in_ok-node.node c.push.new.self.items c.in_ok-node.ensures.grown c.in_ok-node.ensures.names c.in_ok-node.ensures.known c.in_ok-node.ensures.node c.in_ok-push.ensures.items

pub returns-in_err-node-clause-grown : goal.returns-in_err-node-clause-grown
returns-in_err-node-clause-grown c = Grown-trans c.args.names.now c.left.names c.new_node.new.names c.left.invariant.grown c.in_err-node.ensures.grown

pub returns-in_err-push-clause-grown : goal.returns-in_err-push-clause-grown
returns-in_err-push-clause-grown c = Grown-trans c.args.names.now c.left.names c.new_node.new.names c.left.invariant.grown c.in_ok-node.ensures.grown

pub returns-clause-nodes : goal.returns-clause-nodes
returns-clause-nodes c = made_ended c.args.names.now c.left.names c.left.made.items c.args.siblings c.left.left c.left.invariant c.in_default.ensures

pub returns-clause-grown : goal.returns-clause-grown
returns-clause-grown c = c.left.invariant.grown

pub returns-clause-names : goal.returns-clause-names
returns-clause-names c = c.left.invariant.sound

pub returns-in_err-node-clause-known : goal.returns-in_err-node-clause-known
returns-in_err-node-clause-known c = λ h.
    let s = c.in-Some.field-0 in
    (known_next c.args.names.now c.left.names c.new_node.new.names s.row.now s.children s.next c.left.left c.in-Some.ensures (λ o. c.in_err-node.ensures.known (names_alone c.left.names s.row.now s.children o)) (c.left.invariant.known h)).0

pub returns-in_err-push-clause-known : goal.returns-in_err-push-clause-known
returns-in_err-push-clause-known c = λ h.
    let s = c.in-Some.field-0 in
    (known_next c.args.names.now c.left.names c.new_node.new.names s.row.now s.children s.next c.left.left c.in-Some.ensures (λ o. c.in_ok-node.ensures.known (names_alone c.left.names s.row.now s.children o)) (c.left.invariant.known h)).0

pub returns-clause-known : goal.returns-clause-known
returns-clause-known c = λ h. (c.left.invariant.known h).0
