use Rattle.std.proofs.Common.{Some, get_or, sym, ap, ◌∙◌, subst}
use Rattle.scope_targets.specs.Kept.{AreKept, Reparents}
use Rattle.scope_targets.specs.Linked.{links_by}
use Rattle.scope_targets.specs.declared.keys.CountedKeys.{CountedKeys}
use Rattle.doc_changes.specs.Held.{parent_at}
use Rattle.kept_targets.specs.Kept.{sign_at}
use Rattle.kept_targets.proofs.Among.{has-get}
use Rattle.kept_targets.proofs.Counts.{adopt-kept, assigns-all, assigns-next, assigns-none, sign-kept}
use Rattle.kept_targets.proofs.Looking.{made-of}
use Rattle.kept_targets.proofs.finding.adopt.Goals as goal

pub loop-node-init : goal.loop-node-init
loop-node-init c = record {
  counting = c.requires.counting;
  adopts = assigns-none (parent_at c.args.by.now.doc.now) (sign_at c.args.by.now.state.now.records.slots) c.args.keys.now;
}

pub at-requires : goal.at-requires
at-requires c =
    let by = c.args.by.now in
    made-of by.set.now by.doc.now by.state.now c.requires.whole (get_or c.args.moved.now c.loop-node.node-index 0) (c.requires.elements (get_or c.args.moved.now c.loop-node.node-index 0) (has-get c.args.moved.now c.loop-node.node-index c.loop-node-test.true))

pub loop-node-preserved : goal.loop-node-preserved
loop-node-preserved c =
    let by = c.args.by.now in
    let ns = by.doc.now in
    let ks = by.state.now.records.slots in
    let first = c.args.keys.now in
    let old = c.loop-node.keys in
    let moved = c.args.moved.now in
    let i = c.loop-node.node-index in
    let own = get_or moved i 0 in
    let within = c.loop-node-test.true in
    let inv = c.loop-node.invariant in
    let parent = c.parent.ensures.parent in
    let mid = c.set_parent.new.self in
    let moves = subst (Reparents old.counted mid own) parent c.in_ok-set_parent.ensures.parent in
    let signs = c.in_ok-set_sign.ensures.signs in
    record {
      counting =
          subst (λ (s : CountedKeys). AreKept (links_by s.parents.items) s) (sym c.set_sign.ensures.counted)
          (adopt-kept ns ks first old moved i within inv.adopts c.requires.can mid moves (λ p e. c.in_ok-set_parent.ensures.lower p (parent ∙ e)) inv.counting);
      adopts = assigns-next (parent_at ns) (sign_at ks) first old c.set_sign.new.self moved i within inv.adopts
          (subst (λ (s : CountedKeys). Reparents old.counted s own (parent_at ns own)) (sym c.set_sign.ensures.counted) moves)
          (signs.here ∙ ap Some c.sign_of.ensures ∙ sign-kept ks own c.at.result.now c.at.ensures) signs.others;
    }

pub returns-clause-counting : goal.returns-clause-counting
returns-clause-counting c = c.loop-node.invariant.counting

pub returns-clause-adopts : goal.returns-clause-adopts
returns-clause-adopts c =
    let by = c.args.by.now in
    assigns-all (parent_at by.doc.now) (sign_at by.state.now.records.slots) c.args.keys.now c.loop-node.keys c.args.moved.now c.loop-node.node-index c.loop-node-test.false c.loop-node.invariant.adopts
