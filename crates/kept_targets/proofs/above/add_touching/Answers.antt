use Rattle.std.proofs.Common.{sym, subst}
use Rattle.kept_targets.proofs.Looking.{above-there, made-of, sound}
use Rattle.kept_targets.proofs.Touching.{IsTouchingBut, level-at, touching-end, touching-next, touching-start}
use Rattle.kept_targets.proofs.above.add_touching.Goals as goal

pub up-init : goal.up-init
up-init c =
    let by = c.args.by.now in
    touching-start by.set.now by.doc.now by.state.now.records.slots c.args.keys.now c.args.node c.args.touched.now c.requires.element

pub note_scope-requires : goal.note_scope-requires
note_scope-requires c =
    let by = c.args.by.now in
    made-of by.set.now by.doc.now by.state.now c.requires.whole c.in-Some.own (c.up.invariant.element c.in-Some.own c.in-Some.is)

pub up-smaller : goal.up-smaller
up-smaller c =
    let by = c.args.by.now in
    level-at by.doc.now (sound by.set.now by.doc.now by.state.now c.requires.whole) c.in-Some.own c.up.next c.in-Some.is c.parent-next.result c.parent-next.ensures.parent

pub up-preserved : goal.up-preserved
up-preserved c =
    let by = c.args.by.now in
    let ns = by.doc.now in
    let k = by.state.now in
    subst (λ o. IsTouchingBut by.set.now ns k.records.slots c.args.keys.now c.args.node o c.args.touched.now (record { targets = c.note_target.new.targets; scopes = c.note_scope.new.scopes })) (sym c.parent-next.ensures.parent)
    (touching-next by.set.now ns k.records.slots c.args.keys.now c.args.node c.up.next c.in-Some.own c.in-Some.is c.args.touched.now c.up.touched (record { targets = c.note_target.new.targets; scopes = c.note_scope.new.scopes }) c.up.invariant
    c.in_ok-note_target.ensures c.in_ok-note_scope.ensures (λ p up. above-there by.set.now ns k c.requires.whole c.in-Some.own p up))

pub returns : goal.returns
returns c =
    let by = c.args.by.now in
    touching-end by.set.now by.doc.now by.state.now.records.slots c.args.keys.now c.args.node c.up.next c.args.touched.now c.up.touched c.in_default.is c.up.invariant
