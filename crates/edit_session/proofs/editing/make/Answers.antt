use Rattle.std.proofs.Common.{◌≢◌, [], inl, refl, sym, subst}
use Rattle.std.specs.Prelude.{OnOk}
use Rattle.compiled_schema.specs.declared.compiled.Compiled.{Compiled}
use Rattle.kept_keys.specs.Keys.{AreTargetsBy, IsWhole, WereTargets}
use Rattle.edit_session.specs.Held.{IsPresent}
use Rattle.edit_session.proofs.Followed.{pruned-below, were-by}
use Rattle.edit_session.proofs.Making.{right-whole, whole-right}
use Rattle.edit_session.proofs.Results.{both-ok, on-ok}
use Rattle.edit_session.proofs.Standing.{present-by}
use Rattle.edit_session.proofs.editing.make.Goals as goal

pub spot_of-requires : goal.spot_of-requires
spot_of-requires g c = let q = c.requires.can in (c.args.set.now.names, q.0, q.1, q.2)

pub turn_of-requires-clause-stands : goal.turn_of-requires-clause-stands
turn_of-requires-clause-stands g c = let q = c.requires.can in (c.args.set.now.names, q.0, q.1)

pub turn_of-requires-clause-pruned : goal.turn_of-requires-clause-pruned
turn_of-requires-clause-pruned g c = let q = c.requires.can in pruned-below c.args.set.now.names c.args.doc.now q.0 c.args.change q.2 c.spot_of.result c.spot_of.ensures

pub keep_change-requires-clause-right : goal.keep_change-requires-clause-right
keep_change-requires-clause-right g c = whole-right c.args.set.now c.args.doc.now c.args.kept.now c.requires.present.whole

pub settle_keys-requires-clause-whole : goal.settle_keys-requires-clause-whole
settle_keys-requires-clause-whole g c =
    subst (λ (x : Compiled). IsWhole x c.keep_change.new.doc c.keep_change.new.kept) (sym c.keep_change.ensures.same)
    (right-whole c.args.set.now c.keep_change.new.doc c.keep_change.new.kept c.in_ok-keep_change.ensures.right)

pub settle_keys-requires-clause-before : goal.settle_keys-requires-clause-before
settle_keys-requires-clause-before g c =
    let done = c.in_ok-keep_change.ensures in
    subst (λ (x : Compiled). x.identities.items ≢ [] → WereTargets x c.keep_change.new.doc c.keep_change.new.kept c.args.keys.now c.in_ok-turn.turn) (sym c.keep_change.ensures.same)
    (were-by c.args.set.now c.args.doc.now c.keep_change.new.doc c.args.kept.now c.keep_change.new.kept c.args.keys.now c.requires.present done.right c.args.change done.turned done.identity c.spot_of.result c.spot_of.ensures
    c.in_ok-turn.turn c.in_ok-turn.ensures c.requires.targets)

pub returns-clause-made : goal.returns-clause-made
returns-clause-made g c = on-ok c.settle_keys.result c.in_ok-keep_change.ensures.made

pub returns-clause-present : goal.returns-clause-present
returns-clause-present g c =
    subst (λ (x : Compiled). OnOk c.settle_keys.result (IsPresent x c.keep_change.new.doc c.settle_keys.new.kept)) c.keep_change.ensures.same
    (both-ok c.settle_keys.result (present-by c.keep_change.new.set c.keep_change.new.doc c.settle_keys.new.kept) c.settle_keys.ensures.whole c.settle_keys.ensures.says)

pub returns-clause-targets : goal.returns-clause-targets
returns-clause-targets g c =
    subst (λ (x : Compiled). OnOk c.settle_keys.result (AreTargetsBy x c.keep_change.new.doc c.settle_keys.new.kept.records.slots c.settle_keys.new.keys)) c.keep_change.ensures.same c.settle_keys.ensures.targets

pub returns-in_err-turn-clause-reach : goal.returns-in_err-turn-clause-reach
returns-in_err-turn-clause-reach g c = λ d z. inl (refl, refl)
