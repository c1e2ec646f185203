use Rattle.std.proofs.Common.{◌≢◌, [], inl, refl, sym, ◌∙◌, subst, arith}
use Rattle.compiled_schema.specs.declared.compiled.Compiled.{Compiled}
use Rattle.kept_keys.specs.Keys.{AreTargetsBy, IsWhole, WereTargets}
use Rattle.edit_session.specs.Held.{IsPresent, Stands, document_in}
use Rattle.edit_session.proofs.Changing.{stands-changed, reached-so, within-so}
use Rattle.edit_session.proofs.Followed.{taken-below, were-over}
use Rattle.edit_session.proofs.Making.{right-whole, whole-right, stands-right}
use Rattle.edit_session.proofs.Standing.{present-by}
use Rattle.edit_session.proofs.undoing.change_kept.Goals as goal

pub keep_inverse-requires-clause-right : goal.keep_inverse-requires-clause-right
keep_inverse-requires-clause-right g c = whole-right c.args.set.now c.args.doc.now c.args.kept.now c.requires.present.whole

pub keep_inverse-requires-clause-can : goal.keep_inverse-requires-clause-can
keep_inverse-requires-clause-can g c =
    let q = c.requires.can in
    (document_in c.args.set.now c.args.doc.now, q.0, stands-right c.args.set.now c.args.doc.now c.args.kept.now (whole-right c.args.set.now c.args.doc.now c.args.kept.now c.requires.present.whole), q.1, q.2)

pub spot_of-requires : goal.spot_of-requires
spot_of-requires g c =
    let q = c.requires.can in
    let right = whole-right c.args.set.now c.args.doc.now c.args.kept.now c.requires.present.whole in
    (c.args.set.now.names, document_in c.args.set.now c.args.doc.now, q.0, stands-right c.args.set.now c.args.doc.now c.args.kept.now right, q.1, q.2)

pub turn_of-requires-clause-stands : goal.turn_of-requires-clause-stands
turn_of-requires-clause-stands g c =
    let right = whole-right c.args.set.now c.args.doc.now c.args.kept.now c.requires.present.whole in
    (c.args.set.now.names, document_in c.args.set.now c.args.doc.now, stands-right c.args.set.now c.args.doc.now c.args.kept.now right)

pub turn_of-requires-clause-pruned : goal.turn_of-requires-clause-pruned
turn_of-requires-clause-pruned g c =
    let q = c.requires.can in
    let set = c.args.set.now in
    let doc = c.args.doc.now in
    taken-below set.names doc (document_in set doc) (stands-right set doc c.args.kept.now (whole-right set doc c.args.kept.now c.requires.present.whole)) q.0 c.args.change q.1 q.2 c.spot_of.result c.spot_of.ensures

pub settle_keys-requires-clause-before : goal.settle_keys-requires-clause-before
settle_keys-requires-clause-before g c =
    let done = c.in_ok-back.ensures in
    subst (λ (x : Compiled). x.identities.items ≢ [] → WereTargets x c.keep_inverse.new.doc c.keep_inverse.new.kept c.args.keys.now c.in_ok-turn.turn) (sym c.keep_inverse.ensures.same)
    (were-over c.args.set.now c.args.doc.now c.keep_inverse.new.doc c.args.kept.now c.keep_inverse.new.kept c.args.keys.now c.requires.present done.right c.args.change done.turned done.identity c.spot_of.result c.spot_of.ensures
    c.in_ok-turn.turn c.in_ok-turn.ensures c.requires.targets)

pub settle_keys-requires-clause-whole : goal.settle_keys-requires-clause-whole
settle_keys-requires-clause-whole g c =
    subst (λ (x : Compiled). IsWhole x c.keep_inverse.new.doc c.keep_inverse.new.kept) (sym c.keep_inverse.ensures.same)
    (right-whole c.args.set.now c.keep_inverse.new.doc c.keep_inverse.new.kept c.in_ok-back.ensures.right)

-- ---- all is done

pub returns-clause-done : goal.returns-clause-done
returns-clause-done g c = λ own means fits.
    let set = c.args.set.now in
    let doc = c.args.doc.now in
    let right = whole-right set doc c.args.kept.now c.requires.present.whole in
    let stands = c.in_ok-back.ensures.made (document_in set doc) own (stands-right set doc c.args.kept.now right) means fits in
    let present = subst (λ (x : Compiled). IsPresent x c.keep_inverse.new.doc c.settle_keys.new.kept) c.keep_inverse.ensures.same
    (present-by c.keep_inverse.new.set c.keep_inverse.new.doc c.settle_keys.new.kept c.in_ok-settle_keys.ensures.whole c.in_ok-settle_keys.ensures.says) in
    reached-so set doc c.keep_inverse.new.doc c.args.kept.now right c.args.change own means fits c.settle_keys.new.kept stands present

pub returns-clause-inverse : goal.returns-clause-inverse
returns-clause-inverse g c = λ own means fits.
    let set = c.args.set.now in
    let doc = c.args.doc.now in
    c.in_ok-back.ensures.inverse (document_in set doc) own (stands-right set doc c.args.kept.now (whole-right set doc c.args.kept.now c.requires.present.whole)) means fits

pub returns-clause-targets : goal.returns-clause-targets
returns-clause-targets g c =
    subst (λ (x : Compiled). AreTargetsBy x c.keep_inverse.new.doc c.settle_keys.new.kept.records.slots c.settle_keys.new.keys) c.keep_inverse.ensures.same c.in_ok-settle_keys.ensures.targets

pub returns-in_err-turn-clause-stands : goal.returns-in_err-turn-clause-stands
returns-in_err-turn-clause-stands g c =
    let set = c.args.set.now in
    let doc = c.args.doc.now in
    (document_in set doc, stands-right set doc c.args.kept.now (whole-right set doc c.args.kept.now c.requires.present.whole))

pub returns-in_err-turn-clause-few : goal.returns-in_err-turn-clause-few
returns-in_err-turn-clause-few g c = λ revision closed own means fits.
    let set = c.args.set.now in
    let doc = c.args.doc.now in
    within-so set doc doc c.args.kept.now (whole-right set doc c.args.kept.now c.requires.present.whole) c.args.change own means fits revision closed c.args.steps.now c.args.steps.now (omega arith) (inl (refl, refl))

pub returns-clause-stands : goal.returns-clause-stands
returns-clause-stands g c =
    let set = c.args.set.now in
    let doc = c.args.doc.now in
    let q = c.requires.can in
    let right = whole-right set doc c.args.kept.now c.requires.present.whole in
    subst (λ (x : Compiled). Stands x c.keep_inverse.new.doc) (sym (c.settle_keys.ensures.same ∙ c.keep_inverse.ensures.same))
    (stands-changed set doc c.keep_inverse.new.doc c.args.kept.now right c.args.change q.0 q.1 q.2 c.args.steps.now c.keep_inverse.new.steps
    (c.keep_inverse.ensures.reach (document_in set doc) q.0 (stands-right set doc c.args.kept.now right) q.1 q.2))

pub returns-clause-few : goal.returns-clause-few
returns-clause-few g c = λ revision closed own means fits.
    let set = c.args.set.now in
    let doc = c.args.doc.now in
    let right = whole-right set doc c.args.kept.now c.requires.present.whole in
    within-so set doc c.keep_inverse.new.doc c.args.kept.now right c.args.change own means fits revision closed c.args.steps.now c.keep_inverse.new.steps c.keep_inverse.ensures.least
    (c.keep_inverse.ensures.reach (document_in set doc) own (stands-right set doc c.args.kept.now right) means fits)

pub returns-in_err-settle_keys-clause-stands : goal.returns-in_err-settle_keys-clause-stands
returns-in_err-settle_keys-clause-stands g c =
    let set = c.args.set.now in
    let doc = c.args.doc.now in
    let q = c.requires.can in
    let right = whole-right set doc c.args.kept.now c.requires.present.whole in
    subst (λ (x : Compiled). Stands x c.keep_inverse.new.doc) (sym (c.settle_keys.ensures.same ∙ c.keep_inverse.ensures.same))
    (stands-changed set doc c.keep_inverse.new.doc c.args.kept.now right c.args.change q.0 q.1 q.2 c.args.steps.now c.keep_inverse.new.steps
    (c.keep_inverse.ensures.reach (document_in set doc) q.0 (stands-right set doc c.args.kept.now right) q.1 q.2))

pub returns-in_err-settle_keys-clause-few : goal.returns-in_err-settle_keys-clause-few
returns-in_err-settle_keys-clause-few g c = λ revision closed own means fits.
    let set = c.args.set.now in
    let doc = c.args.doc.now in
    let right = whole-right set doc c.args.kept.now c.requires.present.whole in
    within-so set doc c.keep_inverse.new.doc c.args.kept.now right c.args.change own means fits revision closed c.args.steps.now c.keep_inverse.new.steps c.keep_inverse.ensures.least
    (c.keep_inverse.ensures.reach (document_in set doc) own (stands-right set doc c.args.kept.now right) means fits)

pub returns-in_err-back-clause-stands : goal.returns-in_err-back-clause-stands
returns-in_err-back-clause-stands g c =
    let set = c.args.set.now in
    let doc = c.args.doc.now in
    let q = c.requires.can in
    let right = whole-right set doc c.args.kept.now c.requires.present.whole in
    subst (λ (x : Compiled). Stands x c.keep_inverse.new.doc) (sym c.keep_inverse.ensures.same)
    (stands-changed set doc c.keep_inverse.new.doc c.args.kept.now right c.args.change q.0 q.1 q.2 c.args.steps.now c.keep_inverse.new.steps
    (c.keep_inverse.ensures.reach (document_in set doc) q.0 (stands-right set doc c.args.kept.now right) q.1 q.2))

pub returns-in_err-back-clause-few : goal.returns-in_err-back-clause-few
returns-in_err-back-clause-few g c = λ revision closed own means fits.
    let set = c.args.set.now in
    let doc = c.args.doc.now in
    let right = whole-right set doc c.args.kept.now c.requires.present.whole in
    within-so set doc c.keep_inverse.new.doc c.args.kept.now right c.args.change own means fits revision closed c.args.steps.now c.keep_inverse.new.steps c.keep_inverse.ensures.least
    (c.keep_inverse.ensures.reach (document_in set doc) own (stands-right set doc c.args.kept.now right) means fits)
