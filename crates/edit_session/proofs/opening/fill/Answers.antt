use Rattle.std.proofs.Common.{[], inl, refl, sym, subst}
use Rattle.std.specs.Prelude.{OnOk}
use Rattle.compiled_schema.specs.declared.compiled.Compiled.{Compiled}
use Rattle.kept_keys.specs.Keys.{AreTargets, AreTargetsBy, IsWhole}
use Rattle.edit_session.specs.Held.{IsPresent}
use Rattle.edit_session.proofs.Results.{both-ok}
use Rattle.edit_session.proofs.Standing.{present-by}
use Rattle.edit_session.proofs.opening.fill.Goals as goal

pub settle_keys-requires-clause-before : goal.settle_keys-requires-clause-before
settle_keys-requires-clause-before g c = λ some.
    inl (record { none = subst (λ (x : Compiled). AreTargets x c.args.doc.now [] c.args.keys.now) (sym c.open_records.ensures.same) (c.requires.untold c.args.doc.now); root = refl })

pub settle_keys-requires-clause-whole : goal.settle_keys-requires-clause-whole
settle_keys-requires-clause-whole g c =
    subst (λ (x : Compiled). IsWhole x c.args.doc.now c.open_records.new.kept) (sym c.open_records.ensures.same)
    (record { beside = c.in_ok-open_records.ensures.beside; fit = c.in_ok-open_records.ensures.fit; top = c.in_ok-open_records.ensures.top })

pub returns-clause-present : goal.returns-clause-present
returns-clause-present g c =
    subst (λ (x : Compiled). OnOk c.settle_keys.result (IsPresent x c.args.doc.now c.settle_keys.new.kept)) c.open_records.ensures.same
    (both-ok c.settle_keys.result (present-by c.open_records.new.set c.args.doc.now c.settle_keys.new.kept) c.settle_keys.ensures.whole c.settle_keys.ensures.says)

pub returns-clause-targets : goal.returns-clause-targets
returns-clause-targets g c =
    subst (λ (x : Compiled). OnOk c.settle_keys.result (AreTargetsBy x c.args.doc.now c.settle_keys.new.kept.records.slots c.settle_keys.new.keys)) c.open_records.ensures.same c.settle_keys.ensures.targets
