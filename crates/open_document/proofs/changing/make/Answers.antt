use Rattle.doc_tree.specs.declared.change.Change.{Change}
use Rattle.open_document.proofs.Making.{closed_by, within_by}
use Rattle.open_document.proofs.changing.make.Goals as goal

pub apply_change-requires : goal.apply_change-requires
apply_change-requires g c = (c.requires.can.0, λ lives. (c.requires.can.1, c.requires.can.2))

pub returns-in-Ok-clause-changed : goal.returns-in-Ok-clause-changed
returns-in-Ok-clause-changed g c = λ own means fits. c.in-Ok.ensures.changes own (λ lives. (means, fits))

pub returns-in-Ok-clause-counted : goal.returns-in-Ok-clause-counted
returns-in-Ok-clause-counted g c = λ own means fits. c.in-Ok.ensures.spends own (λ lives. (means, fits))

pub returns-in-Ok-clause-inverse : goal.returns-in-Ok-clause-inverse
returns-in-Ok-clause-inverse g c = λ own means fits. c.in-Ok.ensures.inverse own (λ lives. (means, fits))

pub returns-in-Err-clause-closed : goal.returns-in-Err-clause-closed
returns-in-Err-clause-closed g c =
    let can = c.requires.can in
    closed_by Change c.args.session.now can.0 c.apply_change.new.self c.requires.live c.in-Err.field-0 (c.in-Err.ensures.changes can.0 (λ lives. (can.1, can.2)))

pub returns-in-Err-clause-broken : goal.returns-in-Err-clause-broken
returns-in-Err-clause-broken g c = λ own means fits.
    within_by Change c.args.session.now own c.apply_change.new.self c.requires.live c.in-Err.field-0 c.args.steps.now c.apply_change.new.steps
    (c.in-Err.ensures.changes own (λ lives. (means, fits))) (c.in-Err.ensures.spends own (λ lives. (means, fits)))

pub returns-in-Ok-clause-later : goal.returns-in-Ok-clause-later
returns-in-Ok-clause-later g c = (c.in-Ok.ensures.spends c.requires.can.0 (λ lives. (c.requires.can.1, c.requires.can.2))).later

pub returns-in-Err-clause-later : goal.returns-in-Err-clause-later
returns-in-Err-clause-later g c =
    let can = c.requires.can in
    (within_by Change c.args.session.now can.0 c.apply_change.new.self c.requires.live c.in-Err.field-0 c.args.steps.now c.apply_change.new.steps
    (c.in-Err.ensures.changes can.0 (λ lives. (can.1, can.2))) (c.in-Err.ensures.spends can.0 (λ lives. (can.1, can.2)))).0
