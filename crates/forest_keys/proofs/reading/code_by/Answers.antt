use Rattle.std.proofs.Common.{sym, ap, ◌∙◌}
use Rattle.xs_components.specs.declared.constraint.ConstraintKind.{ConstraintKind}
use Rattle.identity_constraints.specs.Targets.{outcomes}
use Rattle.identity_constraints.specs.Satisfied.{first_broken, checks_by}
use Rattle.key_records.specs.Counted.{with_misuse}
use Rattle.forest_keys.proofs.Codes.{misused-first, not-misused, key-there}
use Rattle.forest_keys.proofs.ReadLaws.{faulty}
use Rattle.forest_keys.proofs.reading.code_by.Goals as goal

pub keyref_code-requires-clause-sound : goal.keyref_code-requires-clause-sound
keyref_code-requires-clause-sound c = c.requires.references.sound

pub returns-then-has_misused : goal.returns-then-has_misused
returns-then-has_misused c = λ own below filled.
    let set = c.args.by.now.set in
    let found = outcomes set.names.now set.parts.now set.identities.now c.args.constraint own below in
    let misused = faulty set.names.now set.parts.now set.identities.now c.args.by.now.tree c.args.records.now c.args.place own below filled c.args.constraint with_misuse c.has_misused.result (c.has_misused.ensures filled.links c.args.by.now.tree.references.now filled.c filled.records) in
    misused-first set.names.now set.parts.now set.identities.now found own below c.args.kind (sym misused ∙ c.if-has_misused.true)

pub returns-in-Unique : goal.returns-in-Unique
returns-in-Unique c = λ own below filled.
    let set = c.args.by.now.set in
    let found = outcomes set.names.now set.parts.now set.identities.now c.args.constraint own below in
    let misused = faulty set.names.now set.parts.now set.identities.now c.args.by.now.tree c.args.records.now c.args.place own below filled c.args.constraint with_misuse c.has_misused.result (c.has_misused.ensures filled.links c.args.by.now.tree.references.now filled.c filled.records) in
    c.unique_code.ensures own below filled
    ∙ ap (λ (k : ConstraintKind). first_broken (checks_by set.names.now set.parts.now set.identities.now k found own below)) (sym c.in-Unique.is)
    ∙ not-misused set.names.now set.parts.now set.identities.now found own below c.args.kind (sym misused ∙ c.if-has_misused.false)

pub returns-in-Key : goal.returns-in-Key
returns-in-Key c = λ own below filled.
    let set = c.args.by.now.set in
    let found = outcomes set.names.now set.parts.now set.identities.now c.args.constraint own below in
    let misused = faulty set.names.now set.parts.now set.identities.now c.args.by.now.tree c.args.records.now c.args.place own below filled c.args.constraint with_misuse c.has_misused.result (c.has_misused.ensures filled.links c.args.by.now.tree.references.now filled.c filled.records) in
    c.key_code.ensures own below filled
    ∙ ap (λ (k : ConstraintKind). first_broken (checks_by set.names.now set.parts.now set.identities.now k found own below)) (sym c.in-Key.is)
    ∙ not-misused set.names.now set.parts.now set.identities.now found own below c.args.kind (sym misused ∙ c.if-has_misused.false)

pub returns-in-Keyref : goal.returns-in-Keyref
returns-in-Keyref c = λ own below filled.
    let set = c.args.by.now.set in
    let found = outcomes set.names.now set.parts.now set.identities.now c.args.constraint own below in
    let misused = faulty set.names.now set.parts.now set.identities.now c.args.by.now.tree c.args.records.now c.args.place own below filled c.args.constraint with_misuse c.has_misused.result (c.has_misused.ensures filled.links c.args.by.now.tree.references.now filled.c filled.records) in
    let part = c.requires.kind in
    c.keyref_code.ensures c.in-Keyref.field-0 own below (key-there set.parts.now.constraints.parts c.args.by.now.tree.references.now c.args.constraint c.in-Keyref.field-0 part.0 c.args.kind c.requires.references part.1 part.2 c.in-Keyref.is) filled
    ∙ ap (λ (k : ConstraintKind). first_broken (checks_by set.names.now set.parts.now set.identities.now k found own below)) (sym c.in-Keyref.is)
    ∙ not-misused set.names.now set.parts.now set.identities.now found own below c.args.kind (sym misused ∙ c.if-has_misused.false)
