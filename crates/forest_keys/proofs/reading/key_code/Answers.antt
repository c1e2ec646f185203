use Rattle.std.proofs.Common.{sym, ◌∙◌}
use Rattle.key_records.specs.Counted.{without_keys, with_nillable}
use Rattle.identity_constraints.specs.Targets.{outcomes}
use Rattle.forest_keys.proofs.Codes.{key-lacks, key-repeats, key-nillable, key-holds}
use Rattle.forest_keys.proofs.ReadLaws.{faulty, repeated}
use Rattle.forest_keys.proofs.reading.key_code.Goals as goal

pub returns-then-has_lacking : goal.returns-then-has_lacking
returns-then-has_lacking c = λ own below filled.
    let set = c.args.by.now.set in
    let found = outcomes set.names.now set.parts.now set.identities.now c.args.key own below in
    let lacks = faulty set.names.now set.parts.now set.identities.now c.args.by.now.tree c.args.records.now c.args.place own below filled c.args.key without_keys c.has_lacking.result (c.has_lacking.ensures filled.links c.args.by.now.tree.references.now filled.c filled.records) in
    key-lacks set.names.now set.parts.now set.identities.now found own below (sym lacks ∙ c.if-has_lacking.true)

pub returns-then-has_repeated : goal.returns-then-has_repeated
returns-then-has_repeated c = λ own below filled.
    let set = c.args.by.now.set in
    let found = outcomes set.names.now set.parts.now set.identities.now c.args.key own below in
    let lacks = faulty set.names.now set.parts.now set.identities.now c.args.by.now.tree c.args.records.now c.args.place own below filled c.args.key without_keys c.has_lacking.result (c.has_lacking.ensures filled.links c.args.by.now.tree.references.now filled.c filled.records) in
    let repeats = repeated set.names.now set.parts.now set.identities.now c.args.by.now.tree c.args.records.now c.args.place own below filled c.args.key c.has_repeated.result (c.has_repeated.ensures filled.links filled.c filled.records) in
    key-repeats set.names.now set.parts.now set.identities.now found own below (sym lacks ∙ c.if-has_lacking.false) (sym repeats ∙ c.if-has_repeated.true)

pub returns-then-has_nillable : goal.returns-then-has_nillable
returns-then-has_nillable c = λ own below filled.
    let set = c.args.by.now.set in
    let found = outcomes set.names.now set.parts.now set.identities.now c.args.key own below in
    let lacks = faulty set.names.now set.parts.now set.identities.now c.args.by.now.tree c.args.records.now c.args.place own below filled c.args.key without_keys c.has_lacking.result (c.has_lacking.ensures filled.links c.args.by.now.tree.references.now filled.c filled.records) in
    let repeats = repeated set.names.now set.parts.now set.identities.now c.args.by.now.tree c.args.records.now c.args.place own below filled c.args.key c.has_repeated.result (c.has_repeated.ensures filled.links filled.c filled.records) in
    let nillable = faulty set.names.now set.parts.now set.identities.now c.args.by.now.tree c.args.records.now c.args.place own below filled c.args.key with_nillable c.has_nillable.result (c.has_nillable.ensures filled.links c.args.by.now.tree.references.now filled.c filled.records) in
    key-nillable set.names.now set.parts.now set.identities.now found own below (sym lacks ∙ c.if-has_lacking.false) (sym repeats ∙ c.if-has_repeated.false) (sym nillable ∙ c.if-has_nillable.true)

pub returns : goal.returns
returns c = λ own below filled.
    let set = c.args.by.now.set in
    let found = outcomes set.names.now set.parts.now set.identities.now c.args.key own below in
    let lacks = faulty set.names.now set.parts.now set.identities.now c.args.by.now.tree c.args.records.now c.args.place own below filled c.args.key without_keys c.has_lacking.result (c.has_lacking.ensures filled.links c.args.by.now.tree.references.now filled.c filled.records) in
    let repeats = repeated set.names.now set.parts.now set.identities.now c.args.by.now.tree c.args.records.now c.args.place own below filled c.args.key c.has_repeated.result (c.has_repeated.ensures filled.links filled.c filled.records) in
    let nillable = faulty set.names.now set.parts.now set.identities.now c.args.by.now.tree c.args.records.now c.args.place own below filled c.args.key with_nillable c.has_nillable.result (c.has_nillable.ensures filled.links c.args.by.now.tree.references.now filled.c filled.records) in
    key-holds set.names.now set.parts.now set.identities.now found own below (sym lacks ∙ c.if-has_lacking.false) (sym repeats ∙ c.if-has_repeated.false) (sym nillable ∙ c.if-has_nillable.false)
