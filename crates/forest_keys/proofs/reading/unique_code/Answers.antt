use Rattle.std.proofs.Common.{sym, ◌∙◌}
use Rattle.identity_constraints.specs.Targets.{outcomes}
use Rattle.forest_keys.proofs.Codes.{unique-broken, unique-holds}
use Rattle.forest_keys.proofs.ReadLaws.{repeated}
use Rattle.forest_keys.proofs.reading.unique_code.Goals as goal

pub returns-then-has_repeated : goal.returns-then-has_repeated
returns-then-has_repeated c = λ own below filled.
    let set = c.args.by.now.set in
    let repeats = repeated set.names.now set.parts.now set.identities.now c.args.by.now.tree c.args.records.now c.args.place own below filled c.args.unique c.has_repeated.result (c.has_repeated.ensures filled.links filled.c filled.records) in
    unique-broken set.names.now set.parts.now set.identities.now (outcomes set.names.now set.parts.now set.identities.now c.args.unique own below) own below (sym repeats ∙ c.if-has_repeated.true)

pub returns : goal.returns
returns c = λ own below filled.
    let set = c.args.by.now.set in
    let repeats = repeated set.names.now set.parts.now set.identities.now c.args.by.now.tree c.args.records.now c.args.place own below filled c.args.unique c.has_repeated.result (c.has_repeated.ensures filled.links filled.c filled.records) in
    unique-holds set.names.now set.parts.now set.identities.now (outcomes set.names.now set.parts.now set.identities.now c.args.unique own below) own below (sym repeats ∙ c.if-has_repeated.false)
