use Rattle.std.proofs.Common.{sym, ◌∙◌}
use Rattle.identity_constraints.specs.Targets.{outcomes}
use Rattle.forest_keys.proofs.Codes.{keyref-broken, keyref-holds}
use Rattle.forest_keys.proofs.ReadLaws.{unmatched}
use Rattle.forest_keys.proofs.reading.keyref_code.Goals as goal

pub returns-then-has_unmatched : goal.returns-then-has_unmatched
returns-then-has_unmatched c = λ key own below is filled.
    let set = c.args.by.now.set in
    let refs = c.args.by.now.tree.references.now in
    let lacks = unmatched set.names.now set.parts.now set.identities.now c.args.by.now.tree c.args.records.now c.args.place own below filled c.args.keyref key c.has_unmatched.result (c.has_unmatched.ensures filled.links refs filled.c key filled.under c.requires.sound filled.records is filled.children filled.stand) in
    keyref-broken set.names.now set.parts.now set.identities.now (outcomes set.names.now set.parts.now set.identities.now c.args.keyref own below) own below key (sym lacks ∙ c.if-has_unmatched.true)

pub returns : goal.returns
returns c = λ key own below is filled.
    let set = c.args.by.now.set in
    let refs = c.args.by.now.tree.references.now in
    let lacks = unmatched set.names.now set.parts.now set.identities.now c.args.by.now.tree c.args.records.now c.args.place own below filled c.args.keyref key c.has_unmatched.result (c.has_unmatched.ensures filled.links refs filled.c key filled.under c.requires.sound filled.records is filled.children filled.stand) in
    keyref-holds set.names.now set.parts.now set.identities.now (outcomes set.names.now set.parts.now set.identities.now c.args.keyref own below) own below key (sym lacks ∙ c.if-has_unmatched.false)
