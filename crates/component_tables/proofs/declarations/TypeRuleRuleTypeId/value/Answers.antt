use Rattle.std.proofs.Common.{◌∙◌}
use Rattle.component_tables.proofs.TypeLaws.{part-read, rule-type, head-there}
use Rattle.component_tables.proofs.declarations.TypeRuleRuleTypeId.value.Goals as goal

pub type_among-requires : goal.type_among-requires
type_among-requires c =
    let is = part-read _ _ c.args.x _ c.elements.ensures.parts c.index-elements-x.is c.requires.there in
    record { there = head-there c.args.self.now.parts.now c.requires.valid c.args.x c.index-elements-x.result is c.args.table.now c.requires.len }

pub returns : goal.returns
returns c =
    let is = part-read _ _ c.args.x _ c.elements.ensures.parts c.index-elements-x.is c.requires.there in
    record { value = c.type_among.ensures ∙ rule-type c.args.self.now.parts.now c.requires.valid c.args.x c.index-elements-x.result is c.args.table.now c.requires.filled }
