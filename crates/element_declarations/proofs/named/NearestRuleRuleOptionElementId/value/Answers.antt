use Rattle.std.proofs.Common.{◌∙◌}
use Rattle.element_declarations.proofs.NearestLaws.{part-read, rule-nearest, own-head-there}
use Rattle.element_declarations.proofs.named.NearestRuleRuleOptionElementId.value.Goals as goal

pub nearest_among-requires-clause-there : goal.nearest_among-requires-clause-there
nearest_among-requires-clause-there c =
    let is = part-read _ _ c.args.x _ c.elements.ensures.parts c.index-elements-x.is c.requires.there in
    own-head-there c.args.self.now.parts.now c.requires.valid.0 c.args.x c.index-elements-x.result is

pub returns : goal.returns
returns c =
    let is = part-read _ _ c.args.x _ c.elements.ensures.parts c.index-elements-x.is c.requires.there in
    record { value = c.nearest_among.ensures ∙ rule-nearest c.args.self.now.parts.now c.requires.valid.0 c.args.x c.index-elements-x.result is c.args.table.now c.requires.filled }
