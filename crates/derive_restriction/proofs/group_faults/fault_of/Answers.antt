use Rattle.derive_restriction.proofs.AttrGroupLaws.{found-least}
use Rattle.derive_restriction.proofs.group_faults.fault_of.Goals as goal

pub returns-clause-least : goal.returns-clause-least
returns-clause-least c =
    found-least c.args.set.now.parts.now c.args.set.now.names.now c.args.pair.now c.in-Some.own c.in-Some-attr_group_at.original c.attr_group.result.now c.in-Some.ensures.there.0 c.in-Some-attr_group_at.ensures.there
    c.attr_group.ensures.part c.in_ok-code.code c.coded.result c.coded.ensures c.in_ok-code.ensures.first
