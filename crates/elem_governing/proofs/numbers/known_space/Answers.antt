use Rattle.std.proofs.Common.{◌∙◌}
use Rattle.elem_governing.proofs.Known.{space_stays, space_by}
use Rattle.elem_governing.proofs.numbers.known_space.Goals as goal

pub returns-clause-number : goal.returns-clause-number
returns-clause-number c = space_by c.args.names.now c.namespace_id.new.self c.args.space.now c.in_ok-number.number c.requires c.in_ok-number.ensures.table c.in_ok-number.ensures.number

pub returns-clause-same : goal.returns-clause-same
returns-clause-same c = c.in_ok-number.ensures.table ∙ space_stays c.args.names.now c.args.space.now c.requires
