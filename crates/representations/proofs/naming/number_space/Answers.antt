use Rattle.representations.proofs.LaterLaws.{space-later}
use Rattle.representations.proofs.naming.number_space.Goals as goal

pub returns-clause-number : goal.returns-clause-number
returns-clause-number c = space-later c.namespace_id.new.self c.args.space.now c.space_text.result.now c.in_ok-ns.ns c.space_text.ensures c.in_ok-ns.ensures.number
