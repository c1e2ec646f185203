use Rattle.plain_tree.proofs.Numbers.{number_is}
use Rattle.plain_tree.proofs.naming.add_name.Goals as goal

pub returns-clause-number : goal.returns-clause-number
returns-clause-number c =
    number_is c.add_namespace.new.names c.intern.new.self c.args.name.now c.in_ok-space.space c.in_ok-number.number c.as_str.result.now
    c.in_ok-space.ensures.number c.in_ok-number.ensures.table c.as_str.ensures c.in_ok-number.ensures.number
