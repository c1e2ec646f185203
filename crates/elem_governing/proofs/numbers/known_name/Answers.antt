use Rattle.std.proofs.Common.{sym}
use Rattle.elem_governing.proofs.Known.{name_by}
use Rattle.elem_governing.proofs.numbers.known_name.Goals as goal

pub returns-clause-number : goal.returns-clause-number
returns-clause-number c = name_by c.args.names.now c.namespace_of.new.names c.args.name.now c.in_ok-space.space c.in-Some.id c.as_str.result.now c.namespace_of.ensures.same c.in_ok-space.ensures.number c.as_str.ensures (sym c.in-Some.ensures.value)
