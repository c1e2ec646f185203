use Rattle.simple_values.proofs.Named.{named_as}
use Rattle.simple_values.proofs.builtins.builtin_named.Goals as goal

pub returns : goal.returns
returns c = λ kind. named_as c.args.name.now c.first_named.result c.first_named.ensures kind
